use Rattle.ub_journal_page.proofs.NumberFacts.{put_more}
use Rattle.ub_journal_page.proofs.numbers.put.Goals as goal

pub returns : goal.returns
returns c numbers long is = put_more numbers c.args.page.now c.write_u32.new.target c.args.i c.args.x long is c.write_u32.ensures
