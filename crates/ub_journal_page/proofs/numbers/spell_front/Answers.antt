use Rattle.ub_journal_page.proofs.NumberFacts.{two_put}
use Rattle.ub_journal_page.proofs.numbers.spell_front.Goals as goal

pub returns : goal.returns
returns c = two_put c.args.number c.args.held c.args.front.now c.write_u32.new.target c.write_u32-2.new.target c.told-front c.write_u32.ensures c.write_u32-2.ensures
