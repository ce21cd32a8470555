use Rattle.ub_journal_page.proofs.SpellFacts.{ends_written, written_front}
use Rattle.ub_journal_page.proofs.spelling.write_journal.Goals as goal

pub returns : goal.returns
returns g c =
    let j = g.J.Tells.told c.args.journal.now in
    let front = written_front j (g.W.Write.contents c.args.out.now) (g.W.Write.contents c.write_head.new.out) (g.W.Write.contents c.write_all.new.self) (g.W.Write.contents c.write_all-2.new.self) (g.W.Write.contents c.write_changes.new.out)
    c.before-2.result c.head.result c.in_ok-write_head.ensures c.before-2.ensures c.in_ok-write_all.ensures.bytes c.head.ensures c.in_ok-write_all-2.ensures.bytes c.in_ok-within.ensures.written in
    ends_written j (g.W.Write.contents c.args.out.now) (g.W.Write.contents c.write_changes.new.out) (g.W.Write.contents c.write_zeros.new.out) c.in_ok-within.within c.write_zeros.result front c.in_ok-within.ensures.within c.write_zeros.ensures
