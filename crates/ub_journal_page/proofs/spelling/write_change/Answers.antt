use Rattle.std.proofs.Common.{arith}
use Rattle.ub_journal_page.proofs.SpellFacts.{change_written}
use Rattle.ub_journal_page.proofs.spelling.write_change.Goals as goal

pub shared_ref_as_front-write_all : goal.shared_ref_as_front-write_all
shared_ref_as_front-write_all g c = c.held_in-held.ensures.few

pub overflow_add-result : goal.overflow_add-result
overflow_add-result g c = let few = c.held_in-held.ensures.few in omega arith

pub returns-clause-few : goal.returns-clause-few
returns-clause-few g c = let few = c.held_in-held.ensures.few in omega arith

pub returns-clause-written : goal.returns-clause-written
returns-clause-written g c =
    change_written (g.W.Write.contents c.args.out.now) (g.W.Write.contents c.write_all.new.self) (g.W.Write.contents c.write_all-2.new.self) c.args.number c.held_in-held.result c.spell_front.new.front c.args.page.now c.held_in-held.ensures.held
    c.spell_front.ensures c.in_ok-write_all.ensures.bytes c.in_ok-write_all-2.ensures.bytes
