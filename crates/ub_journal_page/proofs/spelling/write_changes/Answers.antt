use Rattle.std.proofs.Common.{refl, List, ℕ, ◌∙◌, ◌%◌, ap, arith, length, subst}
use Rattle.ub_journal.specs.declared.journal.Change.{Change}
use Rattle.ub_journal_page.proofs.SpellFacts.{within_more, written_more}
use Rattle.std.specs.Io.KnownBytes.{Appends}
use Rattle.ub_journal_page.proofs.ExitFacts.{take_whole}
use Rattle.ub_journal_page.specs.Pages.{changes_bytes}
use Rattle.ub_journal_page.proofs.spelling.write_changes.Goals as goal

pub loop-at-preserved : goal.loop-at-preserved
loop-at-preserved g c =
    let inv = c.loop-at.invariant in
    let changes = (g.J.Tells.told c.args.journal.now).changes in
    let change : Change = record { number = c.put_change-number.result; page = c.put_change-number.new.page } in
    record {
      same = inv.same;
      written = written_more (g.W.Write.contents c.args.out.now) (g.W.Write.contents c.loop-at.out) (g.W.Write.contents c.write_change.new.out) changes c.loop-at.at change c.put_change-number.ensures inv.written c.in_ok-count.ensures.written;
      within = within_more changes c.loop-at.at change c.loop-at.within c.in_ok-count.count _ c.put_change-number.ensures inv.within c.in_ok-count.ensures.count refl;
    }

pub overflow_add-within : goal.overflow_add-within
overflow_add-within g c = let at = c.loop-at.invariant.within in let few = c.in_ok-count.ensures.few in omega arith

pub returns-clause-written : goal.returns-clause-written
returns-clause-written g c =
    let past = c.loop-at-test.false in let many = c.changes-at-end.ensures in
    subst (λ (cs : List Change). Appends (g.W.Write.contents c.args.out.now) (g.W.Write.contents c.loop-at.out) (changes_bytes cs)) (take_whole c.loop-at.at (g.J.Tells.told c.args.journal.now).changes (omega arith)) c.loop-at.invariant.written

pub returns-clause-within : goal.returns-clause-within
returns-clause-within g c =
    let past = c.loop-at-test.false in let many = c.changes-at-end.ensures in
    c.loop-at.invariant.within ∙ ap (λ (cs : List Change). length (changes_bytes cs) % 4096) (take_whole c.loop-at.at (g.J.Tells.told c.args.journal.now).changes (omega arith))
