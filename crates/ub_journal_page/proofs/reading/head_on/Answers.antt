use Rattle.std.proofs.Common.{ℕ, sym, ap, subst, arith, ◌∙◌}
use Rattle.ub_journal_page.specs.Pages.{head_of, number_page}
use Rattle.ub_journal_page.specs.Reading.{BearsOut}
use Rattle.ub_journal_page.proofs.ReadFacts.{bears_known, head_back}
use Rattle.ub_journal_page.proofs.reading.head_on.Goals.{then-head-eq0-via-then-head-eq0, then-head-eq0-via-else-head-eq0+then-not-bears_out, then-head-eq0-via-else-head-eq0+else-not-bears_out+then-not-is_same}
use Rattle.ub_journal_page.proofs.reading.head_on.Goals as goal

pub returns-then-head-eq0-clause-damaged : goal.returns-then-head-eq0-clause-damaged
returns-then-head-eq0-clause-damaged c told version count changes some few less bears is =
    let back = head_back c.args.page.now version count changes (bears_known c.args.pages version changes bears) few less is in
    let known = c.number_in.ensures ∙ back.0 in
    let counted = c.number_in-2.ensures ∙ back.1 in
    let changed = c.number_in-3.ensures ∙ back.2 in
    elim c.then-head-eq0.branch [
      | then-head-eq0-via-then-head-eq0 w ↦ let none = w.if-head-eq0.true in omega arith
      | then-head-eq0-via-else-head-eq0+then-not-bears_out w ↦
          let yes = w.bears_out.ensures.1 (subst (λ (v : ℕ). BearsOut c.args.pages v c.number_in-3.result) (sym known) (subst (λ (n : ℕ). BearsOut c.args.pages version n) (sym changed) bears)) in
          let wrong = w.if-not-bears_out.true in
          cc
      | then-head-eq0-via-else-head-eq0+else-not-bears_out+then-not-is_same w ↦
          let same = c.spell_head.ensures ∙ ap (λ (v : ℕ). number_page (head_of v c.number_in-2.result c.number_in-3.result)) known
          ∙ ap (λ (n : ℕ). number_page (head_of version n c.number_in-3.result)) counted ∙ ap (λ (n : ℕ). number_page (head_of version count n)) changed ∙ sym is in
          let yes = w.is_same.ensures.1 same in
          let wrong = w.if-not-is_same.true in
          cc
    ]
