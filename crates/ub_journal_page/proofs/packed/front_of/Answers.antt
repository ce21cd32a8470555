use Rattle.std.proofs.Common.{◌≡◌, ◌++◌, ℕ, ap, sym, arith, ◌∙◌}
use Rattle.ub_journal_page.specs.Pages.{number_bytes}
use Rattle.ub_journal_page.proofs.PackedFacts.{fronts_back}
use Rattle.ub_journal_page.proofs.packed.front_of.Goals.{then-held-gt4096-via-then-held-gt4096, then-held-gt4096-via-else-held-gt4096+then-not-is_same_front}
use Rattle.ub_journal_page.proofs.packed.front_of.Goals as goal

pub returns-then-held-gt4096-clause-damaged : goal.returns-then-held-gt4096-clause-damaged
returns-then-held-gt4096-clause-damaged c told number held small few is =
    let back = fronts_back c.args.front.now number held small (omega arith) is in
    let first : c.numbers_before-number.result.0 ≡ number = ap (λ (p : ℕ × ℕ). p.0) c.numbers_before-number.ensures ∙ back.0 in
    let second : c.numbers_before-number.result.1 ≡ held = ap (λ (p : ℕ × ℕ). p.1) c.numbers_before-number.ensures ∙ back.1 in
    elim c.then-held-gt4096.branch [
      | then-held-gt4096-via-then-held-gt4096 w ↦ let more = w.if-held-gt4096.true in omega (arith, second)
      | then-held-gt4096-via-else-held-gt4096+then-not-is_same_front w ↦
          let same = c.spell_front.ensures ∙ ap (λ (n : ℕ). number_bytes n ++ number_bytes c.numbers_before-number.result.1) first ∙ ap (λ (n : ℕ). number_bytes number ++ number_bytes n) second ∙ sym is in
          let yes = w.is_same_front.ensures.1 same in
          let wrong = w.if-not-is_same_front.true in
          cc
    ]
