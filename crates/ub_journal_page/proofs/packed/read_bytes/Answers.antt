use Rattle.std.proofs.Common.{◌≡◌, ◌+◌, ◌-◌, ◌%◌, ◌++◌, ℕ, List, min, length, take, drop, ap, sym, subst, arith, ◌∙◌, ◌≤◌}
use Rattle.ub_store.specs.Facts.{StoreFacts, IsHonest}
use Rattle.ub_journal_page.specs.inner.Parts.{IsOn, IsRead, stream}
use Rattle.ub_journal_page.proofs.StreamFacts.{bytes_on, copied_few, filled_more, left_less, length_put, read_more}
use Rattle.ub_journal_page.proofs.ExitFacts.{count_on, fault_of, looks_ok, not_ok, read_on, refused}
use Rattle.ub_journal.specs.declared.fault.JournalFault.TheVariants.{Damaged}
use Rattle.ub_journal_page.proofs.packed.read_bytes.Goals as goal

pub loop-filled-smaller : goal.loop-filled-smaller
loop-filled-smaller g c =
    let few = copied_few c.copy_part-filled.result c.loop-filled.filled c.load.new.cursor.place c.loop-filled.target c.copy_part-filled.ensures.count c.loop-filled-test.true in
    left_less _ (length c.loop-filled.target) c.loop-filled.filled c.copy_part-filled.result
    (length_put c.loop-filled.filled c.loop-filled.target c.copy_part-filled.new.target c.loop-filled.invariant.within c.copy_part-filled.ensures.long) c.loop-filled-test.true few.0

pub loop-filled-preserved : goal.loop-filled-preserved
loop-filled-preserved g c =
    let inv = c.loop-filled.invariant in
    let old = g.S.PageStore.facts c.args.store.now in
    let place : ℕ = c.loop-filled.cursor.place in
    let kept : c.load.new.cursor.place ≡ place = c.in_ok-load.ensures.place in
    let count : c.copy_part-filled.result ≡ min (length (take (length c.loop-filled.target - c.loop-filled.filled) (drop c.loop-filled.filled c.loop-filled.target))) (4096 - place % 4096) =
    subst (λ (n : ℕ). c.copy_part-filled.result ≡ min (length (take (length c.loop-filled.target - c.loop-filled.filled) (drop c.loop-filled.filled c.loop-filled.target))) (4096 - n % 4096)) kept c.copy_part-filled.ensures.count in
    let few = copied_few c.copy_part-filled.result c.loop-filled.filled place c.loop-filled.target count c.loop-filled-test.true in
    let size = length_put c.loop-filled.filled c.loop-filled.target c.copy_part-filled.new.target inv.within c.copy_part-filled.ensures.long in
    let next : c.copy_part-filled.new.cursor.place ≡ place + c.copy_part-filled.result = c.copy_part-filled.ensures.place ∙ ap (λ (n : ℕ). n + c.copy_part-filled.result) kept in
    let start = inv.place in
    let within = few.2 in
    let on : IsHonest old → IsOn old.pages place c.load.new.cursor.page =
    λ honest. subst (λ (f : StoreFacts). IsOn f.pages place c.load.new.cursor.page) inv.facts (c.in_ok-load.ensures.page (subst IsHonest (sym inv.facts) honest)) in
    record {
      facts = c.in_ok-load.ensures.effect.same ∙ inv.facts;
      within = omega (arith, size);
      long = size ∙ inv.long;
      place = omega (arith, next, start);
      read = λ honest. subst (λ (p : List ℕ). IsRead old.pages c.copy_part-filled.new.cursor.place p) (sym c.copy_part-filled.ensures.page)
          (read_more old.pages place c.copy_part-filled.result c.copy_part-filled.new.cursor.place c.load.new.cursor.page (on honest) few.1 next);
      bytes = λ honest.
          let both = bytes_on old.pages place c.copy_part-filled.result c.load.new.cursor.page (on honest) few.1 in
          let part : List ℕ = take c.copy_part-filled.result (drop (place % 4096) c.load.new.cursor.page) in
          let put : c.copy_part-filled.new.target ≡ part ++ drop c.copy_part-filled.result (take (length c.loop-filled.target - c.loop-filled.filled) (drop c.loop-filled.filled c.loop-filled.target)) =
          subst (λ (n : ℕ). c.copy_part-filled.new.target ≡ take c.copy_part-filled.result (drop (n % 4096) c.load.new.cursor.page)
          ++ drop c.copy_part-filled.result (take (length c.loop-filled.target - c.loop-filled.filled) (drop c.loop-filled.filled c.loop-filled.target))) kept c.copy_part-filled.ensures.bytes in
          let read : part ≡ take c.copy_part-filled.result (drop (c.args.cursor.now.place + c.loop-filled.filled) (stream old.pages)) =
          both.0 ∙ ap (λ (n : ℕ). take c.copy_part-filled.result (drop n (stream old.pages))) start in
          filled_more (stream old.pages) c.loop-filled.target c.copy_part-filled.new.target part c.args.cursor.now.place c.loop-filled.filled c.copy_part-filled.result inv.within put (inv.bytes honest) read
          (let fits = both.1 in omega (arith, fits, start));
    }

pub load-requires-clause-count : goal.load-requires-clause-count
load-requires-clause-count g c = count_on (g.S.PageStore.facts c.args.store.now) (g.S.PageStore.facts c.loop-filled.store) c.loop-filled.invariant.facts ∙ c.requires.count

pub load-requires-clause-three : goal.load-requires-clause-three
load-requires-clause-three g c = c.requires.three

pub load-requires-clause-read : goal.load-requires-clause-read
load-requires-clause-read g c = read_on (g.S.PageStore.facts c.args.store.now) (g.S.PageStore.facts c.loop-filled.store) c.loop-filled.cursor.place c.loop-filled.cursor.page c.loop-filled.invariant.facts c.loop-filled.invariant.read

pub returns-in_err-load-clause-damaged : goal.returns-in_err-load-clause-damaged
returns-in_err-load-clause-damaged g c = λ told honest.
    let inv = c.loop-filled.invariant in
    let none = c.in_err-load.ensures.damaged (fault_of c.from_residual.result _ Damaged c.from_residual.ensures.1 told) in
    let short : length (stream (g.S.PageStore.facts c.args.store.now).pages) ≤ c.loop-filled.cursor.place =
    subst (λ (f : StoreFacts). IsHonest f → length (stream f.pages) ≤ c.loop-filled.cursor.place) inv.facts none honest in
    let at = inv.place in let less = c.loop-filled-test.true in let long = inv.long in
    omega arith

pub returns-in_err-load-clause-effect : goal.returns-in_err-load-clause-effect
returns-in_err-load-clause-effect g c = refused c.from_residual.result _ _ _ _ c.loop-filled.invariant.facts c.from_residual.ensures.1 c.in_err-load.ensures.effect

pub returns-clause-place : goal.returns-clause-place
returns-clause-place g c = let past = c.loop-filled-test.false in let inv = c.loop-filled.invariant in let within = inv.within in let long = inv.long in let at = inv.place in omega arith

pub returns-clause-read : goal.returns-clause-read
returns-clause-read g c = c.loop-filled.invariant.read

pub returns-clause-damaged : goal.returns-clause-damaged
returns-clause-damaged g c = λ told honest. absurd (not_ok _ _ told)

pub returns-clause-effect : goal.returns-clause-effect
returns-clause-effect g c = looks_ok _ _ _ c.loop-filled.invariant.facts
