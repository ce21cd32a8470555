use Rattle.std.proofs.Common.{FitsSigned, ◌≡◌, ◌+◌, ◌-◌, ◌++◌, ◌∙◌, ℕ, ℤ, List, Some, suc, pos, replicate, take, length, ap, arith, refl, rules, subst, sym, slice_get, slice_index_or, slice_set}
use Rattle.std.proofs.lemmas.Int.{to_z-of_z}
use Rattle.std.proofs.lemmas.List.{take_all}
use Rattle.std.proofs.lemmas.Option.{slice_get-get_or}
use Rattle.std.specs.Int.{w64}
use Rattle.std.specs.List.{AllByRecursion}
use mir.Val.{of_z, to_z}
use Rattle.ub_table.proofs.FillingFacts.{filled_next, measured_next}
use Rattle.ub_table.proofs.filling.four_measures.Goals as goal

pub loop-i-init : goal.loop-i-init
loop-i-init c = (refl, tt)

pub loop-i-preserved : goal.loop-i-preserved
loop-i-preserved c =
    let ms = c.args.measures.now in
    let i = c.loop-i.i in
    let x : ℤ = slice_index_or ms i (pos 0) in
    let lt = c.loop-i-test.true in
    let few = c.requires in
    let at : slice_get ms i ≡ Some x = slice_get-get_or ms i (pos 0) lt in
    let fits : FitsSigned w64 x = search rules in
    let next : i + 1 ≡ suc i = omega arith in
    let gap : 4 - i ≡ suc (4 - suc i) = omega arith in
    let all : c.loop-i.all ≡ take i ms ++ replicate (suc (4 - suc i)) (pos 0) = c.loop-i.invariant.0 ∙ ap (λ (n : ℕ). take i ms ++ replicate n (pos 0)) gap in
    subst (λ (n : ℕ). (slice_set c.loop-i.all i (to_z w64 (of_z w64 x)) ≡ take n ms ++ replicate (4 - n) (pos 0)) × AllByRecursion (λ y. FitsSigned w64 y) (take n ms)) (sym next) (
      ap (slice_set c.loop-i.all i) (to_z-of_z w64 x fits) ∙ ap (λ (xs : List ℤ). slice_set xs i x) all ∙ filled_next ms i (4 - suc i) x at,
      measured_next ms i x at fits c.loop-i.invariant.1,
    )

pub returns-clause-all : goal.returns-clause-all
returns-clause-all c =
    let ms = c.args.measures.now in
    let long : c.loop-i.i ≡ length ms = (let past = c.loop-i-test.false in let most = c.loop-i.auto.i-end in omega arith) in
    c.loop-i.invariant.0 ∙ ap (λ (n : ℕ). take n ms ++ replicate (4 - n) (pos 0)) long ∙ ap (λ (xs : List ℤ). xs ++ replicate (4 - length ms) (pos 0)) (take_all (length ms) ms (omega arith))

pub returns-clause-words : goal.returns-clause-words
returns-clause-words c =
    let ms = c.args.measures.now in
    let long : c.loop-i.i ≡ length ms = (let past = c.loop-i-test.false in let most = c.loop-i.auto.i-end in omega arith) in
    subst (λ (xs : List ℤ). AllByRecursion (λ y. FitsSigned w64 y) xs) (ap (λ (n : ℕ). take n ms) long ∙ take_all (length ms) ms (omega arith)) c.loop-i.invariant.1
