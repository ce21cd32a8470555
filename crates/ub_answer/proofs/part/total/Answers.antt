use Rattle.std.proofs.Common.{rules, ◌≡◌, ◌+◌, ◌+ℤ◌, ◌∙◌, ℤ, slice_index_or, to_z, of_z, ap, sym, subst}
use Rattle.std.proofs.lemmas.Int.{to_z-of_z}
use Rattle.std.specs.Int.{w128}
use Rattle.ub_answer.proofs.TallyFacts.{total-next, within-more}
use Rattle.ub_answer.specs.inner.Tally.{IsWithin}
use Rattle.ub_answer.proofs.part.total.Goals as goal

pub loop-value-preserved : goal.loop-value-preserved
loop-value-preserved c =
    let k = c.loop-value.value-index in
    let sum = to_z w128 c.loop-value.sum-bits in
    let v = c.from-sum.result in
    let read : v ≡ slice_index_or c.args.values.now k v = search rules in
    let small : IsWithin 1 v = search rules in
    let wide : to_z w128 (of_z w128 v) ≡ v = to_z-of_z w128 v (search rules) in
    let added = to_z-of_z w128 (sum +ℤ to_z w128 (of_z w128 v)) (search rules) ∙ ap (λ (x : ℤ). sum +ℤ x) wide in
    record {
      is = total-next c.args.values.now k sum v _ c.loop-value-test.true read c.loop-value.invariant.is added;
      within = subst (λ (x : ℤ). IsWithin (k + 1) x) (sym added) (within-more k sum v c.loop-value.invariant.within small);
    }
