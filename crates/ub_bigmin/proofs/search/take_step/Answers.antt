-- Each row of the decision table, by what the search knows at the place.
use Rattle.std.proofs.Common.{◌<◌, ◌/◌, ℕ, ◌∙◌, refl, sym, ap, arith, true, false}
use mathlib.Core.Bool.{not}
use Rattle.std.specs.Int.{bit_at}
use Rattle.ub_bigmin.proofs.CutFacts.{middle_pos}
use Rattle.ub_bigmin.proofs.StepFacts.{dimension_below, rest_below, bit_below, low_length, high_length, at_place, at_row, cut_bits, same_bits, equal_bits, other_bits, step_same, step_above, step_below, step_lower, step_upper}
use Rattle.ub_bigmin.proofs.search.take_step.Goals as goal

pub overflow_sub-dimension-2 : goal.overflow_sub-dimension-2
overflow_sub-dimension-2 c = rest_below c.args.place c.dims-dims.result c.dims-dims.ensures.some

pub bounds-values-dimension : goal.bounds-values-dimension
bounds-values-dimension c = let e = c.values.ensures.values in let l = high_length _ _ _ _ _ _ _ _ c.shape-shape.ensures.corners c.requires.around in let below = dimension_below c.args.place c.dims-dims.result c.dims-dims.ensures.some in rw e (rw l (rw (sym c.dims-dims.ensures.same) below))

pub bounds-values-dimension-2 : goal.bounds-values-dimension-2
bounds-values-dimension-2 c = let e = c.values-2.ensures.values in let l = low_length _ _ _ _ _ _ _ _ c.shape-shape.ensures.corners c.requires.around in let below = dimension_below c.args.place c.dims-dims.result c.dims-dims.ensures.some in rw e (rw l (rw (sym c.dims-dims.ensures.same) below))

pub is_set-low_bit-requires : goal.is_set-low_bit-requires
is_set-low_bit-requires c = let below : c.args.place / c.dims-dims.result < 32 = bit_below _ _ _ c.dims-dims.ensures.some (c.dims-dims.ensures.same ∙ c.shape-shape.ensures.shape) c.requires.place in omega arith

pub is_set-high_bit-requires : goal.is_set-high_bit-requires
is_set-high_bit-requires c = let below : c.args.place / c.dims-dims.result < 32 = bit_below _ _ _ c.dims-dims.ensures.some (c.dims-dims.ensures.same ∙ c.shape-shape.ensures.shape) c.requires.place in omega arith

pub middle_of-middle-requires : goal.middle_of-middle-requires
middle_of-middle-requires c = bit_below _ _ _ c.dims-dims.ensures.some (c.dims-dims.ensures.same ∙ c.shape-shape.ensures.shape) c.requires.place

pub load-under-requires-clause-shape : goal.load-under-requires-clause-shape
load-under-requires-clause-shape c = high_length _ _ _ _ _ _ _ _ c.shape-shape.ensures.corners c.requires.around

pub load-over-requires-clause-shape : goal.load-over-requires-clause-shape
load-over-requires-clause-shape c = low_length _ _ _ _ _ _ _ _ c.shape-shape.ensures.corners c.requires.around

pub load-under-requires-clause-dimension : goal.load-under-requires-clause-dimension
load-under-requires-clause-dimension c = rw (sym c.dims-dims.ensures.same) (dimension_below c.args.place c.dims-dims.result c.dims-dims.ensures.some)

pub load-over-requires-clause-dimension : goal.load-over-requires-clause-dimension
load-over-requires-clause-dimension c = rw (sym c.dims-dims.ensures.same) (dimension_below c.args.place c.dims-dims.result c.dims-dims.ensures.some)

pub interleave-requires-then-z_bit-2 : goal.interleave-requires-then-z_bit-2
interleave-requires-then-z_bit-2 c = high_length _ _ _ _ _ _ _ _ c.shape-shape.ensures.corners c.requires.around

pub interleave-requires-else-z_bit-2 : goal.interleave-requires-else-z_bit-2
interleave-requires-else-z_bit-2 c = low_length _ _ _ _ _ _ _ _ c.shape-shape.ensures.corners c.requires.around

pub overflow_sub-middle : goal.overflow_sub-middle
overflow_sub-middle c =
    let at = at_place _ _ _ _ _ _ _ _ _ _ _ _ _ c.is_set-z_bit.result c.is_set-low_bit.result c.is_set-high_bit.result c.dims-dims.ensures.same c.shape-shape.ensures.corners c.shape-shape.ensures.shape c.requires.place c.requires.around
    c.values-2.ensures.values c.values.ensures.values c.from.ensures c.from-2.ensures c.is_set-z_bit.ensures c.is_set-low_bit.ensures c.is_set-high_bit.ensures in
    let bits = cut_bits _ _ _ _ _ _ _ _ _ _ _ c.is_set-low_bit.result c.is_set-high_bit.result at c.if-low_bit-high_bit.true in
    let one = ap (λ (n : ℕ). bit_at n (c.args.place / c.dims-dims.result)) (sym c.from-2.ensures) ∙ c.is_set-high_bit.ensures.0 bits.1 in
    rw c.middle_of-middle.ensures (middle_pos _ _ one)

pub returns-then-z_bit : goal.returns-then-z_bit
returns-then-z_bit c =
    let at = at_place _ _ _ _ _ _ _ _ _ _ _ _ _ c.is_set-z_bit.result c.is_set-low_bit.result c.is_set-high_bit.result c.dims-dims.ensures.same c.shape-shape.ensures.corners c.shape-shape.ensures.shape c.requires.place c.requires.around
    c.values-2.ensures.values c.values.ensures.values c.from.ensures c.from-2.ensures c.is_set-z_bit.ensures c.is_set-low_bit.ensures c.is_set-high_bit.ensures in
    let bits = cut_bits _ _ _ _ _ _ _ _ _ _ _ c.is_set-low_bit.result c.is_set-high_bit.result at c.if-low_bit-high_bit.true in
    let row = at_row _ _ _ _ _ _ _ _ _ _ c.is_set-z_bit.result c.is_set-low_bit.result c.is_set-high_bit.result true false true at c.if-z_bit.true bits.0 bits.1 in
    step_upper _ _ _ _ _ _ _ _ _ _ _ _ _ _ _ c.values.ensures.values c.middle_of-middle.ensures c.load-under.ensures c.load-over.ensures c.interleave.ensures.address row

pub returns-else-z_bit : goal.returns-else-z_bit
returns-else-z_bit c =
    let at = at_place _ _ _ _ _ _ _ _ _ _ _ _ _ c.is_set-z_bit.result c.is_set-low_bit.result c.is_set-high_bit.result c.dims-dims.ensures.same c.shape-shape.ensures.corners c.shape-shape.ensures.shape c.requires.place c.requires.around
    c.values-2.ensures.values c.values.ensures.values c.from.ensures c.from-2.ensures c.is_set-z_bit.ensures c.is_set-low_bit.ensures c.is_set-high_bit.ensures in
    let bits = cut_bits _ _ _ _ _ _ _ _ _ _ _ c.is_set-low_bit.result c.is_set-high_bit.result at c.if-low_bit-high_bit.true in
    let row = at_row _ _ _ _ _ _ _ _ _ _ c.is_set-z_bit.result c.is_set-low_bit.result c.is_set-high_bit.result false false true at c.if-z_bit.false bits.0 bits.1 in
    step_lower _ _ _ _ _ _ _ _ _ _ _ _ _ _ _ c.values.ensures.values c.middle_of-middle.ensures c.load-under.ensures c.load-over.ensures c.interleave-else-z_bit.ensures.address row

pub returns-then-z_bit-low_bit : goal.returns-then-z_bit-low_bit
returns-then-z_bit-low_bit c =
    let at = at_place _ _ _ _ _ _ _ _ _ _ _ _ _ c.is_set-z_bit.result c.is_set-low_bit.result c.is_set-high_bit.result c.dims-dims.ensures.same c.shape-shape.ensures.corners c.shape-shape.ensures.shape c.requires.place c.requires.around
    c.values-2.ensures.values c.values.ensures.values c.from.ensures c.from-2.ensures c.is_set-z_bit.ensures c.is_set-low_bit.ensures c.is_set-high_bit.ensures in
    let low = equal_bits _ _ c.if-z_bit-low_bit.true in
    let row = at_row _ _ _ _ _ _ _ _ _ _ c.is_set-z_bit.result c.is_set-low_bit.result c.is_set-high_bit.result c.is_set-z_bit.result c.is_set-z_bit.result c.is_set-z_bit.result at refl low (same_bits _ _ c.if-low_bit-high_bit.false ∙ low) in
    step_same _ _ _ _ _ _ _ _ _ _ _ row

pub returns-then-z_bit-2 : goal.returns-then-z_bit-2
returns-then-z_bit-2 c =
    let at = at_place _ _ _ _ _ _ _ _ _ _ _ _ _ c.is_set-z_bit.result c.is_set-low_bit.result c.is_set-high_bit.result c.dims-dims.ensures.same c.shape-shape.ensures.corners c.shape-shape.ensures.shape c.requires.place c.requires.around
    c.values-2.ensures.values c.values.ensures.values c.from.ensures c.from-2.ensures c.is_set-z_bit.ensures c.is_set-low_bit.ensures c.is_set-high_bit.ensures in
    let low = other_bits _ _ c.if-z_bit-low_bit.false ∙ ap not c.if-z_bit-2.true in
    let row = at_row _ _ _ _ _ _ _ _ _ _ c.is_set-z_bit.result c.is_set-low_bit.result c.is_set-high_bit.result true false false at c.if-z_bit-2.true low (same_bits _ _ c.if-low_bit-high_bit.false ∙ low) in
    step_below _ _ _ _ _ _ _ _ _ _ _ c.interleave-then-z_bit-2.ensures.address row

pub returns-else-z_bit-2 : goal.returns-else-z_bit-2
returns-else-z_bit-2 c =
    let at = at_place _ _ _ _ _ _ _ _ _ _ _ _ _ c.is_set-z_bit.result c.is_set-low_bit.result c.is_set-high_bit.result c.dims-dims.ensures.same c.shape-shape.ensures.corners c.shape-shape.ensures.shape c.requires.place c.requires.around
    c.values-2.ensures.values c.values.ensures.values c.from.ensures c.from-2.ensures c.is_set-z_bit.ensures c.is_set-low_bit.ensures c.is_set-high_bit.ensures in
    let low = other_bits _ _ c.if-z_bit-low_bit.false ∙ ap not c.if-z_bit-2.false in
    let row = at_row _ _ _ _ _ _ _ _ _ _ c.is_set-z_bit.result c.is_set-low_bit.result c.is_set-high_bit.result false true true at c.if-z_bit-2.false low (same_bits _ _ c.if-low_bit-high_bit.false ∙ low) in
    step_above _ _ _ _ _ _ _ _ _ _ _ c.interleave-else-z_bit-2.ensures.address row
