use Rattle.std.proofs.Common.{◌≡◌, ◌<◌, ◌∙◌, rules, length, slice_index_or, pos, arith}
use Rattle.std.proofs.lemmas.Int.{to_z-of_z}
use Rattle.std.specs.Int.{w64, w128}
use Rattle.std.specs.Prelude.{FitsSigned}
use Rattle.ub_script.proofs.ChangeFacts.{coordinates_more, fits_here, length_coordinates, some_here}
use Rattle.ub_script.proofs.changing.coordinates.Goals as goal

pub unwrap-requires : goal.unwrap-requires
unwrap-requires c =
    let within : c.loop-dim.dim < length c.args.values.now = omega (arith, c.requires.0, c.dims-dim-end.ensures.within, c.loop-dim-test.true) in
    let fit : FitsSigned w64 (slice_index_or c.args.values.now c.loop-dim.dim (pos 0)) = search rules in
    let same = to_z-of_z w64 (slice_index_or c.args.values.now c.loop-dim.dim (pos 0)) fit in
    let wide = to_z-of_z w128 c.from.result (search rules) in
    let of = rw (wide, c.from.ensures, same) at c.coordinate-coordinate.ensures in
    some_here c.args.schema.now c.loop-dim.dim _ c.coordinate-coordinate.result (omega (arith, c.dims-dim-end.ensures.dims, c.loop-dim-test.true))
    (fits_here c.args.schema.now c.args.values.now c.loop-dim.dim c.requires within) of

pub returns-clause-all : goal.returns-clause-all
returns-clause-all c =
    let end : c.loop-dim.dim ≡ c.args.schema.now.dims = omega (arith, c.dims-dim-end.ensures.dims, c.loop-dim-test.false, c.loop-dim.auto.dim-end) in
    length_coordinates c.args.schema.now c.args.values.now c.loop-dim.dim c.loop-dim.dims.items c.loop-dim.invariant.items
    (omega (arith, c.requires.0, c.dims-dim-end.ensures.within, c.dims-dim-end.ensures.dims, end)) ∙ end

pub loop-dim-init : goal.loop-dim-init
loop-dim-init c = record { items = c.new-dims.ensures }

pub dims-dim-end-requires : goal.dims-dim-end-requires
dims-dim-end-requires c = tt

pub from-requires : goal.from-requires
from-requires c = tt

pub coordinate-coordinate-requires : goal.coordinate-coordinate-requires
coordinate-coordinate-requires c = tt

pub bounds-values-dim : goal.bounds-values-dim
bounds-values-dim c = omega (arith, c.requires.0, c.dims-dim-end.ensures.within, c.loop-dim-test.true)

pub push-requires : goal.push-requires
push-requires c =
    let long = length_coordinates c.args.schema.now c.args.values.now c.loop-dim.dim c.loop-dim.dims.items c.loop-dim.invariant.items
    (omega (arith, c.requires.0, c.dims-dim-end.ensures.within, c.loop-dim-test.true)) in
    (omega arith, omega (arith, long, c.loop-dim-test.true, c.dims-dim-end.ensures.few))

pub loop-dim-smaller : goal.loop-dim-smaller
loop-dim-smaller c = omega (arith, c.loop-dim-test.true)

pub returns-clause-coordinates : goal.returns-clause-coordinates
returns-clause-coordinates c =
    let end : c.loop-dim.dim ≡ c.args.schema.now.dims = omega (arith, c.dims-dim-end.ensures.dims, c.loop-dim-test.false, c.loop-dim.auto.dim-end) in
    rw end at c.loop-dim.invariant.items

pub loop-dim-preserved : goal.loop-dim-preserved
loop-dim-preserved c =
    let fit : FitsSigned w64 (slice_index_or c.args.values.now c.loop-dim.dim (pos 0)) = search rules in
    let same = to_z-of_z w64 (slice_index_or c.args.values.now c.loop-dim.dim (pos 0)) fit in
    let wide = to_z-of_z w128 c.from.result (search rules) in
    let of = rw (wide, c.from.ensures, same) at c.coordinate-coordinate.ensures in
    record {
      items =
          coordinates_more c.args.schema.now c.args.values.now c.loop-dim.dim c.loop-dim.dims.items c.push.new.self.items _ c.unwrap.result
          (omega (arith, c.requires.0, c.dims-dim-end.ensures.within, c.loop-dim-test.true)) c.loop-dim.invariant.items of c.unwrap.ensures c.push.ensures.items;
    }
