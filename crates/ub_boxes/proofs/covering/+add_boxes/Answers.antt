use Rattle.std.proofs.Common.{◌∙◌, ◌++◌, ap, sym, arith, rules}
use Rattle.std.proofs.lemmas.List.{append-nil}
use Rattle.ub_boxes.proofs.FrontFacts.{from_none, from_first}
use Rattle.ub_boxes.specs.Truths.{covers, shape_of}
use Rattle.ub_boxes.proofs.GridFacts.{is_first, is_ordered_first}
use Rattle.ub_boxes.proofs.covering.+add_boxes.Goals as goal

pub widened-requires-clause-ordered : goal.widened-requires-clause-ordered
widened-requires-clause-ordered t c =
    is_ordered_first c.args.sides.now _ _ c.loop-interval.interval-index _ c.requires.sides (omega (arith, c.in-len1-up.len_at_least)) c.side-item.is c.as_slice-interval-items.ensures c.loop-interval-test.true

pub bounds-sides-0 : goal.bounds-sides-0
bounds-sides-0 t c = c.in-len1.len_at_least

pub add_runs-requires-clause-dims : goal.add_runs-requires-clause-dims
add_runs-requires-clause-dims t c =
    let some = c.in-len1.len_at_least in
    let one = c.in-len1.len_below in
    let dims = c.requires.dims in
    omega arith

pub add_runs-requires-clause-side : goal.add_runs-requires-clause-side
add_runs-requires-clause-side t c = is_first c.args.sides.now _ _ c.requires.sides c.in-len1.len_at_least c.last-item.is c.as_slice.ensures

pub slice_bounds-others-count : goal.slice_bounds-others-count
slice_bounds-others-count t c = omega (arith, c.in-len1-up.len_at_least)

pub loop-interval-init : goal.loop-interval-init
loop-interval-init t c = sym (append-nil c.args.boxes.now.items)

pub widened-requires-clause-room : goal.widened-requires-clause-room
widened-requires-clause-room t c =
    let some = c.in-len1-up.len_at_least in
    let few = c.args.schema.now.counts.few_dims in
    let dims = c.requires.dims in
    omega arith

pub returns-in-empty : goal.returns-in-empty
returns-in-empty t c =
    from_none (covers c.args.schema.now (shape_of c.args.filter)) c.args.front.now c.args.sides.now c.args.boxes.now.items c.in-empty.len_below

pub returns-after-loop-interval : goal.returns-after-loop-interval
returns-after-loop-interval t c =
    c.loop-interval.invariant
    ∙ ap (λ bs. c.args.boxes.now.items ++ bs)
    (from_first (covers c.args.schema.now (shape_of c.args.filter)) c.args.front.now c.args.sides.now _ _ c.loop-interval.interval-index
    c.in-len1-up.len_at_least c.side-item.is c.as_slice-interval-items.ensures c.loop-interval-test.false)

pub offset_bounds-interval-items-interval-index : goal.offset_bounds-interval-items-interval-index
offset_bounds-interval-items-interval-index t c = search rules

pub slice_bounds-others-start : goal.slice_bounds-others-start
slice_bounds-others-start t c = search rules

pub slice_bounds-others-end : goal.slice_bounds-others-end
slice_bounds-others-end t c = search rules

pub bounds-sides-0-2 : goal.bounds-sides-0-2
bounds-sides-0-2 t c = search rules
