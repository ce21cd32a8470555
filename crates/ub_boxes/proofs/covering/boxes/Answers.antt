use Rattle.std.proofs.Common.{◌∙◌, ap, length, arith}
use Rattle.ub_boxes.specs.Truths.{covers, shape_of}
use Rattle.ub_boxes.proofs.GridFacts.{are_sides, length-sides}
use Rattle.ub_boxes.proofs.TotalFacts.{space-le, total-le}
use Rattle.ub_boxes.proofs.covering.boxes.Goals as goal
use Rattle.ub_boxes.proofs.covering.boxes.Goals.{then-is_wide+in_ok-boxes, else-is_wide+in_ok-boxes-2}

pub are_too_many-is_wide-requires : goal.are_too_many-is_wide-requires
are_too_many-is_wide-requires c = rw (c.deref.ensures.value, c.in_ok-sides.ensures) (are_sides c.args.schema.now (shape_of c.args.filter))

pub covered-requires-clause-dims : goal.covered-requires-clause-dims
covered-requires-clause-dims c =
    ap length (c.deref-else-is_wide.ensures.value ∙ c.in_ok-sides.ensures)
    ∙ length-sides c.args.schema.now (shape_of c.args.filter) c.args.schema.now.dims

pub covered-requires-clause-sides : goal.covered-requires-clause-sides
covered-requires-clause-sides c = rw (c.deref-else-is_wide.ensures.value, c.in_ok-sides.ensures) (are_sides c.args.schema.now (shape_of c.args.filter))

pub new-requires : goal.new-requires
new-requires c =
    let few = c.args.schema.now.counts.few_dims in
    elim c.if-is_wide.branch [
      | then-is_wide+in_ok-boxes w ↦ rw (w.boxes-is, w.in_ok-boxes.ensures) (space-le c.args.schema.now.dims few)
      | else-is_wide+in_ok-boxes-2 w ↦
          let filter = shape_of c.args.filter in
          let long = length-sides c.args.schema.now filter c.args.schema.now.dims in
          let is = w.deref-else-is_wide.ensures.value ∙ c.in_ok-sides.ensures in
          rw (w.boxes-is, w.in_ok-boxes-2.ensures, is)
          (total-le (covers c.args.schema.now filter) _ (are_sides c.args.schema.now filter) (omega arith))
    ]
