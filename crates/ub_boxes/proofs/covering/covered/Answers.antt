use Rattle.ub_boxes.specs.Truths.{covers, shape_of}
use Rattle.ub_boxes.proofs.FrontFacts.{boxes-whole}
use Rattle.ub_boxes.proofs.covering.covered.Goals as goal

pub returns : goal.returns
returns c =
    rw (c.in_ok-add_boxes.ensures, c.new-boxes.ensures.items, c.space.ensures)
    (boxes-whole (covers c.args.schema.now (shape_of c.args.filter)) c.args.sides.now)
