use Rattle.ub_filter.proofs.ChoiceFacts.{fit_boxes, near_by_boxes, candidate_by_condition}
use Rattle.ub_filter.proofs.choice.Choice.candidates.Goals as goal

pub rows_inside-requires : goal.rows_inside-requires
rows_inside-requires c = fit_boxes c.args.self c.args.schema.now c.args.plan.now c.args.page.now.dims c.boxes.result.now c.in-Boxes.is c.requires.dims c.boxes.ensures.boxes c.requires.fit

pub returns-in-Boxes : goal.returns-in-Boxes
returns-in-Boxes c i row below at =
    near_by_boxes c.args.self _ c.args.schema.now c.args.page.now.dims c.args.plan.now.covering.boxes c.boxes.result.now row c.in-Boxes.is c.requires.dims c.boxes.ensures.boxes (c.rows_inside.ensures i row at)

pub returns-in-Condition : goal.returns-in-Condition
returns-in-Condition c i row below at = candidate_by_condition c.args.self i c.args.schema.now c.args.plan.now.covering.boxes row c.in-Condition.is below
