use Rattle.std.proofs.Common.{◌∙◌}
use Rattle.ub_tetris.proofs.HeldFacts.{lead_held, order_held}
use Rattle.ub_tetris.proofs.held.keys_by.Goals as goal

pub returns-in-Some : goal.returns-in-Some
returns-in-Some c =
    c.from_ref.ensures.value
    ∙ lead_held c.args.query.now.group c.args.query.now.order c.args.lead.now c.in-Some.lead c.requires c.in-Some.is

pub returns-in-None : goal.returns-in-None
returns-in-None c = order_held c.args.query.now.group c.args.query.now.order _ c.args.lead.now c.requires c.in-None.is c.as_slice.ensures
