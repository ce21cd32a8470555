use Rattle.std.proofs.Common.{rules}
use Rattle.ub_planning.proofs.PlanFacts.{plans_mean_of}
use Rattle.ub_planning.proofs.planning.plan.Goals as goal
use Rattle.ub_query.specs.Shape.{asked}

pub returns-clause-plan : goal.returns-clause-plan
returns-clause-plan c = search rules

pub returns-clause-meaning : goal.returns-clause-meaning
returns-clause-meaning c = plans_mean_of c.args.schema.now (asked c.args.query.now) c.new.result (search rules)
