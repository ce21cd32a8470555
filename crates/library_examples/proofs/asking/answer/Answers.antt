use Rattle.std.proofs.Common.{IfOk, ap, subst}
use Rattle.library_examples.proofs.AskFacts.{ready}
use Rattle.library_examples.proofs.asking.answer.Goals as goal
use Rattle.ub_exec.specs.Answers.{IsAnswer}
use Rattle.ub_planning.specs.Plan.{PlanView}
use Rattle.ub_query.specs.Shape.{Asked}

pub returns : goal.returns
returns g c sound =
    subst (λ (q : Asked). IfOk c.execute.result (λ a. IsAnswer c.args.tree.now q a.rows)) (ap (λ (p : PlanView). p.asked) c.in_ok-plan.ensures.plan)
    (c.execute.ensures.executes.done (ready c.args.tree.now c.schema.result.now _ c.in_ok-plan.plan c.schema.ensures c.in_ok-plan.ensures.plan sound)).rows
