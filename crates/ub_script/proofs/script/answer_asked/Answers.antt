use Rattle.std.proofs.Common.{◌≡◌, ◌∙◌, ap, refl}
use Rattle.ub_planning.specs.Plan.{PlanView, plan_of}
use Rattle.ub_query.specs.Shape.{asked}
use Rattle.ub_script.proofs.CallFacts.{same_asked}
use Rattle.ub_script.proofs.RowsFacts.{planned_again}
use Rattle.ub_script.proofs.StartFacts.{on_err, starts_none}
use Rattle.ub_script.proofs.EndFacts.{memory_no_write, no_answer, no_write_by, reads_unbegun}
use Rattle.ub_table.specs.declared.schema.Schema.{Schema}
use Rattle.ub_script.proofs.script.answer_asked.Goals as goal

pub returns-in_err-plan : goal.returns-in_err-plan
returns-in_err-plan g c = record {
  answer = λ basis is. no_answer c.from_residual.result _ _ c.from_residual.ensures.1;
  stopped = λ basis is. on_err c.from_residual.result _ (starts_none _ basis _ _ _ refl);
  no_write = no_write_by c.from_residual.result _ c.from_residual.ensures.1 memory_no_write;
  effect = reads_unbegun c.from_residual.result _ c.from_residual.ensures.1;
}

pub explain_query-requires : goal.explain_query-requires
explain_query-requires g c =
    let planned : c.in_ok-plan.plan ≡ plan_of c.args.tree.now.schema (asked c.args.query.now) = c.in_ok-plan.ensures.plan ∙ ap (λ (s : Schema). plan_of s (asked c.args.query.now)) c.schema.ensures in
    planned_again c.args.tree.now.schema _ (asked c.args.query.now) planned

pub answer_query-requires-clause-posed : goal.answer_query-requires-clause-posed
answer_query-requires-clause-posed g c = c.requires

pub answer_query-requires-clause-planned : goal.answer_query-requires-clause-planned
answer_query-requires-clause-planned g c =
    let planned : c.in_ok-plan.plan ≡ plan_of c.args.tree.now.schema (asked c.args.query.now) = c.in_ok-plan.ensures.plan ∙ ap (λ (s : Schema). plan_of s (asked c.args.query.now)) c.schema.ensures in
    planned

pub returns-then-is_explained : goal.returns-then-is_explained
returns-then-is_explained g c =
    let planned : c.in_ok-plan.plan ≡ plan_of c.args.tree.now.schema (asked c.args.query.now) = c.in_ok-plan.ensures.plan ∙ ap (λ (s : Schema). plan_of s (asked c.args.query.now)) c.schema.ensures in
    same_asked _ _ _ _ _ _ _ c.if-is_explained.true (ap (λ (p : PlanView). p.asked) planned) c.explain_query.ensures

pub returns : goal.returns
returns g c = same_asked _ _ _ _ _ _ _ c.if-is_explained.false refl c.answer_query.ensures
