-- The plan of a query over the schema of a sound tree is one that can be carried out.
use Rattle.std.proofs.Common.{◌≡◌, ◌∙◌, ap, sym}
use Rattle.ub_exec.specs.Answers.{IsReady}
use Rattle.ub_planning.specs.Plan.{PlanView, plan_of}
use Rattle.ub_query.specs.Shape.{Asked}
use Rattle.ub_table.specs.declared.schema.Schema.{Schema}
use Rattle.ub_tree.specs.View.{IsSound, TreeView}

pub ready : (t : TreeView) (s : Schema) (q : Asked) (p : PlanView) → s ≡ t.schema → p ≡ plan_of s q → IsSound t → IsReady t p
ready t s q p same is sound = record {
  sound = sound;
  planned = is ∙ ap (λ (x : Schema). plan_of x q) same ∙ ap (λ (x : Asked). plan_of t.schema x) (sym (ap (λ (x : PlanView). x.asked) is));
}
