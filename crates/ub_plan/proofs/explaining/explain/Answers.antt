use Rattle.std.proofs.Common.{◌≡◌, ◌∙◌, ℕ, List, ap, false, subst, sym, true}
use Rattle.ub_bigmin.specs.Box.{Corners}
use Rattle.std.proofs.lemmas.Result.{IfOk-from_err, err_from_is_err_and}
use Rattle.ub_plan.proofs.explaining.explain.Goals as goal
use Rattle.ub_plan.specs.Counted.{AreCounted}
use Rattle.ub_plan.specs.Explained.{explain_text}
use Rattle.ub_table.specs.declared.schema.Schema.{Schema}
use Rattle.ub_tree.specs.View.{TreeView, region_count}

pub returns-in_err-met-clause-lines : goal.returns-in_err-met-clause-lines
returns-in_err-met-clause-lines g c = IfOk-from_err c.from_residual.result _ c.from_residual.ensures.0

pub returns-in_err-met-clause-text : goal.returns-in_err-met-clause-text
returns-in_err-met-clause-text g c sound = IfOk-from_err c.from_residual.result _ c.from_residual.ensures.0

pub returns-in_err-met-clause-failed : goal.returns-in_err-met-clause-failed
returns-in_err-met-clause-failed g c failed = let no : false ≡ true = sym c.if-has_failed.false ∙ c.has_failed.ensures ∙ failed in cc

pub returns-in_err-plan_text-clause-lines : goal.returns-in_err-plan_text-clause-lines
returns-in_err-plan_text-clause-lines g c = IfOk-from_err c.from_residual-in_err-plan_text.result _ c.from_residual-in_err-plan_text.ensures.0

pub returns-in_err-plan_text-clause-text : goal.returns-in_err-plan_text-clause-text
returns-in_err-plan_text-clause-text g c sound = IfOk-from_err c.from_residual-in_err-plan_text.result _ c.from_residual-in_err-plan_text.ensures.0

pub returns-in_err-plan_text-clause-failed : goal.returns-in_err-plan_text-clause-failed
returns-in_err-plan_text-clause-failed g c failed = let no : false ≡ true = sym c.if-has_failed.false ∙ c.has_failed.ensures ∙ failed in cc

pub returns-in_err-plan_text-clause-effect : goal.returns-in_err-plan_text-clause-effect
returns-in_err-plan_text-clause-effect g c =
    let p = err_from_is_err_and c.from_residual-in_err-plan_text.result c.from_residual-in_err-plan_text.ensures.1 in
    rw (p.1, p.2) (record { same = c.in_ok-met.ensures.effect.same; faults = tt })

pub returns-clause-lines : goal.returns-clause-lines
returns-clause-lines g c =
    let old = c.args.tree.now in
    let plan = c.args.plan.now in
    let same = c.in_ok-met.ensures.effect.same in
    let schema : c.schema.result.now ≡ old.schema = c.schema.ensures ∙ ap (λ (t : TreeView). t.schema) same in
    let count : c.regions.result ≡ region_count old = c.regions.ensures.count ∙ ap (λ (t : TreeView). region_count t) same in (
      c.in_ok-met.met,
      subst (λ (boxes : List Corners). AreCounted boxes old c.in_ok-met.met) c.boxes.ensures.boxes c.in_ok-met.ensures.counted,
      c.in_ok-plan_text.ensures ∙ ap (λ (s : Schema). explain_text s plan c.in_ok-met.met c.regions.result) schema
          ∙ ap (λ (n : ℕ). explain_text old.schema plan c.in_ok-met.met n) count,
    )

pub returns-clause-failed : goal.returns-clause-failed
returns-clause-failed g c failed = let no : false ≡ true = sym c.if-has_failed.false ∙ c.has_failed.ensures ∙ failed in cc

pub returns-clause-effect : goal.returns-clause-effect
returns-clause-effect g c = record { same = c.in_ok-met.ensures.effect.same; faults = tt }
