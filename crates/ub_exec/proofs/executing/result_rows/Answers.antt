use Rattle.std.proofs.Common.{◌≡◌, ◌⊎◌, ◌∙◌, inl, inr, ℕ, Bool, false, IsTrue, IfOk, List, ap, length, refl, subst, sym}
use Rattle.ub_tree.proofs.Laws.{Keeps-by, begun_traced, reads_then, unchanged_trace}
use Rattle.ub_exec.specs.Answers.{IsReady, IsAnswer, IsSwept, begun}
use Rattle.ub_exec.proofs.BreakFacts.{ready_begun}
use Rattle.ub_exec.proofs.FirstFacts.{none_fetched}
use Rattle.ub_exec.proofs.NotedFacts.{carries_failed, carries_swept}
use Rattle.ub_exec.specs.Calls.{FetchesVisits}
use Rattle.ub_exec.specs.Reading.{CarriesOut}
use Rattle.ub_exec.specs.Scanned.{IsOfRead, IsScanOf}
use Rattle.ub_planning.specs.Plan.{PlanView, plan_of}
use Rattle.ub_planning.specs.declared.planned.Kind.{Kind}
use Rattle.ub_planning.specs.declared.planned.Kind.TheVariants.{Empty, Scan, Sweep}
use Rattle.ub_query.specs.Posed.{IsPosed}
use Rattle.ub_query.specs.declared.cell.Cell.{Cell}
use Rattle.ub_table.specs.declared.schema.Schema.{Schema}
use Rattle.ub_tree.specs.View.{TreeView}
use Rattle.ub_exec.proofs.executing.result_rows.Goals as goal

-- the plan is that of its query over the schema of the tree whose trace begins anew
then : (t new : TreeView) (p : PlanView) → new ≡ begun t → IsReady t p → IsReady new p
then t new p is ready =
    let kept = Keeps-by t new (begun_traced t new is) in
    record { sound = kept.sound ready.sound; planned = subst (λ (s : Schema). p ≡ plan_of s p.asked) (sym kept.regions.schema) ready.planned }

apart : (found kind : Kind) → found ≡ kind → (found ≡ Empty) ⊎ (found ≡ Scan) → ¬ IsSwept kind
apart found Empty same either = λ swept. swept
apart found Scan same either = λ swept. swept
apart found (Sweep dim is_descending) same either = λ swept. elim either [
  | inl e ↦ cc
  | inr e ↦ cc
]

swept_of : (found kind : Kind) (dim : ℕ) (is_descending : Bool) → found ≡ kind → found ≡ Sweep dim is_descending → IsSwept kind
swept_of found Empty dim is_descending same is = cc
swept_of found Scan dim is_descending same is = cc
swept_of found (Sweep other goes) dim is_descending same is = tt

works : {X : Type 0} (failed : Bool) (old mid : TreeView) → mid ≡ begun old → failed ≡ mid.is_failed → failed ≡ false → IsTrue old.is_failed → X
works failed old mid began told is true_is = let same : mid.is_failed ≡ old.is_failed = ap (λ (t : TreeView). t.is_failed) began in cc

pub returns-in-Empty : goal.returns-in-Empty
returns-in-Empty g c =
    let plan = c.args.plan.now in
    let kind = apart c.kind.result plan.kind c.kind.ensures c.in-Empty.is in
    let scans = c.scanned_rows.ensures in
    record {
      done = λ ready.
          let done = scans.done (then c.args.tree.now c.begin.new.self plan c.begin.ensures ready) kind in
          record {
            rows = subst (λ (t : TreeView). IfOk c.scanned_rows.result (λ cells. IsAnswer t plan.asked cells)) c.begin.ensures done.rows;
            fetches = subst (λ (t : TreeView). FetchesVisits plan t c.scanned_rows.new.tree c.scanned_rows.result) c.begin.ensures done.fetches;
          };
      shaped = scans.shaped;
      scanned = λ scan. subst (λ (t : TreeView). IfOk c.scanned_rows.result (IsOfRead plan t c.scanned_rows.new.tree)) c.begin.ensures
          (scans.scanned (subst (λ (t : TreeView). IsScanOf t.schema plan) (sym c.begin.ensures) scan));
      failed = works c.has_failed.result c.args.tree.now c.begin.new.self c.begin.ensures c.has_failed.ensures c.if-has_failed.false;
      reads = subst (λ (t : TreeView). CarriesOut plan t c.scanned_rows.new.tree (λ (cells : List (List Cell)). length cells) c.scanned_rows.result) c.begin.ensures (scans.reads kind);
      effect = reads_then c.scanned_rows.result c.args.tree.now c.begin.new.self c.scanned_rows.new.tree (begun_traced c.args.tree.now c.begin.new.self c.begin.ensures) scans.effect;
    }

pub returns-in-Sweep : goal.returns-in-Sweep
returns-in-Sweep g c =
    let plan = c.args.plan.now in
    let kind = swept_of c.kind.result plan.kind _ _ c.kind.ensures c.in-Sweep.is in
    let sweeps = c.swept.ensures in
    record {
      done = λ ready.
          let done = sweeps.done (then c.args.tree.now c.begin.new.self plan c.begin.ensures ready) kind tt in
          record {
            rows = subst (λ (t : TreeView). IfOk c.swept.result (λ cells. IsAnswer t plan.asked cells)) c.begin.ensures done.rows;
            fetches = subst (λ (t : TreeView). FetchesVisits plan (begun t) c.swept.new.tree c.swept.result) c.begin.ensures done.fetches;
          };
      shaped = sweeps.shaped;
      scanned = λ scan. absurd (scan.2 kind);
      failed = works c.has_failed.result c.args.tree.now c.begin.new.self c.begin.ensures c.has_failed.ensures c.if-has_failed.false;
      reads = subst (λ (t : TreeView). CarriesOut plan (begun t) c.swept.new.tree (λ (cells : List (List Cell)). length cells) c.swept.result) c.begin.ensures
          (carries_swept (λ (cells : List (List Cell)). length cells) c.swept.result plan (begun c.begin.new.self) c.swept.new.tree kind sweeps.notes sweeps.swept);
      effect = reads_then c.swept.result c.args.tree.now c.begin.new.self c.swept.new.tree (begun_traced c.args.tree.now c.begin.new.self c.begin.ensures) sweeps.effect;
    }

pub returns-then-has_failed : goal.returns-then-has_failed
returns-then-has_failed g c =
    let plan = c.args.plan.now in
    let old = c.args.tree.now in
    let kept = unchanged_trace (begun old) c.begin.new.self c.begin.ensures in
    record {
      done = λ ready. record { rows = tt; fetches = record { pages = tt; broken = none_fetched plan (begun old) c.begin.new.self (ready_begun old plan ready) kept } };
      shaped = tt;
      scanned = λ scan. tt;
      failed = λ failed. refl;
      reads = carries_failed (λ (cells : List (List Cell)). length cells) _ plan (begun old) c.begin.new.self kept;
      effect = record {
        same = begun_traced old c.begin.new.self c.begin.ensures;
        faults = (ap (λ (t : TreeView). t.is_failed) (sym c.begin.ensures) ∙ sym c.has_failed.ensures ∙ c.if-has_failed.true, λ memory. cc);
      };
    }

pub scanned_rows-requires : goal.scanned_rows-requires
scanned_rows-requires g c = subst (λ (t : TreeView). IsPosed (length t.schema.columns) c.args.plan.now.asked) (sym c.begin.ensures) c.requires

pub swept-requires : goal.swept-requires
swept-requires g c = subst (λ (t : TreeView). IsPosed (length t.schema.columns) c.args.plan.now.asked) (sym c.begin.ensures) c.requires
