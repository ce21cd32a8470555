-- What was answered over any tree is in form, and over a sound one it is the reply on its table.
use Rattle.std.proofs.Common.{◌≡◌, ◌∙◌, inl, inr, ℕ, true, false, IsTrue, List, [], ◌∷◌, Option, Some, None, Ok, Err, length, refl, sym, ap, subst}
use Rattle.std.proofs.lemmas.Bool.{cases_Bool}
use Rattle.ub_answer.specs.Shaped.{IsShaped}
use Rattle.ub_exec.specs.Answers.{IsReady, begun, IsAnswer as IsPlanAnswer}
use Rattle.ub_exec.specs.Reading.{CarriesOut, HasSweptSome}
use Rattle.ub_exec.specs.Scanned.{IsOfRead, IsScanOf}
use Rattle.ub_exec.specs.Visits.{HasFetched, fetches_then}
use Rattle.ub_plan.specs.Counted.{AreCounted}
use Rattle.ub_plan.specs.Explained.{IsExplained, explain_text}
use Rattle.ub_planning.specs.Plan.{PlanView, plan_of}
use Rattle.ub_query.specs.Shape.{Asked}
use Rattle.ub_query.specs.declared.cell.Cell.{Cell}
use Rattle.ub_script.proofs.RowsFacts.{ready_of, reply_of_explain, reply_of_plan}
use Rattle.ub_script.specs.Basis.{Basis, on_stand, over_any, IsAskedReply, IsBasisOf}
use Rattle.ub_script.specs.Formed.{IsCarriedOut, IsFormedReply, IsSameBut}
use Rattle.ub_script.specs.Loop.{Makes}
use Rattle.ub_script.specs.Text.{answer_text}
use Rattle.ub_table.specs.declared.schema.Schema.{Schema}
use Rattle.ub_tree.proofs.Laws.{traced_gives}
use Rattle.ub_tree.specs.Spans.{Region}
use Rattle.ub_tree.specs.Told.{AreAnswers}
use Rattle.ub_tree.specs.View.{TreeView, IsSound, region_count, regions}
use Rattle.ub_tree.specs.declared.read_fault.ReadFault.{ReadFault}

-- a tree for which there is an answer hasn't failed
works : {A : Type 0} (seen old : TreeView) (x : A) (fault : ReadFault) → IsSameBut seen old → (IsTrue old.is_failed → Ok x ≡ Err fault) → seen.is_failed ≡ false
works seen old x fault same refuses =
    let alike : old.is_failed ≡ seen.is_failed = ap (λ (t : TreeView). t.is_failed) same in
    elim (cases_Bool old.is_failed) [
      | inl failed ↦ absurd (let bad : Ok x ≡ Err fault = refuses failed in cc)
      | inr working ↦ sym alike ∙ working
    ]

-- what one tree tells the other one tells
answers_seen : (seen t : TreeView) (p : PlanView) (after : Option Region) (met : List Region) → IsSameBut seen t → AreAnswers p.covering.boxes t after met → AreAnswers p.covering.boxes seen after met
answers_seen seen t p after [] same are = traced_gives seen t same p.covering.boxes after None are
answers_seen seen t p after (found ∷ more) same are =
    (traced_gives seen t same p.covering.boxes after (Some found) are.0, answers_seen seen t p (Some found) more same are.1)

-- a plan that was carried out
carried_out : {A : Type 0} (seen old new : TreeView) (rows : A → ℕ) (x : A) (cells : List (List Cell)) (p : PlanView) (q : Asked) → IsSameBut seen old → p ≡ plan_of old.schema q
    → CarriesOut p (begun old) new rows (Ok x) → rows x ≡ length cells → (IsScanOf old.schema p → IsOfRead p (begun old) new cells) → IsCarriedOut seen q cells (length new.trace.pages)
carried_out {A = A} seen old new rows x cells p q same planned carried is scanned =
    let alike : p ≡ plan_of seen.schema q = planned ∙ ap (λ (t : TreeView). plan_of t.schema q) same in
    let by : CarriesOut (plan_of seen.schema q) (begun old) new rows (Ok x) = subst (λ (plan : PlanView). CarriesOut {A = A} plan (begun old) new rows (Ok x)) alike carried in
    record {
      old = old;
      new = new;
      same = same;
      carried = record {
        notes = record { noted = by.notes.noted; trace_is = by.notes.trace_is; fetches_are = by.notes.fetches_are; read = by.notes.read };
        scans = by.scans;
        sweeps = λ dim is_descending of.
            subst (λ (n : ℕ). HasSweptSome (plan_of seen.schema q).covering.boxes dim is_descending (plan_of seen.schema q).asked.limit (begun old) new n) is (by.sweeps dim is_descending of);
      };
      scanned = λ scan.
          subst (λ (plan : PlanView). IsOfRead plan (begun old) new cells) alike
          (scanned (subst (λ (plan : PlanView). IsScanOf old.schema plan) (sym alike) (subst (λ (t : TreeView). IsScanOf t.schema (plan_of seen.schema q)) (sym same) scan)));
      pages_are = refl;
    }

formed_of_plan : {A : Type 0} (seen old new : TreeView) (schema : Schema) (fetched : ℕ) (rows : A → ℕ) (x : A) (fault : ReadFault) (p : PlanView) (q : Asked) (cells : List (List Cell)) (text : List ℕ)
    → IsSameBut seen old → schema ≡ old.schema → fetched ≡ length new.trace.pages → p ≡ plan_of old.schema q → CarriesOut p (begun old) new rows (Ok x) → rows x ≡ length cells
    → (IsScanOf old.schema p → IsOfRead p (begun old) new cells) → (IsTrue old.is_failed → Ok x ≡ Err fault) → IsShaped p.asked cells → text ≡ answer_text schema q cells fetched
    → Makes (IsFormedReply false seen q) text false old.trace.fetches new.trace.fetches
formed_of_plan seen old new schema fetched rows x fault p q cells text same schema_is counted planned carried many scanned refuses shaped e =
    let noted : fetched ≡ length carried.notes.noted = counted ∙ ap (λ (pages : List ℕ). length pages) carried.notes.trace_is in (
      fetched,
      record {
        working = works seen old x fault same refuses;
        rows = cells;
        shaped = subst (λ (plan : PlanView). IsShaped plan.asked cells) planned shaped;
        carried = subst (λ (n : ℕ). IsCarriedOut seen q cells n) (sym counted) (carried_out seen old new rows x cells p q same planned carried many scanned);
        text_is = e ∙ ap (λ (s : Schema). answer_text s q cells fetched) (schema_is ∙ ap (λ (t : TreeView). t.schema) same);
        accepted = refl;
      },
      carried.notes.fetches_are ∙ ap (fetches_then old.trace.fetches) (sym noted),
    )

-- what carrying out the plan of a query answers is the reply to it
pub reply_on : {A : Type 0} (basis : Basis) (old new : TreeView) (schema : Schema) (fetched : ℕ) (rows : A → ℕ) (x : A) (fault : ReadFault) (p : PlanView) (q : Asked) (cells : List (List Cell)) (text : List ℕ)
    → IsBasisOf old basis → schema ≡ old.schema → fetched ≡ length new.trace.pages → p ≡ plan_of old.schema q
    → (IsReady old p → IsPlanAnswer old p.asked cells) → (IsReady old p → HasFetched p (begun old) new) → CarriesOut p (begun old) new rows (Ok x) → rows x ≡ length cells
    → (IsScanOf old.schema p → IsOfRead p (begun old) new cells) → (IsTrue old.is_failed → Ok x ≡ Err fault) → IsShaped p.asked cells → text ≡ answer_text schema q cells fetched
    → Makes (IsAskedReply false basis q) text false old.trace.fetches new.trace.fetches
reply_on (on_stand s) old new schema fetched rows x fault p q cells text is schema_is counted planned answers visits carried many scanned refuses shaped e =
    let ready = ready_of old p q is.sound planned in
    reply_of_plan old new s schema fetched p q cells text is schema_is counted planned (answers ready) (visits ready) e
reply_on (over_any seen) old new schema fetched rows x fault p q cells text is schema_is counted planned answers visits carried many scanned refuses shaped e =
    formed_of_plan seen old new schema fetched rows x fault p q cells text is schema_is counted planned carried many scanned refuses shaped e

formed_of_explain : {A : Type 0} (seen t : TreeView) (x : A) (fault : ReadFault) (p : PlanView) (q : Asked) (text : List ℕ) (after : ℕ) → IsSameBut seen t → p ≡ plan_of t.schema q
    → after ≡ t.trace.fetches → (met : ℕ) × AreCounted p.covering.boxes t met × (text ≡ explain_text t.schema p met (region_count t))
    → (IsTrue t.is_failed → Ok x ≡ Err fault) → Makes (IsFormedReply true seen q) text false t.trace.fetches after
formed_of_explain seen t x fault p q text after same planned kept (met, (spans, are, count), e) refuses =
    let alike : p ≡ plan_of seen.schema q = planned ∙ ap (λ (u : TreeView). plan_of u.schema q) same in
    let schema : t.schema ≡ seen.schema = ap (λ (u : TreeView). u.schema) same in
    let counts : region_count t ≡ region_count seen = ap (λ (u : TreeView). region_count u) same in (
      0,
      record {
        working = works seen t x fault same refuses;
        met = met;
        met_are = (
          spans,
          subst (λ (plan : PlanView). AreAnswers plan.covering.boxes seen None spans) alike (answers_seen seen t p None spans same are),
          count,
        );
        text_is = e ∙ ap (λ (s : Schema). explain_text s p met (region_count t)) schema ∙ ap (λ (plan : PlanView). explain_text seen.schema plan met (region_count t)) alike
            ∙ ap (explain_text seen.schema (plan_of seen.schema q) met) counts;
        pages_are = refl;
        accepted = refl;
      },
      kept,
    )

-- how the plan of a query reads a tree is the reply to an EXPLAIN of it
pub explained_on : {A : Type 0} (basis : Basis) (t : TreeView) (x : A) (fault : ReadFault) (p : PlanView) (q : Asked) (text : List ℕ) (after : ℕ) → IsBasisOf t basis → p ≡ plan_of t.schema q
    → after ≡ t.trace.fetches → (met : ℕ) × AreCounted p.covering.boxes t met × (text ≡ explain_text t.schema p met (region_count t))
    → (IsSound t → IsExplained t.schema p (regions t) text) → (IsTrue t.is_failed → Ok x ≡ Err fault)
    → Makes (IsAskedReply true basis q) text false t.trace.fetches after
explained_on (on_stand s) t x fault p q text after is planned kept lines explained refuses =
    reply_of_explain t s p q text after is planned kept (explained is.sound)
explained_on (over_any seen) t x fault p q text after is planned kept lines explained refuses =
    formed_of_explain seen t x fault p q text after is planned kept lines refuses
