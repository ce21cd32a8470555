-- What was carried out over a sound tree is the reply on its table; and what was run on the tree of a CSV text.
use Rattle.std.proofs.Common.{◌≡◌, ◌≢◌, ◌⊎◌, ◌++◌, ◌∷◌, ◌∙◌, inl, inr, ℕ, List, [], All, Result, Err, IfErr, true, false, length, sym, ap, refl, subst}
use Rattle.std.proofs.lemmas.List.{length-map}
use Rattle.ub_exec.specs.Answers.{begun, IsReady, IsAnswer as IsPlanAnswer}
use Rattle.ub_exec.specs.Stand.{Stand, IsStandOf}
use Rattle.ub_exec.specs.Visits.{HasFetched as IsFetchedBy, fetches_then}
use Rattle.ub_load.specs.LoadedTree.{IsLoadedTree}
use Rattle.ub_plan.specs.Explained.{IsExplained}
use Rattle.ub_planning.specs.Plan.{PlanView, plan_of}
use Rattle.ub_planning.specs.Visits.{Span, AreVisits}
use Rattle.ub_query.specs.Meaning.{IsMeaning}
use Rattle.ub_query.specs.Posed.{IsItemOver, IsPosed}
use Rattle.ub_query.specs.Shape.{Asked}
use Rattle.ub_query.specs.declared.cell.Cell.{Cell}
use Rattle.ub_query.specs.declared.query.Item.{Item}
use Rattle.ub_script.specs.Basis.{Basis, on_stand, IsBasisOf}
use Rattle.ub_script.specs.Loop.{Makes}
use Rattle.ub_script.specs.Output.{OutFacts, Takes}
use Rattle.ub_script.specs.Run.{EndedIn, EndedOver, FirstOver, FirstIn, IsUnbegun, IsWhole, IsStopped, IsCutOff, Ran, IsDone, IsBegun, IsBroken, loaded_stand}
use Rattle.ub_script.specs.Text.{ArePages, Reply, IsTableReply, answer_text}
use Rattle.ub_script.specs.declared.fault.RunFault.{RunFault}
use Rattle.ub_script.specs.declared.fault.RunFault.TheVariants.{Memory, Write, Tree}
use Rattle.ub_script.specs.declared.script.Summary.{Summary}
use Rattle.ub_table.specs.Region.{RegionRows}
use Rattle.ub_table.specs.declared.axes.Axes.{Axes}
use Rattle.ub_table.specs.declared.schema.Schema.{Schema}
use Rattle.ub_tree.specs.Placed.{Placed}
use Rattle.ub_tree.specs.View.{TreeView, IsSound, regions}
use Rattle.ub_tree.specs.declared.fault.TreeFault.{TreeFault}

-- as many pages are in the trace as the plan has visits
pages_of : (p : PlanView) (old new : TreeView) (h : IsFetchedBy p (begun old) new) → length new.trace.pages ≡ length h.visits
pages_of p old new h =
    ap (λ (ns : List ℕ). length ns) h.trace_is ∙ length-map h.visited (λ (region : Placed). region.page) ∙ sym (length-map h.visited (λ (region : Placed). region.region))
    ∙ ap (λ (rs : List RegionRows). length rs) h.regions_are ∙ length-map h.visits (λ (span : Span). span.region)

-- the visits of a plan over a tree are those over the regions in which its table stands
pub pages_on : (t : TreeView) (s : Stand) (p : PlanView) (q : Asked) (visits : List Span) (n : ℕ) → IsStandOf t s → p ≡ plan_of t.schema q
    → AreVisits t.schema p (regions t) visits → n ≡ length visits → ArePages s.table.schema s.regions q n
pages_on t s p q visits n is planned are pages =
    subst (λ (x : Schema). ArePages x s.regions q n) (sym is.schema_is) (subst (λ (rs : List RegionRows). ArePages t.schema rs q n) (sym is.regions_are) (record {
      visits = visits;
      visits_are = subst (λ (plan : PlanView). AreVisits t.schema plan (regions t) visits) planned are;
      pages_are = pages;
    }))

-- what carrying out the plan of a query answers is the reply to the query
pub reply_of_plan : (old new : TreeView) (s : Stand) (schema : Schema) (fetched : ℕ) (p : PlanView) (q : Asked) (cells : List (List Cell)) (text : List ℕ)
    → IsStandOf old s → schema ≡ old.schema → fetched ≡ length new.trace.pages → p ≡ plan_of old.schema q → IsPlanAnswer old p.asked cells
    → IsFetchedBy p (begun old) new → text ≡ answer_text schema q cells fetched → Makes (IsTableReply false s.table s.regions q) text false old.trace.fetches new.trace.fetches
reply_of_plan old new s schema fetched p q cells text is schema_is noted planned answer by e =
    let pages : fetched ≡ length by.visits = noted ∙ pages_of p old new by in (
      fetched,
      record {
        rows = cells;
        meant = subst (λ (x : Schema). IsMeaning (record { schema = x; rows = s.table.rows }) q cells) (sym is.schema_is) (subst (λ (asked : Asked). IsPlanAnswer old asked cells) (ap (λ (plan : PlanView). plan.asked) planned) answer s.table.rows is.rows_are);
        pages_are = pages_on old s p q by.visits fetched is planned by.visits_are pages;
        text_is = e ∙ ap (λ (x : Schema). answer_text x q cells fetched) (schema_is ∙ sym is.schema_is);
        accepted = refl;
      },
      by.fetches_are ∙ ap (fetches_then old.trace.fetches) (sym pages),
    )

-- how the plan of a query reads the tree's regions is the reply to an EXPLAIN of it
pub reply_of_explain : (t : TreeView) (s : Stand) (p : PlanView) (q : Asked) (text : List ℕ) (after : ℕ) → IsStandOf t s → p ≡ plan_of t.schema q → after ≡ t.trace.fetches
    → IsExplained t.schema p (regions t) text → Makes (IsTableReply true s.table s.regions q) text false t.trace.fetches after
reply_of_explain t s p q text after is planned kept explained = (
  0,
  record {
    explained = subst (λ (x : Schema). IsExplained x (plan_of x q) s.regions text) (sym is.schema_is)
        (subst (λ (rs : List RegionRows). IsExplained t.schema (plan_of t.schema q) rs text) (sym is.regions_are) (rw planned at explained));
    pages_are = refl;
    accepted = refl;
  },
  kept,
)

-- the plan of a query over a sound tree's schema can be carried out
pub ready_of : (t : TreeView) (p : PlanView) (q : Asked) → IsSound t → p ≡ plan_of t.schema q → IsReady t p
ready_of t p q sound planned = record {
  sound = sound;
  planned = planned ∙ ap (λ (asked : Asked). plan_of t.schema asked) (sym (ap (λ (plan : PlanView). plan.asked) planned));
}

-- what the plan of a query asks for may be posed as the query may, and it is the plan of that
pub posed_by_plan : (schema : Schema) (p : PlanView) (q : Asked) → p ≡ plan_of schema q → IsPosed (length schema.columns) q → IsPosed (length schema.columns) p.asked
posed_by_plan schema p q planned posed =
    subst (λ (asked : Asked). IsPosed (length schema.columns) asked) (sym (ap (λ (plan : PlanView). plan.asked) planned)) posed

pub planned_again : (schema : Schema) (p : PlanView) (q : Asked) → p ≡ plan_of schema q → p ≡ plan_of schema p.asked
planned_again schema p q planned = planned ∙ ap (λ (asked : Asked). plan_of schema asked) (sym (ap (λ (plan : PlanView). plan.asked) planned))

-- what was run on the tree that a CSV text is loaded into was run on the text's table
module _ (text : List ℕ) (axes : Axes) (page_rows : ℕ) (name : List ℕ) (t : TreeView) (loaded : IsLoadedTree text axes page_rows name t) (script : List ℕ) where
  pub loaded_basis : Basis
  loaded_basis = on_stand (loaded_stand axes.dims page_rows (record { schema = t.schema; rows = loaded.rows }))

  pub loaded_is : IsBasisOf t loaded_basis
  unfolding loaded_basis
  loaded_is = record { sound = loaded.sound; schema_is = refl; rows_are = loaded.table; regions_are = sym loaded.regions_are; next_is = sym loaded.next }

  loaded_first : (replies : List Reply) (left : ℕ) (now : Basis) → FirstOver loaded_basis script replies left now → FirstIn text axes page_rows name script replies left now
  unfolding loaded_basis
  loaded_first replies left now first = (record { schema = t.schema; rows = loaded.rows }, loaded.loaded, first)

  loaded_ended : (fault : RunFault) (replies : List Reply) (left pages : ℕ) (now : Basis) → EndedOver loaded_basis script fault replies left pages now
      → EndedIn text axes page_rows name script fault replies left pages now
  unfolding loaded_basis
  loaded_ended fault replies left pages now ended = (record { schema = t.schema; rows = loaded.rows }, loaded.loaded, ended)

  pub loaded_done : (s : Summary) (Left : Basis → Type 0) (old new : OutFacts) (before after : ℕ) → Ran (IsWhole (FirstOver loaded_basis script) s) Left false old new before after
      → Takes (IsDone text axes page_rows name script s) false old new
  loaded_done s Left old new before after (now, bytes, pages, (replies, first, is, sum, counts), left, taken, fetched) =
      (bytes, (now, pages, (replies, loaded_first replies 0 now first, is, sum, counts)), taken)

  pub loaded_broken : (Left : Basis → Type 0) (old new : OutFacts) (before after : ℕ) → Ran (IsCutOff (FirstOver loaded_basis script)) Left true old new before after
      → Takes (IsBroken text axes page_rows name script) true old new
  loaded_broken Left old new before after (now, bytes, pages, (replies, next, rest, front, first, cut, is, sum), left, taken, fetched) =
      (bytes, (now, pages, (replies, next, rest, front, loaded_first (replies ++ next ∷ []) rest now first, cut, is, sum)), taken)

  stopped_in : (fault : RunFault) (Left : Basis → Type 0) (old new : OutFacts) (before after : ℕ) → Ran (IsStopped (EndedOver loaded_basis script fault)) Left false old new before after
      → Takes (IsBegun text axes page_rows name script fault) false old new
  stopped_in fault Left old new before after (now, bytes, pages, (replies, rest, more, ended, is, sum), left, taken, fetched) =
      (bytes, (now, pages, (replies, rest, more, loaded_ended fault replies rest more now ended, is, sum)), taken)

  -- a run for which memory was refused
  pub loaded_stopped : (Left : Basis → Type 0) (old new : OutFacts) (later : TreeView) (before after : ℕ) (r : Result Summary RunFault) → r ≡ Err Memory
      → IfErr r (λ e. e ≢ Write → IsUnbegun t later e old new ⊎ Ran (IsStopped (EndedOver loaded_basis script e)) Left false old new before after)
      → (new ≡ old) ⊎ Takes (IsBegun text axes page_rows name script Memory) false old new
  loaded_stopped Left old new later before after r same h = elim (rw same at h (λ e. cc)) [
    | inl kept ↦ inl kept.2
    | inr ran ↦ inr (stopped_in Memory Left old new before after ran)
  ]

  -- a run that the tree refused
  pub loaded_refused : (fault : TreeFault) (Left : Basis → Type 0) (old new : OutFacts) (later : TreeView) (before after : ℕ) (r : Result Summary RunFault) → r ≡ Err (Tree fault)
      → IfErr r (λ e. e ≢ Write → IsUnbegun t later e old new ⊎ Ran (IsStopped (EndedOver loaded_basis script e)) Left false old new before after)
      → Takes (IsBegun text axes page_rows name script (Tree fault)) false old new
  loaded_refused fault Left old new later before after r same h = elim (rw same at h (λ e. cc)) [
    | inl kept ↦ absurd (let bad : Tree fault ≡ Memory = kept.0 in cc)
    | inr ran ↦ stopped_in (Tree fault) Left old new before after ran
  ]

-- items over the columns of a schema are over those of one that is the same
pub items_same : (a b : Schema) (items : List Item) → a ≡ b → All (λ item. IsItemOver (length b.columns) item) items → All (λ item. IsItemOver (length a.columns) item) items
items_same a b items same = subst (λ (s : Schema). All (λ item. IsItemOver (length s.columns) item) items) (sym same)
