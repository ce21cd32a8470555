-- A plan means what its query means.
use Rattle.std.proofs.Common.{◌≡◌, ◌≢◌, ◌==◌, ℕ, List, [], Option, Some, None, IsPermutation, ◌⊎◌, inl, inr, filter, sym, ap, ◌∙◌, subst, arith}
use Rattle.std.proofs.lemmas.Bool.{true≢false, cases_Bool, eqb-true, eqb-false}
use Rattle.std.proofs.lemmas.List.Sorted.{Contains-permutation, IsPermutation-sym, IsPermutation-refl}
use Rattle.ub_boxes.specs.Boxes.{cover_of}
use Rattle.ub_planning.proofs.FoundFacts.{meeting_of}
use Rattle.ub_planning.proofs.KindFacts.{plans_are_empty}
use Rattle.ub_planning.proofs.MeaningFacts.{with_filter, table_of, all_selected, same_meaning, same_rows, zero_means_none, none_means_zero}
use Rattle.ub_planning.proofs.TakeFacts.{empty_boxes, in_none}
use Rattle.ub_planning.proofs.ThoseFacts.{filter_none}
use Rattle.ub_planning.proofs.VisitFacts.{meeting_taken}
use Rattle.ub_planning.specs.Meaning.{IsPlanMeaning, MeansAs}
use Rattle.ub_planning.specs.Plan.{PlanView, plan_of, planned_kind, takes}
use Rattle.ub_planning.specs.Visits.{fetched_rows}
use Rattle.ub_query.proofs.Laws.{selected_are_in_order}
use Rattle.ub_query.specs.Groups.{selected}
use Rattle.ub_query.specs.Meaning.{IsMeaning}
use Rattle.ub_query.specs.Shape.{Asked}
use Rattle.ub_query.specs.declared.cell.Cell.{Cell}
use Rattle.ub_region.specs.Regions.{AreRegions, AreTableRows}
use Rattle.ub_table.specs.Region.{RegionRows}
use Rattle.ub_table.specs.declared.row.Row.{Row}
use Rattle.ub_table.specs.declared.schema.Schema.{Schema}

zero_or_not : (limit : Option ℕ) → (limit ≡ Some 0) ⊎ (limit ≢ Some 0)
zero_or_not None = inr (λ (e : None ≡ Some 0). cc)
zero_or_not (Some n) = elim (cases_Bool (n == 0)) [
  | inl t ↦ inl (ap (λ (m : ℕ). Some m) (eqb-true n 0 t))
  | inr f ↦ inr (λ (e : Some n ≡ Some 0). let zero : n ≡ 0 = cc in eqb-false n 0 f zero)
]

-- where the limit is 0, the plan has no boxes
zero_has_no_boxes : (schema : Schema) (q : Asked) → q.limit ≡ Some 0 → (plan_of schema q).covering.boxes ≡ []
zero_has_no_boxes schema q zero =
    empty_boxes (planned_kind schema q) (cover_of schema q.filter) ((plans_are_empty schema q).1 (inr zero))

-- ---- where the limit isn't 0, the selected rows are chosen

some_mean : (schema : Schema) (q : Asked) (next : ℕ) (regions : List RegionRows) (rows : List Row) (cells : List (List Cell)) → q.limit ≢ Some 0
    → AreRegions schema next regions → AreTableRows regions rows → IsPlanMeaning schema (plan_of schema q) regions cells → IsMeaning (table_of schema rows) q cells
some_mean schema q next regions rows cells limit are table h =
    let all = selected (table_of schema rows) q.filter in
    let taken = filter (takes schema (plan_of schema q)) (fetched_rows h.chosen.meeting) in
    let perm = meeting_taken schema q next regions rows h.chosen.meeting limit are table h.chosen.meets in
    let same : h.rows ≡ selected (table_of schema rows) q.filter =
    same_rows h.rows all h.chosen.ascending (selected_are_in_order (table_of schema rows) q.filter table.ascending)
    (λ row c. Contains-permutation taken all row perm (Contains-permutation h.rows taken row (IsPermutation-sym taken h.rows h.chosen.taken) c))
    (λ row c. Contains-permutation taken h.rows row h.chosen.taken (Contains-permutation all taken row (IsPermutation-sym taken all perm) c)) in
    same_meaning schema q None q.filter h.rows rows cells (all_selected schema h.rows ∙ same) h.means

some_meant : (schema : Schema) (q : Asked) (next : ℕ) (regions : List RegionRows) (rows : List Row) (cells : List (List Cell)) → q.limit ≢ Some 0
    → AreRegions schema next regions → AreTableRows regions rows → IsMeaning (table_of schema rows) q cells → IsPlanMeaning schema (plan_of schema q) regions cells
some_meant schema q next regions rows cells limit are table m =
    let (meeting, meets) = meeting_of schema (plan_of schema q).covering.boxes regions in
    record {
      rows = selected (table_of schema rows) q.filter;
      chosen = record {
        meeting = meeting;
        meets = meets;
        taken = meeting_taken schema q next regions rows meeting limit are table meets;
        ascending = selected_are_in_order (table_of schema rows) q.filter table.ascending;
      };
      means = same_meaning schema q q.filter None rows (selected (table_of schema rows) q.filter) cells (sym (all_selected schema (selected (table_of schema rows) q.filter))) m;
    }

-- ---- where it is 0, there is nothing in the result

none_mean : (schema : Schema) (q : Asked) (regions : List RegionRows) (rows : List Row) (cells : List (List Cell)) → q.limit ≡ Some 0
    → AreTableRows regions rows → IsPlanMeaning schema (plan_of schema q) regions cells → IsMeaning (table_of schema rows) q cells
none_mean schema q regions rows cells zero table h =
    let nothing : cells ≡ [] = zero_means_none (table_of schema h.rows) (with_filter q None) cells zero h.means in
    subst (λ (cs : List (List Cell)). IsMeaning (table_of schema rows) q cs) (sym nothing) (none_means_zero (table_of schema rows) q table.ascending zero)

none_meant : (schema : Schema) (q : Asked) (regions : List RegionRows) (rows : List Row) (cells : List (List Cell)) → q.limit ≡ Some 0
    → IsMeaning (table_of schema rows) q cells → IsPlanMeaning schema (plan_of schema q) regions cells
none_meant schema q regions rows cells zero m =
    let nothing : cells ≡ [] = zero_means_none (table_of schema rows) q cells zero m in
    let none = zero_has_no_boxes schema q zero in
    let (meeting, meets) = meeting_of schema (plan_of schema q).covering.boxes regions in
    let untaken : filter (takes schema (plan_of schema q)) (fetched_rows meeting) ≡ [] =
    filter_none (takes schema (plan_of schema q)) (fetched_rows meeting) (λ row c t. true≢false (sym t ∙ in_none schema (plan_of schema q) row none)) in
    record {
      rows = [];
      chosen = record {
        meeting = meeting;
        meets = meets;
        taken = subst (λ (rs : List Row). IsPermutation rs []) (sym untaken) (IsPermutation-refl []);
        ascending = λ k within. absurd (omega arith);
      };
      means = subst (λ (cs : List (List Cell)). IsMeaning (table_of schema []) (with_filter q None) cs) (sym nothing)
          (none_means_zero (table_of schema []) (with_filter q None) (λ k within. absurd (omega arith)) zero);
    }

plans_mean : (schema : Schema) (q : Asked) → MeansAs schema (plan_of schema q) q
plans_mean schema q next regions rows cells are table = elim (zero_or_not q.limit) [
  | inl zero ↦ (none_mean schema q regions rows cells zero table, none_meant schema q regions rows cells zero)
  | inr limit ↦ (some_mean schema q next regions rows cells limit are table, some_meant schema q next regions rows cells limit are table)
]

pub plans_mean_of : (schema : Schema) (q : Asked) (plan : PlanView) → plan ≡ plan_of schema q → MeansAs schema plan q
plans_mean_of schema q plan is = subst (λ (p : PlanView). MeansAs schema p q) (sym is) (plans_mean schema q)
