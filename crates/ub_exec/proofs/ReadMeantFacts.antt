-- What is made of the rows that a scan read, over any tree, is what the query means on them.
use Rattle.std.proofs.Common.{◌≡◌, ◌≢◌, ◌≤◌, ◌∷◌, inl, inr, Bool, List, [], Option, Some, Contains, IsPermutation, filter, flat_map, get_or, sym, ap, refl, subst}
use Rattle.std.proofs.lemmas.List.Elements.{Contains-append_cases}
use Rattle.std.proofs.lemmas.List.Sorted.{Contains-permutation}
use Rattle.std.specs.List.{All}
use Rattle.ub_exec.proofs.MeantFacts.{get_or_same}
use Rattle.ub_exec.proofs.PermutedFacts.{filtered_permuted}
use Rattle.ub_exec.proofs.RowsReadFacts.{chosen_read}
use Rattle.ub_exec.specs.Reading.{AreRowsIn, HasReadRows}
use Rattle.ub_exec.specs.Scanned.{IsOfRead}
use Rattle.ub_filter.specs.Choice.{is_chosen}
use Rattle.ub_filter.specs.declared.choice.Choice.{Choice}
use Rattle.ub_planning.specs.Plan.{PlanView, plan_of}
use Rattle.ub_query.proofs.Laws.{all_at, contains_none}
use Rattle.ub_query.specs.Groups.{is_selected, selected}
use Rattle.ub_query.specs.Meaning.{IsMeaning}
use Rattle.ub_query.specs.Shape.{Asked, Shape}
use Rattle.ub_query.specs.declared.cell.Cell.{Cell}
use Rattle.ub_table.specs.Region.{IsRow, measures_of}
use Rattle.ub_table.specs.Table.{Table, IsInOrder}
use Rattle.ub_table.specs.declared.row.Row.{Row}
use Rattle.ub_tree.specs.Spans.{Region}
use Rattle.ub_tree.specs.View.{TreeView}

-- each of these rows has a number that there is
small_number : (t : TreeView) (spans : List Region) (rows : List Row) → AreRowsIn t spans rows → (row : Row) → Contains rows row → row.number ≤ 16777215
small_number t [] rows none row there = absurd (contains_none row (subst (λ (rs : List Row). Contains rs row) none there))
small_number t (span ∷ spans) rows (region, more, taken, rest, is) row there =
    elim (Contains-append_cases region.rows more row (subst (λ (rs : List Row). Contains rs row) is there)) [
      | inl here ↦ (all_at (IsRow t.schema.dims (measures_of t.schema)) region.rows row taken.0.rows here).number.1
      | inr later ↦ small_number t spans more rest row later
    ]

single : {X : Type 0} (xs : List X) → flat_map (λ x. x ∷ []) xs ≡ xs
single [] = refl
single (x ∷ xs) = ap (λ (ys : List _). x ∷ ys) (single xs)

-- those of rows in another order that pass a test
filter_permuted : (f : Row → Bool) (xs ys : List Row) → IsPermutation xs ys → IsPermutation (filter f xs) (filter f ys)
filter_permuted f xs ys same =
    subst (λ (zs : List Row). IsPermutation (filter f zs) (filter f ys)) (single xs)
    (subst (λ (zs : List Row). IsPermutation (filter f (flat_map (λ (x : Row). x ∷ []) xs)) (filter f zs)) (single ys) (filtered_permuted (λ (x : Row). x ∷ []) f xs ys same))

pub answered_read : (t new : TreeView) (p : PlanView) → p ≡ plan_of t.schema p.asked → p.asked.limit ≢ Some 0 → (choice : Choice) (q : Asked) → q ≡ p.asked
    → (handed : List Row) → HasReadRows p.covering.boxes t new handed → (cells : List (List Cell))
    → ((table : Table) (condition : Option Shape) → table.schema ≡ t.schema → IsInOrder table.rows → All (λ row. row.number ≤ 16777215) table.rows
    → IsPermutation (selected table condition) (filter (is_chosen choice t.schema p) handed) → IsMeaning table (record q { filter = condition }) cells)
    → IsOfRead p t new cells
answered_read t new p is some choice q same handed read cells finish = record {
  rows = handed;
  read = read;
  means = λ sorted alike order.
      let table : Table = record { schema = t.schema; rows = sorted } in
      let numbers : All (λ row. row.number ≤ 16777215) sorted =
      λ k d within.
      small_number t read.spans handed read.rows_are (get_or sorted k d)
      (Contains-permutation sorted handed (get_or sorted k d) alike (k, within, get_or_same sorted k (get_or sorted k d) d within)) in
      let at_q : IsMeaning table (record q { filter = p.asked.filter }) cells = finish table p.asked.filter refl order numbers
      (subst (λ (rs : List Row). IsPermutation (selected table p.asked.filter) rs) (sym (chosen_read choice p t new handed read is some))
      (filter_permuted (is_selected t.schema p.asked.filter) sorted handed alike)) in
      subst (λ (x : Asked). IsMeaning table (record x { filter = p.asked.filter }) cells) same at_q;
}
