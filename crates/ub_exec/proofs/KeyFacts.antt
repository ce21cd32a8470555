-- The keys of the selected rows, in ascending order of number.
use Rattle.std.proofs.Common.{◌≡◌, ◌≢◌, ◌<◌, ◌+◌, ◌∷◌, ◌∙◌, inl, inr, ℕ, Bool, true, false, if◌then◌else◌, List, [], Some, IsPermutation, filter, nat_eq, slice_get, sym, ap, subst, arith}
use Rattle.std.proofs.lemmas.Bool.{cases_Bool, eqb-false, eqb-true}
use Rattle.std.proofs.lemmas.List.Sorted.{Contains-permutation, IsPermutation-map, IsPermutation-sym, IsPermutation-trans}
use Rattle.std.proofs.lemmas.Map.Keys.{IsDistinct-IsPermutation, apart_from_distinct}
use Rattle.std.specs.List.{AllByRecursion, IsDistinct}
use Rattle.std.specs.List.Sorted.{IsNonDecreasingBy}
use Rattle.ub_exec.proofs.MeantFacts.{chosen_are, handed_are}
use Rattle.ub_exec.proofs.RowsReadFacts.{chosen_read}
use Rattle.ub_exec.specs.Answers.{IsSwept}
use Rattle.ub_exec.specs.Deleting.{HasReadKeys, IsDeletion, IsDeletionOf}
use Rattle.ub_exec.specs.Reading.{HasReadRows}
use Rattle.ub_exec.specs.Stand.{Stand, IsStandOf, selected_of}
use Rattle.ub_exec.specs.Visits.{HasWalked}
use Rattle.ub_filter.specs.Choice.{is_chosen}
use Rattle.ub_filter.specs.declared.choice.Choice.{Choice}
use Rattle.ub_planning.specs.Plan.{PlanView, along, plan_of}
use Rattle.ub_planning.specs.declared.planned.Kind.{Kind}
use Rattle.ub_planning.specs.declared.planned.Kind.TheVariants.{Empty, Scan}
use Rattle.ub_query.proofs.Laws.{Rising, Rising-from_adjacent, Rising-mapped, Rising-one, rows-rising, selected_are_in_order}
use Rattle.ub_query.specs.Groups.{is_selected, selected}
use Rattle.ub_query.specs.Lead.{swept_order}
use Rattle.ub_query.specs.Shape.{Asked}
use Rattle.ub_query.specs.declared.query.SortKey.{SortKey}
use Rattle.ub_region.proofs.Laws.{nat_eq_flips}
use Rattle.ub_table.specs.Region.{key_of, keys_of}
use Rattle.ub_table.specs.Table.{Table, IsInOrder}
use Rattle.ub_table.specs.declared.row.Key.{Key}
use Rattle.ub_table.specs.declared.row.Row.{Row}
use Rattle.ub_table.specs.declared.schema.Schema.{Schema}
use Rattle.ub_tree.specs.View.{TreeView}

-- ---- the plan of a deletion is no sweep

no_sweep : (a b : Bool) (kind : Kind) → kind ≡ Scan → ¬ IsSwept (if a then Empty else (if b then Scan else kind))
no_sweep true b kind is = λ swept. swept
no_sweep false true kind is = λ swept. swept
no_sweep false false kind is = λ swept. subst IsSwept is swept

pub deletion_scans : (schema : Schema) (p : PlanView) → p ≡ plan_of schema p.asked → IsDeletion p.asked → ¬ IsSwept p.kind
deletion_scans schema p is (group, order, limit) swept =
    let q = p.asked in
    let last : along schema.dims (slice_get (swept_order q.group q.order) 0) ≡ Scan =
    ap (λ (g : List ℕ). along schema.dims (slice_get (swept_order g q.order) 0)) group ∙ ap (λ (keys : List SortKey). along schema.dims (slice_get keys 0)) order in
    no_sweep _ _ _ last (subst IsSwept (ap (λ (x : PlanView). x.kind) is) swept)

pub some_row : (q : Asked) → IsDeletion q → q.limit ≢ Some 0
some_row q (group, order, limit) none = cc

-- ---- sorting by number leaves one order

abbrev pub IsAfter : Key → Key → Type 0
IsAfter a b = a.number < b.number

abbrev same_number : Key → Key → Bool
same_number a b = nat_eq a.number b.number

flips : (a b : Key) → same_number a b ≡ same_number b a
flips a b = nat_eq_flips a.number b.number

never : (a : Key) → ¬ (IsAfter a a)
never a lt = omega arith

chain : (a b c : Key) → IsAfter a b → IsAfter b c → IsAfter a c
chain a b c g h = omega arith

other_numbers : (a : Key) (keys : List Key) → AllByRecursion (λ b. IsAfter a b) keys → AllByRecursion (λ b. same_number a b ≡ false) keys
other_numbers a [] up = tt
other_numbers a (b ∷ keys) up = (differ a.number b.number up.0, other_numbers a keys up.1)
  where
    differ : (m n : ℕ) → m < n → nat_eq m n ≡ false
    differ m n lt = elim (cases_Bool (nat_eq m n)) [
      | inl t ↦ let same = eqb-true m n t in absurd (omega arith)
      | inr f ↦ f
    ]

numbers_differ : (keys : List Key) → Rising IsAfter keys → IsDistinct same_number keys
unfolding IsDistinct
numbers_differ [] up = tt
numbers_differ (key ∷ keys) up = (other_numbers key keys up.0, numbers_differ keys up.1)

sorted_rise : (keys : List Key) → IsNonDecreasingBy (λ key. key.number) keys → IsDistinct same_number keys → Rising IsAfter keys
sorted_rise keys up apart =
    Rising-from_adjacent IsAfter chain keys (λ k d within.
    let below = up k (k + 1) d (omega arith) within in
    let differ = eqb-false _ _ (apart_from_distinct same_number keys k (k + 1) d apart (omega arith) within) in
    omega arith)

-- keys of rows that are in order of number, sorted by that, stand as their rows do
pub sorted_keys : (dims : ℕ) (rows : List Row) (sorted : List Key) → IsInOrder rows → IsPermutation (keys_of dims rows) sorted → IsNonDecreasingBy (λ key. key.number) sorted
    → sorted ≡ keys_of dims rows
sorted_keys dims rows sorted order same up =
    let rise : Rising IsAfter (keys_of dims rows) = Rising-mapped IsAfter (key_of dims) rows (rows-rising rows order) in
    let apart = IsDistinct-IsPermutation same_number flips (keys_of dims rows) sorted same (numbers_differ (keys_of dims rows) rise) in
    Rising-one IsAfter never chain sorted (keys_of dims rows) (sorted_rise sorted up apart) rise
    (λ key there. Contains-permutation sorted (keys_of dims rows) key (IsPermutation-sym (keys_of dims rows) sorted same) there)
    (λ key there. Contains-permutation (keys_of dims rows) sorted key same there)

-- what a walk hands over for a deletion, sorted, are the keys of the selected rows of the table
pub walked_keys : (t new : TreeView) (s : Stand) (p : PlanView) (choice : Choice) (handed : List Row) (gathered sorted : List Key) → IsStandOf t s → IsDeletionOf t p
    → HasWalked p.covering.boxes t new handed → gathered ≡ keys_of t.schema.dims (filter (is_chosen choice t.schema p) handed)
    → IsPermutation gathered sorted → IsNonDecreasingBy (λ key. key.number) sorted → sorted ≡ keys_of s.table.schema.dims (selected_of p.asked s)
walked_keys t new s p choice handed gathered sorted stand deletion walk gathered_are same up =
    let sound = stand.sound in
    let planned = deletion.ready.planned in
    let some = some_row p.asked deletion.plain in
    let table : Table = record { schema = t.schema; rows = s.table.rows } in
    let table_is : s.table ≡ table = ap (λ (schema : Schema). record { schema = schema; rows = s.table.rows }) stand.schema_is in
    let rows = selected table p.asked.filter in
    let chosen = chosen_are t sound s.table.rows stand.rows_are p new handed planned some choice walk in
    let taken = handed_are t sound s.table.rows stand.rows_are p new handed planned some walk in
    let keys : IsPermutation (keys_of t.schema.dims rows) gathered =
    subst (λ (ks : List Key). IsPermutation (keys_of t.schema.dims rows) ks) (ap (keys_of t.schema.dims) (sym chosen) ∙ sym gathered_are)
    (IsPermutation-map (key_of t.schema.dims) rows (filter (is_selected t.schema p.asked.filter) handed) taken) in
    let all = sorted_keys t.schema.dims rows sorted (selected_are_in_order table p.asked.filter stand.rows_are.ascending)
    (IsPermutation-trans (keys_of t.schema.dims rows) gathered sorted keys same) up in
    all ∙ ap (λ (x : Table). keys_of x.schema.dims (selected x p.asked.filter)) (sym table_is)

-- what a walk over any tree hands over, sorted, are the keys of the selected rows of the regions that it read
pub read_keys : (old new : TreeView) (p : PlanView) (choice : Choice) (handed : List Row) (gathered sorted : List Key) → HasReadRows p.covering.boxes old new handed
    → gathered ≡ keys_of old.schema.dims (filter (is_chosen choice old.schema p) handed) → IsPermutation gathered sorted → IsNonDecreasingBy (λ key. key.number) sorted → HasReadKeys p old new sorted
read_keys old new p choice handed gathered sorted read gathered_are same up = record {
  rows = handed;
  read = read;
  keys_are = λ planned some.
      subst (λ (keys : List Key). IsPermutation sorted keys) (gathered_are ∙ ap (keys_of old.schema.dims) (chosen_read choice p old new handed read planned some))
      (IsPermutation-sym gathered sorted same);
  ordered = up;
}
