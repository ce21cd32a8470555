-- Which rows a gathering has taken, and how many there can be.
use Rattle.std.proofs.Common.{◌≡◌, ◌<◌, ◌≤◌, ◌+◌, ℕ, zero, suc, List, [], ◌∷◌, Option, length, map, slice_index, slice_index_or, Bool, true, false, not, ◌&&◌, ◌||◌, ◌==◌, ◌≢◌, inl, inr, nat_eq, IsPermutation, add-one, refl, sym, ap, subst, arith, ◌∙◌}
use Rattle.std.proofs.lemmas.Bool.{cases_Bool, eqb-true, false≢true}
use Rattle.std.proofs.lemmas.List.{length-map, nil_from_length}
use Rattle.std.proofs.lemmas.List.Elements.{All-map}
use Rattle.std.proofs.lemmas.List.Sorted.{length_permutation}
use Rattle.std.proofs.lemmas.List.Sums.{length-filter, count_by-le-length}
use Rattle.std.specs.List.{All, list_any}
use Rattle.std.specs.List.Sorted.{IsStrictlyIncreasing}
use Rattle.ub_answer.specs.Held.{many}
use Rattle.ub_query.proofs.Laws.{group_queries_are_told}
use Rattle.ub_query.specs.Groups.{selected, is_selected}
use Rattle.ub_query.specs.Lead.{is_one_entry}
use Rattle.ub_query.specs.Posed.{IsAggregate, IsGrouped, IsGroupQuery, is_aggregate}
use Rattle.ub_query.specs.Shape.{Asked, Shape}
use Rattle.ub_query.specs.declared.query.Item.{Item}
use Rattle.ub_query.specs.declared.query.Item.TheVariants.{Column, Count, Aggregate}
use Rattle.ub_table.specs.Table.{Table, IsInOrder}
use Rattle.ub_table.specs.declared.row.Row.{Row}

climb : (xs : List ℕ) → IsStrictlyIncreasing xs → (k : ℕ) → k < length xs → k ≤ slice_index xs k
climb xs up zero below = omega arith
climb xs up (suc k) below =
    let before = climb xs up k (omega arith) in
    let step : slice_index xs k < slice_index xs (suc k) = rw add-one at (up k (omega arith)) in
    omega arith

few_numbers : (xs : List ℕ) (most : ℕ) → IsStrictlyIncreasing xs → All (λ x. x ≤ most) xs → length xs ≤ most + 1
few_numbers xs most up all = by_length (length xs) refl
  where
    by_length : (n : ℕ) → length xs ≡ n → n ≤ most + 1
    by_length zero is = omega arith
    by_length (suc n) is =
        let within : n < length xs = omega arith in
        let low = climb xs up n within in
        let high : slice_index xs n ≤ most = all n 0 within in
        omega arith

-- rows in order whose numbers are a table's are few
pub few_rows : (rows : List Row) → IsInOrder rows → All (λ row. row.number ≤ 16777215) rows → length rows < many
few_rows rows order numbered =
    let few = few_numbers (map (λ r. r.number) rows) 16777215 order (All-map (λ n. n ≤ 16777215) (λ (r : Row). r.number) rows numbered) in
    let long = length-map rows (λ (r : Row). r.number) in
    omega arith

pub few_taken : (table : Table) (filter : Option Shape) (taken : List Row) → IsInOrder table.rows → All (λ row. row.number ≤ 16777215) table.rows
    → IsPermutation (selected table filter) taken → length taken < many
few_taken table filter taken order numbered same =
    let few = few_rows table.rows order numbered in
    let long = length_permutation (selected table filter) taken same in
    let part = length-filter (is_selected table.schema filter) table.rows in
    let most = count_by-le-length (is_selected table.schema filter) table.rows in
    omega arith

-- where nothing is grouped, the items are aggregates
pub all_aggregates : (q : Asked) → q.group ≡ [] → All (λ item. IsGrouped q.group item) q.items → All (λ item. IsAggregate item) q.items
all_aggregates q none all k d below =
    aggregate (slice_index_or q.items k d) (subst (λ (columns : List ℕ). IsGrouped columns (slice_index_or q.items k d)) none (all k d below))
  where
    aggregate : (item : Item) → IsGrouped [] item → IsAggregate item
    aggregate (Column column) (k, within, is) = absurd (omega arith)
    aggregate Count here = tt
    aggregate (Aggregate taken column) here = tt

pub none_there : (seen columns : List ℕ) (b : Bool) → seen ≡ columns → b ≡ nat_eq (length seen) 0 → b ≡ true → columns ≡ []
none_there [] columns b same is holds = sym same
none_there (c ∷ seen) columns b same is holds =
    let zero_long : suc (length seen) ≡ 0 = eqb-true (suc (length seen)) 0 (sym is ∙ holds) in
    absurd (omega arith)

-- ---- which queries have one entry of all rows

one_is_grouped : (none any : Bool) → (none && any) ≡ true → (not none || any) ≡ true
one_is_grouped true any e = e
one_is_grouped false any e = refl

grouped_is_one : (none any : Bool) → none ≡ true → (not none || any) ≡ true → (none && any) ≡ true
grouped_is_one true any is e = e
grouped_is_one false any is e = absurd (false≢true is)

none_is_false : (none any : Bool) → none ≡ false → (none && any) ≡ false
none_is_false true any is = absurd (false≢true (sym is))
none_is_false false any is = refl

pub one_entry : (q : Asked) → IsGroupQuery q → q.group ≡ [] → true ≡ is_one_entry q
one_entry q grouped none =
    sym (grouped_is_one (length q.group == 0) (list_any is_aggregate q.items) (ap (λ (columns : List ℕ). length columns == 0) none)
    ((group_queries_are_told q).1 grouped))

pub no_entry-rows : (q : Asked) → ¬ IsGroupQuery q → false ≡ is_one_entry q
no_entry-rows q plain = elim (cases_Bool (is_one_entry q)) [
  | inl t ↦ absurd (plain ((group_queries_are_told q).0 (one_is_grouped (length q.group == 0) (list_any is_aggregate q.items) t)))
  | inr f ↦ sym f
]

pub no_entry-groups : (q : Asked) → q.group ≢ [] → false ≡ is_one_entry q
no_entry-groups q some = elim (cases_Bool (length q.group == 0)) [
  | inl t ↦ absurd (some (nil_from_length q.group (eqb-true (length q.group) 0 t)))
  | inr f ↦ sym (none_is_false (length q.group == 0) (list_any is_aggregate q.items) f)
]
