-- The laws of the definitions, as specs/Laws.antt states them.
use Rattle.std.proofs.Common.{◌≡◌, ◌≢◌, ◌↔◌, ℕ, ◌+◌, ◌<◌, ◌≤◌, ◌==◌, Bool, true, false, not, ◌||◌, IsTrue, length, ℤ, pos, neg_ℤ, ◌≤ℤ◌, List, [], ◌∷◌, ◌++◌, map, fold, ◌⊎◌, inl, inr, ⊎_elim, Contains, refl, sym, ◌∙◌, ap, subst, arith}
use Rattle.std.specs.Int.{int_min, int_max}
use Rattle.std.specs.List.{All, AllByRecursion, list_any}
use Rattle.std.proofs.lemmas.Bool.{cases_Bool, eqb-true, true≢false}
use Rattle.std.proofs.lemmas.Int.{ints, fold-int_min_bounds, fold-int_min_reached, fold-int_max_bounds, fold-int_max_reached}
use Rattle.std.proofs.lemmas.List.Elements.{All-cons, All-contains}
use Rattle.std.proofs.lemmas.List.Kept.{AllPairs-from_increasing}
use Rattle.std.proofs.lemmas.List.Sorted.{IsPermutation-refl}
use Rattle.ub_query.proofs.Arranging.{one_arrangement}
use Rattle.ub_query.proofs.GroupFacts.{some_groups, same_groups}
use Rattle.ub_query.proofs.LeadFacts.{groups_follow, groups-chain}
use Rattle.ub_query.proofs.OrderFacts.{lists-never, lists-sides}
use Rattle.ub_query.specs.Cells.{Group, row_cell, group_cell}
use Rattle.ub_query.specs.Groups.{selected, is_selected}
use Rattle.ub_query.specs.Laws.{PosedIsLow, BetweenIsTwo, GroupQueriesAreTold, MinIsLeast, MaxIsGreatest, RowsHaveAnArrangement, RowsHaveOneArrangement, SelectedAreInOrder, RowsInOrderAreArranged, RowsFallIntoGroups, GroupsHaveAnArrangement, GroupsHaveOneArrangement, GroupsFollowTheLead, PlainQueriesMean, QueriesHaveAMeaning, QueriesHaveOneMeaning}
use Rattle.ub_query.specs.Meaning.{IsRowMeaning, IsGroupMeaning, limited}
use Rattle.ub_query.specs.Order.{IsAhead, IsArrangement, IsRowBefore, IsGroupBefore, AreBelow}
use Rattle.ub_query.specs.Posed.{greatest_number, IsLiteral, comparisons, nesting, height, IsGroupQuery, IsAggregate, is_aggregate, has_groups}
use Rattle.ub_query.specs.Shape.{Shape, both, either, neither, compares, between, Asked}
use Rattle.ub_query.specs.declared.cell.Cell.{Cell}
use Rattle.ub_query.specs.declared.query.Item.{Item}
use Rattle.ub_query.specs.declared.query.Item.TheVariants.{Column, Count, Aggregate}
use Rattle.ub_query.specs.declared.query.SortKey.{SortKey}
use Rattle.ub_table.specs.Table.{Table, IsInOrder}
use Rattle.ub_table.specs.declared.row.Row.{Row}
use Rattle.ub_table.specs.declared.schema.Schema.{Schema}
pub use Rattle.ub_query.proofs.Arranging.{Rising, Rising-both, Rising-filter, Rising-from_adjacent, Rising-from_pairs, Rising-map, Rising-mapped, Rising-one, adjacent-from_Rising, all_at, all_from_contains, all_permutation, all_weaker, an_arrangement, contains_cases, contains_here, contains_later, contains_none}
pub use Rattle.ub_query.proofs.GroupFacts.{IsWhole, are_same-itself, are_same-true, cells-alike, contains_filter, contains_from_filter, contains_from_map, contains_map, grouping_from, whole_groups}
pub use Rattle.ub_query.proofs.LeadFacts.{among-own}
pub use Rattle.ub_query.proofs.OrderFacts.{AreAlike, before-chain, before-never, before-sides}

-- each AND and each OR on the way to a comparison has a comparison more on its other side
height-le : (c : Shape) → (1 ≤ comparisons c) × (height c ≤ comparisons c + nesting c)
height-le (both a b) = let p = height-le a in let q = height-le b in (omega arith, omega arith)
height-le (either a b) = let p = height-le a in let q = height-le b in (omega arith, omega arith)
height-le (neither a) = let p = height-le a in (omega arith, omega arith)
height-le (compares column operator value) = (omega arith, omega arith)
height-le (between column low high) = (omega arith, omega arith)

pub posed_is_low : PosedIsLow
posed_is_low columns c posed = let h = height-le c in omega (arith, posed.few, posed.shallow)

-- a number that may be written is one with a minus too
pub is_literal : (n : ℕ) → n ≤ greatest_number → IsLiteral (pos n) × IsLiteral (neg_ℤ (pos n))
is_literal n h = ((omega (arith, ints), omega (arith, ints)), (omega (arith, ints), omega (arith, ints)))

pub between_is_two : BetweenIsTwo
between_is_two value column low high = refl

-- ---- group queries

some_aggregate : (items : List Item) → list_any is_aggregate items ≡ true → (item : Item) × Contains items item × IsAggregate item
some_aggregate [] t = absurd (true≢false (sym t))
some_aggregate (Count ∷ items) t = (Count, contains_here Count items, tt)
some_aggregate (Aggregate taken column ∷ items) t = (Aggregate taken column, contains_here (Aggregate taken column) items, tt)
some_aggregate (Column column ∷ items) t =
    let later = some_aggregate items t in (later.0, contains_later (Column column) items later.0 later.1, later.2)

from_aggregate : (items : List Item) (item : Item) → Contains items item → IsAggregate item → list_any is_aggregate items ≡ true
from_aggregate [] item there is = absurd (contains_none item there)
from_aggregate (Count ∷ items) item there is = refl
from_aggregate (Aggregate taken column ∷ items) item there is = refl
from_aggregate (Column column ∷ items) item there is =
    ⊎_elim (λ (same : Column column ≡ item). absurd (subst (λ (i : Item). IsAggregate i) (sym same) is))
    (λ (later : Contains items item). from_aggregate items item later is)
    (contains_cases (Column column) items item there)

some_columns : (column : ℕ) (columns : List ℕ) → (length (column ∷ columns) == 0) ≡ false
some_columns column columns =
    ⊎_elim (λ (t : (length (column ∷ columns) == 0) ≡ true). absurd (let none = eqb-true (length (column ∷ columns)) 0 t in omega arith))
    (λ (f : (length (column ∷ columns) == 0) ≡ false). f)
    (cases_Bool (length (column ∷ columns) == 0))

told_by : (group : List ℕ) (items : List Item) → IsTrue (not (length group == 0) || list_any is_aggregate items)
    ↔ ((group ≢ []) ⊎ ((item : Item) × Contains items item × IsAggregate item))
told_by [] items = (
  λ t. inr (some_aggregate items t),
  λ h. ⊎_elim (λ (some : [] ≢ []). absurd (some refl))
      (λ (found : (item : Item) × Contains items item × IsAggregate item). from_aggregate items found.0 found.1 found.2) h,
)
told_by (column ∷ columns) items = (λ t. inl (λ (e : column ∷ columns ≡ []). cc), λ h. rw (some_columns column columns) refl)

pub group_queries_are_told : GroupQueriesAreTold
group_queries_are_told q = told_by q.group q.items

-- ---- least and greatest

among : (x : ℤ) (xs : List ℤ) (r : ℤ) → (r ≡ x) ⊎ Contains xs r → Contains (x ∷ xs) r
among x xs r (inl e) = subst (λ (v : ℤ). Contains (x ∷ xs) v) (sym e) (contains_here x xs)
among x xs r (inr c) = contains_later x xs r c

pub min_is_least : MinIsLeast
min_is_least [] least e = cc
min_is_least (x ∷ xs) least e =
    let is : least ≡ fold int_min x xs = cc in
    let bounds = fold-int_min_bounds x xs least is in
    (among x xs least (fold-int_min_reached x xs least is), All-cons (λ v. least ≤ℤ v) x xs bounds.0 bounds.1)

pub max_is_greatest : MaxIsGreatest
max_is_greatest [] greatest e = cc
max_is_greatest (x ∷ xs) greatest e =
    let is : greatest ≡ fold int_max x xs = cc in
    let bounds = fold-int_max_bounds x xs greatest is in
    (among x xs greatest (fold-int_max_reached x xs greatest is), All-cons (λ v. v ≤ℤ greatest) x xs bounds.0 bounds.1)

-- ---- rows

pub numbers-never : (a : Row) → ¬ (a.number < a.number)
numbers-never a h = omega arith

pub numbers-chain : (a b c : Row) → a.number < b.number → b.number < c.number → a.number < c.number
numbers-chain a b c g h = omega arith

row_cells-alike : (schema : Schema) (a b : Row) (item : Item) → AreAlike (row_cell schema a item) (row_cell schema b item)
row_cells-alike schema a b (Column column) = tt
row_cells-alike schema a b Count = tt
row_cells-alike schema a b (Aggregate taken column) = tt

all_rows : (rows : List Row) → AllByRecursion (λ (row : Row). Unit {0}) rows
all_rows [] = tt
all_rows (row ∷ rows) = (tt, all_rows rows)

pub rows-rising : (rows : List Row) → IsInOrder rows → Rising (λ a b. a.number < b.number) rows
rows-rising rows order =
    let numbers = map (λ r. r.number) rows in
    Rising-map (λ x y. x < y) (λ r. r.number) rows (Rising-from_pairs (λ x y. x < y) numbers (AllPairs-from_increasing numbers order))

pub rows_have_an_arrangement : RowsHaveAnArrangement
rows_have_an_arrangement schema keys rows order =
    an_arrangement (IsRowBefore schema keys)
    (before-chain (row_cell schema) (λ a b. a.number < b.number) numbers-chain keys)
    rows
    (Rising-both (λ a b. a.number < b.number) (λ a b. IsRowBefore schema keys a b ⊎ IsRowBefore schema keys b a) (λ row. Unit {0})
    (λ a b p q h. before-sides (row_cell schema) (λ a b. a.number < b.number) keys a b (row_cells-alike schema a b) (inl h))
    rows (all_rows rows) (rows-rising rows order))

pub rows_have_one_arrangement : RowsHaveOneArrangement
rows_have_one_arrangement schema keys rows first second a b =
    one_arrangement (IsRowBefore schema keys)
    (before-never (row_cell schema) (λ a b. a.number < b.number) numbers-never keys)
    (before-chain (row_cell schema) (λ a b. a.number < b.number) numbers-chain keys)
    rows rows first second (λ z c. c) (λ z c. c) a b

pub in_order : (rows : List Row) → Rising (λ a b. a.number < b.number) rows → IsInOrder rows
in_order rows up k within =
    adjacent-from_Rising (λ x y. x < y) (map (λ r. r.number) rows) (Rising-mapped (λ x y. x < y) (λ r. r.number) rows up) k 0 within

pub selected_are_in_order : SelectedAreInOrder
selected_are_in_order table condition order =
    in_order (selected table condition)
    (Rising-filter (λ a b. a.number < b.number) (is_selected table.schema condition) table.rows (rows-rising table.rows order))

pub rows_in_order_are_arranged : RowsInOrderAreArranged
rows_in_order_are_arranged schema rows order = record {
  same = IsPermutation-refl rows;
  ordered = adjacent-from_Rising (IsRowBefore schema []) rows (rows-rising rows order);
}

-- ---- groups

pub rows_fall_into_groups : RowsFallIntoGroups
rows_fall_into_groups schema columns rows = some_groups schema columns rows

groups-never : (g : Group) → ¬ AreBelow g.values g.values
groups-never g h = lists-never g.values h

groups-sides : (schema : Schema) (columns : List ℕ) (keys : List SortKey) (a b : Group) → IsWhole columns a → IsWhole columns b → a.values ≢ b.values
    → IsGroupBefore schema columns keys a b ⊎ IsGroupBefore schema columns keys b a
groups-sides schema columns keys a b p q differ =
    before-sides (group_cell schema columns) (λ a b. AreBelow a.values b.values) keys a b (cells-alike schema columns a b p q)
    (lists-sides a.values b.values (p.values ∙ sym q.values) differ)

arranged_groups : (schema : Schema) (columns : List ℕ) (keys : List SortKey) (groups : List Group)
    → Rising (λ a b. IsGroupBefore schema columns keys a b ⊎ IsGroupBefore schema columns keys b a) groups
    → (arranged : List Group) × IsArrangement (IsGroupBefore schema columns keys) groups arranged
arranged_groups schema columns keys groups sides =
    an_arrangement (IsGroupBefore schema columns keys)
    (before-chain (group_cell schema columns) (λ a b. AreBelow a.values b.values) groups-chain keys)
    groups sides

pub groups_have_an_arrangement : GroupsHaveAnArrangement
groups_have_an_arrangement schema [] keys rows groups are =
    arranged_groups schema [] keys groups
    (subst (λ (gs : List Group). Rising (λ a b. IsGroupBefore schema [] keys a b ⊎ IsGroupBefore schema [] keys b a) gs) (sym are) (tt, tt))
groups_have_an_arrangement schema (column ∷ columns) keys rows groups are =
    arranged_groups schema (column ∷ columns) keys groups
    (Rising-both (λ a b. a.values ≢ b.values)
    (λ a b. IsGroupBefore schema (column ∷ columns) keys a b ⊎ IsGroupBefore schema (column ∷ columns) keys b a)
    (λ g. IsWhole (column ∷ columns) g) (groups-sides schema (column ∷ columns) keys)
    groups (whole_groups schema (column ∷ columns) rows groups are)
    (Rising-from_pairs (λ a b. a.values ≢ b.values) groups are.apart))

pub groups_have_one_arrangement : GroupsHaveOneArrangement
groups_have_one_arrangement schema columns keys rows groups others first second p q a b =
    one_arrangement (IsGroupBefore schema columns keys)
    (before-never (group_cell schema columns) (λ a b. AreBelow a.values b.values) groups-never keys)
    (before-chain (group_cell schema columns) (λ a b. AreBelow a.values b.values) groups-chain keys)
    groups others first second (same_groups schema columns rows groups others p q) (same_groups schema columns rows others groups q p) a b

-- where this row is first, it stands before each of the others in this column
abbrev AheadOf : Schema → ℕ → Bool → (Row → Bool) → Row → Row → Type 0
AheadOf schema column is_descending is_first a b = is_first b ≡ false → IsAhead is_descending (row_cell schema a (Column column)) (row_cell schema b (Column column))

abbrev AreLed : Schema → ℕ → Bool → (Row → Bool) → List Row → Type 0
AreLed schema column is_descending is_first rows = All (λ a. IsTrue (is_first a) → All (AheadOf schema column is_descending is_first a) rows) rows

led_by : (schema : Schema) (column : ℕ) (is_descending : Bool) (is_first : Row → Bool) (rows : List Row) → AreLed schema column is_descending is_first rows
    → (a b : Row) → Contains rows a → Contains rows b → is_first a ≡ true → is_first b ≡ false
    → IsAhead is_descending (row_cell schema a (Column column)) (row_cell schema b (Column column))
led_by schema column is_descending is_first rows led a b in_a in_b first later =
    All-contains (AheadOf schema column is_descending is_first a) rows b
    (All-contains (λ a. IsTrue (is_first a) → All (AheadOf schema column is_descending is_first a) rows) rows a led in_a first) in_b later

pub groups_follow_the_lead : GroupsFollowTheLead
groups_follow_the_lead schema q column is_descending is_first rows front back lead here led a b =
    let both = groups_follow schema q.group q.order column is_descending is_first rows a.groups b.groups front back lead here
    (led_by schema column is_descending is_first rows led) a.grouped b.grouped a.ordered b.ordered in
    record { groups = a.groups ++ b.groups; grouped = both.0; ordered = both.1 }

-- ---- meaning

group_or_row : (q : Asked) → IsGroupQuery q ⊎ (¬ IsGroupQuery q)
group_or_row q =
    ⊎_elim (λ (t : has_groups q ≡ true). inl ((group_queries_are_told q).0 t))
    (λ (f : has_groups q ≡ false). inr (λ (g : IsGroupQuery q). true≢false (sym ((group_queries_are_told q).1 g) ∙ f)))
    (cases_Bool (has_groups q))

group_meaning : (table : Table) (q : Asked) → (rows : List (List Cell)) × IsGroupMeaning table q rows
group_meaning table q =
    let (groups, grouped) = some_groups table.schema q.group (selected table q.filter) in
    let (arranged, ordered) = groups_have_an_arrangement table.schema q.group q.order (selected table q.filter) groups grouped in (
      map (λ group. map (group_cell table.schema q.group group) q.items) (limited q.limit arranged),
      record { groups = groups; arranged = arranged; grouped = grouped; ordered = ordered; cells = refl },
    )

row_meaning : (table : Table) (q : Asked) → IsInOrder table.rows → (rows : List (List Cell)) × IsRowMeaning table q rows
row_meaning table q order =
    let (arranged, ordered) = rows_have_an_arrangement table.schema q.order (selected table q.filter) (selected_are_in_order table q.filter order) in (
      map (λ row. map (row_cell table.schema row) q.items) (limited q.limit arranged),
      record { arranged = arranged; ordered = ordered; cells = refl },
    )

pub plain_queries_mean : PlainQueriesMean
plain_queries_mean table q order plain none = inr (
  plain,
  record {
    arranged = selected table q.filter;
    ordered = subst (λ (keys : List SortKey). IsArrangement (IsRowBefore table.schema keys) (selected table q.filter) (selected table q.filter)) (sym none)
        (rows_in_order_are_arranged table.schema (selected table q.filter) (selected_are_in_order table q.filter order));
    cells = refl;
  },
)

pub queries_have_a_meaning : QueriesHaveAMeaning
queries_have_a_meaning table q order =
    ⊎_elim (λ (g : IsGroupQuery q). let (rows, means) = group_meaning table q in (rows, inl (g, means)))
    (λ (r : ¬ IsGroupQuery q). let (rows, means) = row_meaning table q order in (rows, inr (r, means)))
    (group_or_row q)

one_group_meaning : (table : Table) (q : Asked) (first second : List (List Cell)) → IsGroupMeaning table q first → IsGroupMeaning table q second → first ≡ second
one_group_meaning table q first second a b =
    let same : a.arranged ≡ b.arranged = groups_have_one_arrangement table.schema q.group q.order (selected table q.filter)
    a.groups b.groups a.arranged b.arranged a.grouped b.grouped a.ordered b.ordered in
    a.cells ∙ ap (λ (gs : List Group). map (λ group. map (group_cell table.schema q.group group) q.items) (limited q.limit gs)) same ∙ sym b.cells

one_row_meaning : (table : Table) (q : Asked) (first second : List (List Cell)) → IsRowMeaning table q first → IsRowMeaning table q second → first ≡ second
one_row_meaning table q first second a b =
    let same : a.arranged ≡ b.arranged = rows_have_one_arrangement table.schema q.order (selected table q.filter)
    a.arranged b.arranged a.ordered b.ordered in
    a.cells ∙ ap (λ (rs : List Row). map (λ row. map (row_cell table.schema row) q.items) (limited q.limit rs)) same ∙ sym b.cells

pub queries_have_one_meaning : QueriesHaveOneMeaning
queries_have_one_meaning table q first second (inl a) (inl b) = one_group_meaning table q first second a.1 b.1
queries_have_one_meaning table q first second (inl a) (inr b) = absurd (b.0 a.0)
queries_have_one_meaning table q first second (inr a) (inl b) = absurd (a.0 b.0)
queries_have_one_meaning table q first second (inr a) (inr b) = one_row_meaning table q first second a.1 b.1
