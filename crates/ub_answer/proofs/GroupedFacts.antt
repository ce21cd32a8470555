-- The groups that are held, from one row to the next, and what they mean in the end.
use Rattle.std.proofs.Common.{◌≡◌, ◌≢◌, ◌<◌, ◌≤◌, ◌+◌, inl, inr, ℕ, zero, suc, ℤ, Bool, true, false, ◌&&◌, cond, List, [], ◌∷◌, ◌++◌, length, map, take, filter, Option, Some, None, MatchOption, IsPermutation, Contains, slice_index_or, slice_get, append-nil, refl, sym, ap, subst, arith, ◌∙◌}
use Rattle.std.proofs.lemmas.Bool.{cases_Bool, true≢false}
use Rattle.std.proofs.lemmas.Cmp.{eq_by_cmp_equiv, int_eq_equiv, lists_equiv, on_equiv, on_total}
use Rattle.std.proofs.lemmas.List.{length-append, length-map, get_or_default}
use Rattle.std.proofs.lemmas.List.Elements.{filter-append, recursion_from_All}
use Rattle.std.proofs.lemmas.List.Sorted.{IsPermutation-map, IsPermutation-refl, IsPermutation-sym, Contains-permutation, length_permutation}
use Rattle.std.proofs.lemmas.List.Sums.{length-filter, count_by-le-length}
use Rattle.std.proofs.lemmas.Map.Entries.{lookup_from_place, place_from_lookup}
use Rattle.std.proofs.lemmas.Option.{slice_get_read}
use Rattle.std.specs.Cmp.{IsEquivalence}
use Rattle.std.specs.Cmp.Lexicographic.{pointwise}
use Rattle.std.specs.List.{All, AllByRecursion, IsDistinct, flat_map}
use Rattle.std.specs.List.Sorted.{IsSorted}
use Rattle.std.specs.Map.{keys_of}
use Rattle.std.specs.Ordering.{int_eq, is_eq, is_lt, eq_by_cmp}
use Rattle.std.specs.declared.cmp.Ordering.{Ordering}
use Rattle.std.specs.declared.cmp.Ordering.TheVariants.{Less}
use Rattle.ub_answer.proofs.CompareFacts.{keys-less, keys-equal, not_equal}
use Rattle.ub_answer.proofs.CutFacts.{cut-pieces}
use Rattle.ub_answer.proofs.EntryFacts.{entries_total, equal-are_same, less-are-below, cell_from-is}
use Rattle.ub_answer.proofs.FirstFacts.{from_distinct, rising_permutation, up_from_sorted, strictly_from_up}
use Rattle.ub_answer.proofs.PermutedFacts.{cell-permuted}
use Rattle.ub_answer.proofs.TallyFacts.{IsOfGroup, are-shown-next, shown-none, shown-list}
use Rattle.ub_answer.specs.Held.{many}
use Rattle.ub_answer.specs.inner.Compare.{keys_cmp}
use Rattle.ub_answer.specs.inner.Cut.{cut}
use Rattle.ub_answer.specs.inner.Groups.{values_cmp, values_eq, cells_at, IsGroupAt, HoldsGroups, AddsRow, Entry, entry_of, entry_cmp, cell_from}
use Rattle.ub_answer.specs.inner.Tally.{AreOfNone, of_none, with_row, IsNarrow, IsShown, AreShown}
use Rattle.ub_answer.specs.declared.groups.Values.{Values}
use Rattle.ub_query.proofs.Laws.{Rising, Rising-map, Rising-mapped, Rising-both, adjacent-from_Rising, contains_none, all_permutation, all_from_contains, all_weaker, are_same-true, are_same-itself, contains_map, contains_filter, contains_from_filter, grouping_from, groups_have_an_arrangement, groups_have_one_arrangement, whole_groups, cells-alike, among-own, IsWhole}
use Rattle.ub_query.specs.Cells.{Group, group_cell}
use Rattle.ub_query.specs.Groups.{selected, values_of, are_same, rows_with, IsGrouping, AreGroups}
use Rattle.ub_query.specs.Meaning.{IsGroupMeaning, limited}
use Rattle.ub_query.specs.Order.{IsArrangement, IsGroupBefore, IsBeforeBy, AreBelow}
use Rattle.ub_query.specs.Posed.{IsGrouped}
use Rattle.ub_query.specs.Shape.{Asked}
use Rattle.ub_query.specs.declared.cell.Cell.{Cell}
use Rattle.ub_query.specs.declared.query.Item.{Item}
use Rattle.ub_query.specs.declared.query.Item.TheVariants.{Column, Count, Aggregate}
use Rattle.ub_query.specs.declared.query.SortKey.{SortKey}
use Rattle.ub_table.specs.Table.{Table}
use Rattle.ub_table.specs.declared.row.Row.{Row}
use Rattle.ub_table.specs.declared.schema.Schema.{Schema}
use denote.Ref.{Bor}

-- ---- a row of a group has its values

of_own_group : (schema : Schema) (row : Row) (columns : List ℕ) (item : Item) → IsGrouped columns item → IsOfGroup schema columns (values_of schema columns row) row item
of_own_group schema row columns (Column column) here = among-own schema row columns column here
of_own_group schema row columns Count here = tt
of_own_group schema row columns (Aggregate taken column) here = tt

-- ---- the same values

alike : (xs ys : List ℤ) → pointwise int_eq xs ys ≡ are_same xs ys
alike [] [] = refl
alike [] (y ∷ ys) = refl
alike (x ∷ xs) [] = refl
alike (x ∷ xs) (y ∷ ys) = ap (λ (b : Bool). int_eq x y && b) (alike xs ys)

values_equiv : IsEquivalence values_eq
values_equiv = on_equiv (λ (v : Values). v.all.items) (lists_equiv int_eq_equiv)

-- ---- from one row to the next

pub holds-none : (schema : Schema) (columns : List ℕ) (items : List Item) (groups : List Entry) → groups ≡ []
    → HoldsGroups schema columns items [] groups
holds-none schema columns items groups empty few key =
    subst (λ (es : List Entry). IsGroupAt schema columns items (record { values = key.all.items; rows = [] }) (cells_at es key)) (sym empty) refl

append-some : (rows : List Row) (row : Row) → rows ++ row ∷ [] ≢ []
append-some [] row e = cc
append-some (r ∷ rows) row e = cc

-- the cells of a group with one more row
added : (schema : Schema) (columns : List ℕ) (items : List Item) (w : List ℤ) (rows : List Row) (row : Row) (o : Option (List Cell)) (before after : List Cell)
    → length rows < many → IsGroupAt schema columns items (record { values = w; rows = rows }) o
    → MatchOption o ((k : ℕ) (d : Item) (e : Cell) → k < length items → slice_index_or before k e ≡ of_none (slice_index_or items k d)) (λ b. before ≡ b)
    → All (λ item. IsNarrow schema row item) items → All (λ item. IsOfGroup schema columns w row item) items
    → ((k : ℕ) (d : Item) (e : Cell) → k < length items → slice_index_or after k e ≡ with_row schema row (slice_index_or items k d) (slice_index_or before k e))
    → AreShown schema columns items (record { values = w; rows = rows ++ row ∷ [] }) after
added schema columns items w rows row None before after few at was narrow of is =
    are-shown-next schema columns items w rows row before after few narrow of
    (λ k d e below aggregate.
    subst (λ (rs : List Row). IsShown schema columns (record { values = w; rows = rs }) (slice_index_or items k d) (slice_index_or before k e)) (sym at)
    (subst (λ (c : Cell). IsShown schema columns (record { values = w; rows = [] }) (slice_index_or items k d) c) (sym (was k d e below))
    (shown-none schema columns w (slice_index_or items k d) aggregate)))
    is
added schema columns items w rows row (Some b) before after few at was narrow of is =
    are-shown-next schema columns items w rows row before after few narrow of
    (λ k d e below aggregate.
    subst (λ (cells : List Cell). IsShown schema columns (record { values = w; rows = rows }) (slice_index_or items k d) (slice_index_or cells k e)) (sym was) (at.2 k d e below))
    is

pub group-next : (schema : Schema) (columns : List ℕ) (items : List Item) (taken : List Row) (row : Row) (values : Values) (old new : List Entry)
    → values.all.items ≡ values_of schema columns row → All (λ item. IsGrouped columns item) items → AddsRow schema items row values old new
    → HoldsGroups schema columns items taken old → HoldsGroups schema columns items (taken ++ row ∷ []) new
group-next schema columns items taken row values old new own grouped adds held few key =
    let less : length taken < many = let long = length-append taken (row ∷ []) in omega arith in
    let w = key.all.items in
    let p : Row → Bool = λ r. are_same (values_of schema columns r) w in
    let compared : values_eq values key ≡ p row = alike values.all.items w ∙ ap (λ (vs : List ℤ). are_same vs w) own in
    let more : rows_with schema columns (taken ++ row ∷ []) w ≡ rows_with schema columns taken w ++ filter p (row ∷ []) = filter-append p taken (row ∷ []) in
    elim (cases_Bool (p row)) [
      | inl is ↦
          let same : values_of schema columns row ≡ w = are_same-true (values_of schema columns row) w is in
          let at : cells_at new key ≡ Some adds.after =
          adds.groups key ∙ ap (λ (b : Bool). cond b (Some adds.after) (cells_at old key)) (compared ∙ is) in
          let rows = rows_with schema columns taken w in
          let whole : rows_with schema columns (taken ++ row ∷ []) w ≡ rows ++ row ∷ [] = more ∙ ap (λ (b : Bool). rows ++ cond b (row ∷ []) []) is in
          let short : length rows < many = let a = length-filter p taken in let b = count_by-le-length p taken in omega arith in
          let of : All (λ item. IsOfGroup schema columns w row item) items =
          λ k d below. subst (λ (vs : List ℤ). IsOfGroup schema columns vs row (slice_index_or items k d)) same (of_own_group schema row columns (slice_index_or items k d) (grouped k d below)) in
          let here : IsGroupAt schema columns items (record { values = w; rows = rows }) (cells_at old values) =
          subst (λ (vs : List ℤ). IsGroupAt schema columns items (record { values = vs; rows = rows_with schema columns taken vs }) (cells_at old values)) (own ∙ same) (held less values) in
          let shown = added schema columns items w rows row (cells_at old values) adds.before adds.after short here adds.was adds.narrow of adds.cells in
          subst (λ (o : Option (List Cell)). IsGroupAt schema columns items (record { values = w; rows = rows_with schema columns (taken ++ row ∷ []) w }) o) (sym at)
          (subst (λ (rs : List Row). IsGroupAt schema columns items (record { values = w; rows = rs }) (Some adds.after)) (sym whole) (append-some rows row, adds.long, shown))
      | inr apart ↦
          let at : cells_at new key ≡ cells_at old key =
          adds.groups key ∙ ap (λ (b : Bool). cond b (Some adds.after) (cells_at old key)) (compared ∙ apart) in
          let rows = rows_with schema columns taken w in
          let whole : rows_with schema columns (taken ++ row ∷ []) w ≡ rows = more ∙ ap (λ (b : Bool). rows ++ cond b (row ∷ []) []) apart ∙ append-nil rows in
          subst (λ (o : Option (List Cell)). IsGroupAt schema columns items (record { values = w; rows = rows_with schema columns (taken ++ row ∷ []) w }) o) (sym at)
          (subst (λ (rs : List Row). IsGroupAt schema columns items (record { values = w; rows = rs }) (cells_at old key)) (sym whole) (held less key))
    ]

-- ---- lists

all_of_map : {D E : Type 0} (P : E → Type 0) (f : D → E) (xs : List D) → AllByRecursion P (map f xs) → AllByRecursion (λ x. P (f x)) xs
all_of_map P f [] all = tt
all_of_map P f (x ∷ xs) all = (all.0, all_of_map P f xs all.1)

all_to_map : {D E : Type 0} (P : E → Type 0) (f : D → E) (xs : List D) → AllByRecursion (λ x. P (f x)) xs → AllByRecursion P (map f xs)
all_to_map P f [] all = tt
all_to_map P f (x ∷ xs) all = (all.0, all_to_map P f xs all.1)

all_and : {E : Type 0} (P Q : E → Type 0) (xs : List E) → AllByRecursion P xs → AllByRecursion Q xs → AllByRecursion (λ x. P x × Q x) xs
all_and P Q [] p q = tt
all_and P Q (x ∷ xs) p q = ((p.0, q.0), all_and P Q xs p.1 q.1)

all_take : {E : Type 0} (P : E → Type 0) (n : ℕ) (xs : List E) → AllByRecursion P xs → AllByRecursion P (take n xs)
all_take P zero xs all = tt
all_take P (suc n) [] all = tt
all_take P (suc n) (x ∷ xs) all = (all.0, all_take P n xs all.1)

all_limited : {E : Type 0} (P : E → Type 0) (limit : Option ℕ) (xs : List E) → AllByRecursion P xs → AllByRecursion P (limited limit xs)
all_limited P None xs all = all
all_limited P (Some n) xs all = all_take P n xs all

map_twice : {A B C : Type 0} (f : A → B) (h : B → C) (xs : List A) → map h (map f xs) ≡ map (λ x. h (f x)) xs
map_twice f h [] = refl
map_twice f h (x ∷ xs) = ap (λ (ys : List _). h (f x) ∷ ys) (map_twice f h xs)

map_take : {A B C : Type 0} (f : A → B) (h : B → C) (n : ℕ) (xs : List A) → map h (take n (map f xs)) ≡ map (λ x. h (f x)) (take n xs)
map_take f h zero xs = refl
map_take f h (suc n) [] = refl
map_take f h (suc n) (x ∷ xs) = ap (λ (ys : List _). h (f x) ∷ ys) (map_take f h n xs)

map_limited : {A B C : Type 0} (f : A → B) (h : B → C) (limit : Option ℕ) (xs : List A) → map h (limited limit (map f xs)) ≡ map (λ x. h (f x)) (limited limit xs)
map_limited f h None xs = map_twice f h xs
map_limited f h (Some n) xs = map_take f h n xs

flat_map_same : {A B : Type 0} (f g : A → List B) (xs : List A) → AllByRecursion (λ x. f x ≡ g x) xs → flat_map f xs ≡ flat_map g xs
flat_map_same f g [] all = refl
flat_map_same f g (x ∷ xs) all = ap (λ (ys : List _). ys ++ flat_map f xs) all.0 ∙ ap (λ (ys : List _). g x ++ ys) (flat_map_same f g xs all.1)

-- the same order of what entries are
before_of : {D E : Type 0} (f : D → E) (cell : E → Item → Cell) (Ties : E → E → Type 0) (keys : List SortKey) (a b : D)
    → IsBeforeBy (λ d item. cell (f d) item) (λ a b. Ties (f a) (f b)) keys a b → IsBeforeBy cell Ties keys (f a) (f b)
before_of f cell Ties [] a b h = h
before_of f cell Ties (key ∷ keys) a b (inl h) = inl h
before_of f cell Ties (key ∷ keys) a b (inr h) = inr (h.0, before_of f cell Ties keys a b h.1)

-- cells that are the same for each key compare the same
compared_same : {E : Type 0} (first second : E → Item → Cell) (last : E → E → Ordering) (keys : List SortKey) (a b : E)
    → AllByRecursion (λ key. (first a key.item ≡ second a key.item) × (first b key.item ≡ second b key.item)) keys
    → keys_cmp first last keys a b ≡ keys_cmp second last keys a b
compared_same first second last [] a b all = refl
compared_same first second last (key ∷ keys) a b all =
    rw (all.0.0, all.0.1, compared_same first second last keys a b all.1) refl

-- ---- what is held in the end

-- some key of these values
abbrev key_of : List ℤ → Values
key_of values = record { all = record { items = values; capacity = 8 } }

-- an entry at a place is one of them
from_place : (es : List Entry) (i : ℕ) (e : Entry) → slice_get es i ≡ Some e → Contains es e
from_place [] i e is = cc
from_place (x ∷ es) zero e is = (0, omega arith, let same : x ≡ e = cc in same)
from_place (x ∷ es) (suc i) e is = let (k, within, at) = from_place es i e is in (suc k, omega arith, at)

-- each entry is found by its values
found : (groups : List Entry) → IsDistinct values_eq (keys_of groups) → All (λ (e : Entry). cells_at groups e.0 ≡ Some e.1) groups
found groups ordered k d below =
    let e : Entry = slice_index_or groups k d in
    lookup_from_place values_equiv groups k e.0 e.1 ordered
    (slice_get_read groups (length groups) k e refl below (get_or_default groups k d e below))

module _ (schema : Schema) (columns : List ℕ) (items : List Item) (order : List SortKey) (rows taken : List Row) (same : IsPermutation rows taken) where
  -- the group of an entry
  abbrev group_of : Entry → Group
  group_of e = record { values = e.0.all.items; rows = rows_with schema columns rows e.0.all.items }

  -- an entry that holds the cells of its group
  abbrev Holds : Entry → Type 0
  Holds e = IsGroupAt schema columns items (record { values = e.0.all.items; rows = rows_with schema columns taken e.0.all.items }) (Some e.1)

  all_hold : (groups : List Entry) → IsDistinct values_eq (keys_of groups) → length taken < many → HoldsGroups schema columns items taken groups
      → AllByRecursion Holds groups
  all_hold groups ordered few held =
      recursion_from_All Holds groups (λ k d below.
      let e : Entry = slice_index_or groups k d in
      subst (λ (o : Option (List Cell)). IsGroupAt schema columns items (record { values = e.0.all.items; rows = rows_with schema columns taken e.0.all.items }) o)
      (found groups ordered k d below) (held few e.0))

  -- what each cell is
  cell_is : (e : Entry) → Holds e → (k : ℕ) (d : Item) (c : Cell) → k < length items
      → slice_index_or e.1 k c ≡ group_cell schema columns (group_of e) (slice_index_or items k d)
  cell_is e holds k d c below =
      (holds.2 k d c below).is
      ∙ sym (cell-permuted schema columns e.0.all.items (λ row. are_same (values_of schema columns row) e.0.all.items) rows taken same (slice_index_or items k d))

  cells_are : (e : Entry) → length items ≤ 8 → Holds e → take (length items) e.1 ≡ map (group_cell schema columns (group_of e)) items
  cells_are e fits holds =
      shown-list items e.1 (group_cell schema columns (group_of e)) (let long = holds.1 in omega arith) (λ k d c below. cell_is e holds k d c below)

  key_is : (e : Entry) → Holds e → (item : Item) → Contains items item → cell_from 0 items e.1 item ≡ group_cell schema columns (group_of e) item
  key_is e holds item here =
      cell_from-is 0 items e.1 item (group_cell schema columns (group_of e))
      (λ k d c below. ap (λ (n : ℕ). slice_index_or e.1 n c) (let plain : 0 + k ≡ k = omega arith in plain) ∙ cell_is e holds k d c below) here

  -- some row of an entry
  some_row : (e : Entry) → Holds e → Contains (map (values_of schema columns) rows) e.0.all.items
  some_row e holds =
      let p : Row → Bool = λ row. are_same (values_of schema columns row) e.0.all.items in
      let some : (rs : List Row) → rs ≢ [] → (row : Row) × Contains rs row = first_of in
      let (row, here) = some (filter p taken) holds.0 in
      let there = contains_from_filter p taken row here in
      let within = Contains-permutation taken rows row (IsPermutation-sym rows taken same) there.0 in
      subst (λ (vs : List ℤ). Contains (map (values_of schema columns) rows) vs) (are_same-true (values_of schema columns row) e.0.all.items there.1)
      (contains_map (values_of schema columns) rows row within)
    where
      first_of : (rs : List Row) → rs ≢ [] → (row : Row) × Contains rs row
      first_of [] some = absurd (some refl)
      first_of (r ∷ rs) some = (r, (0, omega arith, refl))

  -- an entry for each row
  entry_there : (groups : List Entry) → length taken < many → HoldsGroups schema columns items taken groups → (row : Row) → Contains rows row
      → Contains (map (λ g. g.values) (map group_of groups)) (values_of schema columns row)
  entry_there groups few held row here = by_entry (cells_at groups (key_of (values_of schema columns row))) refl (held few (key_of (values_of schema columns row)))
    where
      by_entry : (o : Option (List Cell)) → cells_at groups (key_of (values_of schema columns row)) ≡ o
          → IsGroupAt schema columns items (record { values = values_of schema columns row; rows = rows_with schema columns taken (values_of schema columns row) }) o
          → Contains (map (λ g. g.values) (map group_of groups)) (values_of schema columns row)
      by_entry None is at =
          let p : Row → Bool = λ r. are_same (values_of schema columns r) (values_of schema columns row) in
          let passes : p row ≡ true = are_same-itself (values_of schema columns row) in
          absurd (contains_none row (subst (λ (rs : List Row). Contains rs row) at (contains_filter p taken row (Contains-permutation rows taken row same here) passes)))
      by_entry (Some cells) is at =
          let (i, k, place, test) = place_from_lookup (values_eq (key_of (values_of schema columns row))) groups cells is in
          let equal : values_of schema columns row ≡ k.all.items =
          are_same-true (values_of schema columns row) k.all.items (sym (alike (values_of schema columns row) k.all.items) ∙ test) in
          let among : Contains groups (k, cells) = from_place groups i (k, cells) place in
          subst (λ (vs : List ℤ). Contains (map (λ g. g.values) (map group_of groups)) vs) (sym equal)
          (contains_map (λ (g : Group). g.values) (map group_of groups) (group_of (k, cells)) (contains_map group_of groups (k, cells) among))

  -- ---- the groups, and their order

  apart_entries : (groups : List Entry) → IsDistinct values_eq (keys_of groups) → Rising (λ (a b : Entry). values_eq a.0 b.0 ≡ false) groups
  apart_entries groups ordered =
      Rising-map (λ x y. values_eq x y ≡ false) (λ (e : Entry). e.0) groups (from_distinct values_eq (keys_of groups) ordered)

  differ : (a b : Entry) → values_eq a.0 b.0 ≡ false → (group_of a).values ≢ (group_of b).values
  differ a b apart e =
      true≢false (sym (alike a.0.all.items b.0.all.items ∙ ap (λ (vs : List ℤ). are_same a.0.all.items vs) (sym e) ∙ are_same-itself a.0.all.items) ∙ apart)

  grouping : (groups : List Entry) → IsDistinct values_eq (keys_of groups) → length taken < many → HoldsGroups schema columns items taken groups
      → IsGrouping schema columns rows (map group_of groups)
  grouping groups ordered few held =
      grouping_from schema columns rows (map group_of groups)
      (Rising-mapped (λ a b. a.values ≢ b.values) group_of groups
      (Rising-both (λ (a b : Entry). values_eq a.0 b.0 ≡ false) (λ a b. (group_of a).values ≢ (group_of b).values) Holds (λ a b p q h. differ a b h)
      groups (all_hold groups ordered few held) (apart_entries groups ordered)))
      (all_to_map (λ g. Contains (map (values_of schema columns) rows) g.values) group_of groups
      (all_weaker Holds (λ e. Contains (map (values_of schema columns) rows) (group_of e).values) (λ e h. some_row e h) groups (all_hold groups ordered few held)))
      (all_from_contains (λ row. Contains (map (λ g. g.values) (map group_of groups)) (values_of schema columns row)) rows (λ row here. entry_there groups few held row here))
      (all_to_map (λ g. g.rows ≡ rows_with schema columns rows g.values) group_of groups (all_trivial groups))
    where
      all_trivial : (es : List Entry) → AllByRecursion (λ e. (group_of e).rows ≡ rows_with schema columns rows (group_of e).values) es
      all_trivial [] = tt
      all_trivial (e ∷ es) = (refl, all_trivial es)

  -- an entry that holds the cells of its group, which is whole
  abbrev HoldsWhole : Entry → Type 0
  HoldsWhole e = Holds e × IsWhole columns (group_of e)

  shown_cell : Entry → Item → Cell
  shown_cell e item = group_cell schema columns (group_of e) item

  before_entry : All (λ key. Contains items key.item) order → (a b : Entry) → HoldsWhole a → HoldsWhole b → entry_cmp items order a b ≡ Less
      → IsGroupBefore schema columns order (group_of a) (group_of b)
  unfolding shown_cell
  before_entry listed a b p q less =
      let last : Entry → Entry → Ordering = λ a b. values_cmp a.0 b.0 in
      let same_keys : AllByRecursion (λ (key : SortKey). (cell_from 0 items a.1 key.item ≡ shown_cell a key.item) × (cell_from 0 items b.1 key.item ≡ shown_cell b key.item)) order =
      all_weaker (λ key. Contains items key.item) (λ key. (cell_from 0 items a.1 key.item ≡ shown_cell a key.item) × (cell_from 0 items b.1 key.item ≡ shown_cell b key.item))
      (λ key here. (key_is a p.0 key.item here, key_is b q.0 key.item here)) order (recursion_from_All (λ key. Contains items key.item) order listed) in
      let shown_less : keys_cmp shown_cell last order a b ≡ Less =
      sym (compared_same (λ (e : Entry) item. cell_from 0 items e.1 item) shown_cell last order a b same_keys) ∙ less in
      before_of group_of (group_cell schema columns) (λ a b. AreBelow a.values b.values) order a b
      (keys-less shown_cell last (λ a b. AreBelow (group_of a).values (group_of b).values) order a b
      (λ h. less-are-below a.0.all.items b.0.all.items (p.1.values ∙ sym q.1.values) h) (cells-alike schema columns (group_of a) (group_of b) p.1 q.1) shown_less)

  -- no two entries are alike in the order asked
  apart_order : (groups : List Entry) → IsDistinct values_eq (keys_of groups) → length taken < many → HoldsGroups schema columns items taken groups
      → Rising (λ a b. is_eq (entry_cmp items order a b) ≡ false) groups
  apart_order groups ordered few held =
      Rising-both (λ (a b : Entry). values_eq a.0 b.0 ≡ false) (λ a b. is_eq (entry_cmp items order a b) ≡ false) Holds
      (λ a b p q h. not_equal (entry_cmp items order a b) (λ e.
      true≢false (sym (ap is_eq (keys-equal (λ (e : Entry) item. cell_from 0 items e.1 item) (λ a b. values_cmp a.0 b.0) order a b e)) ∙ equal-are_same a.0.all.items b.0.all.items
      ∙ sym (alike a.0.all.items b.0.all.items) ∙ h)))
      groups (all_hold groups ordered few held) (apart_entries groups ordered)

  -- the groups in the order asked
  arranged_groups : (groups : List Entry) (refs sorted : List (Bor Values × Bor (List Cell))) → IsDistinct values_eq (keys_of groups) → length taken < many
      → HoldsGroups schema columns items taken groups → All (λ key. Contains items key.item) order → map entry_of refs ≡ groups → IsPermutation refs sorted
      → IsSorted (λ a b. entry_cmp items order (entry_of a) (entry_of b)) sorted
      → IsArrangement (IsGroupBefore schema columns order) (map group_of groups) (map group_of (map entry_of sorted))
      × AllByRecursion (λ r. Holds (entry_of r)) sorted
  arranged_groups groups refs sorted ordered few held listed are moved up =
      let entries : List Entry = map entry_of sorted in
      let total = on_total (λ (r : Bor Values × Bor (List Cell)). entry_of r) (entries_total items order) in
      let perm : IsPermutation groups entries = subst (λ (es : List Entry). IsPermutation es entries) are (IsPermutation-map entry_of refs sorted moved) in
      let apart = rising_permutation (eq_by_cmp (entry_cmp items order)) (eq_by_cmp_equiv (entries_total items order)).symm groups entries perm
      (apart_order groups ordered few held) in
      let rising_up : Rising (λ (a b : Entry). is_lt (entry_cmp items order b a) ≡ false) entries =
      Rising-mapped (λ (a b : Entry). is_lt (entry_cmp items order b a) ≡ false) entry_of sorted
      (up_from_sorted (λ a b. entry_cmp items order (entry_of a) (entry_of b)) total sorted up) in
      let rising = strictly_from_up (entry_cmp items order) (entries_total items order) entries rising_up apart in
      let whole = all_of_map (λ g. IsWhole columns g) group_of groups (whole_groups schema columns rows (map group_of groups) (grouping groups ordered few held)) in
      let holds = all_and Holds (λ e. IsWhole columns (group_of e)) groups (all_hold groups ordered few held) whole in
      let each : AllByRecursion HoldsWhole entries = all_permutation HoldsWhole groups entries perm holds in
      let before = Rising-both (λ (a b : Entry). entry_cmp items order a b ≡ Less) (λ a b. IsGroupBefore schema columns order (group_of a) (group_of b)) HoldsWhole
      (λ a b p q h. before_entry listed a b p q h) entries each rising in (
        record {
          same = IsPermutation-map group_of groups entries perm;
          ordered = adjacent-from_Rising (IsGroupBefore schema columns order) (map group_of entries) (Rising-mapped (IsGroupBefore schema columns order) group_of entries before);
        },
        all_of_map Holds entry_of sorted (all_weaker HoldsWhole Holds (λ e h. h.0) entries each),
      )

  -- their cells, one after the other
  cut_cells : (limit : Option ℕ) (sorted : List (Bor Values × Bor (List Cell))) → length items ≤ 8 → AllByRecursion (λ r. Holds (entry_of r)) sorted
      → cut (length (limited limit sorted)) (length items) (flat_map (λ r. take (length items) r.1.now) (limited limit sorted))
      ≡ map (λ g. map (group_cell schema columns g) items) (limited limit (map group_of (map entry_of sorted)))
  cut_cells limit sorted fits all =
      let shown : Bor Values × Bor (List Cell) → List Cell = λ r. map (group_cell schema columns (group_of (entry_of r))) items in
      let lines = flat_map_same (λ r. take (length items) r.1.now) shown (limited limit sorted)
      (all_limited (λ r. take (length items) r.1.now ≡ shown r) limit sorted
      (all_weaker (λ r. Holds (entry_of r)) (λ r. take (length items) r.1.now ≡ shown r) (λ r h. cells_are (entry_of r) fits h) sorted all)) in
      ap (cut (length (limited limit sorted)) (length items)) lines
      ∙ cut-pieces shown (length items) (λ r. length-map items (group_cell schema columns (group_of (entry_of r)))) (limited limit sorted)
      ∙ sym (map_limited entry_of (λ e. map (group_cell schema columns (group_of e)) items) limit sorted)
      ∙ sym (map_limited group_of (λ g. map (group_cell schema columns g) items) limit (map entry_of sorted))

are_groups : (schema : Schema) (columns : List ℕ) (rows : List Row) (groups : List Group) → columns ≢ [] → IsGrouping schema columns rows groups → AreGroups schema columns rows groups
are_groups schema [] rows groups some is = absurd (some refl)
are_groups schema (column ∷ columns) rows groups some is = is

pub grouped_meaning : (table : Table) (q : Asked) (taken : List Row) (groups : List Entry) (refs sorted shown : List (Bor Values × Bor (List Cell)))
    (items : List Item) (order : List SortKey) (cells : List (List Cell)) → items ≡ q.items → order ≡ q.order → length q.items ≤ 8
    → q.group ≢ [] → length taken < many → All (λ key. Contains q.items key.item) q.order → IsPermutation (selected table q.filter) taken
    → HoldsGroups table.schema q.group q.items taken groups → IsDistinct values_eq (keys_of groups) → map entry_of refs ≡ groups → IsPermutation refs sorted
    → IsSorted (λ a b. entry_cmp items order (entry_of a) (entry_of b)) sorted → shown ≡ limited q.limit sorted
    → cells ≡ cut (length shown) (length items) (flat_map (λ r. take (length items) r.1.now) shown) → IsGroupMeaning table q cells
grouped_meaning table q taken groups refs sorted shown items order cells items_are order_are fits some few listed same held ordered are moved up shown_are is =
    let rows = selected table q.filter in
    let up_q : IsSorted (λ a b. entry_cmp q.items q.order (entry_of a) (entry_of b)) sorted =
    subst (λ (is : List Item). IsSorted (λ a b. entry_cmp is q.order (entry_of a) (entry_of b)) sorted) items_are
    (subst (λ (ks : List SortKey). IsSorted (λ a b. entry_cmp items ks (entry_of a) (entry_of b)) sorted) order_are up) in
    let (arrangement, all) = arranged_groups table.schema q.group q.items q.order rows taken same groups refs sorted ordered few held listed are moved up_q in
    record {
      groups = map (group_of table.schema q.group q.items q.order rows taken same) groups;
      arranged = map (group_of table.schema q.group q.items q.order rows taken same) (map entry_of sorted);
      grouped = are_groups table.schema q.group rows (map (group_of table.schema q.group q.items q.order rows taken same) groups) some
          (grouping table.schema q.group q.items q.order rows taken same groups ordered few held);
      ordered = arrangement;
      cells =
          is
          ∙ ap (λ (rs : List (Bor Values × Bor (List Cell))). cut (length rs) (length items) (flat_map (λ r. take (length items) r.1.now) rs)) shown_are
          ∙ ap (λ (xs : List Item). cut (length (limited q.limit sorted)) (length xs) (flat_map (λ r. take (length xs) r.1.now) (limited q.limit sorted))) items_are
          ∙ cut_cells table.schema q.group q.items q.order rows taken same q.limit sorted fits all;
    }

-- one entry is held for each group of the rows taken
pub held_once : (schema : Schema) (columns : List ℕ) (items : List Item) (taken : List Row) (entries : List Entry) (groups : List Group) → columns ≢ []
    → length taken < many → HoldsGroups schema columns items taken entries → IsDistinct values_eq (keys_of entries) → AreGroups schema columns taken groups
    → length entries ≡ length groups
held_once schema columns items taken entries groups some few held ordered theirs =
    let mine = map (group_of schema columns items [] taken taken (IsPermutation-refl taken)) entries in
    let are : AreGroups schema columns taken mine =
    are_groups schema columns taken mine some (grouping schema columns items [] taken taken (IsPermutation-refl taken) entries ordered few held) in
    let (first, a) = groups_have_an_arrangement schema columns [] taken mine are in
    let (second, b) = groups_have_an_arrangement schema columns [] taken groups theirs in
    let one : first ≡ second = groups_have_one_arrangement schema columns [] taken mine groups first second are theirs a b in
    let lengths : length first ≡ length second = ap length one in
    omega (arith, length-map entries (group_of schema columns items [] taken taken (IsPermutation-refl taken)), length_permutation mine first a.same, length_permutation groups second b.same, lengths)

-- the cells of a group that isn't there yet
pub was_none : (items : List Item) (o : Option (List Cell)) (cells : List Cell) → None ≡ o → AreOfNone items cells
    → MatchOption o (AreOfNone items cells) (λ before. cells ≡ before)
was_none items None cells none at = at
was_none items (Some before) cells none at = cc
