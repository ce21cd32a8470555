-- Rows of which some stand before the others along the lead: so do their groups, and no group has rows of both.
use Rattle.std.proofs.Common.{◌≡◌, ◌≢◌, ℕ, ◌==◌, ℤ, Bool, true, false, not, cond, List, [], ◌∷◌, ◌++◌, map, filter, Some, inl, inr, Contains, refl, sym, ◌∙◌, ap, subst}
use Rattle.std.specs.List.{AllByRecursion}
use Rattle.std.proofs.lemmas.Bool.{cond_both, cases_Bool, eqb-true, eq-eqb, true≢false, not-true}
use Rattle.std.proofs.lemmas.List.Elements.{All-contains, Contains-append_left, Contains-append_right}
use Rattle.std.proofs.lemmas.List.Sorted.{IsPermutation-append, IsPermutation-sym, Contains-permutation}
use Rattle.ub_query.proofs.Arranging.{Rising, Rising-from_adjacent, Rising-from_pairs, adjacent-from_Rising, all_from_contains, contains_here, contains_later, contains_cases, contains_none}
use Rattle.ub_query.proofs.GroupFacts.{are_same-true, contains_map, contains_from_map, contains_filter, contains_from_filter, grouping_from}
use Rattle.ub_query.proofs.OrderFacts.{ahead-never, before-chain, lists-chain}
use Rattle.ub_query.specs.Cells.{Group, row_cell, group_cell, value_among}
use Rattle.ub_query.specs.Groups.{are_same, values_of, rows_with, IsGrouping, AreGroups}
use Rattle.ub_query.specs.Lead.{group_lead}
use Rattle.ub_query.specs.Order.{AreBelow, IsAhead, IsArrangement, IsGroupBefore}
use Rattle.ub_query.specs.declared.cell.Cell.{Cell}
use Rattle.ub_query.specs.declared.cell.Cell.TheVariants.{Number}
use Rattle.ub_query.specs.declared.query.Item.TheVariants.{Column}
use Rattle.ub_query.specs.declared.query.SortKey.{SortKey}
use Rattle.ub_table.specs.Table.{column_value}
use Rattle.ub_table.specs.declared.row.Row.{Row}
use Rattle.ub_table.specs.declared.schema.Schema.{Schema}

-- ---- lists put one after the other

all_append : {E : Type 0} (P : E → Type 0) (xs ys : List E) → AllByRecursion P xs → AllByRecursion P ys → AllByRecursion P (xs ++ ys)
all_append P [] ys p q = q
all_append P (x ∷ xs) ys p q = (p.0, all_append P xs ys p.1 q)

pub Rising-append : {E : Type 0} (R : E → E → Type 0) (xs ys : List E) → Rising R xs → Rising R ys
    → ((x y : E) → Contains xs x → Contains ys y → R x y) → Rising R (xs ++ ys)
Rising-append R [] ys up down seam = down
Rising-append R (x ∷ xs) ys up down seam = (
  all_append (λ y. R x y) xs ys up.0 (all_from_contains (λ y. R x y) ys (λ y c. seam x y (contains_here x xs) c)),
  Rising-append R xs ys up.1 down (λ z y c d. seam z y (contains_later x xs z c) d),
)

-- a filter behind another one that keeps all that it would keep
filter_inside : {E : Type 0} (p t : E → Bool) (xs : List E) → ((x : E) → Contains xs x → t x ≡ true → p x ≡ true) → filter t (filter p xs) ≡ filter t xs
filter_inside p t [] keeps = refl
filter_inside p t (x ∷ xs) keeps =
    let rest : filter t (filter p xs) ≡ filter t xs = filter_inside p t xs (λ y c. keeps y (contains_later x xs y c)) in
    cond_both (p x) (x ∷ filter p xs) (filter p xs) (λ zs. filter t zs ≡ filter t (x ∷ xs))
    (λ e. ap (λ (zs : List _). cond (t x) (x ∷ zs) zs) rest)
    (λ e. elim (cases_Bool (t x)) [
      | inl here ↦ absurd (true≢false (sym (keeps x (contains_here x xs) here) ∙ e))
      | inr none ↦ rest ∙ sym (ap (λ (b : Bool). cond b (x ∷ filter t xs) (filter t xs)) none)
    ])

-- ---- a row of a group has its values

pub among-own : (schema : Schema) (row : Row) (columns : List ℕ) (column : ℕ) → Contains columns column
    → value_among columns (map (column_value schema row) columns) column ≡ Number (column_value schema row column)
among-own schema row [] column here = absurd (contains_none column here)
among-own schema row (c ∷ columns) column here = elim (cases_Bool (c == column)) [
  | inl same ↦
      ap (λ (b : Bool). cond b (Number (column_value schema row c)) (value_among columns (map (column_value schema row) columns) column)) same
      ∙ ap (λ (n : ℕ). Number (column_value schema row n)) (eqb-true c column same)
  | inr apart ↦
      let there : Contains columns column = elim (contains_cases c columns column here) [
        | inl e ↦ absurd (true≢false (sym (eq-eqb c column e) ∙ apart))
        | inr more ↦ more
      ] in
      ap (λ (b : Bool). cond b (Number (column_value schema row c)) (value_among columns (map (column_value schema row) columns) column)) apart
      ∙ among-own schema row columns column there
]

-- the cell of a group in one of its columns is that of each row with its values
pub cell_of_row : (schema : Schema) (columns : List ℕ) (column : ℕ) → Contains columns column → (row : Row) (values : List ℤ)
    → values_of schema columns row ≡ values → value_among columns values column ≡ row_cell schema row (Column column)
cell_of_row schema columns column here row values is =
    ap (λ (vs : List ℤ). value_among columns vs column) (sym is) ∙ among-own schema row columns column here

-- each group has the values of some row
row_of : (schema : Schema) (columns : List ℕ) (rows : List Row) (groups : List Group) → IsGrouping schema columns rows groups
    → (g : Group) → Contains groups g → (row : Row) × Contains rows row × (values_of schema columns row ≡ g.values)
row_of schema columns rows groups a g here =
    contains_from_map (values_of schema columns) rows g.values ((a.values g.values).0 (contains_map (λ g. g.values) groups g here))

-- the group of each row
group_of : (schema : Schema) (columns : List ℕ) (rows : List Row) (groups : List Group) → IsGrouping schema columns rows groups
    → (row : Row) → Contains rows row → (g : Group) × Contains groups g × (g.values ≡ values_of schema columns row)
group_of schema columns rows groups a row here =
    contains_from_map (λ g. g.values) groups (values_of schema columns row)
    ((a.values (values_of schema columns row)).1 (contains_map (values_of schema columns) rows row here))

-- ---- the first rows, and the others

-- each of the first rows stands before each of the others in this column
abbrev IsLedBy : Schema → ℕ → Bool → (Row → Bool) → List Row → Type 0
IsLedBy schema column is_descending is_first rows = (a b : Row) → Contains rows a → Contains rows b → is_first a ≡ true → is_first b ≡ false
    → IsAhead is_descending (row_cell schema a (Column column)) (row_cell schema b (Column column))

module _ (schema : Schema) (columns : List ℕ) (column : ℕ) (here : Contains columns column) (is_descending : Bool) (is_first : Row → Bool) (rows : List Row)
    (led : IsLedBy schema column is_descending is_first rows) (firsts others : List Group)
    (a : IsGrouping schema columns (filter is_first rows) firsts) (b : IsGrouping schema columns (filter (λ row. not (is_first row)) rows) others) where
  -- no two of them have the same values
  apart : (x y : Row) → Contains rows x → Contains rows y → is_first x ≡ true → is_first y ≡ false → values_of schema columns x ≢ values_of schema columns y
  apart x y in_x in_y first later same =
      let cells : row_cell schema x (Column column) ≡ row_cell schema y (Column column) =
      sym (among-own schema x columns column here) ∙ cell_of_row schema columns column here y (values_of schema columns x) (sym same) in
      ahead-never is_descending (row_cell schema y (Column column))
      (subst (λ (c : Cell). IsAhead is_descending c (row_cell schema y (Column column))) cells (led x y in_x in_y first later))

  first_row : (g : Group) → Contains firsts g → (row : Row) × Contains rows row × (is_first row ≡ true) × (values_of schema columns row ≡ g.values)
  first_row g c =
      let (row, within, is) = row_of schema columns (filter is_first rows) firsts a g c in
      let kept = contains_from_filter is_first rows row within in
      (row, kept.0, kept.1, is)

  other_row : (g : Group) → Contains others g → (row : Row) × Contains rows row × (is_first row ≡ false) × (values_of schema columns row ≡ g.values)
  other_row g c =
      let (row, within, is) = row_of schema columns (filter (λ row. not (is_first row)) rows) others b g c in
      let kept = contains_from_filter (λ row. not (is_first row)) rows row within in
      (row, kept.0, not-true (is_first row) kept.1, is)

  first_members : (g : Group) → Contains firsts g → g.rows ≡ rows_with schema columns rows g.values
  first_members g c =
      let (x, in_x, first, is) = first_row g c in
      All-contains (λ g. g.rows ≡ rows_with schema columns (filter is_first rows) g.values) firsts g a.members c
      ∙ filter_inside is_first (λ row. are_same (values_of schema columns row) g.values) rows
      (λ y in_y same. elim (cases_Bool (is_first y)) [
        | inl e ↦ e
        | inr e ↦ absurd (apart x y in_x in_y first e (is ∙ sym (are_same-true (values_of schema columns y) g.values same)))
      ])

  other_members : (g : Group) → Contains others g → g.rows ≡ rows_with schema columns rows g.values
  other_members g c =
      let (y, in_y, later, is) = other_row g c in
      All-contains (λ g. g.rows ≡ rows_with schema columns (filter (λ row. not (is_first row)) rows) g.values) others g b.members c
      ∙ filter_inside (λ row. not (is_first row)) (λ row. are_same (values_of schema columns row) g.values) rows
      (λ x in_x same. elim (cases_Bool (is_first x)) [
        | inl e ↦ absurd (apart x y in_x in_y e later (are_same-true (values_of schema columns x) g.values same ∙ sym is))
        | inr e ↦ ap not e
      ])

  values_apart : Rising (λ g h. g.values ≢ h.values) (firsts ++ others)
  values_apart =
      Rising-append (λ g h. g.values ≢ h.values) firsts others
      (Rising-from_pairs (λ g h. g.values ≢ h.values) firsts a.apart) (Rising-from_pairs (λ g h. g.values ≢ h.values) others b.apart)
      (λ g h c d same.
      let (x, in_x, first, is_x) = first_row g c in
      let (y, in_y, later, is_y) = other_row h d in
      apart x y in_x in_y first later (is_x ∙ same ∙ sym is_y))

  some_row : (g : Group) → (row : Row) → Contains rows row → values_of schema columns row ≡ g.values → Contains (map (values_of schema columns) rows) g.values
  some_row g row within is =
      subst (λ (vs : List ℤ). Contains (map (values_of schema columns) rows) vs) is (contains_map (values_of schema columns) rows row within)

  some_group : (row : Row) (g : Group) → Contains (firsts ++ others) g → g.values ≡ values_of schema columns row
      → Contains (map (λ g. g.values) (firsts ++ others)) (values_of schema columns row)
  some_group row g within is =
      subst (λ (vs : List ℤ). Contains (map (λ g. g.values) (firsts ++ others)) vs) is (contains_map (λ g. g.values) (firsts ++ others) g within)

  grouped_row : (row : Row) → Contains rows row → Contains (map (λ g. g.values) (firsts ++ others)) (values_of schema columns row)
  grouped_row row within = elim (cases_Bool (is_first row)) [
    | inl first ↦
        let (g, c, is) = group_of schema columns (filter is_first rows) firsts a row (contains_filter is_first rows row within first) in
        some_group row g (Contains-append_left firsts others g c) is
    | inr later ↦
        let (g, c, is) = group_of schema columns (filter (λ row. not (is_first row)) rows) others b row
        (contains_filter (λ row. not (is_first row)) rows row within (ap not later)) in
        some_group row g (Contains-append_right firsts others g c) is
  ]

  pub both_grouped : IsGrouping schema columns rows (firsts ++ others)
  both_grouped =
      grouping_from schema columns rows (firsts ++ others) values_apart
      (all_append (λ g. Contains (map (values_of schema columns) rows) g.values) firsts others
      (all_from_contains (λ g. Contains (map (values_of schema columns) rows) g.values) firsts
      (λ g c. let (row, within, first, is) = first_row g c in some_row g row within is))
      (all_from_contains (λ g. Contains (map (values_of schema columns) rows) g.values) others
      (λ g c. let (row, within, later, is) = other_row g c in some_row g row within is)))
      (all_from_contains (λ row. Contains (map (λ g. g.values) (firsts ++ others)) (values_of schema columns row)) rows grouped_row)
      (all_append (λ g. g.rows ≡ rows_with schema columns rows g.values) firsts others
      (all_from_contains (λ g. g.rows ≡ rows_with schema columns rows g.values) firsts first_members)
      (all_from_contains (λ g. g.rows ≡ rows_with schema columns rows g.values) others other_members))

  -- a row of a first group stands before one of another group
  pub rows_ahead : (g h : Group) → Contains firsts g → Contains others h → (x : Row) × (y : Row)
      × (values_of schema columns x ≡ g.values) × (values_of schema columns y ≡ h.values)
      × IsAhead is_descending (row_cell schema x (Column column)) (row_cell schema y (Column column))
  rows_ahead g h c d =
      let (x, in_x, first, is_x) = first_row g c in
      let (y, in_y, later, is_y) = other_row h d in
      (x, y, is_x, is_y, led x y in_x in_y first later)

-- ---- the order

same_key : (k m : SortKey) → Some k ≡ Some m → k ≡ m
same_key k m same = cc

same_column : (c d : ℕ) → Column c ≡ Column d → c ≡ d
same_column c d same = cc

-- where rows of theirs stand one before the other along the lead, so do the groups in the order asked
before_by_lead : (schema : Schema) (first : ℕ) (group : List ℕ) (order : List SortKey) (column : ℕ) (is_descending : Bool) → Contains (first ∷ group) column
    → group_lead (first ∷ group) order ≡ Some (record { item = Column column; is_descending = is_descending })
    → (g h : Group) (x y : Row) → values_of schema (first ∷ group) x ≡ g.values → values_of schema (first ∷ group) y ≡ h.values
    → IsAhead is_descending (row_cell schema x (Column column)) (row_cell schema y (Column column))
    → IsGroupBefore schema (first ∷ group) order g h
before_by_lead schema first group [] column is_descending here lead g h x y is_x is_y ahead =
    let same = same_key (record { item = Column first; is_descending = false }) (record { item = Column column; is_descending = is_descending }) lead in
    let is : first ≡ column = same_column first column (ap (λ (k : SortKey). k.item) same) in
    let up : false ≡ is_descending = ap (λ (k : SortKey). k.is_descending) same in
    let below : IsAhead false (row_cell schema x (Column first)) (row_cell schema y (Column first)) =
    subst (λ (c : ℕ). IsAhead false (row_cell schema x (Column c)) (row_cell schema y (Column c))) (sym is)
    (subst (λ (d : Bool). IsAhead d (row_cell schema x (Column column)) (row_cell schema y (Column column))) (sym up) ahead) in
    subst (λ (vs : List ℤ). AreBelow vs h.values) is_x (subst (λ (vs : List ℤ). AreBelow (values_of schema (first ∷ group) x) vs) is_y (inl below))
before_by_lead schema first group (key ∷ keys) column is_descending here lead g h x y is_x is_y ahead =
    let same = same_key key (record { item = Column column; is_descending = is_descending }) lead in
    let mine = cell_of_row schema (first ∷ group) column here x g.values is_x in
    let theirs = cell_of_row schema (first ∷ group) column here y h.values is_y in
    inl (subst (λ (k : SortKey). IsAhead k.is_descending (group_cell schema (first ∷ group) g k.item) (group_cell schema (first ∷ group) h k.item)) (sym same)
    (subst (λ (c : Cell). IsAhead is_descending c (value_among (first ∷ group) h.values column)) (sym mine)
    (subst (λ (c : Cell). IsAhead is_descending (row_cell schema x (Column column)) c) (sym theirs) ahead)))

pub groups-chain : (a b c : Group) → AreBelow a.values b.values → AreBelow b.values c.values → AreBelow a.values c.values
groups-chain a b c g h = lists-chain a.values b.values c.values g h

-- elements of an arrangement are those arranged
from_arrangement : {E : Type 0} (R : E → E → Type 0) (xs arranged : List E) → IsArrangement R xs arranged → (x : E) → Contains arranged x → Contains xs x
from_arrangement R xs arranged is x c = Contains-permutation arranged xs x (IsPermutation-sym xs arranged is.same) c

both_arranged : {E : Type 0} (R : E → E → Type 0) → ((x y z : E) → R x y → R y z → R x z) → (xs ys front back : List E)
    → IsArrangement R xs front → IsArrangement R ys back → ((x y : E) → Contains xs x → Contains ys y → R x y) → IsArrangement R (xs ++ ys) (front ++ back)
both_arranged R chain xs ys front back a b seam = record {
  same = IsPermutation-append xs front ys back a.same b.same;
  ordered = adjacent-from_Rising R (front ++ back)
      (Rising-append R front back (Rising-from_adjacent R chain front a.ordered) (Rising-from_adjacent R chain back b.ordered)
      (λ x y c d. seam x y (from_arrangement R xs front a x c) (from_arrangement R ys back b y d)));
}

pub groups_follow : (schema : Schema) (columns : List ℕ) (order : List SortKey) (column : ℕ) (is_descending : Bool) (is_first : Row → Bool) (rows : List Row)
    (firsts others front back : List Group)
    → group_lead columns order ≡ Some (record { item = Column column; is_descending = is_descending }) → Contains columns column
    → IsLedBy schema column is_descending is_first rows
    → AreGroups schema columns (filter is_first rows) firsts → AreGroups schema columns (filter (λ row. not (is_first row)) rows) others
    → IsArrangement (IsGroupBefore schema columns order) firsts front → IsArrangement (IsGroupBefore schema columns order) others back
    → AreGroups schema columns rows (firsts ++ others) × IsArrangement (IsGroupBefore schema columns order) (firsts ++ others) (front ++ back)
groups_follow schema [] order column is_descending is_first rows firsts others front back lead here led a b p q = absurd (contains_none column here)
groups_follow schema (first ∷ group) order column is_descending is_first rows firsts others front back lead here led a b p q = (
  both_grouped schema (first ∷ group) column here is_descending is_first rows led firsts others a b,
  both_arranged (IsGroupBefore schema (first ∷ group) order)
      (before-chain (group_cell schema (first ∷ group)) (λ a b. AreBelow a.values b.values) groups-chain order)
      firsts others front back p q
      (λ g h c d.
      let (x, y, is_x, is_y, ahead) = rows_ahead schema (first ∷ group) column here is_descending is_first rows led firsts others a b g h c d in
      before_by_lead schema first group order column is_descending here lead g h x y is_x is_y ahead),
)
