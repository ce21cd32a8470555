-- The groups of the rows that a sweep has given, value by value.
use Rattle.std.proofs.Common.{◌≡◌, ◌≢◌, ◌<◌, ◌≤◌, ◌∙◌, ℕ, Bool, true, false, not, List, [], ◌∷◌, ◌++◌, Contains, IsPermutation, filter, length, slice_index, take, inl, inr, refl, sym, ap, subst}
use Rattle.std.proofs.lemmas.Bool.{true≢false}
use Rattle.std.proofs.lemmas.List.{take_all}
use Rattle.std.proofs.lemmas.List.Elements.{All-contains, All-from_recursion, Contains-append_cases, Contains-append_left, Contains-append_right}
use Rattle.std.proofs.lemmas.List.Sorted.{Contains-permutation, IsPermutation-refl, IsPermutation-sym}
use Rattle.std.specs.List.{All, AllByRecursion}
use Rattle.ub_exec.proofs.LedFacts.{IsLedBy, ahead}
use Rattle.ub_planning.proofs.Laws.{along_chain, along_never, last_among, not_past, past_not}
use Rattle.ub_planning.specs.Visits.{IsAlong, coordinates, is_past, last_of, lead_coordinate}
use Rattle.ub_query.proofs.Laws.{IsWhole, Rising, Rising-filter, Rising-one, all_at, all_from_contains, contains_filter, contains_from_filter, contains_here, groups_have_an_arrangement, numbers-chain, numbers-never, rows-rising, rows_fall_into_groups, selected_are_in_order, whole_groups}
use Rattle.ub_query.specs.Cells.{Group, row_cell}
use Rattle.ub_query.specs.Groups.{AreGroups, is_selected, rows_with, selected, values_of, are_same}
use Rattle.ub_query.specs.Laws.{GroupsFollowTheLead}
use Rattle.ub_query.specs.Lead.{AreGroupsInOrder}
use Rattle.ub_query.specs.Order.{IsAhead}
use Rattle.ub_query.specs.Shape.{Asked}
use Rattle.ub_query.specs.declared.query.Item.TheVariants.{Column}
use Rattle.ub_region.specs.Regions.{AreTableRows, rows_of}
use Rattle.ub_table.specs.Region.{RegionRows}
use Rattle.ub_table.specs.Table.{IsInOrder}
use Rattle.ub_table.specs.declared.row.Row.{Row}
use Rattle.ub_table.specs.declared.schema.Schema.{Schema}

-- the selected rows of a table with these rows
abbrev pub chosen : Schema → Asked → List Row → List Row
chosen schema q table = selected (record { schema = schema; rows = table }) q.filter

-- a row's coordinate in the sweep's dimension
abbrev pub at : ℕ → Row → ℕ
at dim row = slice_index row.dims dim

-- all rows given lie before those still to be given, and these are the groups of the ones given
pub record AreGivenGroups (schema : Schema) (q : Asked) (dim : ℕ) (is_descending : Bool) (regions : List RegionRows) (given rest : List Row) (groups : List Group) : Type 0 where
  pub is_given : Row → Bool
  pub taken : AllByRecursion (λ row. is_given row ≡ true) given
  pub left : AllByRecursion (λ row. is_given row ≡ false) rest
  pub apart : AllByRecursion (λ a. AllByRecursion (λ b. IsAlong is_descending (at dim a) (at dim b)) rest) given
  pub groups_are : (table : List Row) → AreTableRows regions table → AreGroupsInOrder schema q (filter is_given (chosen schema q table)) groups

-- a row's value in the dimension comes before another's
abbrev pub IsAheadIn : Schema → ℕ → Bool → Row → Row → Type 0
IsAheadIn schema dim is_descending a b = IsAhead is_descending (row_cell schema a (Column dim)) (row_cell schema b (Column dim))

not_given : (b : Bool) → not b ≡ true → b ≡ false
not_given true t = absurd (true≢false (sym t))
not_given false t = refl

-- ---- rows in order of number

same_in_order : (xs ys : List Row) → Rising (λ a b. a.number < b.number) xs → Rising (λ a b. a.number < b.number) ys
    → ((row : Row) → Contains xs row → Contains ys row) → ((row : Row) → Contains ys row → Contains xs row) → xs ≡ ys
same_in_order xs ys = Rising-one (λ a b. a.number < b.number) numbers-never numbers-chain xs ys

chosen_rise : (schema : Schema) (q : Asked) (table : List Row) → IsInOrder table → Rising (λ a b. a.number < b.number) (chosen schema q table)
chosen_rise schema q table order = rows-rising (chosen schema q table) (selected_are_in_order (record { schema = schema; rows = table }) q.filter order)

-- ---- rows of which all are selected

pub all_selected : (rows : List Row) → filter (λ row. true) rows ≡ rows
all_selected [] = refl
all_selected (row ∷ rows) = ap (λ (rs : List Row). row ∷ rs) (all_selected rows)

-- all of them were taken
pub all_taken : (rows : List Row) (i : ℕ) → length rows ≤ i → IsPermutation (filter (λ row. true) rows) (take i rows)
all_taken rows i far =
    subst (λ (rs : List Row). IsPermutation rs (take i rows)) (sym (all_selected rows)) (subst (λ (rs : List Row). IsPermutation rows rs) (sym (take_all i rows far)) (IsPermutation-refl rows))

-- ---- the coordinates of groups

last_row : (dim : ℕ) (P : ℕ → Type 0) (rows : List Row) → rows ≢ [] → AllByRecursion (λ row. P (at dim row)) rows → P (last_of (coordinates dim rows))
last_row dim P [] some all = absurd (some refl)
last_row dim P (row ∷ rows) some all = last_among P (at dim row) (coordinates dim rows) all.0 (mapped rows all.1)
  where
    mapped : (rows : List Row) → AllByRecursion (λ row. P (at dim row)) rows → AllByRecursion P (coordinates dim rows)
    mapped [] all = tt
    mapped (row ∷ rows) all = (all.0, mapped rows all.1)

group_led : (schema : Schema) (columns : List ℕ) (dim : ℕ) (P : ℕ → Type 0) (rows : List Row) (groups : List Group) → columns ≢ [] → AreGroups schema columns rows groups
    → AllByRecursion (λ row. P (at dim row)) rows → (g : Group) → Contains groups g → P (lead_coordinate dim g)
group_led schema [] dim P rows groups some are all g there = absurd (some refl)
group_led schema (column ∷ columns) dim P rows groups some are all g there =
    let whole = all_at (λ g. IsWhole (column ∷ columns) g) groups g (whole_groups schema (column ∷ columns) rows groups are) there in
    let members : g.rows ≡ rows_with schema (column ∷ columns) rows g.values = All-contains (λ g. g.rows ≡ rows_with schema (column ∷ columns) rows g.values) groups g are.members there in
    last_row dim P g.rows whole.some
    (all_from_contains (λ row. P (at dim row)) g.rows
    (λ row has. all_at (λ row. P (at dim row)) rows row all
    (contains_from_filter (λ row. are_same (values_of schema (column ∷ columns) row) g.values) rows row (subst (λ (rs : List Row). Contains rs row) members has)).0))

-- what holds of the coordinates of all rows holds of those of their groups
pub groups_led : (schema : Schema) (q : Asked) (dim : ℕ) (P : ℕ → Type 0) (rows : List Row) (arranged : List Group) → q.group ≢ [] → AreGroupsInOrder schema q rows arranged
    → AllByRecursion (λ row. P (at dim row)) rows → AllByRecursion (λ g. P (lead_coordinate dim g)) arranged
groups_led schema q dim P rows arranged some are all =
    all_from_contains (λ g. P (lead_coordinate dim g)) arranged
    (λ g there. group_led schema q.group dim P rows are.groups some are.grouped all g
    (Contains-permutation arranged are.groups g (IsPermutation-sym are.groups arranged are.ordered.same) there))

-- ---- nothing is given yet

no_rows : (xs : List Row) → filter (λ row. false) xs ≡ []
no_rows [] = refl
no_rows (x ∷ xs) = no_rows xs

nothing : (schema : Schema) (q : Asked) → q.group ≢ [] → AreGroupsInOrder schema q [] []
nothing schema q some =
    let (found, grouped) = rows_fall_into_groups schema q.group [] in
    let (arranged, ordered) = groups_have_an_arrangement schema q.group q.order [] found grouped in
    subst (λ (groups : List Group). AreGroupsInOrder schema q [] groups)
    (none arranged (groups_led schema q 0 (λ n. ⊥) [] arranged some (record { groups = found; grouped = grouped; ordered = ordered }) tt)) (record { groups = found; grouped = grouped; ordered = ordered })
  where
    none : (groups : List Group) → AllByRecursion (λ g. ⊥) groups → groups ≡ []
    none [] all = refl
    none (g ∷ groups) all = absurd all.0

pub AreGivenGroups-none : (schema : Schema) (q : Asked) (dim : ℕ) (is_descending : Bool) (regions : List RegionRows) (rest : List Row) → q.group ≢ []
    → AreGivenGroups schema q dim is_descending regions [] rest []
AreGivenGroups-none schema q dim is_descending regions rest some = record {
  is_given = λ row. false;
  taken = tt;
  left = all_from_contains (λ row. false ≡ false) rest (λ row there. refl);
  apart = tt;
  groups_are = λ table are. subst (λ (rows : List Row). AreGroupsInOrder schema q rows []) (sym (no_rows (chosen schema q table))) (nothing schema q some);
}

-- ---- the rows given and those to come

module _ (schema : Schema) (q : Asked) (dim : ℕ) (is_descending : Bool) (regions : List RegionRows) (given rest : List Row) (groups : List Group)
    (same : IsPermutation (filter (is_selected schema q.filter) (rows_of regions)) (given ++ rest)) (so_far : AreGivenGroups schema q dim is_descending regions given rest groups) where
  in_parts : (table : List Row) → AreTableRows regions table → (row : Row) → Contains (chosen schema q table) row → Contains (given ++ rest) row
  in_parts table are row there =
      let from = contains_from_filter (is_selected schema q.filter) table row there in
      Contains-permutation (filter (is_selected schema q.filter) (rows_of regions)) (given ++ rest) row same
      (contains_filter (is_selected schema q.filter) (rows_of regions) row ((are.same row).0 from.0) from.1)

  from_parts : (table : List Row) → AreTableRows regions table → (row : Row) → Contains (given ++ rest) row → Contains (chosen schema q table) row
  from_parts table are row there =
      let from = contains_from_filter (is_selected schema q.filter) (rows_of regions) row
      (Contains-permutation (given ++ rest) (filter (is_selected schema q.filter) (rows_of regions)) row (IsPermutation-sym (filter (is_selected schema q.filter) (rows_of regions)) (given ++ rest) same) there) in
      contains_filter (is_selected schema q.filter) table row ((are.same row).1 from.0) from.1

  given_of : (table : List Row) → AreTableRows regions table → (row : Row) → Contains (chosen schema q table) row → so_far.is_given row ≡ true → Contains given row
  given_of table are row there t = elim (Contains-append_cases given rest row (in_parts table are row there)) [
    | inl gone ↦ gone
    | inr later ↦ absurd (true≢false (sym t ∙ all_at (λ row. so_far.is_given row ≡ false) rest row so_far.left later))
  ]

  pub rest_of : (table : List Row) → AreTableRows regions table → (row : Row) → Contains (chosen schema q table) row → so_far.is_given row ≡ false → Contains rest row
  rest_of table are row there f = elim (Contains-append_cases given rest row (in_parts table are row there)) [
    | inl gone ↦ absurd (true≢false (sym (all_at (λ row. so_far.is_given row ≡ true) given row so_far.taken gone) ∙ f))
    | inr later ↦ later
  ]

  -- those given are ahead of the others in the order of the lead
  all_ahead : (table : List Row) → AreTableRows regions table → dim < schema.dims → (rows : List Row) → ((row : Row) → Contains rows row → Contains (chosen schema q table) row)
      → All (λ a. so_far.is_given a ≡ true → All (λ b. so_far.is_given b ≡ false → IsAheadIn schema dim is_descending a b) rows) rows
  all_ahead table are within rows among =
      All-from_recursion (λ a. so_far.is_given a ≡ true → All (λ b. so_far.is_given b ≡ false → IsAheadIn schema dim is_descending a b) rows) rows
      (all_from_contains (λ a. so_far.is_given a ≡ true → All (λ b. so_far.is_given b ≡ false → IsAheadIn schema dim is_descending a b) rows) rows
      (λ a in_a t. All-from_recursion (λ b. so_far.is_given b ≡ false → IsAheadIn schema dim is_descending a b) rows
      (all_from_contains (λ b. so_far.is_given b ≡ false → IsAheadIn schema dim is_descending a b) rows
      (λ b in_b f. ahead schema dim is_descending a b within
      (all_at (λ b. IsAlong is_descending (at dim a) (at dim b)) rest b
      (all_at (λ a. AllByRecursion (λ b. IsAlong is_descending (at dim a) (at dim b)) rest) given a so_far.apart (given_of table are a (among a in_a) t))
      (rest_of table are b (among b in_b) f))))))

  -- the groups of all selected rows: those of the rows given, and then those of the others
  pub whole : GroupsFollowTheLead → IsLedBy schema q dim is_descending → (table : List Row) → AreTableRows regions table
      → (back : List Group) × AreGroupsInOrder schema q (chosen schema q table) (groups ++ back) × AreGroupsInOrder schema q (filter (λ row. not (so_far.is_given row)) (chosen schema q table)) back
  whole follow led table are =
      let others = filter (λ row. not (so_far.is_given row)) (chosen schema q table) in
      let (found, grouped) = rows_fall_into_groups schema q.group others in
      let (back, ordered) = groups_have_an_arrangement schema q.group q.order others found grouped in
      let back_are : AreGroupsInOrder schema q others back = record { groups = found; grouped = grouped; ordered = ordered } in (
        back,
        follow schema q dim is_descending so_far.is_given (chosen schema q table) groups back led.lead led.there
            (all_ahead table are led.within (chosen schema q table) (λ row there. there)) (so_far.groups_are table are) back_are,
        back_are,
      )

  -- what holds of the coordinates of all rows to come holds of those of their groups
  pub back_led : (P : ℕ → Type 0) → q.group ≢ [] → (table : List Row) → AreTableRows regions table → (back : List Group)
      → AreGroupsInOrder schema q (filter (λ row. not (so_far.is_given row)) (chosen schema q table)) back
      → AllByRecursion (λ row. P (at dim row)) rest → AllByRecursion (λ g. P (lead_coordinate dim g)) back
  back_led P some table are back back_are all =
      let others = filter (λ row. not (so_far.is_given row)) (chosen schema q table) in
      groups_led schema q dim P others back some back_are
      (all_from_contains (λ row. P (at dim row)) others
      (λ row there.
      let from = contains_from_filter (λ row. not (so_far.is_given row)) (chosen schema q table) row there in
      all_at (λ row. P (at dim row)) rest row all (rest_of table are row from.0 (not_given (so_far.is_given row) from.1))))

  -- ---- the rows of the next value were given

  module _ (value : ℕ) (rows more : List Row) (last : List Group) (next : rest ≡ rows ++ more) (some : rows ≢ [])
      (of_value : AllByRecursion (λ row. at dim row ≡ value) rows) (past : AllByRecursion (λ row. IsAlong is_descending value (at dim row)) more)
      (by_number : IsInOrder rows) (last_are : AreGroupsInOrder schema q rows last) where
    abbrev pub is_given_then : Row → Bool
    is_given_then row = not (is_past is_descending value (at dim row))

    -- a row given before lies before the value
    before_value : (row : Row) → Contains given row → IsAlong is_descending (at dim row) value
    before_value row gone = by_rows rows some next of_value
      where
        by_rows : (rows : List Row) → rows ≢ [] → rest ≡ rows ++ more → AllByRecursion (λ row. at dim row ≡ value) rows → IsAlong is_descending (at dim row) value
        by_rows [] some next of_value = absurd (some refl)
        by_rows (first ∷ rows) some next of_value =
            subst (λ (v : ℕ). IsAlong is_descending (at dim row) v) of_value.0
            (all_at (λ b. IsAlong is_descending (at dim row) (at dim b)) rest first (all_at (λ a. AllByRecursion (λ b. IsAlong is_descending (at dim a) (at dim b)) rest) given row so_far.apart gone)
            (subst (λ (rs : List Row). Contains rs first) (sym next) (contains_here first (rows ++ more))))

    in_rest : (row : Row) → Contains rows row → Contains rest row
    in_rest row there = subst (λ (rs : List Row). Contains rs row) (sym next) (Contains-append_left rows more row there)

    late_rest : (row : Row) → Contains more row → Contains rest row
    late_rest row there = subst (λ (rs : List Row). Contains rs row) (sym next) (Contains-append_right rows more row there)

    taken_then : (row : Row) → Contains (given ++ rows) row → is_given_then row ≡ true
    taken_then row there = elim (Contains-append_cases given rows row there) [
      | inl gone ↦ not_past is_descending value (at dim row) (λ back. along_never is_descending value (along_chain is_descending value (at dim row) value back (before_value row gone)))
      | inr now ↦
          let is : at dim row ≡ value = all_at (λ row. at dim row ≡ value) rows row of_value now in
          not_past is_descending value (at dim row) (subst (λ (v : ℕ). ¬ (IsAlong is_descending value v)) (sym is) (along_never is_descending value))
    ]

    left_then : (row : Row) → Contains more row → is_given_then row ≡ false
    left_then row there = past_not is_descending value (at dim row) (all_at (λ row. IsAlong is_descending value (at dim row)) more row past there)

    apart_then : (a b : Row) → Contains (given ++ rows) a → Contains more b → IsAlong is_descending (at dim a) (at dim b)
    apart_then a b there later =
        let after : IsAlong is_descending value (at dim b) = all_at (λ row. IsAlong is_descending value (at dim row)) more b past later in
        elim (Contains-append_cases given rows a there) [
          | inl gone ↦ along_chain is_descending (at dim a) value (at dim b) (before_value a gone) after
          | inr now ↦ subst (λ (v : ℕ). IsAlong is_descending v (at dim b)) (sym (all_at (λ row. at dim row ≡ value) rows a of_value now)) after
        ]

    -- the rows given up to this value, in two parts
    front_same : (table : List Row) → AreTableRows regions table → filter so_far.is_given (filter is_given_then (chosen schema q table)) ≡ filter so_far.is_given (chosen schema q table)
    front_same table are =
        let all = chosen schema q table in
        let up = chosen_rise schema q table are.ascending in
        same_in_order (filter so_far.is_given (filter is_given_then all)) (filter so_far.is_given all)
        (Rising-filter (λ a b. a.number < b.number) so_far.is_given (filter is_given_then all) (Rising-filter (λ a b. a.number < b.number) is_given_then all up))
        (Rising-filter (λ a b. a.number < b.number) so_far.is_given all up)
        (λ row there.
        let from = contains_from_filter so_far.is_given (filter is_given_then all) row there in
        contains_filter so_far.is_given all row (contains_from_filter is_given_then all row from.0).0 from.1)
        (λ row there.
        let from = contains_from_filter so_far.is_given all row there in
        contains_filter so_far.is_given (filter is_given_then all) row
        (contains_filter is_given_then all row from.0 (taken_then row (Contains-append_left given rows row (given_of table are row from.0 from.1)))) from.1)

    back_same : (table : List Row) → AreTableRows regions table → filter (λ row. not (so_far.is_given row)) (filter is_given_then (chosen schema q table)) ≡ rows
    back_same table are =
        let all = chosen schema q table in
        let up = chosen_rise schema q table are.ascending in
        same_in_order (filter (λ row. not (so_far.is_given row)) (filter is_given_then all)) rows
        (Rising-filter (λ a b. a.number < b.number) (λ row. not (so_far.is_given row)) (filter is_given_then all) (Rising-filter (λ a b. a.number < b.number) is_given_then all up))
        (rows-rising rows by_number)
        (λ row there.
        let from = contains_from_filter (λ row. not (so_far.is_given row)) (filter is_given_then all) row there in
        let up_to = contains_from_filter is_given_then all row from.0 in
        let later : Contains rest row = rest_of table are row up_to.0 (not_given (so_far.is_given row) from.1) in
        elim (Contains-append_cases rows more row (subst (λ (rs : List Row). Contains rs row) next later)) [
          | inl now ↦ now
          | inr late ↦ absurd (true≢false (sym up_to.1 ∙ left_then row late))
        ])
        (λ row there.
        contains_filter (λ row. not (so_far.is_given row)) (filter is_given_then all) row
        (contains_filter is_given_then all row (from_parts table are row (Contains-append_right given rest row (in_rest row there))) (taken_then row (Contains-append_right given rows row there)))
        (ap not (all_at (λ row. so_far.is_given row ≡ false) rest row so_far.left (in_rest row there))))

    pub AreGivenGroups-more : GroupsFollowTheLead → IsLedBy schema q dim is_descending → AreGivenGroups schema q dim is_descending regions (given ++ rows) more (groups ++ last)
    AreGivenGroups-more follow led = record {
      is_given = is_given_then;
      taken = all_from_contains (λ row. is_given_then row ≡ true) (given ++ rows) taken_then;
      left = all_from_contains (λ row. is_given_then row ≡ false) more left_then;
      apart = all_from_contains (λ a. AllByRecursion (λ b. IsAlong is_descending (at dim a) (at dim b)) more) (given ++ rows)
          (λ a there. all_from_contains (λ b. IsAlong is_descending (at dim a) (at dim b)) more (λ b later. apart_then a b there later));
      groups_are = λ table are.
          let all = filter is_given_then (chosen schema q table) in
          follow schema q dim is_descending so_far.is_given all groups last led.lead led.there
          (all_ahead table are led.within all (λ row there. (contains_from_filter is_given_then (chosen schema q table) row there).0))
          (subst (λ (rs : List Row). AreGroupsInOrder schema q rs groups) (sym (front_same table are)) (so_far.groups_are table are))
          (subst (λ (rs : List Row). AreGroupsInOrder schema q rs last) (sym (back_same table are)) last_are);
    }
