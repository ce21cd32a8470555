-- What a sweep of groups has given and fetched, value by value, as lists alone.
use Rattle.std.proofs.Common.{◌≡◌, ◌≢◌, ◌<◌, ◌≤◌, ◌∙◌, ℕ, zero, suc, Bool, List, [], ◌∷◌, ◌++◌, Option, Some, None, IfSome, Contains, IsPermutation, filter, length, map, take, inl, inr, refl, sym, ap, subst, arith}
use Rattle.std.proofs.lemmas.Bool.{cases_lt}
use Rattle.std.proofs.lemmas.List.{length-map, length-take, length-take-le, map-append, take-map, take-take}
use Rattle.std.proofs.lemmas.List.Elements.{Contains-append_cases}
use Rattle.std.specs.List.{AllByRecursion}
use Rattle.ub_exec.proofs.GivenFacts.{AreGivenGroups, AreGivenGroups-none, AreGivenGroups-more, at, groups_led}
use Rattle.ub_exec.proofs.GroupVisitFacts.{group_lines}
use Rattle.ub_exec.proofs.LedFacts.{IsLedBy}
use Rattle.ub_planning.proofs.Laws.{AreUpTo, StopsAt, along_chain, last_within}
use Rattle.ub_planning.specs.Plan.{PlanView}
use Rattle.ub_planning.specs.Visits.{Event, IsAlong, last_of, lead_coordinate}
use Rattle.ub_query.proofs.Laws.{all_at, all_from_contains, all_weaker}
use Rattle.ub_query.specs.Cells.{Group, group_cell}
use Rattle.ub_query.specs.Groups.{is_selected}
use Rattle.ub_query.specs.Laws.{GroupsFollowTheLead}
use Rattle.ub_query.specs.Lead.{AreGroupsInOrder}
use Rattle.ub_query.specs.Meaning.{limited}
use Rattle.ub_query.specs.Shape.{Asked}
use Rattle.ub_query.specs.declared.cell.Cell.{Cell}
use Rattle.ub_region.specs.Regions.{rows_of}
use Rattle.ub_table.specs.Region.{RegionRows}
use Rattle.ub_table.specs.Table.{IsInOrder}
use Rattle.ub_table.specs.declared.row.Row.{Row}
use Rattle.ub_table.specs.declared.schema.Schema.{Schema}

-- the groups given so far, of which this many rows of cells stand in the answer; no region was fetched whose event value is past a
-- row to come, and where the limit is filled, none that is past its last group, and no other is left
pub record HasGrouped (schema : Schema) (plan : PlanView) (dim : ℕ) (is_descending : Bool) (regions : List RegionRows) (given rest : List Row) (fetched unread : List Event) (cells : List (List Cell)) : Type 0 where
  pub groups : List Group
  pub so_far : AreGivenGroups schema plan.asked dim is_descending regions given rest groups
  pub cells_are : cells ≡ group_lines schema plan.asked (limited plan.asked.limit groups)
  pub behind : AllByRecursion (λ row. AreUpTo is_descending fetched (at dim row)) rest
  pub stops : (n : ℕ) → plan.asked.limit ≡ Some n → 1 ≤ n → n ≤ length groups → StopsAt is_descending (map (lead_coordinate dim) (take n groups)) fetched unread

pub HasGrouped-none : (schema : Schema) (plan : PlanView) (dim : ℕ) (is_descending : Bool) (regions : List RegionRows) (rest : List Row) (unread : List Event) → plan.asked.group ≢ []
    → HasGrouped schema plan dim is_descending regions [] rest [] unread []
HasGrouped-none schema plan dim is_descending regions rest unread some = record {
  groups = [];
  so_far = AreGivenGroups-none schema plan.asked dim is_descending regions rest some;
  cells_are = nothing plan.asked.limit;
  behind = all_from_contains (λ row. AreUpTo is_descending [] (at dim row)) rest (λ row there. tt);
  stops = λ n is some few. absurd (omega arith);
}
  where
    nothing : (limit : Option ℕ) → [] ≡ group_lines schema plan.asked (limited limit [])
    nothing None = refl
    nothing (Some zero) = refl
    nothing (Some (suc n)) = refl

-- the rows of the next value
pub record IsNextValue (dim : ℕ) (is_descending : Bool) (rest rows more : List Row) (value : ℕ) : Type 0 where
  pub some : rows ≢ []
  pub next : rest ≡ rows ++ more
  pub of_value : AllByRecursion (λ row. at dim row ≡ value) rows
  pub past : AllByRecursion (λ row. IsAlong is_descending value (at dim row)) more
  pub by_number : IsInOrder rows

-- a sweep has stepped to it: no region was fetched whose event value is past it, and no other is left
pub record HasReached (is_descending : Bool) (value : ℕ) (fetched left : List Event) : Type 0 where
  pub behind : AreUpTo is_descending fetched value
  pub ahead : AllByRecursion (λ event. IsAlong is_descending value event.value) left

-- ---- limits

limited_map : {D E : Type 0} (f : D → E) (limit : Option ℕ) (xs : List D) → limited limit (map f xs) ≡ map f (limited limit xs)
limited_map f None xs = refl
limited_map f (Some n) xs = take-map f n xs

take_nothing : {E : Type 0} (xs : List E) → take 0 xs ≡ []
take_nothing [] = refl
take_nothing (x ∷ xs) = refl

-- the first of the first ones and others are the first of all
taken_joined : {E : Type 0} (n m k : ℕ) (xs ys : List E) → n ≤ m → n ≤ k → take n (take m xs ++ take k ys) ≡ take n (xs ++ ys)
taken_joined zero m k xs ys some more = take_nothing (take m xs ++ take k ys) ∙ sym (take_nothing (xs ++ ys))
taken_joined (suc n) zero k xs ys some more = absurd (omega arith)
taken_joined (suc n) (suc m) k [] ys some more = take-take (suc n) k ys more
taken_joined (suc n) (suc m) k (x ∷ xs) ys some more = ap (λ (zs : List _). x ∷ zs) (taken_joined n m k xs ys (omega arith) (omega arith))

limited_joined : {E : Type 0} (limit : Option ℕ) (xs ys : List E) → limited limit (limited limit xs ++ limited limit ys) ≡ limited limit (xs ++ ys)
limited_joined None xs ys = refl
limited_joined (Some n) xs ys = taken_joined n n n xs ys (omega arith) (omega arith)

-- the cells of groups put after others
lines_joined : (schema : Schema) (q : Asked) (groups last : List Group) (cells more all : List (List Cell)) → cells ≡ group_lines schema q (limited q.limit groups)
    → more ≡ group_lines schema q (limited q.limit last) → all ≡ limited q.limit (cells ++ more) → all ≡ group_lines schema q (limited q.limit (groups ++ last))
lines_joined schema q groups last cells more all first second is =
    is
    ∙ ap (λ (cs : List (List Cell)). limited q.limit (cs ++ more)) first ∙ ap (λ (cs : List (List Cell)). limited q.limit (group_lines schema q (limited q.limit groups) ++ cs)) second
    ∙ ap (limited q.limit) (sym (map-append (λ group. map (group_cell schema q.group group) q.items) (limited q.limit groups) (limited q.limit last)))
    ∙ limited_map (λ group. map (group_cell schema q.group group) q.items) q.limit (limited q.limit groups ++ limited q.limit last)
    ∙ ap (group_lines schema q) (limited_joined q.limit groups last)

-- ---- how many there are

-- as many rows of cells as groups, as far as the limit goes
pub lines_full : (schema : Schema) (q : Asked) (groups : List Group) (cells : List (List Cell)) (n : ℕ) → cells ≡ group_lines schema q (limited q.limit groups) → q.limit ≡ Some n
    → n ≤ length cells → n ≤ length groups
lines_full schema q groups cells n is limit many =
    let long = ap length is ∙ length-map (limited q.limit groups) (λ group. map (group_cell schema q.group group) q.items) ∙ ap (λ (o : Option ℕ). length (limited o groups)) limit in
    let few = length-take n groups in
    omega (arith, many, long, few)

lines_short : (schema : Schema) (q : Asked) (limit : Option ℕ) (groups : List Group) (cells : List (List Cell)) → cells ≡ group_lines schema q (limited limit groups)
    → IfSome limit (λ n. length cells < n) → IfSome limit (λ n. length groups < n)
lines_short schema q None groups cells is short = tt
lines_short schema q (Some n) groups cells is short =
    let long = ap length is ∙ length-map (take n groups) (λ group. map (group_cell schema q.group group) q.items) in
    elim (cases_lt (length groups) n) [
      | inl lt ↦ lt
      | inr ge ↦ let many = length-take-le n groups ge in absurd (omega (arith, long, many, short))
    ]

-- ---- a step to the next value

module _ (schema : Schema) (plan : PlanView) (dim : ℕ) (is_descending : Bool) (regions : List RegionRows) (given rest : List Row) (fetched unread : List Event) (cells : List (List Cell))
    (grouped : HasGrouped schema plan dim is_descending regions given rest fetched unread cells) (led : IsLedBy schema plan.asked dim is_descending)
    (short : IfSome plan.asked.limit (λ n. length cells < n)) where
  pub is_short : IfSome plan.asked.limit (λ n. length grouped.groups < n)
  is_short = lines_short schema plan.asked plan.asked.limit grouped.groups cells grouped.cells_are short

  module _ (rows more_rows : List Row) (value : ℕ) (next : IsNextValue dim is_descending rest rows more_rows value) (come left : List Event)
      (reached : HasReached is_descending value come left) where
    -- a region that was fetched isn't past a row to come
    later_behind : (row : Row) → Contains more_rows row → AreUpTo is_descending come (at dim row)
    later_behind row there =
        let after : IsAlong is_descending value (at dim row) = all_at (λ row. IsAlong is_descending value (at dim row)) more_rows row next.past there in
        all_weaker (λ event. ¬ (IsAlong is_descending value event.value)) (λ event. ¬ (IsAlong is_descending (at dim row) event.value))
        (λ event not along. not (along_chain is_descending value (at dim row) event.value after along)) come reached.behind

    -- nor past one of the rows given
    rows_behind : (row : Row) → Contains rows row → AreUpTo is_descending come (at dim row)
    rows_behind row there =
        subst (λ (v : ℕ). AreUpTo is_descending come v) (sym (all_at (λ row. at dim row ≡ value) rows row next.of_value there)) reached.behind

    pub value_behind : AllByRecursion (λ row. AreUpTo is_descending come (at dim row)) rest
    value_behind = all_from_contains (λ row. AreUpTo is_descending come (at dim row)) rest
        (λ row there. elim (Contains-append_cases rows more_rows row (subst (λ (rs : List Row). Contains rs row) next.next there)) [
          | inl now ↦ rows_behind row now
          | inr later ↦ later_behind row later
        ])

    pub HasGrouped-more : GroupsFollowTheLead → IsPermutation (filter (is_selected schema plan.asked.filter) (rows_of regions)) (given ++ rest) → (last : List Group)
        → AreGroupsInOrder schema plan.asked rows last → (more all : List (List Cell)) → more ≡ group_lines schema plan.asked (limited plan.asked.limit last)
        → all ≡ limited plan.asked.limit (cells ++ more) → HasGrouped schema plan dim is_descending regions (given ++ rows) more_rows come left all
    HasGrouped-more follow same last last_are more all more_are all_are = record {
      groups = grouped.groups ++ last;
      so_far = AreGivenGroups-more schema plan.asked dim is_descending regions given rest grouped.groups same grouped.so_far value rows more_rows last next.next next.some next.of_value next.past
          next.by_number last_are follow led;
      cells_are = lines_joined schema plan.asked grouped.groups last cells more all grouped.cells_are more_are all_are;
      behind = all_from_contains (λ row. AreUpTo is_descending come (at dim row)) more_rows later_behind;
      stops = λ n limit some many.
          let below : length grouped.groups < n = subst (λ (o : Option ℕ). IfSome o (λ n. length grouped.groups < n)) limit is_short in
          let is : last_of (map (lead_coordinate dim) (take n (grouped.groups ++ last))) ≡ value = last_is n below many in
          (subst (λ (v : ℕ). AreUpTo is_descending come v) (sym is) reached.behind, subst (λ (v : ℕ). AllByRecursion (λ event. IsAlong is_descending v event.value) left) (sym is) reached.ahead);
    }
      where
        last_is : (n : ℕ) → length grouped.groups < n → n ≤ length (grouped.groups ++ last) → last_of (map (lead_coordinate dim) (take n (grouped.groups ++ last))) ≡ value
        last_is n below many =
            last_within (lead_coordinate dim) (λ v. v ≡ value) n grouped.groups last below many (groups_led schema plan.asked dim (λ v. v ≡ value) rows last led.some last_are next.of_value)
