-- The worked examples, by computing: the dimensions have no shift, but for the signed one.
use Rattle.std.proofs.Common.{◌≡◌, ◌≢◌, ◌<◌, ℕ, ℤ, pos, ◌-ℤ◌, ◌<ℤ◌, int_le, not, List, [], ◌∷◌, map, take, slice_index, slice_index_or, inl, inr, Contains, Some, None, refl, sym, ap, subst, eqb, true, false, lit<, lit≤, IsPermutation, arith}
use Rattle.std.proofs.lemmas.Bool.{eqb-false}
use Rattle.std.proofs.lemmas.Int.{ints}
use Rattle.std.proofs.lemmas.List.Sorted.{IsPermutation-refl}
use Rattle.std.specs.List.{filter}
use Rattle.ub_query.proofs.Arranging.{adjacent-from_Next}
use Rattle.ub_query.proofs.GroupFacts.{contains_from_map, grouping_from}
use Rattle.ub_query.specs.Cells.{Group, greatest_of, least_of}
use Rattle.ub_query.specs.Examples.{row, ascending, descending, everything, measures, five, two, four, both_sides, RowsByY, TwoRowsByX, NoRowsCounted, SumsByX, SumOfGreatest, NoneBetween, OneNotGreater, NothingCounted, CountsByMeasure, NegativesByX, TitlesOfItems}
use Rattle.ub_query.specs.Groups.{IsGrouping, are_same, rows_with}
use Rattle.ub_query.specs.Order.{IsRowBefore, IsGroupBefore}
use Rattle.ub_query.specs.Posed.{IsGroupQuery, IsAggregate}
use Rattle.ub_query.specs.Shape.{Asked, neither, compares, between}
use Rattle.ub_query.specs.declared.cell.Cell.{Cell}
use Rattle.ub_query.specs.declared.cell.Cell.TheVariants.{Number}
use Rattle.ub_query.specs.declared.condition.Operator.TheVariants.{Less, Greater}
use Rattle.ub_query.specs.declared.query.Aggregate.TheVariants.{Sum}
use Rattle.ub_query.specs.declared.query.Item.{Item}
use Rattle.ub_query.specs.declared.query.Item.TheVariants.{Column, Count, Aggregate}
use Rattle.ub_table.proofs.Laws.{shift_is, values_ascend, values_of_a_dimension}
use Rattle.ub_table.specs.Value.{shift, value_at}
use Rattle.ub_table.specs.declared.axes.Axes.{Axes}
use Rattle.ub_table.specs.declared.row.Row.{Row}

-- so many dimensions, none of them signed
abbrev unsigned : ℕ → Axes
unsigned dims = record { dims = dims; signed = 0 }

-- what holds with no shift of the two dimensions of the five rows
unshifted : (P : ℤ → ℤ → Type 0) → P (pos 0) (pos 0) → P (shift (unsigned 2) 0) (shift (unsigned 2) 1)
unshifted P h = subst (λ (s : ℤ). P s (shift (unsigned 2) 1)) (sym (shift_is 2 0)) (subst (λ (t : ℤ). P (pos 0) t) (sym (shift_is 2 1)) h)

-- all cells of rows whose dimensions have these shifts
cells_with : ℤ → ℤ → List Row → List (List Cell)
cells_with s t rows = map
    (λ (r : Row). Number (pos (slice_index r.dims 0) -ℤ s) ∷ Number (pos (slice_index r.dims 1) -ℤ t) ∷ Number (slice_index_or r.measures 0 (pos 0)) ∷ [])
    rows

-- the values of two coordinates ascend as they do
up : (dim a b : ℕ) → a < b → value_at (unsigned 2) dim a <ℤ value_at (unsigned 2) dim b
up dim a b lt = (values_ascend (unsigned 2) dim a b).0 lt

-- a query of columns that doesn't group is no group query
row_query : (columns : List ℕ) (q : Asked) → q.group ≡ [] → q.items ≡ map Column columns → ¬ IsGroupQuery q
row_query columns q none plain (inl some) = some none
row_query columns q none plain (inr found) =
    let (column, here, is) = contains_from_map Column columns found.0 (subst (λ (items : List Item). Contains items found.0) plain found.1) in
    subst (λ (item : Item). IsAggregate item) (sym is) found.2

by_y : List Row
by_y = row 2 2 3 (pos 20) ∷ row 5 2 3 (pos 1) ∷ row 4 0 2 (pos 7) ∷ row 1 1 1 (pos 10) ∷ row 3 3 0 (pos 5) ∷ []

pub rows_by_y : RowsByY
unfolding by_y cells_with
rows_by_y = inr (
  row_query (0 ∷ 1 ∷ 2 ∷ []) (everything (descending 1 ∷ []) None) refl refl,
  record {
    arranged = by_y;
    ordered = record {
      same = record {
        moves = (3, 4) ∷ (2, 3) ∷ (1, 4) ∷ (0, 1) ∷ [];
        below = (lit< tt, lit< tt, (lit< tt, lit< tt, (lit< tt, lit< tt, (lit< tt, lit< tt, tt))));
        is = refl;
      };
      ordered = adjacent-from_Next (IsRowBefore five.schema (descending 1 ∷ [])) by_y
          (inr (refl, lit< tt), (inl (up 1 2 3 (lit< tt)), (inl (up 1 1 2 (lit< tt)), (inl (up 1 0 1 (lit< tt)), tt))));
    };
    cells = unshifted (λ s t. cells_with (pos 0) (pos 0) by_y ≡ cells_with s t by_y) refl;
  },
)

by_x : List Row
by_x = row 3 3 0 (pos 5) ∷ row 5 2 3 (pos 1) ∷ row 2 2 3 (pos 20) ∷ row 1 1 1 (pos 10) ∷ row 4 0 2 (pos 7) ∷ []

pub two_rows_by_x : TwoRowsByX
unfolding by_x cells_with
two_rows_by_x = inr (
  row_query (0 ∷ 1 ∷ 2 ∷ []) (everything (descending 0 ∷ ascending 2 ∷ []) (Some 2)) refl refl,
  record {
    arranged = by_x;
    ordered = record {
      same = record {
        moves = (3, 4) ∷ (2, 4) ∷ (1, 4) ∷ (0, 2) ∷ [];
        below = (lit< tt, lit< tt, (lit< tt, lit< tt, (lit< tt, lit< tt, (lit< tt, lit< tt, tt))));
        is = refl;
      };
      ordered = adjacent-from_Next (IsRowBefore five.schema (descending 0 ∷ ascending 2 ∷ [])) by_x
          (inl (up 0 2 3 (lit< tt)), (inr (refl, inl (record { lt = tt })), (inl (up 0 1 2 (lit< tt)), (inl (up 0 0 1 (lit< tt)), tt))));
    };
    cells = unshifted (λ s t. cells_with (pos 0) (pos 0) (take 2 by_x) ≡ cells_with s t (take 2 by_x)) refl;
  },
)

no_group : Group
no_group = record { values = []; rows = [] }

pub no_rows_counted : NoRowsCounted
unfolding no_group
no_rows_counted = inl (
  inr (Count, (0, lit< tt, refl), tt),
  record {
    groups = no_group ∷ [];
    arranged = no_group ∷ [];
    grouped = unshifted
        (λ s t. no_group ∷ [] ≡ record { values = []; rows = filter (λ (r : Row). not (int_le (pos (slice_index r.dims 0) -ℤ s) (pos 9))) five.rows } ∷ [])
        refl;
    ordered = record { same = IsPermutation-refl (no_group ∷ []); ordered = adjacent-from_Next (IsGroupBefore five.schema [] []) (no_group ∷ []) tt };
    cells = refl;
  },
)

numbers_differ : (a b : ℕ) → eqb a b ≡ false → pos a ∷ [] ≢ pos b ∷ []
numbers_differ a b differ same = let numbers : a ≡ b = cc in eqb-false a b differ numbers

groups_by_x : List Group
groups_by_x =
    record { values = pos 0 ∷ []; rows = row 4 0 2 (pos 7) ∷ [] }
    ∷ record { values = pos 1 ∷ []; rows = row 1 1 1 (pos 10) ∷ [] }
    ∷ record { values = pos 2 ∷ []; rows = row 2 2 3 (pos 20) ∷ row 5 2 3 (pos 1) ∷ [] }
    ∷ record { values = pos 3 ∷ []; rows = row 3 3 0 (pos 5) ∷ [] }
    ∷ []

-- the value of x
x_is : (n : ℕ) → value_at (unsigned 2) 0 n ∷ [] ≡ pos n ∷ []
x_is n = let none = shift_is 2 0 in let is : value_at (unsigned 2) 0 n ≡ pos n = omega (arith, ints, none) in ap (λ (v : ℤ). v ∷ []) is

-- these are the rows with a value of x
all_with : (n : ℕ) (rows : List Row) → rows ≡ filter (λ (r : Row). are_same ((pos (slice_index r.dims 0) -ℤ pos 0) ∷ []) (pos n ∷ [])) five.rows
    → rows ≡ rows_with five.schema (0 ∷ []) five.rows (pos n ∷ [])
all_with n rows h = unshifted (λ s t. rows ≡ filter (λ (r : Row). are_same ((pos (slice_index r.dims 0) -ℤ s) ∷ []) (pos n ∷ [])) five.rows) h

grouped_by_x : IsGrouping five.schema (0 ∷ []) five.rows groups_by_x
unfolding groups_by_x
grouped_by_x = grouping_from five.schema (0 ∷ []) five.rows groups_by_x (
  (numbers_differ 0 1 refl, (numbers_differ 0 2 refl, (numbers_differ 0 3 refl, tt))),
  ((numbers_differ 1 2 refl, (numbers_differ 1 3 refl, tt)), ((numbers_differ 2 3 refl, tt), (tt, tt))),
)
    ((3, lit< tt, x_is 0), ((0, lit< tt, x_is 1), ((1, lit< tt, x_is 2), ((2, lit< tt, x_is 3), tt))))
    ((1, lit< tt, sym (x_is 1)), ((2, lit< tt, sym (x_is 2)), ((3, lit< tt, sym (x_is 3)), ((0, lit< tt, sym (x_is 0)), ((2, lit< tt, sym (x_is 2)), tt)))))
    (all_with 0 _ refl, (all_with 1 _ refl, (all_with 2 _ refl, (all_with 3 _ refl, tt))))

pub sums_by_x : SumsByX
unfolding groups_by_x
sums_by_x = inl (
  inl (λ none. cc),
  record {
    groups = groups_by_x;
    arranged = groups_by_x;
    grouped = grouped_by_x;
    ordered = record {
      same = IsPermutation-refl groups_by_x;
      ordered = adjacent-from_Next (IsGroupBefore five.schema (0 ∷ []) []) groups_by_x
          (inl (record { lt = tt }), (inl (record { lt = tt }), (inl (record { lt = tt }), tt)));
    };
    cells = refl;
  },
)

all_of_two : Group
all_of_two = record { values = []; rows = two.rows }

-- its cells, where the dimension has this shift
cells_of_two : ℤ → List (List Cell)
cells_of_two s =
    let xs : List ℤ = (pos 0 -ℤ s) ∷ (pos 5 -ℤ s) ∷ [] in
    (Number (pos 18446744073709551614) ∷ least_of xs ∷ greatest_of xs ∷ []) ∷ []

pub sum_of_greatest : SumOfGreatest
unfolding all_of_two cells_of_two
sum_of_greatest = inl (
  inr (Aggregate Sum 1, (0, lit< tt, refl), tt),
  record {
    groups = all_of_two ∷ [];
    arranged = all_of_two ∷ [];
    grouped = refl;
    ordered = record { same = IsPermutation-refl (all_of_two ∷ []); ordered = adjacent-from_Next (IsGroupBefore two.schema [] []) (all_of_two ∷ []) tt };
    cells = subst (λ (s : ℤ). cells_of_two (pos 0) ≡ cells_of_two s) (sym (shift_is 1 0)) refl;
  },
)

pub none_between : NoneBetween
none_between = inr (
  row_query (2 ∷ []) (measures (Some (between 2 (pos 7) (pos 5)))) refl refl,
  record {
    arranged = [];
    ordered = record { same = IsPermutation-refl []; ordered = adjacent-from_Next (IsRowBefore five.schema []) [] tt };
    cells = refl;
  },
)

not_greater : List Row
not_greater = row 5 2 3 (pos 1) ∷ []

pub one_not_greater : OneNotGreater
unfolding not_greater
one_not_greater = inr (
  row_query (2 ∷ []) (measures (Some (neither (compares 2 Greater (pos 4))))) refl refl,
  record {
    arranged = not_greater;
    ordered = record { same = IsPermutation-refl not_greater; ordered = adjacent-from_Next (IsRowBefore five.schema []) not_greater tt };
    cells = refl;
  },
)

all_of_five : Group
all_of_five = record { values = []; rows = five.rows }

pub nothing_counted : NothingCounted
unfolding all_of_five
nothing_counted = inl (
  inr (Count, (0, lit< tt, refl), tt),
  record {
    groups = all_of_five ∷ [];
    arranged = all_of_five ∷ [];
    grouped = refl;
    ordered = record { same = IsPermutation-refl (all_of_five ∷ []); ordered = adjacent-from_Next (IsGroupBefore five.schema [] []) (all_of_five ∷ []) tt };
    cells = refl;
  },
)

pairs_differ : (a b : ℕ) → eqb a b ≡ false → pos a ∷ pos a ∷ [] ≢ pos b ∷ pos b ∷ []
pairs_differ a b differ same = let numbers : a ≡ b = cc in eqb-false a b differ numbers

groups_by_m : List Group
groups_by_m =
    record { values = pos 5 ∷ pos 5 ∷ []; rows = row 1 0 0 (pos 5) ∷ row 3 2 0 (pos 5) ∷ [] }
    ∷ record { values = pos 3 ∷ pos 3 ∷ []; rows = row 2 1 0 (pos 3) ∷ [] }
    ∷ record { values = pos 4 ∷ pos 4 ∷ []; rows = row 4 3 0 (pos 4) ∷ [] }
    ∷ []

grouped_by_m : IsGrouping four.schema (1 ∷ 1 ∷ []) four.rows groups_by_m
unfolding groups_by_m
grouped_by_m = grouping_from four.schema (1 ∷ 1 ∷ []) four.rows groups_by_m (
  (pairs_differ 5 3 refl, (pairs_differ 5 4 refl, tt)),
  ((pairs_differ 3 4 refl, tt), (tt, tt)),
)
    ((0, lit< tt, refl), ((1, lit< tt, refl), ((3, lit< tt, refl), tt)))
    ((0, lit< tt, refl), ((1, lit< tt, refl), ((0, lit< tt, refl), ((2, lit< tt, refl), tt))))
    (refl, (refl, (refl, tt)))

pub counts_by_measure : CountsByMeasure
unfolding groups_by_m
counts_by_measure = inl (
  inl (λ none. cc),
  record {
    groups = groups_by_m;
    arranged = groups_by_m;
    grouped = grouped_by_m;
    ordered = record {
      same = IsPermutation-refl groups_by_m;
      ordered = adjacent-from_Next (IsGroupBefore four.schema (1 ∷ 1 ∷ []) (record { item = Count; is_descending = true } ∷ [])) groups_by_m
          (inl (record { lt = tt }), (inr (refl, inl (record { lt = tt })), tt));
    };
    cells = refl;
  },
)

-- the one dimension, which is signed
abbrev one_signed : Axes
one_signed = record { dims = 1; signed = 1 }

-- its values stand below its coordinates by half of all of them, as its least and its greatest value tell
half_below : shift one_signed 0 ≡ pos 2147483648
half_below =
    let least = ((values_of_a_dimension one_signed 0 0 (lit≤ tt)).1 refl).0 in
    let most = ((values_of_a_dimension one_signed 0 4294967295 (lit≤ tt)).1 refl).1 in
    omega (arith, ints, least, most)

-- the rows with a value below 0, where the dimension has this shift
below_zero : ℤ → List Row
below_zero s = filter (λ (r : Row). not (int_le (pos 0) (pos (slice_index r.dims 0) -ℤ s))) both_sides.rows

negatives : List Row
negatives = row 3 0 0 (pos 30) ∷ row 1 2147483647 0 (pos 10) ∷ []

-- their cells
cells_below : ℤ → List (List Cell)
cells_below s = map (λ (r : Row). Number (pos (slice_index r.dims 0) -ℤ s) ∷ Number (slice_index_or r.measures 0 (pos 0)) ∷ []) negatives

two_exchanged : IsPermutation (below_zero (pos 2147483648)) negatives
unfolding below_zero negatives
two_exchanged = record { moves = (0, 1) ∷ []; below = (lit< tt, lit< tt, tt); is = refl }

pub negatives_by_x : NegativesByX
unfolding below_zero negatives cells_below
negatives_by_x = inr (
  row_query (0 ∷ 1 ∷ []) (record { items = Column 0 ∷ Column 1 ∷ []; filter = Some (compares 0 Less (pos 0)); group = []; order = ascending 0 ∷ []; limit = None }) refl refl,
  record {
    arranged = negatives;
    ordered = record {
      same = subst (λ (s : ℤ). IsPermutation (below_zero s) negatives) (sym half_below) two_exchanged;
      ordered = adjacent-from_Next (IsRowBefore both_sides.schema (ascending 0 ∷ [])) negatives
          (inl ((values_ascend one_signed 0 0 2147483647).0 (lit< tt)), tt);
    };
    cells = subst (λ (s : ℤ). cells_below (pos 2147483648) ≡ cells_below s) (sym half_below) refl;
  },
)

pub titles_of_items : TitlesOfItems
titles_of_items = refl
