-- The laws of values and coordinates, as specs/Laws.antt states them, and what else is asked of them above. Only the last three proofs
-- open `shift`: all others, here and above, take it as a number.
use Rattle.std.proofs.Common.{◌≡◌, ◌<◌, ◌≤◌, ℕ, ℤ, pos, negsuc, ◌+ℤ◌, ◌-ℤ◌, ◌<ℤ◌, ◌≤ℤ◌, int_le, true, nat_le, nat_lt, le-leb, leb-true, Option, Some, None, refl, subst, arith, rules, inl, inr}
use Rattle.std.proofs.lemmas.Bool.{cases_Bool, and_from, lt-ltb, ltb-true}
use Rattle.std.proofs.lemmas.Int.{ints}
use Rattle.std.proofs.lemmas.Nat.Bits.{bit_at-zero}
use Rattle.std.specs.Option.{is_some}
use Rattle.ub_table.specs.Laws.{CoordinatesAreValues, ValuesOfADimension, ValuesAscend, ValuesTellCoordinates}
use Rattle.ub_table.specs.declared.axes.Axes.{Axes}
use Rattle.ub_table.specs.Value.{greatest, is_signed, shift, value_at, as_coordinate, coordinate_at, fits_measure, fits_at}

number_is : (v : ℤ) (n : ℕ) → as_coordinate v ≡ Some n → (n ≤ greatest) × (v ≡ pos n)
number_is (pos m) n e = elim (cases_Bool (nat_le m greatest)) [
  | inl t ↦
      let h = rw t at e in
      let same : m ≡ n = cc in
      subst (λ (k : ℕ). (k ≤ greatest) × (pos m ≡ pos k)) same (leb-true m greatest t, refl)
  | inr f ↦ let h = rw f at e in cc
]
number_is (negsuc m) n e = cc

number_from : (v : ℤ) (n : ℕ) → n ≤ greatest → v ≡ pos n → as_coordinate v ≡ Some n
number_from v n le is = rw (is, le-leb n greatest le) refl

pub coordinates_are_values : CoordinatesAreValues
coordinates_are_values axes dim n v = (
  (λ e. let h = number_is (v +ℤ shift axes dim) n e in let moved = h.1 in (h.0, omega (arith, ints, moved))),
  (λ h.
      let is = h.1 in
      let moved : v +ℤ shift axes dim ≡ pos n = omega (arith, ints, is) in
      number_from (v +ℤ shift axes dim) n h.0 moved),
)

pub values_ascend : ValuesAscend
values_ascend axes dim a b = ((λ lt. omega (arith, ints, lt)), (λ lt. omega (arith, ints, lt)))

pub values_tell_coordinates : ValuesTellCoordinates
values_tell_coordinates axes dim a b same = omega (arith, ints, same)

pub values_of_a_dimension : ValuesOfADimension
unfolding shift
values_of_a_dimension axes dim n le = (
  (λ off. rw off (omega (arith, ints), omega (arith, ints, le))),
  (λ on. rw on (omega (arith, ints), omega (arith, ints, le))),
)

-- the values of a dimension stand no higher than its coordinates, and lower by half of all coordinates at most
pub shift_bounds : (axes : Axes) (dim : ℕ) → (pos 0 ≤ℤ shift axes dim) × (shift axes dim ≤ℤ pos 2147483648)
unfolding shift
shift_bounds axes dim = elim (cases_Bool (is_signed axes.signed dim)) [
  | inl t ↦ rw t (omega (arith, ints), omega (arith, ints))
  | inr f ↦ rw f (omega (arith, ints), omega (arith, ints))
]

-- of tables without signed dimensions, for worked examples alone
pub shift_is : (dims dim : ℕ) → shift (record { dims = dims; signed = 0 }) dim ≡ pos 0
unfolding shift
shift_is dims dim = rw (bit_at-zero dim) refl

-- no dimension has a value above the greatest coordinate
pub no_coordinate : (axes : Axes) (dim : ℕ) (v : ℤ) → pos greatest <ℤ v → coordinate_at axes dim v ≡ None
no_coordinate axes dim v above = by_cases (coordinate_at axes dim v) refl
  where
    by_cases : (o : Option ℕ) → coordinate_at axes dim v ≡ o → o ≡ None
    by_cases None is = refl
    by_cases (Some n) is =
        let h = (coordinates_are_values axes dim n v).0 is in
        let le = h.0 in let of = h.1 in let low = (shift_bounds axes dim).0 in
        absurd (omega (arith, ints, le, of, low, above))

-- a value of a dimension is a number that a measure can hold
value_fits : (axes : Axes) (dim n : ℕ) → n ≤ greatest → fits_measure (value_at axes dim n) ≡ true
value_fits axes dim n le =
    let low = (shift_bounds axes dim).0 in let high = (shift_bounds axes dim).1 in
    let from : negsuc 9223372036854775807 ≤ℤ (pos n -ℤ shift axes dim) = omega (arith, ints, low, high) in
    let to : (pos n -ℤ shift axes dim) ≤ℤ pos 9223372036854775807 = omega (arith, ints, le, low, high) in
    let above : int_le (negsuc 9223372036854775807) (pos n -ℤ shift axes dim) ≡ true = search (rules, from) in
    let below : int_le (pos n -ℤ shift axes dim) (pos 9223372036854775807) ≡ true = search (rules, to) in
    and_from _ _ above below

-- a number that a dimension can hold has a coordinate there
pub fitting_coordinate : (axes : Axes) (dim : ℕ) (v : ℤ) → dim < axes.dims → fits_at axes dim v ≡ true → (n : ℕ) × (coordinate_at axes dim v ≡ Some n) × (n ≤ greatest)
fitting_coordinate axes dim v lt fits = by_cases (coordinate_at axes dim v) refl (rw (lt-ltb dim axes.dims lt) at fits)
  where
    by_cases : (o : Option ℕ) → coordinate_at axes dim v ≡ o → is_some o ≡ true → (n : ℕ) × (coordinate_at axes dim v ≡ Some n) × (n ≤ greatest)
    by_cases None is some = cc
    by_cases (Some n) is some = (n, is, ((coordinates_are_values axes dim n v).0 is).0)

-- what a column can hold, a measure can hold
pub fits_some_measure : (axes : Axes) (column : ℕ) (v : ℤ) → fits_at axes column v ≡ true → fits_measure v ≡ true
fits_some_measure axes column v fits = elim (cases_Bool (nat_lt column axes.dims)) [
  | inl t ↦
      let found = fitting_coordinate axes column v (ltb-true column axes.dims t) fits in
      subst (λ (z : ℤ). fits_measure z ≡ true) ((coordinates_are_values axes column found.0 v).0 found.1).1 (value_fits axes column found.0 found.2)
  | inr f ↦ rw f at fits
]
