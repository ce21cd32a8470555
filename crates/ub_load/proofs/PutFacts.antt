-- A record that is accepted makes a row.
use Rattle.std.proofs.Common.{◌≡◌, ◌+◌, ◌-◌, ◌<◌, ◌≤◌, ◌==◌, ◌^◌, ℕ, zero, suc, true, false, List, [], ◌∷◌, length, take, drop, map, Option, Some, None, refl, ap, ◌∙◌, arith, inl, inr}
use Rattle.std.specs.Prelude.{FitsSigned, nat_lt, if◌then◌else◌}
use Rattle.std.specs.Int.{w64}
use Rattle.std.specs.List.{AllByRecursion, enumerate_from}
use Rattle.std.proofs.lemmas.Bool.{cases_Bool, eqb-true, le-ltb}
use Rattle.std.proofs.lemmas.List.{length-map}
use Rattle.std.proofs.lemmas.List.FromFn.{length-enumerate_from}
use Rattle.std.proofs.lemmas.List.Elements.{All-from_recursion}
use Rattle.ub_tree.proofs.Laws.{new_values, numbered_row}
use Rattle.ub_tree.specs.Change.{Suits}
use Rattle.ub_load.specs.Field.{trimmed, is_number, number_of}
use Rattle.ub_load.specs.LoadedTable.{coordinate_of, row_of}
use Rattle.ub_load.specs.Refusals.{content_refusal, content_refusals, field_refusal, fields_refusal, first_of}
use Rattle.ub_load.specs.declared.fault.LoadFault.{LoadFault}
use Rattle.ub_load.specs.declared.fault.LoadFault.TheVariants.{Csv, BadNumber, OutOfRange}
use Rattle.ub_load.proofs.FieldFacts.{fits_to}
use Rattle.ub_load.proofs.RowFacts.{measure}
use Rattle.ub_table.proofs.Laws.{fitting_coordinate}
use Rattle.ub_table.specs.Region.{IsNumbered, IsRow}
use Rattle.ub_table.specs.Value.{fits_at}
use Rattle.ub_table.specs.declared.axes.Axes.{Axes}
use Rattle.ub_table.specs.declared.row.Row.{Row}

none_head : (o : Option LoadFault) (rest : List (Option LoadFault)) → first_of (o ∷ rest) ≡ None → (o ≡ None) × (first_of rest ≡ None)
none_head None rest h = (refl, h)
none_head (Some f) rest h = cc

-- a field that is accepted fits its column
field_fits : (axes : Axes) (n k : ℕ) (f : List ℕ) → field_refusal axes n (k, f) ≡ None → fits_at axes k (number_of (trimmed f)) ≡ true
field_fits axes n k f h = elim (cases_Bool (is_number (trimmed f))) [
  | inl t ↦ elim (cases_Bool (fits_at axes k (number_of (trimmed f)))) [
    | inl u ↦ u
    | inr u ↦ let bad : Some (OutOfRange n (k + 1)) ≡ None = rw (t, u) at h in cc
  ]
  | inr m ↦ let bad : Some (BadNumber n (k + 1)) ≡ None = rw m at h in cc
]

coordinates_fit : (axes : Axes) (n k d : ℕ) (fs : List (List ℕ)) → k + d ≤ axes.dims → first_of (map (field_refusal axes n) (enumerate_from k fs)) ≡ None
    → AllByRecursion (λ x. x < 2 ^ 32) (map (coordinate_of axes) (enumerate_from k (take d fs)))
coordinates_fit axes n k zero fs le h = tt
coordinates_fit axes n k (suc d) [] le h = tt
coordinates_fit axes n k (suc d) (f ∷ fs) le h =
    let parts = none_head (field_refusal axes n (k, f)) (map (field_refusal axes n) (enumerate_from (k + 1) fs)) h in
    let found = fitting_coordinate axes k (number_of (trimmed f)) (omega arith) (field_fits axes n k f parts.0) in
    let small = found.2 in
    (rw found.1 (omega (arith, small)), coordinates_fit axes n (k + 1) d fs (omega arith) parts.1)

measures_fit : (axes : Axes) (n k d : ℕ) (fs : List (List ℕ)) → axes.dims ≤ k + d → first_of (map (field_refusal axes n) (enumerate_from k fs)) ≡ None → AllByRecursion (λ x. FitsSigned w64 x) (map measure (drop d fs))
measures_fit axes n k zero [] le h = tt
measures_fit axes n k zero (f ∷ fs) le h =
    let parts = none_head (field_refusal axes n (k, f)) (map (field_refusal axes n) (enumerate_from (k + 1) fs)) h in
    let after : nat_lt k axes.dims ≡ false = le-ltb k axes.dims (omega arith) in
    let fit = rw after at (field_fits axes n k f parts.0) in
    (fits_to (number_of (trimmed f)) fit, measures_fit axes n (k + 1) zero fs (omega arith) parts.1)
measures_fit axes n k (suc d) [] le h = tt
measures_fit axes n k (suc d) (f ∷ fs) le h =
    let parts = none_head (field_refusal axes n (k, f)) (map (field_refusal axes n) (enumerate_from (k + 1) fs)) h in
    measures_fit axes n (k + 1) d fs (omega arith) parts.1

length_taken : {X : Type 0} (n : ℕ) (xs : List X) → n ≤ length xs → length (take n xs) ≡ n
length_taken zero xs h = refl
length_taken (suc n) [] h = absurd (omega arith)
length_taken (suc n) (x ∷ xs) h = ap suc (length_taken n xs (omega arith))

-- the parts of a record that is accepted
pub accepted_parts : (axes : Axes) (width number : ℕ) (fields : List (List ℕ)) → content_refusal axes width (number, fields) ≡ None
    → (length fields ≡ width) × (fields_refusal axes number fields ≡ None)
unfolding content_refusals
accepted_parts axes width number fields h =
    let parts = none_head (if length fields == width then None else Some Csv) (map (field_refusal axes number) (enumerate_from 0 fields)) h in
    (long parts.0, parts.1)
  where
    long : (if length fields == width then None else Some Csv) ≡ None → length fields ≡ width
    long e = elim (cases_Bool (length fields == width)) [
      | inl t ↦ eqb-true (length fields) width t
      | inr n ↦ let bad : Some Csv ≡ None = rw n at e in cc
    ]

length_left : {X : Type 0} (n : ℕ) (xs : List X) → length (drop n xs) ≡ length xs - n
length_left zero xs = omega arith
length_left (suc n) [] = omega arith
length_left (suc n) (x ∷ xs) = length_left n xs ∙ omega arith

-- a record that is accepted has the values of a row
pub accepted_values : (axes : Axes) (width number : ℕ) (fields : List (List ℕ)) → axes.dims ≤ 4 → axes.dims ≤ width → width ≤ axes.dims + 4
    → content_refusal axes width (number, fields) ≡ None → Suits axes.dims (width - axes.dims) (row_of axes (number, fields))
unfolding row_of
accepted_values axes width number fields few covers most h =
    let parts = accepted_parts axes width number fields h in
    let long : length fields ≡ width = parts.0 in
    let taken = length_taken axes.dims fields (omega arith) in
    let left = length_left axes.dims fields in
    let places = enumerate_from 0 (take axes.dims fields) in
    let ds = length-map places (coordinate_of axes) ∙ length-enumerate_from 0 (take axes.dims fields) in
    let ms = length-map (drop axes.dims fields) measure in
    let made = new_values axes.dims (width - axes.dims) number (map (coordinate_of axes) places) (map measure (drop axes.dims fields)) (ds ∙ taken) (ms ∙ left ∙ omega arith) few (omega arith)
    (All-from_recursion (λ x. x < 2 ^ 32) (map (coordinate_of axes) places) (coordinates_fit axes number 0 axes.dims fields (omega arith) parts.1))
    (measures_fit axes number 0 axes.dims fields (omega arith) parts.1) in
    rw (ds, ms) at made

record_numbered : (axes : Axes) (number : ℕ) (fields : List (List ℕ)) → 1 ≤ number → number ≤ 16777215 → IsNumbered (row_of axes (number, fields))
unfolding row_of
record_numbered axes number fields some last = (some, last)

-- and it makes a row, where its number is one of a row
pub accepted_row : (axes : Axes) (width number : ℕ) (fields : List (List ℕ)) → axes.dims ≤ 4 → axes.dims ≤ width → width ≤ axes.dims + 4 → 1 ≤ number → number ≤ 16777215
    → content_refusal axes width (number, fields) ≡ None → IsRow axes.dims (width - axes.dims) (row_of axes (number, fields))
accepted_row axes width number fields few covers most some last h =
    numbered_row axes.dims (width - axes.dims) (row_of axes (number, fields)) (accepted_values axes width number fields few covers most h) (record_numbered axes number fields some last)

-- a record's row has the record's number
pub number_is : (axes : Axes) (number : ℕ) (fields : List (List ℕ)) (row : Row) → row ≡ row_of axes (number, fields) → number ≡ row.number
unfolding row_of
number_is axes number fields row is = rw is refl
