-- The values of a record's fields, one field at a time.
use Rattle.std.proofs.Common.{Bor, ◌≡◌, ◌+◌, ◌-◌, ◌<◌, ◌≤◌, ℕ, true, zero, suc, List, [], ◌∷◌, ◌++◌, length, take, drop, map, replicate, slice_get, slice_set, Option, Some, None, refl, sym, ap, ◌∙◌, arith, length-append, add-one}
use Rattle.std.specs.Prelude.{ℤ, pos, IsSome, option_map}
use Rattle.std.proofs.lemmas.List.FromFn.{length-enumerate_from}
use Rattle.std.specs.List.{enumerate_from}
use Rattle.csv.specs.Records.{field_at}
use Rattle.ub_load.proofs.RefusalFacts.{enumerate_from-append, take_one, length-taken}
use Rattle.ub_load.specs.Field.{trimmed, number_of}
use Rattle.ub_load.specs.LoadedTable.{coordinate_of, coordinates_of, measures_of, row_of}
use Rattle.ub_table.proofs.Laws.{fitting_coordinate}
use Rattle.ub_table.specs.Value.{coordinate_at, fits_at}
use Rattle.ub_table.specs.declared.axes.Axes.{Axes}
use Rattle.ub_table.specs.declared.row.Row.{Row}

module _ {X A : Type 0} (g : X → A) (z : A) where
  -- the values of some items, and then z at each place up to the n-th
  abbrev pub padded : ℕ → List X → List A
  padded n xs = map g xs ++ replicate (n - length xs) z

  -- one more value, written at the first place that is free
  pub padded-more : (n : ℕ) (xs : List X) (x : X) → length xs < n → padded n (xs ++ x ∷ []) ≡ slice_set (padded n xs) (length xs) (g x)
  padded-more zero xs x h = absurd (omega arith)
  padded-more (suc n) [] x h =
      let all : suc n - 0 ≡ suc n = omega arith in
      let rest : suc n - 1 ≡ n = omega arith in
      rw (all, rest) refl
  padded-more (suc n) (y ∷ ys) x h =
      let before : suc n - suc (length ys) ≡ n - length ys = omega arith in
      let after : suc n - suc (length (ys ++ x ∷ [])) ≡ n - length (ys ++ x ∷ []) = omega arith in
      rw (before, after) (ap (λ r. g y ∷ r) (padded-more n ys x (omega arith)))

module _ {X A : Type 0} (g : ℕ × X → A) (z : A) where
  -- the same of items with their places
  pub numbered-more : (n : ℕ) (xs : List X) (x : X) → length xs < n
      → map g (enumerate_from 0 (xs ++ x ∷ [])) ++ replicate (n - length (xs ++ x ∷ [])) z
      ≡ slice_set (map g (enumerate_from 0 xs) ++ replicate (n - length xs) z) (length xs) (g (length xs, x))
  numbered-more n xs x h =
      let long = length-enumerate_from 0 xs in
      let more = length-enumerate_from 0 (xs ++ x ∷ []) in
      let place : 0 + length xs ≡ length xs = omega arith in
      let items = enumerate_from-append 0 xs (x ∷ []) ∙ ap (λ (k : ℕ). enumerate_from 0 xs ++ (k, x) ∷ []) place in
      rw (long, ← items, more) at (padded-more g z n (enumerate_from 0 xs) (length xs, x) (omega arith))

take_short : {X : Type 0} (n : ℕ) (xs : List X) → length xs ≤ n → take n xs ≡ xs
take_short zero [] h = refl
take_short zero (x ∷ xs) h = absurd (omega arith)
take_short (suc n) [] h = refl
take_short (suc n) (x ∷ xs) h = ap (λ ys. x ∷ ys) (take_short n xs (omega arith))

drop_short : {X : Type 0} (n : ℕ) (xs : List X) → length xs ≤ n → drop n xs ≡ []
drop_short zero [] h = refl
drop_short zero (x ∷ xs) h = absurd (omega arith)
drop_short (suc n) [] h = refl
drop_short (suc n) (x ∷ xs) h = drop_short n xs (omega arith)

take_long : {X : Type 0} (n : ℕ) (xs ys : List X) → n ≤ length xs → take n (xs ++ ys) ≡ take n xs
take_long zero xs ys h = refl
take_long (suc n) [] ys h = absurd (omega arith)
take_long (suc n) (x ∷ xs) ys h = ap (λ zs. x ∷ zs) (take_long n xs ys (omega arith))

drop_long : {X : Type 0} (n : ℕ) (xs ys : List X) → n ≤ length xs → drop n (xs ++ ys) ≡ drop n xs ++ ys
drop_long zero xs ys h = refl
drop_long (suc n) [] ys h = absurd (omega arith)
drop_long (suc n) (x ∷ xs) ys h = drop_long n xs ys (omega arith)

length_left : {X : Type 0} (n : ℕ) (xs : List X) → length (drop n xs) ≡ length xs - n
length_left zero xs = omega arith
length_left (suc n) [] = omega arith
length_left (suc n) (x ∷ xs) = length_left n xs ∙ omega arith

-- the measure of a field
abbrev pub measure : List ℕ → ℤ
measure f = number_of (trimmed f)

-- a dimension's field goes to its place among the coordinates
pub more_coordinates : (axes : Axes) (fs : List (List ℕ)) (f : List ℕ) → length fs < axes.dims → axes.dims ≤ 4
    → (coordinates_of axes (fs ++ f ∷ []) ≡ slice_set (coordinates_of axes fs) (length fs) (coordinate_of axes (length fs, f)))
    × (measures_of axes.dims (fs ++ f ∷ []) ≡ measures_of axes.dims fs)
more_coordinates axes fs f h le =
    let more : length (fs ++ f ∷ []) ≤ axes.dims = omega (arith, length-append fs (f ∷ [])) in
    rw (take_short axes.dims (fs ++ f ∷ []) more, drop_short axes.dims (fs ++ f ∷ []) more, take_short axes.dims fs (omega arith), drop_short axes.dims fs (omega arith))
    (numbered-more (coordinate_of axes) 0 4 fs f (omega arith), refl)

-- a measure's to its own
pub more_measures : (axes : Axes) (fs : List (List ℕ)) (f : List ℕ) → axes.dims ≤ length fs → length fs < axes.dims + 4
    → (coordinates_of axes (fs ++ f ∷ []) ≡ coordinates_of axes fs) × (measures_of axes.dims (fs ++ f ∷ []) ≡ slice_set (measures_of axes.dims fs) (length fs - axes.dims) (measure f))
more_measures axes fs f le h =
    let long = length_left axes.dims fs in
    let few : length (drop axes.dims fs) < 4 = omega arith in
    rw (take_long axes.dims fs (f ∷ []) le, drop_long axes.dims fs (f ∷ []) le, ← long)
    (refl, padded-more measure (pos 0) 4 (drop axes.dims fs) f few)

-- a field that is there
there : (fs : List (List ℕ)) (i : ℕ) → i < length fs → (f : List ℕ) × (field_at fs i ≡ Some f)
unfolding field_at
there [] i h = absurd (omega arith)
there (f ∷ fs) zero h = (f, refl)
there (f ∷ fs) (suc i) h = there fs i (omega arith)

at_place : (fs : List (List ℕ)) (i : ℕ) → field_at fs i ≡ slice_get fs i
unfolding field_at
at_place [] i = refl
at_place (f ∷ fs) zero = refl
at_place (f ∷ fs) (suc i) = at_place fs i

pub got : (fs : List (List ℕ)) (i : ℕ) (o : Option (Bor (List ℕ))) → i < length fs → option_map (λ s. s.now) o ≡ field_at fs i → IsSome o
got fs i None l h = let f = there fs i l in let bad : None ≡ Some f.0 = h ∙ f.1 in cc
got fs i (Some r) l h = refl

pub got_is : (fs : List (List ℕ)) (i : ℕ) (o : Option (Bor (List ℕ))) (r : Bor (List ℕ)) → o ≡ Some r → option_map (λ s. s.now) o ≡ field_at fs i → slice_get fs i ≡ Some r.now
got_is fs i o r e h = sym (at_place fs i) ∙ sym h ∙ ap (option_map (λ s. s.now)) e

-- one more field of a row
pub coordinate_more : (axes : Axes) (number : ℕ) (fs : List (List ℕ)) (f : List ℕ) → length fs < axes.dims → axes.dims ≤ 4
    → row_of axes (number, fs ++ f ∷ []) ≡ record (row_of axes (number, fs)) { dims = slice_set (row_of axes (number, fs)).dims (length fs) (coordinate_of axes (length fs, f)) }
unfolding row_of
coordinate_more axes number fs f h le =
    let m = more_coordinates axes fs f h le in
    rw (m.0, m.1) refl

pub measure_more : (axes : Axes) (number : ℕ) (fs : List (List ℕ)) (f : List ℕ) → axes.dims ≤ length fs → length fs < axes.dims + 4
    → row_of axes (number, fs ++ f ∷ []) ≡ record (row_of axes (number, fs)) { measures = slice_set (row_of axes (number, fs)).measures (length fs - axes.dims) (measure f) }
unfolding row_of
measure_more axes number fs f le h =
    let m = more_measures axes fs f le h in
    rw (m.0, m.1) refl

-- the row of no fields
pub row_of_none : (axes : Axes) (number : ℕ) → row_of axes (number, []) ≡ record { number = number; dims = replicate 4 0; measures = replicate 4 (pos 0) }
unfolding row_of
row_of_none axes number =
    let none : List (List ℕ) = [] in
    let took : take axes.dims none ≡ none = take_short axes.dims none (omega arith) in
    let left : drop axes.dims none ≡ none = drop_short axes.dims none (omega arith) in
    rw (took, left) refl

pub take_all : {X : Type 0} (n : ℕ) (xs : List X) → length xs ≤ n → take n xs ≡ xs
take_all n xs h = take_short n xs h

-- the row with the value of one more field in its place
pub row_with_coordinate : (axes : Axes) (number place : ℕ) (fs : List (List ℕ)) (f : List ℕ) (row new : Row) (x : ℕ) → slice_get fs place ≡ Some f → row ≡ row_of axes (number, take place fs)
    → place < axes.dims → axes.dims ≤ 4 → x ≡ coordinate_of axes (place, f) → new ≡ record { number = row.number; dims = slice_set row.dims place x; measures = row.measures }
    → new ≡ row_of axes (number, take (place + 1) fs)
row_with_coordinate axes number place fs f row new x at is h le val e =
    let long : length (take place fs) ≡ place = length-taken fs place f at in
    let more = coordinate_more axes number (take place fs) f (omega arith) le in
    e ∙ rw (is, val, add-one, take_one fs place f at) (sym (rw long at more))

-- the coordinate of a field that fits its dimension: there is one
pub some_coordinate : (axes : Axes) (place : ℕ) (v : ℤ) (o : Option ℕ) → place < axes.dims → fits_at axes place v ≡ true → o ≡ coordinate_at axes place v → IsSome o
some_coordinate axes place v o lt fits is = rw (is ∙ (fitting_coordinate axes place v lt fits).1) refl

-- and this is it
pub told_coordinate : (axes : Axes) (place : ℕ) (f : List ℕ) (v : ℤ) (o : Option ℕ) (x : ℕ) → v ≡ number_of (trimmed f) → o ≡ coordinate_at axes place v → o ≡ Some x
    → x ≡ coordinate_of axes (place, f)
told_coordinate axes place f v o x val is some =
    let e : coordinate_at axes place (number_of (trimmed f)) ≡ Some x = rw val at (sym is ∙ some) in
    rw e refl

pub row_with_measure : (axes : Axes) (number place : ℕ) (fs : List (List ℕ)) (f : List ℕ) (row new : Row) (v : ℤ) → slice_get fs place ≡ Some f → row ≡ row_of axes (number, take place fs)
    → axes.dims ≤ place → place < axes.dims + 4 → v ≡ number_of (trimmed f) → new ≡ record { number = row.number; dims = row.dims; measures = slice_set row.measures (place - axes.dims) v }
    → new ≡ row_of axes (number, take (place + 1) fs)
row_with_measure axes number place fs f row new v at is le h val e =
    let long : length (take place fs) ≡ place = length-taken fs place f at in
    let more = measure_more axes number (take place fs) f (omega arith) (omega arith) in
    e ∙ rw (is, val, add-one, take_one fs place f at) (sym (rw long at more))
