-- The rows of a page at the places of a mask: the first of them, how many they are, and that they are those of a test.
use Rattle.std.proofs.Common.{◌≡◌, ◌<◌, ◌≤◌, ◌+◌, ◌-◌, ◌^◌, ◌↔◌, ◌&&◌, ◌==◌, inl, inr, ℕ, zero, suc, min, Bool, true, false, cond, List, [], ◌∷◌, ◌++◌, Option, Some, None, filter, map, take, length, zip, slice_get, slice_index_or, slice_set, ℤ, ◌/◌, ◌%◌, ◌≢◌, bit_and, count_ones, IsTrue, refl, sym, ap, subst, arith, ◌∙◌}
use Rattle.std.proofs.lemmas.Bool.{cases_Bool, cases_lt, eqb-true, eq-eqb, false≢true, true≢false}
use Rattle.std.proofs.lemmas.List.{append_assoc, map_push, take_more_set, length-map, take_more, get_or_past}
use Rattle.std.proofs.lemmas.List.Sums.{length-filter, count_by-le-length}
use Rattle.std.proofs.lemmas.Nat.Bits.{bit_at_and, bit_at_lowest, bit_at-lt, bit_at_ones, bit_at_ones_above, bit_at-suc, bit_at-trailing_zeros, bit_at-zero, same_from_bits}
use Rattle.std.proofs.lemmas.Option.{none-some, same_Some, slice_get_within, get_or_from_slice_get}
use Rattle.std.proofs.lemmas.Simd.{bit_mask_l, ones-mask_l}
use Rattle.std.specs.Int.{bit_at, trailing_zeros, w64}
use Rattle.std.specs.List.{range_with_len}
use Rattle.std.specs.Simd.Lanes.{mask_l}
use Rattle.ub_filter.specs.Batch.{rows_at}
use Rattle.ub_filter.specs.Choice.{is_candidate, recheck_by, is_chosen}
use Rattle.ub_filter.specs.declared.choice.Choice.{Choice}
use Rattle.ub_planning.specs.Plan.{PlanView}
use Rattle.ub_query.specs.Shape.{Shape}
use Rattle.ub_table.specs.declared.row.Row.{Row}
use Rattle.ub_table.specs.declared.schema.Schema.{Schema}

-- rows, each behind its place, counted from this one
abbrev placed_from : ℕ → List Row → List (ℕ × Row)
placed_from k rows = zip (range_with_len k (length rows)) rows

abbrev has_bit : ℕ → ℕ × Row → Bool
has_bit mask p = bit_at mask p.0 == 1

abbrev row_of : ℕ × Row → Row
row_of p = p.1

-- ---- the first of them

-- two masks with the same bits at these places
same_bits : (m n k : ℕ) (rows : List Row) → ((i : ℕ) → k ≤ i → i < k + length rows → bit_at m i ≡ bit_at n i)
    → filter (has_bit m) (placed_from k rows) ≡ filter (has_bit n) (placed_from k rows)
same_bits m n k [] same = refl
same_bits m n k (r ∷ rows) same =
    ap (λ (b : Bool). cond b ((k, r) ∷ filter (has_bit m) (placed_from (k + 1) rows)) (filter (has_bit m) (placed_from (k + 1) rows)))
    (ap (λ (b : ℕ). b == 1) (same k (omega arith) (omega arith)))
    ∙ ap (λ (ps : List (ℕ × Row)). cond (bit_at n k == 1) ((k, r) ∷ ps) ps) (same_bits m n (k + 1) rows (λ i from below. same i (omega arith) (omega arith)))

-- the lowest 1 of a number stands at this place
pub record IsLowest (n p : ℕ) : Type 0 where
  pub one : bit_at n p ≡ 1
  pub none : (i : ℕ) → i < p → bit_at n i ≡ 0

-- a number without the 1 at this place
pub record IsWithout (n p m : ℕ) : Type 0 where
  pub gone : bit_at m p ≡ 0
  pub kept : (i : ℕ) → i ≢ p → bit_at m i ≡ bit_at n i

first_from : (n m k p : ℕ) (rows : List Row) (row : Row) → slice_get rows p ≡ Some row → bit_at n (k + p) ≡ 1
    → ((i : ℕ) → i < k + p → bit_at n i ≡ 0) → IsWithout n (k + p) m
    → map row_of (filter (has_bit n) (placed_from k rows)) ≡ row ∷ map row_of (filter (has_bit m) (placed_from k rows))
first_from n m k p [] row at one none without = absurd (none-some row at)
first_from n m k zero (r ∷ rows) row at one none without =
    let here : k + 0 ≡ k = omega arith in
    let set : (bit_at n k == 1) ≡ true = eq-eqb (bit_at n k) 1 (ap (bit_at n) (sym here) ∙ one) in
    let clear : (bit_at m k == 1) ≡ false = ap (λ (b : ℕ). b == 1) (ap (bit_at m) (sym here) ∙ without.gone) in
    let rest = same_bits n m (k + 1) rows (λ i from below. sym (without.kept i (λ is. absurd (omega arith)))) in
    let same : r ≡ row = same_Some r row at in
    rw (set, clear, rest, same) refl
first_from n m k (suc p) (r ∷ rows) row at one none without =
    let there : k + suc p ≡ k + 1 + p = omega arith in
    let clear : (bit_at n k == 1) ≡ false = ap (λ (b : ℕ). b == 1) (none k (omega arith)) in
    let clear_after : (bit_at m k == 1) ≡ false = ap (λ (b : ℕ). b == 1) (without.kept k (λ is. absurd (omega arith)) ∙ none k (omega arith)) in
    let later = first_from n m (k + 1) p rows row at (ap (bit_at n) (sym there) ∙ one) (λ i below. none i (omega arith)) (subst (λ (q : ℕ). IsWithout n q m) there without) in
    rw (clear, clear_after) later

pub first_at : (n m p : ℕ) (rows : List Row) (row : Row) → slice_get rows p ≡ Some row → IsLowest n p → IsWithout n p m → rows_at n rows ≡ row ∷ rows_at m rows
first_at n m p rows row at lowest without =
    let same : p ≡ 0 + p = omega arith in
    first_from n m 0 p rows row at (ap (bit_at n) (sym same) ∙ lowest.one) (λ i below. lowest.none i (omega arith)) (subst (λ (q : ℕ). IsWithout n q m) same without)

-- no 1, no row
pub none_at : (rows : List Row) → rows_at 0 rows ≡ []
none_at rows = none_from 0 rows
  where
    none_from : (k : ℕ) (rest : List Row) → map row_of (filter (has_bit 0) (placed_from k rest)) ≡ []
    none_from k [] = refl
    none_from k (r ∷ rest) = rw (bit_at-zero k) (none_from (k + 1) rest)

-- a number that has rows isn't 0
pub has_one : (n : ℕ) (rows : List Row) → 0 < length (rows_at n rows) → 0 < n
has_one zero rows there = let none : length (rows_at 0 rows) ≡ 0 = ap length (none_at rows) in absurd (omega arith)
has_one (suc n) rows there = omega arith

-- the places behind the last row mean nothing
pub within_rows : (mask n : ℕ) (rows : List Row) → n ≡ length rows → rows_at (bit_and mask (2 ^ n - 1)) rows ≡ rows_at mask rows
within_rows mask n rows is = ap (map row_of) (same_bits (bit_and mask (2 ^ n - 1)) mask 0 rows (λ i from below.
    let all = bit_at_ones n i (omega arith) in
    let few = bit_at-lt mask i in
    bit_at_and mask (2 ^ n - 1) i ∙ omega arith))

-- a 1 is at the place of a row
pub placed_within : (mask n i : ℕ) → bit_at (bit_and mask (2 ^ n - 1)) i ≡ 1 → i < n
placed_within mask n i one = elim (cases_lt i n) [
  | inl below ↦ below
  | inr past ↦ let none = bit_at_ones_above n i past in let is = bit_at_and mask (2 ^ n - 1) i in absurd (omega arith)
]

-- ---- a number without its lowest 1

some : (n p : ℕ) → bit_at n p ≡ 1 → 0 < n
some zero p one = let none = bit_at-zero p in absurd (omega arith)
some (suc n) p one = omega arith

half : (n p : ℕ) → IsLowest n (suc p) → IsLowest (n / 2) p
half n p lowest = record {
  one = sym (bit_at-suc n p) ∙ lowest.one;
  none = λ i below. sym (bit_at-suc n i) ∙ lowest.none (suc i) (omega arith);
}

-- half of it, less one, is half of what is less by one, where it is even
half_less : (n p : ℕ) → IsLowest n (suc p) → (n - 1) / 2 ≡ n / 2 - 1
half_less n p lowest =
    let even : n % 2 ≡ 0 = sym (bit_at_lowest n) ∙ lowest.none 0 (omega arith) in
    let there = some n (suc p) lowest.one in
    omega arith

less_at : (n p : ℕ) → IsLowest n p → bit_at (n - 1) p ≡ 0
less_at n zero lowest = let odd : n % 2 ≡ 1 = sym (bit_at_lowest n) ∙ lowest.one in bit_at_lowest (n - 1) ∙ omega arith
less_at n (suc p) lowest = bit_at-suc (n - 1) p ∙ ap (λ (k : ℕ). bit_at k p) (half_less n p lowest) ∙ less_at (n / 2) p (half n p lowest)

less_above : (n p i : ℕ) → IsLowest n p → p < i → bit_at (n - 1) i ≡ bit_at n i
less_above n p zero lowest above = absurd (omega arith)
less_above n zero (suc i) lowest above =
    let odd : n % 2 ≡ 1 = sym (bit_at_lowest n) ∙ lowest.one in
    let same : (n - 1) / 2 ≡ n / 2 = omega arith in
    bit_at-suc (n - 1) i ∙ ap (λ (k : ℕ). bit_at k i) same ∙ sym (bit_at-suc n i)
less_above n (suc p) (suc i) lowest above =
    bit_at-suc (n - 1) i ∙ ap (λ (k : ℕ). bit_at k i) (half_less n p lowest) ∙ less_above (n / 2) p i (half n p lowest) (omega arith) ∙ sym (bit_at-suc n i)

pub lowest_at : (n : ℕ) → 0 < n → n < 2 ^ 64 → IsLowest n (trailing_zeros w64 n)
lowest_at n there small = let is = bit_at-trailing_zeros w64 n there small in record { one = is.1; none = is.2 }

-- no 1 comes
pub with_less : (n i : ℕ) → bit_at (bit_and n (n - 1)) i ≡ 1 → bit_at n i ≡ 1
with_less n i one = let is = bit_at_and n (n - 1) i in let low = bit_at-lt n i in omega arith

pub without_lowest : (n p : ℕ) → IsLowest n p → IsWithout n p (bit_and n (n - 1))
without_lowest n p lowest = record {
  gone = let at = less_at n p lowest in bit_at_and n (n - 1) p ∙ omega arith;
  kept = λ i other. bit_at_and n (n - 1) i ∙ elim (cases_lt i p) [
    | inl below ↦ let none = lowest.none i below in omega arith
    | inr past ↦ let same = less_above n p i lowest (let apart = other in omega arith) in omega arith
  ];
}

-- ---- the values of the rows so far, put behind one another

-- the first row of those that are left is put next
pub put_first : (value : Row → ℤ) (rows left : List Row) (row : Row) (count : ℕ) (values : List ℤ) (v : ℤ) (all : List ℤ) → rows ≡ row ∷ left
    → v ≡ value row → count < length values → take count values ++ map value rows ≡ all
    → take (count + 1) (slice_set values count v) ++ map value left ≡ all
put_first value rows left row count values v all first is within so_far =
    ap (λ (xs : List ℤ). xs ++ map value left) (take_more_set values count v within ∙ ap (λ (x : ℤ). take count values ++ x ∷ []) is)
    ∙ append_assoc (take count values) (value row ∷ []) (map value left)
    ∙ ap (λ (rs : List Row). take count values ++ map value rs) (sym first) ∙ so_far

-- the same of all rows
pub put_next : (value : Row → ℤ) (rows : List Row) (i : ℕ) (row : Row) (values : List ℤ) (v : ℤ) → slice_get rows i ≡ Some row → v ≡ value row
    → i < length values
    → take i values ≡ map value (take i rows) → take (i + 1) (slice_set values i v) ≡ map value (take (i + 1) rows)
put_next value rows i row values v at is within so_far =
    take_more_set values i v within ∙ ap (λ (xs : List ℤ). xs ++ v ∷ []) so_far ∙ ap (λ (x : ℤ). map value (take i rows) ++ x ∷ []) is
    ∙ sym (map_push value (take i rows) row)
    ∙ ap (map value) (sym (take_more rows i row (slice_get_within rows i row at)
    ∙ ap (λ (r : Row). take i rows ++ r ∷ []) (get_or_from_slice_get rows i row row at)))

-- ---- how many they are

bit_there : (mask k i : ℕ) (rows : List Row) → i < length rows
    → cond (slice_index_or (map (has_bit mask) (placed_from k rows)) i false) 1 0 ≡ bit_at mask (k + i)
bit_there mask k i [] below = absurd (omega arith)
bit_there mask k zero (r ∷ rows) below =
    let e : k ≡ k + 0 = omega arith in
    as_bit (bit_at mask k) (bit_at-lt mask k) ∙ ap (bit_at mask) e
  where
    as_bit : (n : ℕ) → n < 2 → cond (n == 1) 1 0 ≡ n
    as_bit zero l = refl
    as_bit (suc zero) l = refl
    as_bit (suc (suc n)) l = absurd (omega arith)
bit_there mask k (suc i) (r ∷ rows) below =
    let e : k + 1 + i ≡ k + suc i = omega arith in
    bit_there mask (k + 1) i rows (omega arith) ∙ ap (bit_at mask) e

length-placed : (k : ℕ) (rows : List Row) → length (placed_from k rows) ≡ length rows
length-placed k [] = refl
length-placed k (r ∷ rows) = ap suc (length-placed (k + 1) rows)

same_mask : (mask : ℕ) (rows : List Row) → mask_l (map (has_bit mask) (placed_from 0 rows)) ≡ bit_and mask (2 ^ length rows - 1)
same_mask mask rows = same_from_bits _ _ (λ i. bit_mask_l (map (has_bit mask) (placed_from 0 rows)) i ∙ at i
    ∙ sym (bit_at_and mask (2 ^ length rows - 1) i))
  where
    long : length (map (has_bit mask) (placed_from 0 rows)) ≡ length rows
    long = length-map (placed_from 0 rows) (has_bit mask) ∙ length-placed 0 rows

    there : (i : ℕ) → i < length rows → bit_at mask (0 + i) ≡ min (bit_at mask i) (bit_at (2 ^ length rows - 1) i)
    there i below =
        let same : 0 + i ≡ i = omega arith in
        let low = bit_at-lt mask i in
        let all = bit_at_ones (length rows) i below in
        let least : bit_at mask i ≡ min (bit_at mask i) (bit_at (2 ^ length rows - 1) i) = omega arith in
        ap (bit_at mask) same ∙ least

    gone : (i : ℕ) → length rows ≤ i → 0 ≡ min (bit_at mask i) (bit_at (2 ^ length rows - 1) i)
    gone i past = let none = bit_at_ones_above (length rows) i past in omega arith

    at : (i : ℕ) → cond (slice_index_or (map (has_bit mask) (placed_from 0 rows)) i false) 1 0 ≡ min (bit_at mask i) (bit_at (2 ^ length rows - 1) i)
    at i = elim (cases_lt i (length rows)) [
      | inl below ↦ bit_there mask 0 i rows below ∙ there i below
      | inr past ↦
          ap (λ (b : Bool). cond b 1 0) (get_or_past (map (has_bit mask) (placed_from 0 rows)) i false (let e = long in omega arith))
          ∙ gone i (omega arith)
    ]

-- the ones of the mask's first places
pub counted : (mask : ℕ) (rows : List Row) (n : ℕ) → n ≡ length rows → count_ones (bit_and mask (2 ^ n - 1)) ≡ length (rows_at mask rows)
counted mask rows n is =
    ap (λ (m : ℕ). count_ones (bit_and mask (2 ^ m - 1))) is ∙ ap count_ones (sym (same_mask mask rows))
    ∙ ones-mask_l (has_bit mask) (placed_from 0 rows)
    ∙ sym (length-filter (has_bit mask) (placed_from 0 rows)) ∙ sym (length-map (filter (has_bit mask) (placed_from 0 rows)) row_of)

-- no more than there are
pub few_at : (mask : ℕ) (rows : List Row) (most : ℕ) → length rows ≤ most → length (rows_at mask rows) ≤ most
few_at mask rows most few =
    let long = length-map (filter (has_bit mask) (placed_from 0 rows)) row_of in
    let part = length-filter (has_bit mask) (placed_from 0 rows) in
    let some = count_by-le-length (has_bit mask) (placed_from 0 rows) in
    let all = length-placed 0 rows in
    omega arith

-- where they are as many as there are, they are all
rows_placed : (k : ℕ) (rows : List Row) → map row_of (placed_from k rows) ≡ rows
rows_placed k [] = refl
rows_placed k (r ∷ rows) = ap (λ (rs : List Row). r ∷ rs) (rows_placed (k + 1) rows)

all_pass : (test : ℕ × Row → Bool) (ps : List (ℕ × Row)) → length (filter test ps) ≡ length ps → filter test ps ≡ ps
all_pass test [] many = refl
all_pass test (p ∷ ps) many = by_test (test p) refl (λ (e : length (filter test ps) ≡ length ps). all_pass test ps e)
  where
    rest : length (filter test ps) ≤ length ps
    rest = let counted = length-filter test ps in let some = count_by-le-length test ps in omega arith

    by_test : (b : Bool) → test p ≡ b → (length (filter test ps) ≡ length ps → filter test ps ≡ ps) → filter test (p ∷ ps) ≡ p ∷ ps
    by_test true is later =
        let first : filter test (p ∷ ps) ≡ p ∷ filter test ps = rw is refl in
        let long : suc (length (filter test ps)) ≡ suc (length ps) = sym (ap length first) ∙ many in
        first ∙ ap (λ (qs : List (ℕ × Row)). p ∷ qs) (later (omega arith))
    by_test false is later =
        let first : filter test (p ∷ ps) ≡ filter test ps = rw is refl in
        let long : length (filter test ps) ≡ suc (length ps) = sym (ap length first) ∙ many in
        let few = rest in
        absurd (omega arith)

pub all_at : (mask : ℕ) (rows : List Row) → length (rows_at mask rows) ≡ length rows → rows_at mask rows ≡ rows
all_at mask rows many =
    let long : length (filter (has_bit mask) (placed_from 0 rows)) ≡ length (placed_from 0 rows) =
    sym (length-map (filter (has_bit mask) (placed_from 0 rows)) row_of) ∙ many ∙ sym (length-placed 0 rows) in
    ap (map row_of) (all_pass (has_bit mask) (placed_from 0 rows) long) ∙ rows_placed 0 rows

-- ---- the rows that a test tells

one_or_none : (b t : Bool) (p : ℕ × Row) (ps : List (ℕ × Row)) (rows : List Row) → b ≡ t → map row_of ps ≡ rows
    → map row_of (cond b (p ∷ ps) ps) ≡ cond t (row_of p ∷ rows) rows
one_or_none true true p ps rows is rest = ap (λ (rs : List Row). row_of p ∷ rs) rest
one_or_none true false p ps rows is rest = absurd (true≢false is)
one_or_none false true p ps rows is rest = absurd (false≢true is)
one_or_none false false p ps rows is rest = rest

same_test : (n : ℕ) (t : Bool) → (n ≡ 1) ↔ IsTrue t → (n == 1) ≡ t
same_test n true iff = eq-eqb n 1 (iff.1 refl)
same_test n false iff = elim (cases_Bool (n == 1)) [
  | inl t ↦ absurd (false≢true (iff.0 (eqb-true n 1 t)))
  | inr f ↦ f
]

told_from : (test : Row → Bool) (mask k : ℕ) (rows : List Row)
    → ((i : ℕ) (row : Row) → slice_get rows i ≡ Some row → (bit_at mask (k + i) ≡ 1) ↔ IsTrue (test row))
    → map row_of (filter (has_bit mask) (placed_from k rows)) ≡ filter test rows
told_from test mask k [] told = refl
told_from test mask k (r ∷ rows) told =
    let here : k + 0 ≡ k = omega arith in
    one_or_none (has_bit mask (k, r)) (test r) (k, r) (filter (has_bit mask) (placed_from (k + 1) rows)) (filter test rows)
    (same_test (bit_at mask k) (test r) (subst (λ (n : ℕ). (bit_at mask n ≡ 1) ↔ IsTrue (test r)) here (told 0 r refl)))
    (told_from test mask (k + 1) rows (λ i row at.
    let e : k + suc i ≡ k + 1 + i = omega arith in
    subst (λ (n : ℕ). (bit_at mask n ≡ 1) ↔ IsTrue (test row)) e (told (suc i) row at)))

-- where nothing more is asked of the candidates, these are the chosen rows
pub all_candidates : (choice : Choice) (schema : Schema) (plan : PlanView) (asked : Option Shape) (mask : ℕ) (rows : List Row)
    → asked ≡ recheck_by choice plan → asked ≡ None → length rows ≤ 64
    → ((i : ℕ) (row : Row) → i < 64 → slice_get rows i ≡ Some row → (bit_at mask i ≡ 1) ↔ IsTrue (is_candidate choice schema plan.covering.boxes row))
    → rows_at mask rows ≡ filter (is_chosen choice schema plan) rows
all_candidates choice schema plan asked mask rows is none few told =
    told_from (is_chosen choice schema plan) mask 0 rows here
  where
    and_true : (b : Bool) → (b && true) ≡ b
    and_true true = refl
    and_true false = refl

    alone : (row : Row) → is_chosen choice schema plan row ≡ is_candidate choice schema plan.covering.boxes row
    alone row = rw (sym is, none) (and_true (is_candidate choice schema plan.covering.boxes row))

    here : (i : ℕ) (row : Row) → slice_get rows i ≡ Some row → (bit_at mask (0 + i) ≡ 1) ↔ IsTrue (is_chosen choice schema plan row)
    here i row at =
        let below : i < 64 = let within = slice_get_within rows i row at in omega arith in
        let same : i ≡ 0 + i = omega arith in
        subst (λ (n : ℕ). (bit_at mask n ≡ 1) ↔ IsTrue (is_chosen choice schema plan row)) same
        (subst (λ (b : Bool). (bit_at mask i ≡ 1) ↔ IsTrue b) (sym (alone row)) (told i row below at))
