-- How the cuts of a condition are put together.
use Rattle.std.proofs.Common.{◌≡◌, ◌≢◌, ◌≤◌, ◌<◌, ◌+◌, ◌-◌, ◌==◌, ℕ, zero, suc, List, [], ◌∷◌, ◌++◌, Option, Some, None, true, false, nat_le, nat_lt, ℤ, pos, negsuc, ◌+ℤ◌, ◌^◌, slice_index, get_or, length, refl, sym, ap, arith, ◌∙◌, inl, inr, rules}
use Rattle.std.specs.List.{position_from, insert}
use Rattle.std.proofs.lemmas.Bool.{cases_Bool, cases_lt}
use Rattle.std.proofs.lemmas.Int.{ints}
use Rattle.std.specs.Int.{saturate_signed, w128}
use mir.Val.{SFits}
use Rattle.ub_boxes.specs.Cuts.{above_least, cut_of, put, put_some, put_cuts, cuts, turns}
use Rattle.ub_boxes.specs.inner.Sides.{AreCuts}
use Rattle.ub_query.specs.Shape.{Shape}
use Rattle.ub_table.proofs.Laws.{coordinates_are_values, no_coordinate}
use Rattle.ub_table.specs.Value.{axes_of, coordinate, greatest}
use Rattle.ub_table.specs.declared.schema.Schema.{Schema}

pub put_cuts_append : (schema : Schema) (dim : ℕ) (xs ys : List ℤ) (ms : List ℕ)
    → put_cuts schema dim (xs ++ ys) ms ≡ put_cuts schema dim ys (put_cuts schema dim xs ms)
put_cuts_append schema dim [] ys ms = refl
put_cuts_append schema dim (x ∷ xs) ys ms = put_cuts_append schema dim xs ys (put_some (cut_of schema dim x) ms)

-- what follows a place that is found from k on
place_past : (n : ℕ) (ms : List ℕ) (k i : ℕ) → position_from (nat_le n) k ms ≡ Some i → k ≤ i
place_past n [] k i e = cc
place_past n (m ∷ ms) k i e = elim (cases_Bool (nat_le n m)) [
  | inl t ↦ let h = rw t at e in let same : k ≡ i = cc in omega arith
  | inr f ↦ let h = place_past n ms (k + 1) i (rw f at e) in omega arith
]

pub put-none : (n : ℕ) (ms : List ℕ) (k : ℕ) → position_from (nat_le n) k ms ≡ None → put n ms ≡ ms ++ n ∷ []
put-none n [] k e = refl
put-none n (m ∷ ms) k e = elim (cases_Bool (nat_le n m)) [
  | inl t ↦ let h = rw t at e in cc
  | inr f ↦
      let a : nat_lt n m ≡ false = search (rules, f) in
      let b : (n == m) ≡ false = search (rules, f) in
      rw (a, b) (ap (λ (xs : List ℕ). m ∷ xs) (put-none n ms (k + 1) (rw f at e)))
]

-- where a number stands, or is put
abbrev Placed : ℕ → List ℕ → ℕ → Type 0
Placed n ms j = (j < length ms) × (slice_index ms j ≡ n → put n ms ≡ ms) × (slice_index ms j ≢ n → put n ms ≡ insert ms j n)

placed-later : (n m : ℕ) (ms : List ℕ) (i j : ℕ) → i ≡ suc j → nat_lt n m ≡ false → (n == m) ≡ false → Placed n ms j → Placed n (m ∷ ms) i
placed-later n m ms i j is a b p = rw (is, a, b) (
  (let within = p.0 in omega arith),
  (λ e. ap (λ (xs : List ℕ). m ∷ xs) (p.1 e)),
  (λ ne. ap (λ (xs : List ℕ). m ∷ xs) (p.2 ne)),
)

placed-here : (n m : ℕ) (ms : List ℕ) (i : ℕ) → i ≡ 0 → nat_le n m ≡ true → Placed n (m ∷ ms) i
placed-here n m ms i is le = rw is (
  omega arith,
  (λ e. let a : nat_lt n m ≡ false = search (rules, e) in let b : (n == m) ≡ true = search (rules, e) in rw (a, b) refl),
  (λ ne. let a : nat_lt n m ≡ true = search (rules, ne, le) in rw a refl),
)

put-found : (n : ℕ) (ms : List ℕ) (k i : ℕ) → position_from (nat_le n) k ms ≡ Some i → Placed n ms (i - k)
put-found n [] k i e = cc
put-found n (m ∷ ms) k i e = elim (cases_Bool (nat_le n m)) [
  | inl t ↦ let h = rw t at e in let same : k ≡ i = cc in placed-here n m ms (i - k) (omega arith) t
  | inr f ↦
      let h = rw f at e in
      let past = place_past n ms (k + 1) i h in
      let a : nat_lt n m ≡ false = search (rules, f) in
      let b : (n == m) ≡ false = search (rules, f) in
      placed-later n m ms (i - k) (i - (k + 1)) (omega arith) a b (put-found n ms (k + 1) i h)
]

same_default : (ms : List ℕ) (i a b : ℕ) → i < length ms → get_or ms i a ≡ get_or ms i b
same_default [] i a b h = absurd (omega arith)
same_default (m ∷ ms) zero a b h = refl
same_default (m ∷ ms) (suc i) a b h = same_default ms i a b (omega arith)

pub put_place : (n x : ℕ) (ms seen : List ℕ) (o : Option ℕ) (i : ℕ) → seen ≡ ms → o ≡ position_from (nat_le n) 0 seen → o ≡ Some i → x ≡ get_or ms i x
    → (x ≡ n → put n ms ≡ ms) × (x ≢ n → put n ms ≡ insert ms i n)
put_place n x ms seen o i same is some at =
    let e : position_from (nat_le n) 0 ms ≡ Some i = ap (position_from (nat_le n) 0) (sym same) ∙ sym is ∙ some in
    let from : i - 0 ≡ i = omega arith in
    let found = rw from at (put-found n ms 0 i e) in
    let there : slice_index ms i ≡ x = same_default ms i 0 x found.0 ∙ sym at in
    ((λ e. found.1 (there ∙ e)), (λ ne. found.2 (λ e. ne (sym there ∙ e))))

pub put_within : (n : ℕ) (ms seen : List ℕ) (o : Option ℕ) (i : ℕ) → seen ≡ ms → o ≡ position_from (nat_le n) 0 seen → o ≡ Some i → i < length ms
put_within n ms seen o i same is some =
    let e : position_from (nat_le n) 0 ms ≡ Some i = ap (position_from (nat_le n) 0) (sym same) ∙ sym is ∙ some in
    let from : i - 0 ≡ i = omega arith in
    (rw from at (put-found n ms 0 i e)).0

pub put_no_place : (n : ℕ) (ms seen : List ℕ) (o : Option ℕ) → seen ≡ ms → o ≡ position_from (nat_le n) 0 seen → o ≡ None → put n ms ≡ ms ++ n ∷ []
put_no_place n ms seen o same is none = put-none n ms 0 (ap (position_from (nat_le n) 0) (sym same) ∙ sym is ∙ none)

-- ---- cuts ascend

put-keeps : (low n : ℕ) (ms : List ℕ) → low < n → n ≤ greatest → AreCuts low ms → AreCuts low (put n ms)
put-keeps low n [] lt le h = (lt, le, le)
put-keeps low n (m ∷ ms) lt le h = elim (cases_Bool (nat_lt n m)) [
  | inl t ↦ let less : n < m = search (rules, t) in rw t (lt, le, (less, h.1, h.2))
  | inr f ↦ elim (cases_Bool (n == m)) [
    | inl same ↦ rw (f, same) h
    | inr other ↦ let more : m < n = search (rules, f, other) in rw (f, other) (h.0, h.1, put-keeps m n ms more le h.2)
  ]
]

above_is : (o : Option ℕ) (n : ℕ) → above_least o ≡ Some n → (0 < n) × (o ≡ Some n)
above_is None n e = cc
above_is (Some m) n e = elim (cases_Bool (nat_lt 0 m)) [
  | inl a ↦ let h = rw a at e in let same : m ≡ n = cc in (search (rules, a, same), ap (λ (k : ℕ). Some k) same)
  | inr f ↦ let h = rw f at e in cc
]

cut_of-fits : (schema : Schema) (dim : ℕ) (v : ℤ) (n : ℕ) → cut_of schema dim v ≡ Some n → (0 < n) × (n ≤ greatest)
cut_of-fits schema dim v n e =
    let above = above_is (coordinate schema dim v) n e in
    (above.0, ((coordinates_are_values (axes_of schema) dim n v).0 above.1).0)

-- the cut after a value, where the value after it is the greatest that 128 bits with sign hold or less
pub cut_after : (schema : Schema) (dim : ℕ) (v w : ℤ) → SFits w128 v → w ≡ saturate_signed w128 (v +ℤ pos 1) → cut_of schema dim w ≡ cut_of schema dim (v +ℤ pos 1)
cut_after schema dim (pos n) w fits is = elim (cases_lt (n + 1) (2 ^ 127)) [
  | inl lt ↦ ap (cut_of schema dim) (is ∙ ap pos (omega arith))
  | inr ge ↦
      let most : w ≡ pos 170141183460469231731687303715884105727 = is ∙ ap pos (omega arith) in
      ap above_least (no_coordinate (axes_of schema) dim w (omega (arith, ints, most)) ∙ sym (no_coordinate (axes_of schema) dim (pos (n + 1)) (omega (arith, ints, ge))))
]
cut_after schema dim (negsuc zero) w fits is = ap (cut_of schema dim) (is ∙ refl)
cut_after schema dim (negsuc (suc n)) w fits is =
    let small : suc n < 2 ^ 127 = fits.sfits in
    let next : negsuc (suc n) +ℤ pos 1 ≡ negsuc n = omega (arith, ints) in
    let low : saturate_signed w128 (negsuc n) ≡ negsuc n = ap negsuc (omega (arith, small)) in
    ap (cut_of schema dim) (is ∙ ap (saturate_signed w128) next ∙ low ∙ sym next)

put_some-keeps : (schema : Schema) (dim : ℕ) (v : ℤ) (o : Option ℕ) (ms : List ℕ) → cut_of schema dim v ≡ o → AreCuts 0 ms → AreCuts 0 (put_some o ms)
put_some-keeps schema dim v None ms e h = h
put_some-keeps schema dim v (Some n) ms e h = let fits = cut_of-fits schema dim v n e in put-keeps 0 n ms fits.0 fits.1 h

put_cuts-keep : (schema : Schema) (dim : ℕ) (vs : List ℤ) (ms : List ℕ) → AreCuts 0 ms → AreCuts 0 (put_cuts schema dim vs ms)
put_cuts-keep schema dim [] ms h = h
put_cuts-keep schema dim (v ∷ vs) ms h = put_cuts-keep schema dim vs _ (put_some-keeps schema dim v (cut_of schema dim v) ms refl h)

pub are_cuts : (schema : Schema) (filter : Option Shape) (dim : ℕ) → AreCuts 0 (cuts schema filter dim)
are_cuts schema None dim = omega arith
are_cuts schema (Some c) dim = put_cuts-keep schema dim (turns dim c) [] (omega arith)
