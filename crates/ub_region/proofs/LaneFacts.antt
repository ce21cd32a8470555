-- Masks of comparisons, of eight lanes and of a whole column.
use Rattle.std.proofs.lemmas.Grind.{common_steps}
use Rattle.std.proofs.Common.{◌≡◌, ◌≤◌, ◌<◌, ◌+◌, ◌-◌, ◌*◌, ◌^◌, ◌%◌, ◌↔◌, ◌⊎◌, inl, inr, ℕ, Bool, true, false, cond, List, length, map, take, drop, replicate, get_or, slice_index, sym, ap, ◌∙◌, arith, rules, nat_le, min, max, bit_and, bit_or}
use Rattle.std.proofs.lemmas.Bool.{cases_order}
use Rattle.std.proofs.lemmas.List.{length-map, length-take-le, get_or-take, get_or-drop, length-drop}
use Rattle.std.proofs.lemmas.Nat.{shl_whole, pow_pos}
use Rattle.std.proofs.lemmas.Nat.Bits.{bit_at_and, bit_at_or, bit_at-zero, bit_at-lt, bit_at_ones, bit_at_ones_above, bit_at_cat_low, bit_at_cat_high}
use Rattle.std.proofs.lemmas.Simd.{tops_compared, zip2_splat_left, mask_l-mod, mask_l-lt, bit_mask_l}
use Rattle.std.specs.Int.{bit_at}
use Rattle.std.specs.Simd.Lanes.{mask_l, top, zip2}
use Rattle.ub_region.specs.Lanes.{IsMaskOf}
use mir.Syntax.{Width}
use mir.Val.{bits, hbits}

pub bitmask_splat_left : (w : Width) (t : ℕ → ℕ → Bool) (ys : List ℕ) (n : ℕ) (x : ℕ) → length ys ≡ n → n ≤ 64
    → mask_l (map (top (hbits w)) (zip2 (λ a b. cond (t a b) (2 ^ bits w - 1) 0) (replicate n x) ys)) % 2 ^ 64 ≡ mask_l (map (λ y. t x y) ys)
bitmask_splat_left w t ys n x long small =
    ap (λ (ms : List Bool). mask_l ms % 2 ^ 64) (tops_compared w t (replicate n x) ys ∙ zip2_splat_left t x n ys long)
    ∙ mask_l-mod (map (λ y. t x y) ys) 64 (rw (length-map ys (λ y. t x y)) (omega arith))

-- one and the other
pub record Both (A B : Type 0) : Type 0 where
  pub first : A
  pub second : B

-- an element of a mapped list of tests
at_map : (f : ℕ → Bool) (xs : List ℕ) (i : ℕ) → (get_or (map f xs) i false ≡ true) ↔ ((i < length xs) × (f (slice_index xs i) ≡ true))
at_map f xs i = grind (arith, common_steps)

both : (a b : Bool) → (min (cond a 1 0) (cond b 1 0) ≡ 1) ↔ ((a ≡ true) × (b ≡ true))
both a b = search rules

pub IsMaskOf-and : (lo hi : ℕ) (xs : List ℕ) → IsMaskOf lo hi xs (bit_and (mask_l (map (λ x. nat_le lo x) xs)) (mask_l (map (λ x. nat_le x hi) xs)))
IsMaskOf-and lo hi xs = search (rules, at_map, bit_at_and, bit_mask_l, both)

pub mask_below : (f : ℕ → Bool) (xs : List ℕ) → length xs ≡ 8 → mask_l (map f xs) < 256
mask_below f xs long = rw (length-map xs f, long) at (mask_l-lt (map f xs))

-- the value at an index is there, and lies between the bounds
abbrev pub Lies : ℕ → ℕ → List ℕ → ℕ → Type 0
Lies lo hi column i = (i < length column) × (lo ≤ get_or column i 0) × (get_or column i 0 ≤ hi)

-- the bits below n are those of the first n values, and there are no others
abbrev pub IsMaskTo : ℕ → ℕ → List ℕ → ℕ → ℕ → Type 0
IsMaskTo lo hi column n mask = (i : ℕ) → (bit_at mask i ≡ 1) ↔ Both (i < n) (Lies lo hi column i)

pub IsMaskTo-from : (lo hi n mask : ℕ) (column : List ℕ) → n ≤ length column → IsMaskOf lo hi (take n column) mask → IsMaskTo lo hi column n mask
IsMaskTo-from lo hi n mask column h k = search (rules, get_or-take, length-take-le)

pub sorted : (i n : ℕ) → (i ≡ n) ⊎ ((i < n) ⊎ (n < i)) → (i < n) ⊎ (n ≤ i)
sorted i n h = search rules

either : (a b : ℕ) → a < 2 → b < 2 → (max a b ≡ 1) ↔ ((a ≡ 1) ⊎ (b ≡ 1))
either a b h k = search rules

-- eight values more
pub IsMaskTo-chunk : (lo hi n mask lanes : ℕ) (column : List ℕ) → n + 8 ≤ length column → length column ≤ 64 → lanes < 256 → IsMaskOf lo hi (take 8 (drop n column)) lanes
    → IsMaskTo lo hi column n mask → IsMaskTo lo hi column (n + 8) (bit_or mask (lanes * 2 ^ n % 2 ^ 64))
IsMaskTo-chunk lo hi n mask lanes column there few small chunk so i =
    let rest : 8 ≤ length (drop n column) = omega (arith, length-drop n column) in
    let moved : lanes * 2 ^ n % 2 ^ 64 ≡ lanes * 2 ^ n + 0 = shl_whole lanes 8 n 64 small (omega arith) ∙ omega arith in
    let low : bit_at (lanes * 2 ^ n % 2 ^ 64) i ≡ bit_at (lanes * 2 ^ n + 0) i = ap (λ (x : ℕ). bit_at x i) moved in
    let two = either (bit_at mask i) (bit_at (lanes * 2 ^ n % 2 ^ 64) i) (bit_at-lt mask i) (bit_at-lt _ i) in
    let is = bit_at_or mask (lanes * 2 ^ n % 2 ^ 64) i in
    let of_chunk = IsMaskTo-from lo hi 8 lanes (drop n column) rest chunk in
    elim (sorted i n (cases_order i n)) [
      | inl less ↦
          let none : bit_at (lanes * 2 ^ n % 2 ^ 64) i ≡ 0 = low ∙ bit_at_cat_low lanes n 0 i less ∙ bit_at-zero i in (
            (λ bit. elim (two.0 (sym is ∙ bit)) [
              | inl e ↦ record { first = omega arith; second = ((so i).0 e).second }
              | inr e ↦ absurd (omega (arith, none, e))
            ]),
            (λ h. is ∙ two.1 (inl ((so i).1 (record { first = less; second = h.second })))),
          )
      | inr from ↦
          let high : bit_at (lanes * 2 ^ n % 2 ^ 64) i ≡ bit_at lanes (i - n) = low ∙ bit_at_cat_high lanes n 0 i (pow_pos n) from in
          let here : get_or (drop n column) (i - n) 0 ≡ get_or column i 0 = get_or-drop n column (i - n) 0 ∙ ap (λ (k : ℕ). get_or column k 0) (omega arith) in (
            (λ bit. elim (two.0 (sym is ∙ bit)) [
              | inl e ↦ let before = ((so i).0 e).first in absurd (omega arith)
              | inr e ↦ let was = (of_chunk (i - n)).0 (sym high ∙ e) in let less = was.first in
                  record { first = omega arith; second = (omega arith, rw here at was.second.1, rw here at was.second.2) }
            ]),
            (λ h. let less = h.first in let within = h.second.0 in
                is ∙ two.1 (inr (high ∙ (of_chunk (i - n)).1 (record { first = omega arith; second = (omega (arith, length-drop n column), rw here h.second.1, rw here h.second.2) })))),
          )
    ]

-- all values
pub IsMaskTo-all : (lo hi n mask : ℕ) (column : List ℕ) → length column ≤ n → IsMaskTo lo hi column n mask → IsMaskOf lo hi column mask
IsMaskTo-all lo hi n mask column all so i =
    (λ bit. ((so i).0 bit).second, λ value. (so i).1 (record { first = let there = value.0 in omega arith; second = value }))

-- of the first values of a column, where those behind are left out
first_only : (p q : ℕ) → p < 2 → q < 2 → (min p q ≡ 1) ↔ ((p ≡ 1) × (q ≡ 1))
first_only p q h k = search rules

pub IsMaskOf-first : (lo hi n : ℕ) (column : List ℕ) (mask places : ℕ) → places ≡ 2 ^ n - 1 → n ≤ length column → IsMaskOf lo hi column mask
    → IsMaskOf lo hi (take n column) (bit_and mask places)
IsMaskOf-first lo hi n column mask places is within so i =
    let two = first_only (bit_at mask i) (bit_at places i) (bit_at-lt mask i) (bit_at-lt places i) in
    let joined = bit_at_and mask places i in
    let long : length (take n column) ≡ n = length-take-le n column within in (
      (λ bit.
          let both = two.0 (sym joined ∙ bit) in
          let value = (so i).0 both.0 in
          elim (sorted i n (cases_order i n)) [
            | inl less ↦ let same = get_or-take n column i 0 less in (omega arith, rw same value.1, rw same value.2)
            | inr from ↦ let none = bit_at_ones_above n i from in let one : bit_at (2 ^ n - 1) i ≡ 1 = ap (λ (m : ℕ). bit_at m i) (sym is) ∙ both.1 in absurd (omega arith)
          ]),
      (λ value.
          let there = value.0 in
          let less : i < n = omega arith in
          let same = get_or-take n column i 0 less in
          joined ∙ two.1 ((so i).1 (omega arith, rw same at value.1, rw same at value.2), ap (λ (m : ℕ). bit_at m i) is ∙ bit_at_ones n i less)),
    )
