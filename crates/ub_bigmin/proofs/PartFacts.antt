-- The part of a box whose addresses agree from a place up.
use Rattle.std.proofs.Common.{◌≡◌, ◌≤◌, ◌<◌, ◌+◌, ◌-◌, ◌*◌, ◌/◌, ◌%◌, ◌^◌, ℕ, zero, suc, List, length, slice_index, refl, sym, ap, ◌∙◌, subst, arith, inl, inr, ◌↔◌, Option, Some, None}
use Rattle.std.specs.Prelude.{IsSome, IfSome}
use Rattle.std.specs.Int.{bit_at}
use Rattle.std.proofs.Math.Nat.{div-lt_iff_lt-mul, mod-eq_of_lt, div-mul-le_self, mul-le-mul_right, add-mul}
use Rattle.std.proofs.Math.Pow.{pow-lt}
use Rattle.std.proofs.lemmas.Bool.{cases_lt}
use Rattle.std.proofs.lemmas.List.Elements.{All-get_or}
use Rattle.std.proofs.lemmas.Nat.{pow_pos, mod-pow-add, pow-add, div-mul-add, shl-shr, shr-shr}
use Rattle.std.proofs.lemmas.Nat.Bits.{bit_at-lt, bit_at-zero, bit_at_ones, bit_at_cat_low}
use Rattle.ub_zaddr.specs.Address.{address, place, IsAtMost, IsPoint}
use Rattle.ub_bigmin.specs.Box.{Corners, IsBox, IsInside}
use Rattle.ub_bigmin.specs.Extremes.{Least, Greatest}
use Rattle.ub_bigmin.specs.Halves.{IsHalfFrom, IsHalfUpTo, IsValueOf, IsUnder, IsOver, IsPart, IsStart, IsEnd, IsJoin, IsMeet}
use Rattle.ub_bigmin.proofs.CutFacts.{agree_between}
use Rattle.ub_bigmin.proofs.PointFacts.{IsAtMost-refl, IsAtMost-trans, IsPoint-below}
use Rattle.ub_bigmin.proofs.AddressOrder.{address-mono, bit_at-address}

-- ---- the least and the greatest number that agree with z from place k up

abbrev lowest : ℕ → ℕ → ℕ
lowest z k = z / 2 ^ k * 2 ^ k

abbrev highest : ℕ → ℕ → ℕ
highest z k = z / 2 ^ k * 2 ^ k + (2 ^ k - 1)

pub highest-lt : (z k n : ℕ) → k ≤ n → z < 2 ^ n → highest z k < 2 ^ n
highest-lt z k n le lt =
    let pos = pow_pos k in
    let sum : n ≡ (n - k) + k = omega arith in
    let split : 2 ^ n ≡ 2 ^ (n - k) * 2 ^ k = ap (λ (m : ℕ). 2 ^ m) sum ∙ pow-add 2 (n - k) k in
    let less : z / 2 ^ k < 2 ^ (n - k) = (div-lt_iff_lt-mul pos).1 (omega arith) in
    let room : (z / 2 ^ k + 1) * 2 ^ k ≤ 2 ^ (n - k) * 2 ^ k = mul-le-mul_right (2 ^ k) (omega arith) in
    let parts : (z / 2 ^ k + 1) * 2 ^ k ≡ z / 2 ^ k * 2 ^ k + 1 * 2 ^ k = add-mul (z / 2 ^ k) 1 (2 ^ k) in
    omega arith

lowest-agrees : (z k : ℕ) → lowest z k / 2 ^ k ≡ z / 2 ^ k
lowest-agrees z k = shl-shr (z / 2 ^ k) k

highest-agrees : (z k : ℕ) → highest z k / 2 ^ k ≡ z / 2 ^ k
highest-agrees z k = let pos = pow_pos k in div-mul-add (z / 2 ^ k) (2 ^ k) (2 ^ k - 1) (omega arith)

-- numbers that agree from place k up have the same bits there
bit_above : (a c k m : ℕ) → a / 2 ^ k ≡ c / 2 ^ k → k ≤ m → bit_at a m ≡ bit_at c m
bit_above a c k m e le =
    let sum : m ≡ k + (m - k) = omega arith in
    ap (λ (i : ℕ). bit_at a i) sum
    ∙ sym (ap (λ (x : ℕ). x % 2) (shr-shr a k (m - k)))
    ∙ ap (λ (x : ℕ). x / 2 ^ (m - k) % 2) e
    ∙ ap (λ (x : ℕ). x % 2) (shr-shr c k (m - k))
    ∙ ap (λ (i : ℕ). bit_at c i) (sym sum)

lowest-low : (z k m : ℕ) → m < k → bit_at (lowest z k) m ≡ 0
lowest-low z k m lt =
    let e : lowest z k ≡ z / 2 ^ k * 2 ^ k + 0 = omega arith in
    ap (λ (x : ℕ). bit_at x m) e ∙ bit_at_cat_low (z / 2 ^ k) k 0 m lt ∙ bit_at-zero m

highest-low : (z k m : ℕ) → m < k → bit_at (highest z k) m ≡ 1
highest-low z k m lt = bit_at_cat_low (z / 2 ^ k) k (2 ^ k - 1) m lt ∙ bit_at_ones k m lt

-- each bit of a number that agrees with z lies between theirs
bits_from : (a z k m : ℕ) → a / 2 ^ k ≡ z / 2 ^ k → bit_at (lowest z k) m ≤ bit_at a m
bits_from a z k m e = elim (cases_lt m k) [
  | inl lt ↦ let low = lowest-low z k m lt in omega arith
  | inr le ↦ let same = bit_above (lowest z k) a k m (lowest-agrees z k ∙ sym e) le in omega arith
]

bits_up_to : (a z k m : ℕ) → a / 2 ^ k ≡ z / 2 ^ k → bit_at a m ≤ bit_at (highest z k) m
bits_up_to a z k m e = elim (cases_lt m k) [
  | inl lt ↦ let high = highest-low z k m lt in let small = bit_at-lt a m in omega arith
  | inr le ↦ let same = bit_above (highest z k) a k m (highest-agrees z k ∙ sym e) le in omega arith
]

-- where each bit is at most the other's, so is the number
by_bits : (x y n : ℕ) → ((b : ℕ) → b < n → bit_at x b ≤ bit_at y b) → x % 2 ^ n ≤ y % 2 ^ n
by_bits x y zero h = omega arith
by_bits x y (suc n) h =
    let e : suc n ≡ 1 + n = omega arith in
    let a : x % 2 ^ suc n ≡ bit_at x n * 2 ^ n + x % 2 ^ n = ap (λ (k : ℕ). x % 2 ^ k) e ∙ mod-pow-add x 1 n in
    let b : y % 2 ^ suc n ≡ bit_at y n * 2 ^ n + y % 2 ^ n = ap (λ (k : ℕ). y % 2 ^ k) e ∙ mod-pow-add y 1 n in
    let low : x % 2 ^ n ≤ y % 2 ^ n = by_bits x y n (λ b lt. h b (omega arith)) in
    let top : bit_at x n * 2 ^ n ≤ bit_at y n * 2 ^ n = mul-le-mul_right (2 ^ n) (h n (omega arith)) in
    omega arith

-- what the shifts of 128 bits give
pub lowest-shifted : (z k : ℕ) → z < 2 ^ 128 → z / 2 ^ k * 2 ^ k % 2 ^ 128 ≡ lowest z k
lowest-shifted z k lt = let le : z / 2 ^ k * 2 ^ k ≤ z = div-mul-le_self z (2 ^ k) in mod-eq_of_lt (let less : z / 2 ^ k * 2 ^ k < 2 ^ 128 = omega arith in less)

pub highest-shifted : (z k : ℕ) → z < 2 ^ 128 → k < 128 → z / 2 ^ k * 2 ^ k % 2 ^ 128 + (1 * 2 ^ k % 2 ^ 128 - 1) ≡ highest z k
highest-shifted z k lt less =
    let low = lowest-shifted z k lt in
    let room : 2 ^ k < 2 ^ 128 = pow-lt {i = k} {j = 128} less in
    let power : 1 * 2 ^ k % 2 ^ 128 ≡ 1 * 2 ^ k = mod-eq_of_lt (let small : 1 * 2 ^ k < 2 ^ 128 = omega arith in small) in
    rw (low, power) (let one : 1 * 2 ^ k ≡ 2 ^ k = omega arith in ap (λ (x : ℕ). lowest z k + (x - 1)) one)

-- ---- points

-- a point whose address has at most the bits of another's is at most the other
at_most_by_bits : (d : ℕ) (p q : List ℕ) → IsPoint d p → IsPoint d q → ((m : ℕ) → bit_at (address p) m ≤ bit_at (address q) m) → IsAtMost p q
at_most_by_bits d p q hp hq h =
    let lp = hp.0 in let lq = hq.0 in (
      hp.0 ∙ sym hq.0,
      λ i lt.
          let low : slice_index p i % 2 ^ 32 ≤ slice_index q i % 2 ^ 32 = by_bits (slice_index p i) (slice_index q i) 32 (λ b hb.
          let here = h (place d i b) in
          let a = bit_at-address d p i b hp (omega arith) hb in
          let c = bit_at-address d q i b hq (omega arith) hb in
          omega arith) in
          let a : slice_index p i % 2 ^ 32 ≡ slice_index p i = mod-eq_of_lt (All-get_or (λ (x : ℕ). x < 2 ^ 32) p i 0 lt hp.1) in
          let b : slice_index q i % 2 ^ 32 ≡ slice_index q i = mod-eq_of_lt (All-get_or (λ (x : ℕ). x < 2 ^ 32) q i 0 (omega arith) hq.1) in
          omega arith,
    )

pub join-length : (p q join : List ℕ) → IsJoin p q join → length join ≡ length p
join-length p q join h = sym ((h join).0 (IsAtMost-refl join)).0.0

pub meet-length : (p q meet : List ℕ) → IsMeet p q meet → length meet ≡ length p
meet-length p q meet h = ((h meet).0 (IsAtMost-refl meet)).0.0

-- ---- the part's least corner

module _ (d : ℕ) (b : Corners) (is : IsBox d b) (z k : ℕ) (start : List ℕ) (starts : IsStart b z k start) where
  start_above : (p : List ℕ) → IsAtMost start p → IsAtMost b.lo p × IsAtMost starts.0 p
  start_above p = (starts.3 p).0

  pub start_below : (p : List ℕ) → IsInside b p → address p / 2 ^ k ≡ z / 2 ^ k → IsAtMost start p
  start_below p inside agrees =
      let is_p : IsPoint d p = IsPoint-below d p b.hi inside.1 is.hi in
      let is_low : IsPoint d starts.0 = subst (λ (n : ℕ). IsPoint n starts.0) is.lo.0 starts.1 in
      (starts.3 p).1 (inside.0, at_most_by_bits d starts.0 p is_low is_p (λ m. rw starts.2 (bits_from (address p) z k m agrees)))

  pub start_outside : ¬ IsAtMost start b.hi → (dim u : ℕ) → IsValueOf b (IsHalfUpTo k z) dim u → ⊥
  start_outside not_below dim u v = not_below (IsAtMost-trans start v.0 b.hi (start_below v.0 v.1 v.2.0) v.1.1)

  pub start_past : z < address start → (dim u : ℕ) → IsValueOf b (IsHalfUpTo k z) dim u → ⊥
  start_past lt dim u v =
      let mono = address-mono d start v.0 (IsPoint-below d v.0 b.hi v.1.1 is.hi) (start_below v.0 v.1 v.2.0) in
      let le = v.2.1 in
      omega arith

  -- from the least address that agrees on, and up to z, an address agrees
  start_agrees : IsPoint d start → address start ≤ z → address start / 2 ^ k ≡ z / 2 ^ k
  start_agrees is_start le =
      let low : address starts.0 ≤ address start = address-mono d starts.0 start is_start (start_above start (IsAtMost-refl start)).1 in
      agree_between (address starts.0) (address start) z (z / 2 ^ k) k low le (ap (λ (n : ℕ). n / 2 ^ k) starts.2 ∙ lowest-agrees z k) refl

  pub start_least : (dim : ℕ) → dim < length start → IsAtMost start b.hi → address start ≤ z → Least (IsValueOf b (IsHalfUpTo k z) dim) (Some (slice_index start dim))
  start_least dim room below le = (
    (start, ((start_above start (IsAtMost-refl start)).0, below), (start_agrees (IsPoint-below d start b.hi below is.hi) le, le), refl),
    λ u v. let least = (start_below v.0 v.1 v.2.0).1 dim room in let e = v.3 in omega arith,
  )

  pub start_under : (dim n : ℕ) → dim < length start → n ≤ slice_index start dim → IsUnder b (IsHalfFrom k z) dim (Some n)
  start_under dim n room le = λ u v. let least = (start_below v.0 v.1 v.2.0).1 dim room in let e = v.3 in omega arith

-- ---- the part's greatest corner

module _ (d : ℕ) (b : Corners) (is : IsBox d b) (z k : ℕ) (end : List ℕ) (ends : IsEnd b z k end) where
  end_under : (p : List ℕ) → IsAtMost p end → IsAtMost p b.hi × IsAtMost p ends.0
  end_under p = (ends.3 p).0

  is_high : IsPoint d ends.0
  is_high = subst (λ (n : ℕ). IsPoint n ends.0) is.lo.0 ends.1

  pub end_above : (p : List ℕ) → IsInside b p → address p / 2 ^ k ≡ z / 2 ^ k → IsAtMost p end
  end_above p inside agrees =
      let is_p : IsPoint d p = IsPoint-below d p b.hi inside.1 is.hi in
      (ends.3 p).1 (inside.1, at_most_by_bits d p ends.0 is_p is_high (λ m. rw ends.2 (bits_up_to (address p) z k m agrees)))

  is_end : IsPoint d end
  is_end = IsPoint-below d end b.hi (end_under end (IsAtMost-refl end)).0 is.hi

  pub end_outside : ¬ IsAtMost b.lo end → (dim u : ℕ) → IsValueOf b (IsHalfFrom k z) dim u → ⊥
  end_outside not_above dim u v = not_above (IsAtMost-trans b.lo v.0 end v.1.0 (end_above v.0 v.1 v.2.0))

  pub end_past : address end < z → (dim u : ℕ) → IsValueOf b (IsHalfFrom k z) dim u → ⊥
  end_past lt dim u v =
      let mono = address-mono d v.0 end is_end (end_above v.0 v.1 v.2.0) in
      let le = v.2.1 in
      omega arith

  end_agrees : z ≤ address end → address end / 2 ^ k ≡ z / 2 ^ k
  end_agrees le =
      let high : address end ≤ address ends.0 = address-mono d end ends.0 is_high (end_under end (IsAtMost-refl end)).1 in
      agree_between z (address end) (address ends.0) (z / 2 ^ k) k le high refl (ap (λ (n : ℕ). n / 2 ^ k) ends.2 ∙ highest-agrees z k)

  pub end_greatest : (dim : ℕ) → dim < length end → IsAtMost b.lo end → z ≤ address end → Greatest (IsValueOf b (IsHalfFrom k z) dim) (Some (slice_index end dim))
  end_greatest dim room above le = (
    (end, (above, (end_under end (IsAtMost-refl end)).0), (end_agrees le, le), refl),
    λ u v. let up = end_above v.0 v.1 v.2.0 in let long = up.0 in let most = up.1 dim (omega arith) in let e = v.3 in omega arith,
  )

  pub end_over : (dim n : ℕ) → dim < length end → slice_index end dim ≤ n → IsOver b (IsHalfUpTo k z) dim (Some n)
  end_over dim n room le = λ u v. let up = end_above v.0 v.1 v.2.0 in let long = up.0 in let most = up.1 dim (omega arith) in let e = v.3 in omega arith

-- ---- the part

module _ (d : ℕ) (b : Corners) (is : IsBox d b) (z k : ℕ) (start end : List ℕ) (starts : IsStart b z k start) (ends : IsEnd b z k end) where
  -- the points between the two corners are those of the part
  within : (p : List ℕ) → IsAtMost start p → IsAtMost p end → IsInside b p × (address p / 2 ^ k ≡ z / 2 ^ k)
  within p above below =
      let s = (starts.3 p).0 above in
      let e = (ends.3 p).0 below in
      let is_p : IsPoint d p = IsPoint-below d p b.hi e.0 is.hi in
      let is_high : IsPoint d ends.0 = subst (λ (n : ℕ). IsPoint n ends.0) is.lo.0 ends.1 in
      let le : address starts.0 ≤ address p = address-mono d starts.0 p is_p s.1 in
      let ge : address p ≤ address ends.0 = address-mono d p ends.0 is_high e.1 in
      let la : address starts.0 / 2 ^ k ≡ z / 2 ^ k = ap (λ (n : ℕ). n / 2 ^ k) starts.2 ∙ lowest-agrees z k in
      let ha : address ends.0 / 2 ^ k ≡ z / 2 ^ k = ap (λ (n : ℕ). n / 2 ^ k) ends.2 ∙ highest-agrees z k in
      ((s.0, e.0), agree_between (address starts.0) (address p) (address ends.0) (z / 2 ^ k) k le ge la ha)

  between : (p : List ℕ) → IsInside b p → address p / 2 ^ k ≡ z / 2 ^ k → IsAtMost start p × IsAtMost p end
  between p inside agrees = (start_below d b is z k start starts p inside agrees, end_above d b is z k end ends p inside agrees)

  pub is_part : (o : Option Corners) → (IsSome o ↔ IsAtMost start end) → IfSome o (λ c. (c.lo ≡ start) × (c.hi ≡ end)) → IsPart b z k o
  is_part None some corners = λ p inside agrees.
      let both = between p inside agrees in
      let t = some.1 (IsAtMost-trans start p end both.0 both.1) in
      cc
  is_part (Some c) some corners = (
    ap (λ (xs : List ℕ). length xs) corners.0 ∙ join-length b.lo starts.0 start starts.3,
    λ p. (
      λ inside. within p (rw corners.0 at inside.0) (rw corners.1 at inside.1),
      λ h. let both = between p h.0 h.1 in (rw corners.0 both.0, rw corners.1 both.1),
    ),
  )
