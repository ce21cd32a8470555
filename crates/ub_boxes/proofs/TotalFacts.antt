-- The boxes of a condition have no more points than the space.
use Rattle.std.proofs.Common.{◌≡◌, ◌≤◌, ◌+◌, ◌-◌, ◌*◌, ◌==◌, ℕ, zero, suc, List, [], ◌∷◌, ◌++◌, length, map, Bool, refl, sym, ap, arith, ◌∙◌, inl, inr}
use Rattle.std.proofs.Math.Nat.{mul_assoc, mul_comm, mul-le-mul_right, add-mul, mul-add}
use Rattle.std.proofs.lemmas.Bool.{cases_Bool, eqb-true}
use Rattle.std.proofs.lemmas.List.{length-append}
use Rattle.std.specs.List.{flat_map}
use Rattle.ub_bigmin.specs.Box.{Corners}
use Rattle.ub_boxes.specs.Boxes.{join, runs, space, nowhere, boxes_on}
use Rattle.ub_boxes.specs.inner.Fronts.{widened, after, boxes_from}
use Rattle.ub_boxes.specs.Points.{lists_between, size, total}
use Rattle.ub_boxes.proofs.FrontFacts.{boxes-whole}
use Rattle.ub_boxes.specs.declared.interval.Interval.{Interval}
use Rattle.ub_boxes.specs.inner.Sides.{AreFrom, AreSides}

-- how many coordinates an interval has, and some intervals have
width : Interval → ℕ
width i = i.high + 1 - i.low

abbrev widths : List Interval → ℕ
widths [] = 0
widths (i ∷ is) = (i.high + 1 - i.low) + widths is

-- how many points the cells of some sides have
abbrev volume : List (List Interval) → ℕ
volume [] = 1
volume (side ∷ sides) = widths side * volume sides

widths-join : (i : Interval) (rs : List Interval) → widths (join i rs) ≤ (i.high + 1 - i.low) + widths rs
widths-join i [] = omega arith
widths-join i (r ∷ rs) = elim (cases_Bool (i.high + 1 == r.low)) [
  | inl t ↦ let same : i.high + 1 ≡ r.low = eqb-true (i.high + 1) r.low t in rw t (omega arith)
  | inr f ↦ rw f (omega arith)
]

widths-runs : (test : ℕ → Bool) (is : List Interval) → widths (runs test is) ≤ widths is
widths-runs test [] = omega arith
widths-runs test (i ∷ is) =
    let rest = widths-runs test is in
    elim (cases_Bool (test i.low)) [
      | inl t ↦ let joined = widths-join i (runs test is) in rw t (omega arith)
      | inr f ↦ rw f (omega arith)
    ]

lists_between-last : (lo hi : List ℕ) (l h : ℕ) → length lo ≡ length hi → lists_between (lo ++ l ∷ []) (hi ++ h ∷ []) ≡ lists_between lo hi * (h + 1 - l)
lists_between-last [] [] l h e = omega arith
lists_between-last [] (u ∷ hi) l h e = absurd (omega arith)
lists_between-last (v ∷ lo) [] l h e = absurd (omega arith)
lists_between-last (v ∷ lo) (u ∷ hi) l h e =
    let rest = lists_between-last lo hi l h (omega arith) in
    ap (λ (n : ℕ). (u + 1 - v) * n) rest ∙ sym (mul_assoc (u + 1 - v) (lists_between lo hi) (h + 1 - l))

-- the corners have as many coordinates
abbrev pub IsEven : Corners → Type 0
IsEven b = length b.lo ≡ length b.hi

even-widened : (b : Corners) (i : Interval) → IsEven b → IsEven (widened b i)
even-widened b i e =
    let lo = length-append b.lo (i.low ∷ []) in
    let hi = length-append b.hi (i.high ∷ []) in
    omega arith

total-append : (xs ys : List Corners) → total (xs ++ ys) ≡ total xs + total ys
total-append [] ys = omega arith
total-append (x ∷ xs) ys = let rest = total-append xs ys in omega arith

total-widened : (b : Corners) (is : List Interval) → IsEven b → total (map (widened b) is) ≡ size b * widths is
total-widened b [] e = omega arith
total-widened b (i ∷ is) e =
    let rest = total-widened b is e in
    let first : size (widened b i) ≡ size b * (i.high + 1 - i.low) = lists_between-last b.lo b.hi i.low i.high e in
    let parts : size b * ((i.high + 1 - i.low) + widths is) ≡ size b * (i.high + 1 - i.low) + size b * widths is = mul-add (size b) (i.high + 1 - i.low) (widths is) in
    omega arith

below-product : (a b c : ℕ) → b ≤ c → a * b ≤ a * c
below-product a b c h =
    let more : b * a ≤ c * a = mul-le-mul_right a h in
    let left = mul_comm a b in let right = mul_comm a c in
    omega arith

-- the boxes of each interval of a side, each no more than so many
total-side : (front : Corners) (v : ℕ) (g : Interval → List Corners) (side : List Interval) → IsEven front
    → ((i : Interval) → total (g i) ≤ size (widened front i) * v) → total (flat_map g side) ≤ size front * (widths side * v)
total-side front v g [] e each = omega arith
total-side front v g (i ∷ side) e each =
    let first = each i in
    let rest = total-side front v g side e each in
    let w = i.high + 1 - i.low in
    let here : size (widened front i) * v ≡ size front * (w * v) =
    ap (λ (n : ℕ). n * v) (lists_between-last front.lo front.hi i.low i.high e) ∙ mul_assoc (size front) w v in
    let parts : size front * ((w + widths side) * v) ≡ size front * (w * v) + size front * (widths side * v) =
    ap (λ (n : ℕ). size front * n) (add-mul w (widths side) v) ∙ mul-add (size front) (w * v) (widths side * v) in
    let both = total-append (g i) (flat_map g side) in
    omega arith

total-boxes : (test : List ℕ → Bool) (front : Corners) (sides : List (List Interval)) → IsEven front → total (boxes_from test front sides) ≤ size front * volume sides
total-boxes test front [] e = omega arith
total-boxes test front (side ∷ []) e =
    let is = total-widened front (runs (after front test) side) e in
    let le = below-product (size front) (widths (runs (after front test) side)) (widths side) (widths-runs (after front test) side) in
    let one : widths side * 1 ≡ widths side = omega arith in
    rw one (omega arith)
total-boxes test front (side ∷ next ∷ sides) e =
    total-side front (volume (next ∷ sides)) (λ interval. boxes_from test (widened front interval) (next ∷ sides)) side e
    (λ i. total-boxes test (widened front i) (next ∷ sides) (even-widened front i e))

widths-from : (low : ℕ) (side : List Interval) → AreFrom low side → widths side + low ≡ 4294967296
widths-from low [] h = omega arith
widths-from low (i ∷ side) h =
    let rest = widths-from (suc i.high) side h.3 in
    let is = h.0 in let le = h.1 in
    omega arith

volume-whole : (side : List Interval) (sides : List (List Interval)) → AreFrom 0 side → volume (side ∷ sides) ≡ 4294967296 * volume sides
volume-whole side sides h =
    let all = widths-from 0 side h in
    let is : widths side ≡ 4294967296 = omega arith in
    ap (λ (n : ℕ). n * volume sides) is

volume-le : (sides : List (List Interval)) → AreSides sides → length sides ≤ 4 → volume sides ≤ 340282366920938463463374607431768211456
volume-le [] h few = omega arith
volume-le (a ∷ []) h few = rw (volume-whole a [] h.0) (omega arith)
volume-le (a ∷ b ∷ []) h few = rw (volume-whole a (b ∷ []) h.0, volume-whole b [] h.1.0) (omega arith)
volume-le (a ∷ b ∷ c ∷ []) h few =
    rw (volume-whole a (b ∷ c ∷ []) h.0, volume-whole b (c ∷ []) h.1.0, volume-whole c [] h.1.1.0) (omega arith)
volume-le (a ∷ b ∷ c ∷ d ∷ []) h few =
    rw (volume-whole a (b ∷ c ∷ d ∷ []) h.0, volume-whole b (c ∷ d ∷ []) h.1.0, volume-whole c (d ∷ []) h.1.1.0, volume-whole d [] h.1.1.1.0) (omega arith)
volume-le (a ∷ b ∷ c ∷ d ∷ e ∷ sides) h few = absurd (omega arith)

pub total-le : (test : List ℕ → Bool) (sides : List (List Interval)) → AreSides sides → length sides ≤ 4
    → total (boxes_on test sides) ≤ 340282366920938463463374607431768211456
total-le test sides h few =
    let le = total-boxes test nowhere sides refl in
    let all = volume-le sides h few in
    let same = ap total (boxes-whole test sides) in
    omega arith

pub space-le : (dims : ℕ) → dims ≤ 4 → total (space dims ∷ []) ≤ 340282366920938463463374607431768211456
space-le zero h = omega arith
space-le (suc zero) h = omega arith
space-le (suc (suc zero)) h = omega arith
space-le (suc (suc (suc zero))) h = omega arith
space-le (suc (suc (suc (suc zero)))) h = omega arith
space-le (suc (suc (suc (suc (suc d))))) h = absurd (omega arith)
