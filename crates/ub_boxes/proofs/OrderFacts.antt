-- The boxes are in order, and no two of them adjoin along the last dimension.
use Rattle.std.proofs.Common.{◌≡◌, ◌≤◌, ◌<◌, ◌+◌, ◌==◌, ℕ, zero, suc, List, [], ◌∷◌, ◌++◌, map, replicate, Bool, length, slice_index, slice_index_or, refl, sym, subst, arith, ◌⊎◌, inl, inr, rules, AllPairs}
use Rattle.std.proofs.lemmas.Bool.{cases_Bool}
use Rattle.std.proofs.lemmas.List.Kept.{AllPairs-cons}
use Rattle.std.specs.List.{All, flat_map}
use Rattle.ub_bigmin.specs.Box.{Corners}
use Rattle.ub_boxes.proofs.CellFacts.{Chain, lines, runs-chain}
use Rattle.ub_boxes.proofs.TurnFacts.{Member}
use Rattle.ub_boxes.specs.Boxes.{join, runs, beside, nowhere, boxes_on, space}
use Rattle.ub_boxes.specs.Laws.{LiesBefore, Adjoin}
use Rattle.ub_boxes.specs.declared.interval.Interval.{Interval}
use Rattle.ub_boxes.specs.inner.Sides.{AreFrom, AreSides}

-- ---- which boxes there are

member-parts : (bs cs : List Corners) (c : Corners) → Member (bs ++ cs) c → Member bs c ⊎ Member cs c
member-parts [] cs c h = inr h
member-parts (b ∷ bs) cs c (inl e) = inl (inl e)
member-parts (b ∷ bs) cs c (inr h) = elim (member-parts bs cs c h) [
  | inl k ↦ inl (inr k)
  | inr k ↦ inr k
]

pub member-beside : (i : Interval) (bs : List Corners) (c : Corners) → Member (map (beside i) bs) c
    → (b : Corners) × Member bs b × (beside i b ≡ c)
member-beside i [] c h = absurd h
member-beside i (b ∷ bs) c (inl e) = (b, inl refl, e)
member-beside i (b ∷ bs) c (inr h) = let k = member-beside i bs c h in (k.0, inr k.1, k.2)

pub member-lines : (rs : List Interval) (c : Corners) → Member (lines rs) c → (r : Interval) × Member rs r × (beside r nowhere ≡ c)
member-lines [] c h = absurd h
member-lines (r ∷ rs) c (inl e) = (r, inl refl, e)
member-lines (r ∷ rs) c (inr h) = let k = member-lines rs c h in (k.0, inr k.1, k.2)

member-side : (g : Interval → List Corners) (low : ℕ) (side : List Interval) → AreFrom low side → (c : Corners)
    → Member (flat_map (λ i. map (beside i) (g i)) side) c → (i : Interval) × (low ≤ i.low) × (b : Corners) × Member (g i) b × (beside i b ≡ c)
member-side g low [] f c h = absurd h
member-side g low (i ∷ side) f c h = elim (member-parts (map (beside i) (g i)) (flat_map (λ i. map (beside i) (g i)) side) c h) [
  | inl k ↦ let is = f.0 in let m = member-beside i (g i) c k in (i, omega arith, m.0, m.1, m.2)
  | inr k ↦
      let is = f.0 in let here = f.1 in
      let m = member-side g (suc i.high) side f.3 c k in
      let past = m.1 in
      (m.0, omega arith, m.2, m.3, m.4)
]

-- ---- each box lies before the later ones

abbrev pub Ordered : List Corners → Type 0
Ordered [] = Unit {0}
Ordered (b ∷ bs) = ((c : Corners) → Member bs c → LiesBefore b.lo c.lo) × Ordered bs

ordered-append : (bs cs : List Corners) → Ordered bs → Ordered cs → ((b c : Corners) → Member bs b → Member cs c → LiesBefore b.lo c.lo) → Ordered (bs ++ cs)
ordered-append [] cs h k away = k
ordered-append (b ∷ bs) cs h k away = (
  (λ c m. elim (member-parts bs cs c m) [
    | inl p ↦ h.0 c p
    | inr q ↦ away b c (inl refl) q
  ]),
  ordered-append bs cs h.1 k (λ d c p q. away d c (inr p) q),
)

chain-member : (low : ℕ) (rs : List Interval) (r : Interval) → Chain low rs → Member rs r → low ≤ r.low
chain-member low [] r h m = absurd m
chain-member low (s ∷ rs) r h (inl e) = subst (λ (t : Interval). low ≤ t.low) e h.0
chain-member low (s ∷ rs) r h (inr m) = let a = chain-member (suc s.high) rs r h.2 m in let b = h.0 in let c = h.1 in omega arith

lines-ordered : (low : ℕ) (rs : List Interval) → Chain low rs → Ordered (lines rs)
lines-ordered low [] h = tt
lines-ordered low (r ∷ rs) h = (
  (λ c m.
      let k = member-lines rs c m in
      let a = chain-member (suc r.high) rs k.0 h.2 k.1 in
      let b = h.1 in
      subst (λ (d : Corners). LiesBefore (r.low ∷ []) d.lo) k.2 (inl (omega arith))),
  lines-ordered (suc r.high) rs h.2,
)

beside-ordered : (i : Interval) (bs : List Corners) → Ordered bs → Ordered (map (beside i) bs)
beside-ordered i [] h = tt
beside-ordered i (b ∷ bs) h = (
  (λ c m. let k = member-beside i bs c m in subst (λ (d : Corners). LiesBefore (i.low ∷ b.lo) d.lo) k.2 (inr (refl, h.0 k.0 k.1))),
  beside-ordered i bs h.1,
)

side-ordered : (g : Interval → List Corners) (low : ℕ) (side : List Interval) → AreFrom low side → ((i : Interval) → Ordered (g i))
    → Ordered (flat_map (λ i. map (beside i) (g i)) side)
side-ordered g low [] f each = tt
side-ordered g low (i ∷ side) f each =
    ordered-append (map (beside i) (g i)) (flat_map (λ i. map (beside i) (g i)) side) (beside-ordered i (g i) (each i)) (side-ordered g (suc i.high) side f.3 each) away
  where
    away : (b c : Corners) → Member (map (beside i) (g i)) b → Member (flat_map (λ i. map (beside i) (g i)) side) c → LiesBefore b.lo c.lo
    away b c p q =
        let k = member-beside i (g i) b p in
        let m = member-side g (suc i.high) side f.3 c q in
        let is = f.0 in let here = f.1 in let past = m.1 in
        let less : i.low < m.0.low = omega arith in
        subst (λ (d : Corners). LiesBefore d.lo c.lo) k.2 (subst (λ (d : Corners). LiesBefore (i.low ∷ k.0.lo) d.lo) m.4 (inl less))

pub boxes-ordered : (test : List ℕ → Bool) (sides : List (List Interval)) → AreSides sides → Ordered (boxes_on test sides)
boxes-ordered test [] h = tt
boxes-ordered test (side ∷ []) h = lines-ordered 0 (runs (λ low. test (low ∷ [])) side) (runs-chain (λ low. test (low ∷ [])) 0 side h.0)
boxes-ordered test (side ∷ next ∷ sides) h =
    side-ordered (λ i. boxes_on (λ p. test (i.low ∷ p)) (next ∷ sides)) 0 side h.0 (λ i. boxes-ordered (λ p. test (i.low ∷ p)) (next ∷ sides) h.1)

member-at : (bs : List Corners) (k : ℕ) (d : Corners) → k < length bs → Member bs (slice_index_or bs k d)
member-at [] k d lt = absurd (omega arith)
member-at (b ∷ bs) zero d lt = inl refl
member-at (b ∷ bs) (suc k) d lt = inr (member-at bs k d (omega arith))

all-later : (b : Corners) (bs : List Corners) → ((c : Corners) → Member bs c → LiesBefore b.lo c.lo) → All (λ c. LiesBefore b.lo c.lo) bs
all-later b bs h k d lt = h (slice_index_or bs k d) (member-at bs k d lt)

pub pairs-ordered : (bs : List Corners) → Ordered bs → AllPairs (λ b c. LiesBefore b.lo c.lo) bs
pairs-ordered [] h = λ i j d lt in_list. absurd (omega arith)
pairs-ordered (b ∷ bs) h = AllPairs-cons (λ b c. LiesBefore b.lo c.lo) b bs (all-later b bs h.0) (pairs-ordered bs h.1)

-- ---- no two boxes adjoin

-- intervals that follow one another from a coordinate on, never at once
abbrev pub Gaps : ℕ → List Interval → Type 0
Gaps low [] = Unit {0}
Gaps low (r ∷ rs) = (low ≤ r.low) × (r.low ≤ r.high) × Gaps (suc (suc r.high)) rs

gaps-lower : (low high : ℕ) (rs : List Interval) → low ≤ high → Gaps high rs → Gaps low rs
gaps-lower low high [] le h = tt
gaps-lower low high (r ∷ rs) le h = let a = h.0 in (omega arith, h.1, h.2)

join-gaps : (low : ℕ) (i : Interval) (rs : List Interval) → low ≤ i.low → i.low ≤ i.high → Gaps (suc i.high) rs → Gaps low (join i rs)
join-gaps low i [] le here h = (le, here, tt)
join-gaps low i (r ∷ rs) le here h = elim (cases_Bool (i.high + 1 == r.low)) [
  | inl t ↦ let a = h.0 in let b = h.1 in rw t (le, omega arith, h.2)
  | inr f ↦ let a : suc i.high ≤ r.low = h.0 in let far : suc (suc i.high) ≤ r.low = search (rules, f, a) in rw f (le, here, (far, h.1, h.2))
]

runs-gaps : (t : ℕ → Bool) (low : ℕ) (side : List Interval) → AreFrom low side → Gaps low (runs t side)
runs-gaps t low [] h = tt
runs-gaps t low (i ∷ side) h =
    let is = h.0 in let le = h.1 in
    let rest = runs-gaps t (suc i.high) side h.3 in
    elim (cases_Bool (t i.low)) [
      | inl y ↦ rw y (join-gaps low i (runs t side) (omega arith) (omega arith) rest)
      | inr n ↦ rw n (gaps-lower low (suc i.high) (runs t side) (omega arith) rest)
    ]

gaps-member : (low : ℕ) (rs : List Interval) (r : Interval) → Gaps low rs → Member rs r → (low ≤ r.low) × (r.low ≤ r.high)
gaps-member low [] r h m = absurd m
gaps-member low (s ∷ rs) r h (inl e) = subst (λ (t : Interval). (low ≤ t.low) × (t.low ≤ t.high)) e (h.0, h.1)
gaps-member low (s ∷ rs) r h (inr m) =
    let k = gaps-member (suc (suc s.high)) rs r h.2 m in
    let a = k.0 in let b = h.0 in let c = h.1 in
    (omega arith, k.1)

gaps-far : (low : ℕ) (rs : List Interval) (a b : Interval) → Gaps low rs → Member rs a → Member rs b → a.high + 1 ≡ b.low → ⊥
gaps-far low [] a b h m n e = absurd m
gaps-far low (r ∷ rs) a b h (inl p) (inl q) e =
    let same : a ≡ b = cc in
    let one = gaps-member low (r ∷ rs) a h (inl p) in
    let le = one.1 in
    let next : a.high + 1 ≡ a.low = subst (λ (t : Interval). a.high + 1 ≡ t.low) (sym same) e in
    absurd (omega arith)
gaps-far low (r ∷ rs) a b h (inl p) (inr n) e =
    let far = (gaps-member (suc (suc r.high)) rs b h.2 n).0 in
    let next : r.high + 1 ≡ b.low = subst (λ (t : Interval). t.high + 1 ≡ b.low) (sym p) e in
    absurd (omega arith)
gaps-far low (r ∷ rs) a b h (inr m) (inl q) e =
    let k = gaps-member (suc (suc r.high)) rs a h.2 m in
    let far = k.0 in let le = k.1 in let here = h.1 in
    let next : a.high + 1 ≡ r.low = subst (λ (t : Interval). a.high + 1 ≡ t.low) (sym q) e in
    absurd (omega arith)
gaps-far low (r ∷ rs) a b h (inr m) (inr n) e = gaps-far (suc (suc r.high)) rs a b h.2 m n e

pub boxes-joined : (test : List ℕ → Bool) (sides : List (List Interval)) → AreSides sides → (last : ℕ) → length sides ≡ suc last
    → (a b : Corners) → Member (boxes_on test sides) a → Member (boxes_on test sides) b → Adjoin last a b → ⊥
boxes-joined test [] h last e a b m n adjoin = absurd m
boxes-joined test (side ∷ []) h (suc last) e a b m n adjoin = absurd (omega arith)
boxes-joined test (side ∷ next ∷ sides) h zero e a b m n adjoin = absurd (omega arith)
boxes-joined test (side ∷ []) h zero e a b m n adjoin =
    let t : ℕ → Bool = λ low. test (low ∷ []) in
    let k = member-lines (runs t side) a m in
    let l = member-lines (runs t side) b n in
    let ends : k.0.high + 1 ≡ l.0.low =
    subst (λ (c : Corners). k.0.high + 1 ≡ slice_index c.lo 0) (sym l.2) (subst (λ (c : Corners). slice_index c.hi 0 + 1 ≡ slice_index b.lo 0) (sym k.2) adjoin.2) in
    gaps-far 0 (runs t side) k.0 l.0 (runs-gaps t 0 side h.0) k.1 l.1 ends
boxes-joined test (side ∷ next ∷ sides) h (suc last) e a b m n adjoin =
    let g : Interval → List Corners = λ i. boxes_on (λ p. test (i.low ∷ p)) (next ∷ sides) in
    let k = member-side g 0 side h.0 a m in
    let l = member-side g 0 side h.0 b n in
    let parts : Adjoin (suc last) (beside k.0 k.2) (beside l.0 l.2) =
    subst (λ (c : Corners). Adjoin (suc last) (beside k.0 k.2) c) (sym l.4) (subst (λ (c : Corners). Adjoin (suc last) c b) (sym k.4) adjoin) in
    let lo = cons-parts _ _ _ _ parts.0 in
    let hi = cons-parts _ _ _ _ parts.1 in
    let there : Member (boxes_on (λ p. test (k.0.low ∷ p)) (next ∷ sides)) l.2 =
    subst (λ (low : ℕ). Member (boxes_on (λ p. test (low ∷ p)) (next ∷ sides)) l.2) (sym lo.0) l.3 in
    boxes-joined (λ p. test (k.0.low ∷ p)) (next ∷ sides) h.1 last (omega arith) k.2 l.2 k.3 there (lo.1, hi.1, parts.2)
  where
    cons-parts : (x y : ℕ) (xs ys : List ℕ) → x ∷ xs ≡ y ∷ ys → (x ≡ y) × (xs ≡ ys)
    cons-parts x y xs ys e = (cc, cc)

last_of_equal : (n x : ℕ) → slice_index (replicate (suc n) x) n ≡ x
last_of_equal zero x = refl
last_of_equal (suc n) x = last_of_equal n x

pub space-joined : (last dims : ℕ) → dims ≡ suc last → Adjoin last (space dims) (space dims) → ⊥
space-joined last dims e adjoin =
    let whole : Adjoin last (space (suc last)) (space (suc last)) = subst (λ (n : ℕ). Adjoin last (space n) (space n)) e adjoin in
    let ends : slice_index (replicate (suc last) 4294967295) last + 1 ≡ slice_index (replicate (suc last) 0) last = whole.2 in
    let high = last_of_equal last 4294967295 in
    let low = last_of_equal last 0 in
    absurd (omega arith)
