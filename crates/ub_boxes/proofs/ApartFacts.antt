-- No two boxes have a point in common.
use Rattle.std.proofs.Common.{◌≡◌, ◌≤◌, ◌<◌, ℕ, zero, suc, List, [], ◌∷◌, ◌++◌, map, Bool, length, slice_index_or, refl, sym, arith, inl, inr, subst, AllPairs}
use Rattle.std.proofs.lemmas.List.Kept.{AllPairs-cons}
use Rattle.std.specs.List.{All, flat_map}
use Rattle.ub_bigmin.specs.Box.{Corners, IsInside}
use Rattle.ub_boxes.proofs.CellFacts.{Among, Chain, lines, line-run, inside-beside, among-parts, among-beside, beside-none, runs-chain, chain-from}
use Rattle.ub_boxes.specs.Boxes.{runs, beside, nowhere, boxes_on}
use Rattle.ub_boxes.specs.Laws.{AreApart, IsInSome}
use Rattle.ub_boxes.specs.declared.interval.Interval.{Interval}
use Rattle.ub_boxes.specs.inner.Sides.{AreFrom, AreSides}

-- each box has no point in common with the later ones
abbrev pub Apart : List Corners → Type 0
Apart [] = Unit {0}
Apart (b ∷ bs) = ((p : List ℕ) → IsInside b p → Among bs p → ⊥) × Apart bs

apart-append : (bs cs : List Corners) → Apart bs → Apart cs → ((p : List ℕ) → Among bs p → Among cs p → ⊥) → Apart (bs ++ cs)
apart-append [] cs h k away = k
apart-append (b ∷ bs) cs h k away = (
  (λ p i m. elim (among-parts bs cs p m) [
    | inl a ↦ h.0 p i a
    | inr c ↦ away p (inl i) c
  ]),
  apart-append bs cs h.1 k (λ p a c. away p (inr a) c),
)

chain-apart : (low : ℕ) (rs : List Interval) → Chain low rs → Apart (lines rs)
chain-apart low [] h = tt
chain-apart low (r ∷ rs) h = (first, chain-apart (suc r.high) rs h.2)
  where
    first : (p : List ℕ) → IsInside (beside r nowhere) p → Among (lines rs) p → ⊥
    first [] i m = none rs m
      where
        none : (rs : List Interval) → Among (lines rs) [] → ⊥
        none [] m = m
        none (r ∷ rs) (inl k) = let a = k.0.0 in absurd (omega arith)
        none (r ∷ rs) (inr k) = none rs k
    first (x ∷ p) i m =
        let here = (inside-beside r nowhere x p i).0.1 in
        let past = chain-from (suc r.high) x rs h.2 (line-run rs x p m) in
        absurd (omega arith)

beside-apart : (i : Interval) (bs : List Corners) → Apart bs → Apart (map (beside i) bs)
beside-apart i [] h = tt
beside-apart i (b ∷ bs) h = (first, beside-apart i bs h.1)
  where
    first : (p : List ℕ) → IsInside (beside i b) p → Among (map (beside i) bs) p → ⊥
    first [] k m = beside-none i bs m
    first (x ∷ p) k m = h.0 p (inside-beside i b x p k).1 (among-beside i bs x p m).1

-- the boxes of a side begin no lower
side-from : (g : Interval → List Corners) (low x : ℕ) (p : List ℕ) (side : List Interval) → AreFrom low side → Among (flat_map (λ i. map (beside i) (g i)) side) (x ∷ p) → low ≤ x
side-from g low x p [] f h = absurd h
side-from g low x p (i ∷ side) f h =
    let is = f.0 in let here = f.1 in
    elim (among-parts (map (beside i) (g i)) (flat_map (λ i. map (beside i) (g i)) side) (x ∷ p) h) [
      | inl k ↦ let a = (among-beside i (g i) x p k).0.0 in omega arith
      | inr k ↦ let a = side-from g (suc i.high) x p side f.3 k in omega arith
    ]

side-apart : (g : Interval → List Corners) (low : ℕ) (side : List Interval) → AreFrom low side → ((i : Interval) → Apart (g i)) → Apart (flat_map (λ i. map (beside i) (g i)) side)
side-apart g low [] f each = tt
side-apart g low (i ∷ side) f each =
    apart-append (map (beside i) (g i)) (flat_map (λ i. map (beside i) (g i)) side) (beside-apart i (g i) (each i)) (side-apart g (suc i.high) side f.3 each) away
  where
    away : (p : List ℕ) → Among (map (beside i) (g i)) p → Among (flat_map (λ i. map (beside i) (g i)) side) p → ⊥
    away [] k m = beside-none i (g i) k
    away (x ∷ p) k m =
        let here = (among-beside i (g i) x p k).0.1 in
        let past = side-from g (suc i.high) x p side f.3 m in
        absurd (omega arith)

pub boxes-apart : (test : List ℕ → Bool) (sides : List (List Interval)) → AreSides sides → Apart (boxes_on test sides)
boxes-apart test [] h = tt
boxes-apart test (side ∷ []) h = chain-apart 0 (runs (λ low. test (low ∷ [])) side) (runs-chain (λ low. test (low ∷ [])) 0 side h.0)
boxes-apart test (side ∷ next ∷ sides) h =
    side-apart (λ i. boxes_on (λ p. test (i.low ∷ p)) (next ∷ sides)) 0 side h.0 (λ i. boxes-apart (λ p. test (i.low ∷ p)) (next ∷ sides) h.1)

-- ---- as the laws say it

pub among-some : (bs : List Corners) (p : List ℕ) → Among bs p → IsInSome bs p
among-some [] p h = absurd h
among-some (b ∷ bs) p (inl h) = (b, (0, omega arith, refl), h)
among-some (b ∷ bs) p (inr h) = let k = among-some bs p h in (k.0, (suc k.1.0, (let lt = k.1.1 in omega arith), k.1.2), k.2)

at-among : (bs : List Corners) (k : ℕ) (b : Corners) (p : List ℕ) → k < length bs → slice_index_or bs k b ≡ b → IsInside b p → Among bs p
at-among [] k b p lt e h = absurd (omega arith)
at-among (c ∷ bs) zero b p lt e h = inl (subst (λ (d : Corners). IsInside d p) (sym e) h)
at-among (c ∷ bs) (suc k) b p lt e h = inr (at-among bs k b p (omega arith) e h)

pub some-among : (bs : List Corners) (p : List ℕ) → IsInSome bs p → Among bs p
some-among bs p h = at-among bs h.1.0 h.0 p h.1.1 h.1.2 h.2

all-apart : (b : Corners) (bs : List Corners) → ((p : List ℕ) → IsInside b p → Among bs p → ⊥) → All (AreApart b) bs
all-apart b bs h k d lt p i j = h p i (at-among bs k (slice_index_or bs k d) p lt (same bs k d lt) j)
  where
    same : (bs : List Corners) (k : ℕ) (d : Corners) → k < length bs → slice_index_or bs k (slice_index_or bs k d) ≡ slice_index_or bs k d
    same [] k d lt = absurd (omega arith)
    same (c ∷ bs) zero d lt = refl
    same (c ∷ bs) (suc k) d lt = same bs k d (omega arith)

pub pairs-apart : (bs : List Corners) → Apart bs → AllPairs AreApart bs
pairs-apart [] h = λ i j d lt in_list. absurd (omega arith)
pairs-apart (b ∷ bs) h = AllPairs-cons AreApart b bs (all-apart b bs h.0) (pairs-apart bs h.1)
