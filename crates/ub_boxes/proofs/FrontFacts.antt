-- The boxes from a front on are the boxes on the sides after it, each behind the front.
use Rattle.std.proofs.Common.{◌≡◌, ◌≤◌, ◌<◌, ◌-◌, ℕ, List, [], ◌∷◌, ◌++◌, map, length, take, drop, get_or, Bool, true, false, inl, inr, refl, sym, ap, arith, ◌∙◌, append_assoc}
use Rattle.std.proofs.lemmas.Bool.{cases_Bool}
use Rattle.std.proofs.lemmas.List.{map-append, append-nil, take_all}
use Rattle.std.specs.List.{flat_map}
use Rattle.ub_bigmin.specs.Box.{Corners}
use Rattle.ub_boxes.specs.Boxes.{runs, beside, nowhere, boxes_on}
use Rattle.ub_boxes.specs.declared.interval.Interval.{Interval}
use Rattle.ub_boxes.specs.inner.Fronts.{widened, after, boxes_from}

-- a box behind a front
abbrev behind : Corners → Corners → Corners
behind front b = record { lo = front.lo ++ b.lo; hi = front.hi ++ b.hi }

same_runs : (s t : ℕ → Bool) (side : List Interval) → ((x : ℕ) → s x ≡ t x) → runs s side ≡ runs t side
same_runs s t [] h = refl
same_runs s t (i ∷ side) h =
    let rest = same_runs s t side h in
    elim (cases_Bool (t i.low)) [
      | inl y ↦ let x : s i.low ≡ true = h i.low ∙ y in rw (x, y, rest) refl
      | inr n ↦ let x : s i.low ≡ false = h i.low ∙ n in rw (x, n, rest) refl
    ]

last-behind : (front : Corners) (rs : List Interval) → map (widened front) rs ≡ map (behind front) (map (λ run. beside run nowhere) rs)
last-behind front [] = refl
last-behind front (r ∷ rs) = ap (λ (bs : List Corners). widened front r ∷ bs) (last-behind front rs)

beside-behind : (front : Corners) (i : Interval) (bs : List Corners) → map (behind (widened front i)) bs ≡ map (behind front) (map (beside i) bs)
beside-behind front i [] = refl
beside-behind front i (b ∷ bs) =
    rw (append_assoc front.lo (i.low ∷ []) b.lo, append_assoc front.hi (i.high ∷ []) b.hi, beside-behind front i bs) refl

side-behind : (front : Corners) (g h : Interval → List Corners) (side : List Interval) → ((i : Interval) → g i ≡ map (behind front) (h i))
    → flat_map g side ≡ map (behind front) (flat_map h side)
side-behind front g h [] each = refl
side-behind front g h (i ∷ side) each =
    rw (each i, side-behind front g h side each) (sym (map-append (behind front) (h i) (flat_map h side)))

boxes-behind : (test part : List ℕ → Bool) (front : Corners) (sides : List (List Interval)) → ((p : List ℕ) → part p ≡ test (front.lo ++ p))
    → boxes_from test front sides ≡ map (behind front) (boxes_on part sides)
boxes-behind test part front [] h = refl
boxes-behind test part front (side ∷ []) h =
    ap (map (widened front)) (same_runs (after front test) (λ low. part (low ∷ [])) side (λ x. sym (h (x ∷ []))))
    ∙ last-behind front (runs (λ low. part (low ∷ [])) side)
boxes-behind test part front (side ∷ next ∷ sides) h =
    side-behind front
    (λ i. boxes_from test (widened front i) (next ∷ sides))
    (λ i. map (beside i) (boxes_on (λ p. part (i.low ∷ p)) (next ∷ sides)))
    side
    (λ i. boxes-behind test (λ p. part (i.low ∷ p)) (widened front i) (next ∷ sides)
    (λ p. h (i.low ∷ p) ∙ ap test (sym (append_assoc front.lo (i.low ∷ []) p)))
    ∙ beside-behind front i (boxes_on (λ p. part (i.low ∷ p)) (next ∷ sides)))

all-behind : (bs : List Corners) → map (behind nowhere) bs ≡ bs
all-behind [] = refl
all-behind (b ∷ bs) = ap (λ (cs : List Corners). b ∷ cs) (all-behind bs)

pub boxes-whole : (test : List ℕ → Bool) (sides : List (List Interval)) → boxes_from test nowhere sides ≡ boxes_on test sides
boxes-whole test sides = boxes-behind test test nowhere sides (λ p. refl) ∙ all-behind (boxes_on test sides)

-- ---- as the code goes through the sides

pub from_none : (test : List ℕ → Bool) (front : Corners) (sides : List (List Interval)) (some : List Corners) → length sides < 1
    → some ≡ some ++ boxes_from test front sides
from_none test front [] some lt = sym (append-nil some)
from_none test front (side ∷ sides) some lt = absurd (omega arith)

-- the boxes of all intervals of the first side are all boxes
pub from_first : (test : List ℕ → Bool) (front : Corners) (sides : List (List Interval)) (side items : List Interval) (k : ℕ) → 2 ≤ length sides
    → side ≡ get_or sides 0 side → items ≡ side → length items ≤ k
    → flat_map (λ i. boxes_from test (widened front i) (take (length sides - 1) (drop 1 sides))) (take k items) ≡ boxes_from test front sides
from_first test front [] side items k some is same all = absurd (omega arith)
from_first test front (first ∷ []) side items k some is same all = absurd (omega arith)
from_first test front (first ∷ next ∷ sides) side items k some is same all =
    let first_is : items ≡ first = same ∙ is in
    let rest : take (length (first ∷ next ∷ sides) - 1) (drop 1 (first ∷ next ∷ sides)) ≡ next ∷ sides =
    take_all (length (first ∷ next ∷ sides) - 1) (next ∷ sides) (omega arith) in
    rw (take_all k items all, first_is) (ap (λ others. flat_map (λ i. boxes_from test (widened front i) others) first) rest)
