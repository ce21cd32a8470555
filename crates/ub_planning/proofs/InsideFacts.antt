-- When a row lies in one of some boxes.
use Rattle.std.proofs.Common.{◌≡◌, ◌≤◌, ◌<◌, ℕ, zero, suc, List, [], ◌∷◌, true, nat_le, length, slice_index, Contains, inl, inr, refl, sym, ap, arith}
use Rattle.std.proofs.lemmas.Bool.{true≢false, and_parts, and_from, or_cases, or_left, or_right, leb-true, le-leb}
use Rattle.std.specs.List.{list_any}
use Rattle.ub_bigmin.specs.Box.{Corners, IsInside}
use Rattle.ub_boxes.specs.Laws.{IsInSome}
use Rattle.ub_planning.specs.Plan.{are_at_most, is_inside}
use Rattle.ub_query.proofs.Laws.{contains_here, contains_later, contains_cases, contains_none}
use Rattle.ub_zaddr.specs.Address.{IsAtMost}

pub at_each : (x y : ℕ) (xs ys : List ℕ) → x ≤ y → ((i : ℕ) → i < length xs → slice_index xs i ≤ slice_index ys i)
    → (i : ℕ) → i < length (x ∷ xs) → slice_index (x ∷ xs) i ≤ slice_index (y ∷ ys) i
at_each x y xs ys first rest zero within = first
at_each x y xs ys first rest (suc i) within = rest i (omega arith)

at_most : (xs ys : List ℕ) → are_at_most xs ys ≡ true → IsAtMost xs ys
at_most [] [] e = (refl, λ i within. absurd (omega arith))
at_most [] (y ∷ ys) e = absurd (true≢false (sym e))
at_most (x ∷ xs) [] e = absurd (true≢false (sym e))
at_most (x ∷ xs) (y ∷ ys) e =
    let parts = and_parts (nat_le x y) (are_at_most xs ys) e in
    let rest = at_most xs ys parts.1 in
    (ap suc rest.0, at_each x y xs ys (leb-true x y parts.0) rest.1)

from_at_most : (xs ys : List ℕ) → IsAtMost xs ys → are_at_most xs ys ≡ true
from_at_most [] [] h = refl
from_at_most [] (y ∷ ys) h = let long = h.0 in absurd (omega arith)
from_at_most (x ∷ xs) [] h = let long = h.0 in absurd (omega arith)
from_at_most (x ∷ xs) (y ∷ ys) h =
    let long = h.0 in
    and_from (nat_le x y) (are_at_most xs ys) (le-leb x y (h.1 0 (omega arith)))
    (from_at_most xs ys (omega arith, λ i within. h.1 (suc i) (omega arith)))

inside : (p : List ℕ) (b : Corners) → is_inside p b ≡ true → IsInside b p
inside p b e =
    let parts = and_parts (are_at_most b.lo p) (are_at_most p b.hi) e in
    (at_most b.lo p parts.0, at_most p b.hi parts.1)

from_inside : (p : List ℕ) (b : Corners) → IsInside b p → is_inside p b ≡ true
from_inside p b h = and_from (are_at_most b.lo p) (are_at_most p b.hi) (from_at_most b.lo p h.0) (from_at_most p b.hi h.1)

-- a point lies in one of the boxes where one of them has it
pub in_some : (p : List ℕ) (boxes : List Corners) → list_any (is_inside p) boxes ≡ true → IsInSome boxes p
in_some p [] e = absurd (true≢false (sym e))
in_some p (b ∷ boxes) e = elim (or_cases (is_inside p b) (list_any (is_inside p) boxes) e) [
  | inl here ↦ (b, contains_here b boxes, inside p b here)
  | inr rest ↦ let (c, there, is) = in_some p boxes rest in (c, contains_later b boxes c there, is)
]

from_some : (p : List ℕ) (boxes : List Corners) (c : Corners) → Contains boxes c → IsInside c p → list_any (is_inside p) boxes ≡ true
from_some p [] c here is = absurd (contains_none c here)
from_some p (b ∷ boxes) c here is = elim (contains_cases b boxes c here) [
  | inl same ↦ or_left (is_inside p b) (list_any (is_inside p) boxes) (rw same (from_inside p c is))
  | inr rest ↦ or_right (is_inside p b) (list_any (is_inside p) boxes) (from_some p boxes c rest is)
]

pub from_in_some : (p : List ℕ) (boxes : List Corners) → IsInSome boxes p → list_any (is_inside p) boxes ≡ true
from_in_some p boxes h = from_some p boxes h.0 h.1 h.2
