-- The intervals between cuts, and how many cells they make.
use Rattle.std.proofs.Common.{◌≡◌, ◌≤◌, ◌<◌, ◌+◌, ◌-◌, ◌*◌, ℕ, zero, suc, List, [], ◌∷◌, ◌++◌, length, drop, get_or, add-one, Option, min, refl, sym, ap, arith, ◌∙◌, inl, inr}
use Rattle.std.proofs.lemmas.Bool.Decides.{leb_tells}
use Rattle.std.proofs.lemmas.List.{length-append}
use Rattle.std.proofs.Math.Seq.{drop-cons}
use Rattle.std.proofs.Math.Nat.{mul_assoc, mul_comm, mul-le-mul_right}
use Rattle.ub_boxes.proofs.CutFacts.{are_cuts}
use Rattle.ub_boxes.specs.Cuts.{cuts}
use Rattle.ub_boxes.specs.Grid.{intervals, side, sides, grid, number_of_cells}
use Rattle.ub_boxes.specs.declared.interval.Interval.{Interval}
use Rattle.ub_boxes.specs.inner.Counts.{IsCountOf}
use Rattle.ub_boxes.specs.inner.Sides.{AreCuts, AreFrom, AreSides}
use Rattle.ub_query.specs.Shape.{Shape}
use Rattle.ub_table.specs.Value.{greatest}
use Rattle.ub_table.specs.declared.schema.Schema.{Schema}

intervals-from : (low : ℕ) (ms : List ℕ) → AreCuts low ms → AreFrom low (intervals low ms)
intervals-from low [] h = (refl, h, omega arith, refl)
intervals-from low (m ∷ ms) h =
    let lt = h.0 in let le = h.1 in
    let next : suc (m - 1) ≡ m = omega arith in
    (refl, omega arith, omega arith, rw next (intervals-from m ms h.2))

pub is_side : (schema : Schema) (filter : Option Shape) (dim : ℕ) → AreFrom 0 (side schema filter dim)
is_side schema filter dim = intervals-from 0 (cuts schema filter dim) (are_cuts schema filter dim)

sides-append : (some : List (List Interval)) (last : List Interval) → AreSides some → AreFrom 0 last → AreSides (some ++ last ∷ [])
sides-append [] last h l = (l, tt)
sides-append (first ∷ some) last h l = (h.0, sides-append some last h.1 l)

are_sides-up_to : (schema : Schema) (filter : Option Shape) (dims : ℕ) → AreSides (sides schema filter dims)
are_sides-up_to schema filter zero = tt
are_sides-up_to schema filter (suc dim) =
    sides-append (sides schema filter dim) (side schema filter dim) (are_sides-up_to schema filter dim) (is_side schema filter dim)

pub are_sides : (schema : Schema) (filter : Option Shape) → AreSides (grid schema filter)
are_sides schema filter = are_sides-up_to schema filter schema.dims

-- ---- how many cells

some_intervals : (low : ℕ) (side : List Interval) → low ≤ greatest → AreFrom low side → 1 ≤ length side
some_intervals low [] h f = absurd (omega arith)
some_intervals low (i ∷ side) h f = omega arith

some_cells : (sides : List (List Interval)) → AreSides sides → 1 ≤ number_of_cells sides
some_cells [] h = omega arith
some_cells (side ∷ sides) h =
    let a = some_intervals 0 side (omega arith) h.0 in
    let b = some_cells sides h.1 in
    let c : 1 * number_of_cells sides ≤ length side * number_of_cells sides = mul-le-mul_right (number_of_cells sides) a in
    omega arith

pub drop_sides : (sides : List (List Interval)) (k : ℕ) → AreSides sides → AreSides (drop k sides)
drop_sides sides zero h = h
drop_sides [] (suc k) h = tt
drop_sides (side ∷ sides) (suc k) h = drop_sides sides k h.1

count_step : (cells len rest all n : ℕ) → 1 ≤ len → 1 ≤ rest → n ≡ min (cells * len) 18446744073709551615
    → IsCountOf cells (len * rest) all → IsCountOf n rest all
count_step cells len rest all n a b is (inl e) =
    let whole : (cells * len) * rest ≡ all = mul_assoc cells len rest ∙ e in
    let more : 1 * (cells * len) ≤ rest * (cells * len) = mul-le-mul_right (cells * len) b in
    let turned : rest * (cells * len) ≡ (cells * len) * rest = mul_comm rest (cells * len) in
    elim (leb_tells (cells * len) 18446744073709551615) [
      | inl t ↦ let le = t.1 in let same : n ≡ cells * len = omega arith in inl (rw same whole)
      | inr f ↦ let lt = f.1 in inr (omega arith, omega arith)
    ]
count_step cells len rest all n a b is (inr h) =
    let c = h.0 in
    let more : 1 * cells ≤ len * cells = mul-le-mul_right cells a in
    let turned : len * cells ≡ cells * len = mul_comm len cells in
    inr (omega arith, h.1)

pub count_next : (sides : List (List Interval)) (k cells all n : ℕ) (side : List Interval) → AreSides sides → k < length sides
    → side ≡ get_or sides k side → n ≡ min (cells * length side) 18446744073709551615
    → IsCountOf cells (number_of_cells (drop k sides)) all → IsCountOf n (number_of_cells (drop (k + 1) sides)) all
count_next sides k cells all n side h lt at is count =
    let cut : drop k sides ≡ side ∷ drop (suc k) sides = drop-cons sides k side lt ∙ ap (λ (s : List Interval). s ∷ drop (suc k) sides) (sym at) in
    let parts : AreSides (side ∷ drop (suc k) sides) = rw cut at (drop_sides sides k h) in
    rw add-one (count_step cells (length side) (number_of_cells (drop (suc k) sides)) all n
    (some_intervals 0 side (omega arith) parts.0) (some_cells (drop (suc k) sides) parts.1) is (rw cut at count))

pub length-sides : (schema : Schema) (filter : Option Shape) (dims : ℕ) → length (sides schema filter dims) ≡ dims
length-sides schema filter zero = refl
length-sides schema filter (suc dim) =
    let before = length-sides schema filter dim in
    let more = length-append (sides schema filter dim) (side schema filter dim ∷ []) in
    omega arith

-- an interval of a side has a coordinate
pub is_ordered : (low : ℕ) (side : List Interval) (k : ℕ) (d : Interval) → AreFrom low side → k < length side → (get_or side k d).low ≤ (get_or side k d).high
is_ordered low [] k d h lt = absurd (omega arith)
is_ordered low (i ∷ side) zero d h lt = let is = h.0 in let le = h.1 in omega arith
is_ordered low (i ∷ side) (suc k) d h lt = is_ordered (suc i.high) side k d h.3 (omega arith)

-- and so has one of the first of some sides
pub is_ordered_first : (sides : List (List Interval)) (side items : List Interval) (k : ℕ) (d : Interval) → AreSides sides → 1 ≤ length sides
    → side ≡ get_or sides 0 side → items ≡ side → k < length items → (get_or items k d).low ≤ (get_or items k d).high
is_ordered_first [] side items k d h some is same lt = absurd (omega arith)
is_ordered_first (first ∷ sides) side items k d h some is same lt =
    let first_is : items ≡ first = same ∙ is in
    let ordered = is_ordered 0 first k d h.0 (rw first_is at lt) in
    rw first_is ordered

-- the first of some sides is one
pub is_first : (sides : List (List Interval)) (side items : List Interval) → AreSides sides → 1 ≤ length sides
    → side ≡ get_or sides 0 side → items ≡ side → AreFrom 0 items
is_first [] side items h some is same = absurd (omega arith)
is_first (first ∷ sides) side items h some is same =
    let first_is : items ≡ first = same ∙ is in
    rw first_is h.0

-- a cut that is left is 1 at least
pub is_some_cut : (low : ℕ) (cuts : List ℕ) (k : ℕ) → k < length cuts → AreCuts low (drop k cuts) → 1 ≤ get_or cuts k 0
is_some_cut low cuts k lt h =
    let parts : AreCuts low (get_or cuts k 0 ∷ drop (suc k) cuts) = rw (drop-cons cuts k 0 lt) at h in
    let above = parts.0 in
    omega arith
