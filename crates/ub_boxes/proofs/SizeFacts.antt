-- How many points a box has, dimension by dimension.
use Rattle.std.proofs.Common.{◌≡◌, ◌≤◌, ◌<◌, ◌+◌, ◌-◌, ◌*◌, ℕ, zero, suc, List, [], ◌∷◌, length, drop, get_or, replicate, take, add-one, refl, ap, arith, ◌∙◌}
use Rattle.std.proofs.Math.Nat.{mul_assoc, mul_comm, mul-le-mul_right}
use Rattle.std.proofs.Math.Seq.{drop-cons}
use Rattle.std.proofs.lemmas.List.{drop_all}
use Rattle.ub_bigmin.specs.Box.{Corners}
use Rattle.ub_boxes.specs.Points.{lists_between, total}
use Rattle.ub_zaddr.specs.Address.{IsAtMost}

abbrev pub Below : List ℕ → List ℕ → Type 0
Below [] hi = Unit {0}
Below (l ∷ lo) [] = ⊥
Below (l ∷ lo) (h ∷ hi) = (l ≤ h) × Below lo hi

pub below : (lo hi : List ℕ) → IsAtMost lo hi → Below lo hi
below [] hi h = tt
below (l ∷ lo) [] h = let e = h.0 in absurd (omega arith)
below (l ∷ lo) (u ∷ hi) h =
    let e = h.0 in
    (h.1 0 (omega arith), below lo hi (omega arith, λ i lt. h.1 (suc i) (omega arith)))

drop_below : (lo hi : List ℕ) (k : ℕ) → Below lo hi → Below (drop k lo) (drop k hi)
drop_below lo hi zero h = h
drop_below [] hi (suc k) h = tt
drop_below (l ∷ lo) [] (suc k) h = absurd h
drop_below (l ∷ lo) (u ∷ hi) (suc k) h = drop_below lo hi k h.1

some_lists : (lo hi : List ℕ) → Below lo hi → 1 ≤ lists_between lo hi
some_lists [] hi h = omega arith
some_lists (l ∷ lo) [] h = absurd h
some_lists (l ∷ lo) (u ∷ hi) h =
    let le = h.0 in
    let rest = some_lists lo hi h.1 in
    let one : 1 ≤ u + 1 - l = omega arith in
    let more : 1 * lists_between lo hi ≤ (u + 1 - l) * lists_between lo hi = mul-le-mul_right (lists_between lo hi) one in
    omega arith

-- the next dimension of two corners
pub size_next : (lo hi : List ℕ) (k part n : ℕ) → IsAtMost lo hi → k < length lo → part * lists_between (drop k lo) (drop k hi) ≡ lists_between lo hi
    → n ≡ part * ((get_or hi k 0 - get_or lo k 0) + 1)
    → (n * lists_between (drop (k + 1) lo) (drop (k + 1) hi) ≡ lists_between lo hi) × (n ≤ lists_between lo hi)
size_next lo hi k part n at_most lt is e =
    let long = at_most.0 in
    let a : drop k lo ≡ get_or lo k 0 ∷ drop (suc k) lo = drop-cons lo k 0 lt in
    let b : drop k hi ≡ get_or hi k 0 ∷ drop (suc k) hi = drop-cons hi k 0 (omega arith) in
    let le : get_or lo k 0 ≤ get_or hi k 0 = at_most.1 k lt in
    let side : (get_or hi k 0 - get_or lo k 0) + 1 ≡ get_or hi k 0 + 1 - get_or lo k 0 = omega arith in
    let rest = lists_between (drop (suc k) lo) (drop (suc k) hi) in
    let whole : part * ((get_or hi k 0 + 1 - get_or lo k 0) * rest) ≡ lists_between lo hi = rw (a, b) at is in
    let all : n * rest ≡ lists_between lo hi =
    ap (λ (x : ℕ). x * rest) e ∙ ap (λ (x : ℕ). part * x * rest) side ∙ mul_assoc part (get_or hi k 0 + 1 - get_or lo k 0) rest ∙ whole in
    let some : 1 ≤ rest = some_lists (drop (suc k) lo) (drop (suc k) hi) (drop_below lo hi (suc k) (below lo hi at_most)) in
    let more : 1 * n ≤ rest * n = mul-le-mul_right n some in
    let turned : rest * n ≡ n * rest = mul_comm rest n in
    (rw add-one all, omega arith)

pub size_whole : (lo hi : List ℕ) (k part : ℕ) → length lo ≤ k → part * lists_between (drop k lo) (drop k hi) ≡ lists_between lo hi → part ≡ lists_between lo hi
size_whole lo hi k part le is =
    let none : drop k lo ≡ [] = drop_all k lo le in
    let e : part * 1 ≡ lists_between lo hi = rw none at is in
    omega arith

pub total_whole : (boxes : List Corners) (k part : ℕ) → length boxes ≤ k → part + total (drop k boxes) ≡ total boxes → part ≡ total boxes
total_whole boxes k part le is =
    let none : drop k boxes ≡ [] = drop_all k boxes le in
    let e : part + 0 ≡ total boxes = rw none at is in
    omega arith

-- ---- the whole space

pub take_of_four : (x d : ℕ) → d ≤ 4 → take d (x ∷ x ∷ x ∷ x ∷ []) ≡ replicate d x
take_of_four x zero h = refl
take_of_four x (suc zero) h = refl
take_of_four x (suc (suc zero)) h = refl
take_of_four x (suc (suc (suc zero))) h = refl
take_of_four x (suc (suc (suc (suc zero)))) h = refl
take_of_four x (suc (suc (suc (suc (suc d))))) h = absurd (omega arith)
