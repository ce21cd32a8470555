-- Which points lie in the boxes of a test that is the same on all points of a cell.
use Rattle.std.proofs.Common.{◌≡◌, ◌≤◌, ◌<◌, ◌+◌, ◌-◌, ◌==◌, ℕ, zero, suc, List, [], ◌∷◌, ◌++◌, map, Bool, true, false, nat_le, slice_index, length, le-leb, refl, sym, arith, ◌∙◌, ◌⊎◌, inl, inr, rules}
use Rattle.std.proofs.lemmas.Bool.{cases_Bool, eqb-true}
use Rattle.std.proofs.lemmas.Bool.Decides.{leb_tells}
use Rattle.std.specs.List.{flat_map}
use Rattle.ub_bigmin.specs.Box.{Corners, IsInside}
use Rattle.ub_boxes.proofs.TruthFacts.{Agree}
use Rattle.ub_boxes.specs.Boxes.{join, runs, beside, nowhere, boxes_on}
use Rattle.ub_table.specs.Value.{greatest}
use Rattle.ub_boxes.specs.Grid.{intervals}
use Rattle.ub_boxes.specs.declared.interval.Interval.{Interval}
use Rattle.ub_boxes.specs.inner.Sides.{AreCuts, AreFrom}

-- the interval has the coordinate
abbrev pub In : Interval → ℕ → Type 0
In i x = (i.low ≤ x) × (x ≤ i.high)

-- some interval has it
abbrev pub InRun : List Interval → ℕ → Type 0
InRun [] x = ⊥
InRun (r ∷ rs) x = In r x ⊎ InRun rs x

-- some box has the point
abbrev pub Among : List Corners → List ℕ → Type 0
Among [] p = ⊥
Among (b ∷ bs) p = IsInside b p ⊎ Among bs p

-- ---- boxes of one dimension beside others

pub inside-beside : (i : Interval) (b : Corners) (x : ℕ) (p : List ℕ) → IsInside (beside i b) (x ∷ p) → In i x × IsInside b p
inside-beside i b x p h =
    let a = h.0.0 in let c = h.1.0 in (
      (h.0.1 0 (omega arith), h.1.1 0 (omega arith)),
      ((omega arith, λ k lt. h.0.1 (suc k) (omega arith)), (omega arith, λ k lt. h.1.1 (suc k) (omega arith))),
    )

corner_below : (a x : ℕ) (los p : List ℕ) → a ≤ x → length los ≡ length p → ((k : ℕ) → k < length los → slice_index los k ≤ slice_index p k)
    → (k : ℕ) → k < length (a ∷ los) → slice_index (a ∷ los) k ≤ slice_index (x ∷ p) k
corner_below a x los p le e h zero lt = le
corner_below a x los p le e h (suc k) lt = h k (omega arith)

pub beside-inside : (i : Interval) (b : Corners) (x : ℕ) (p : List ℕ) → In i x → IsInside b p → IsInside (beside i b) (x ∷ p)
beside-inside i b x p here h =
    let a = h.0.0 in let c = h.1.0 in
    ((omega arith, corner_below i.low x b.lo p here.0 a h.0.1), (omega arith, corner_below x i.high p b.hi here.1 c h.1.1))

beside-nil : (i : Interval) (b : Corners) → IsInside (beside i b) [] → ⊥
beside-nil i b h = let a = h.0.0 in absurd (omega arith)

nowhere-nil : IsInside nowhere []
nowhere-nil = ((refl, λ k lt. absurd (omega arith)), (refl, λ k lt. absurd (omega arith)))

pub among-parts : (bs cs : List Corners) (p : List ℕ) → Among (bs ++ cs) p → Among bs p ⊎ Among cs p
among-parts [] cs p h = inr h
among-parts (b ∷ bs) cs p (inl h) = inl (inl h)
among-parts (b ∷ bs) cs p (inr h) = elim (among-parts bs cs p h) [
  | inl k ↦ inl (inr k)
  | inr k ↦ inr k
]

pub among-left : (bs cs : List Corners) (p : List ℕ) → Among bs p → Among (bs ++ cs) p
among-left [] cs p h = absurd h
among-left (b ∷ bs) cs p (inl h) = inl h
among-left (b ∷ bs) cs p (inr h) = inr (among-left bs cs p h)

pub among-right : (bs cs : List Corners) (p : List ℕ) → Among cs p → Among (bs ++ cs) p
among-right [] cs p h = h
among-right (b ∷ bs) cs p h = inr (among-right bs cs p h)

pub among-beside : (i : Interval) (bs : List Corners) (x : ℕ) (p : List ℕ) → Among (map (beside i) bs) (x ∷ p) → In i x × Among bs p
among-beside i [] x p h = absurd h
among-beside i (b ∷ bs) x p (inl h) = let k = inside-beside i b x p h in (k.0, inl k.1)
among-beside i (b ∷ bs) x p (inr h) = let k = among-beside i bs x p h in (k.0, inr k.1)

pub beside-among : (i : Interval) (bs : List Corners) (x : ℕ) (p : List ℕ) → In i x → Among bs p → Among (map (beside i) bs) (x ∷ p)
beside-among i [] x p here h = absurd h
beside-among i (b ∷ bs) x p here (inl h) = inl (beside-inside i b x p here h)
beside-among i (b ∷ bs) x p here (inr h) = inr (beside-among i bs x p here h)

pub beside-none : (i : Interval) (bs : List Corners) → Among (map (beside i) bs) [] → ⊥
beside-none i [] h = h
beside-none i (b ∷ bs) (inl h) = beside-nil i b h
beside-none i (b ∷ bs) (inr h) = beside-none i bs h

-- boxes of the last dimension
abbrev pub lines : List Interval → List Corners
lines rs = map (λ run. beside run nowhere) rs

pub line-run : (rs : List Interval) (x : ℕ) (p : List ℕ) → Among (lines rs) (x ∷ p) → InRun rs x
line-run [] x p h = h
line-run (r ∷ rs) x p (inl h) = inl (inside-beside r nowhere x p h).0
line-run (r ∷ rs) x p (inr h) = inr (line-run rs x p h)

pub run-line : (rs : List Interval) (x : ℕ) → InRun rs x → Among (lines rs) (x ∷ [])
run-line [] x h = h
run-line (r ∷ rs) x (inl h) = inl (beside-inside r nowhere x [] h nowhere-nil)
run-line (r ∷ rs) x (inr h) = inr (run-line rs x h)

-- ---- runs

-- intervals that follow one another from a coordinate on, not always at once
abbrev pub Chain : ℕ → List Interval → Type 0
Chain low [] = Unit {0}
Chain low (r ∷ rs) = (low ≤ r.low) × (r.low ≤ r.high) × Chain (suc r.high) rs

chain-lower : (low high : ℕ) (rs : List Interval) → low ≤ high → Chain high rs → Chain low rs
chain-lower low high [] le h = tt
chain-lower low high (r ∷ rs) le h = let a = h.0 in (omega arith, h.1, h.2)

join-chain : (low : ℕ) (i : Interval) (rs : List Interval) → low ≤ i.low → i.low ≤ i.high → Chain (suc i.high) rs → Chain low (join i rs)
join-chain low i [] le here h = (le, here, tt)
join-chain low i (r ∷ rs) le here h = elim (cases_Bool (i.high + 1 == r.low)) [
  | inl t ↦ let a = h.0 in let b = h.1 in rw t (le, omega arith, h.2)
  | inr f ↦ rw f (le, here, h)
]

pub runs-chain : (t : ℕ → Bool) (low : ℕ) (side : List Interval) → AreFrom low side → Chain low (runs t side)
runs-chain t low [] h = tt
runs-chain t low (i ∷ side) h =
    let is = h.0 in let le = h.1 in
    let rest = runs-chain t (suc i.high) side h.3 in
    elim (cases_Bool (t i.low)) [
      | inl y ↦ rw y (join-chain low i (runs t side) (omega arith) (omega arith) rest)
      | inr n ↦ rw n (chain-lower low (suc i.high) (runs t side) (omega arith) rest)
    ]

pub chain-from : (low x : ℕ) (rs : List Interval) → Chain low rs → InRun rs x → low ≤ x
chain-from low x [] h k = absurd k
chain-from low x (r ∷ rs) h (inl k) = let a = h.0 in let b = k.0 in omega arith
chain-from low x (r ∷ rs) h (inr k) = let a = chain-from (suc r.high) x rs h.2 k in let b = h.0 in let c = h.1 in omega arith

run-join : (i : Interval) (rs : List Interval) (x : ℕ) → InRun (join i rs) x → In i x ⊎ InRun rs x
run-join i [] x (inl h) = inl h
run-join i [] x (inr h) = absurd h
run-join i (r ∷ rs) x h = elim (cases_Bool (i.high + 1 == r.low)) [
  | inl t ↦ let same : i.high + 1 ≡ r.low = eqb-true (i.high + 1) r.low t in merged same (rw t at h)
  | inr f ↦ apart (rw f at h)
]
  where
    merged : i.high + 1 ≡ r.low → InRun (record { low = i.low; high = r.high } ∷ rs) x → In i x ⊎ InRun (r ∷ rs) x
    merged same (inl k) = let a = k.0 in let b = k.1 in elim (leb_tells x i.high) [
      | inl t ↦ let le = t.1 in inl (a, omega arith)
      | inr f ↦ let lt = f.1 in inr (inl (omega arith, b))
    ]
    merged same (inr k) = inr (inr k)

    apart : InRun (i ∷ r ∷ rs) x → In i x ⊎ InRun (r ∷ rs) x
    apart (inl k) = inl k
    apart (inr k) = inr k

join-run : (i : Interval) (rs : List Interval) (x : ℕ) → i.low ≤ i.high → Chain (suc i.high) rs → In i x ⊎ InRun rs x → InRun (join i rs) x
join-run i [] x here c (inl h) = inl h
join-run i [] x here c (inr h) = absurd h
join-run i (r ∷ rs) x here c h = elim (cases_Bool (i.high + 1 == r.low)) [
  | inl t ↦ let same : i.high + 1 ≡ r.low = eqb-true (i.high + 1) r.low t in rw t (merged same h)
  | inr f ↦ rw f (apart h)
]
  where
    merged : i.high + 1 ≡ r.low → In i x ⊎ InRun (r ∷ rs) x → InRun (record { low = i.low; high = r.high } ∷ rs) x
    merged same (inl k) = let a = k.0 in let b = k.1 in let d = c.1 in inl (a, omega arith)
    merged same (inr (inl k)) = let a = k.0 in let b = k.1 in inl (omega arith, b)
    merged same (inr (inr k)) = inr k

    apart : In i x ⊎ InRun (r ∷ rs) x → InRun (i ∷ r ∷ rs) x
    apart (inl k) = inl k
    apart (inr k) = inr k

-- the test is the same at a coordinate as at the least of its interval
abbrev pub Steady : (ℕ → Bool) → ℕ → List Interval → Type 0
Steady t x [] = Unit {0}
Steady t x (i ∷ side) = (In i x → t i.low ≡ t x) × Steady t x side

pub run-holds : (t : ℕ → Bool) (x : ℕ) (side : List Interval) → Steady t x side → InRun (runs t side) x → t x ≡ true
run-holds t x [] s h = absurd h
run-holds t x (i ∷ side) s h = elim (cases_Bool (t i.low)) [
  | inl y ↦ elim (run-join i (runs t side) x (rw y at h)) [
    | inl k ↦ sym (s.0 k) ∙ y
    | inr k ↦ run-holds t x side s.1 k
  ]
  | inr n ↦ run-holds t x side s.1 (rw n at h)
]

pub holds-run : (t : ℕ → Bool) (low x : ℕ) (side : List Interval) → AreFrom low side → Steady t x side → low ≤ x → x ≤ greatest → t x ≡ true → InRun (runs t side) x
holds-run t low x [] f s le most e = let a = f in absurd (omega arith)
holds-run t low x (i ∷ side) f s le most e =
    let is = f.0 in let here = f.1 in
    elim (leb_tells x i.high) [
      | inl q ↦
          let inside : In i x = (let b = q.1 in (omega arith, b)) in
          let y : t i.low ≡ true = s.0 inside ∙ e in
          rw y (join-run i (runs t side) x (omega arith) (runs-chain t (suc i.high) side f.3) (inl inside))
      | inr q ↦
          let past = q.1 in
          let rest = holds-run t (suc i.high) x side f.3 s.1 (omega arith) most e in
          elim (cases_Bool (t i.low)) [
            | inl y ↦ rw y (join-run i (runs t side) x (omega arith) (runs-chain t (suc i.high) side f.3) (inr rest))
            | inr n ↦ rw n rest
          ]
    ]

-- ---- intervals between cuts

below_all : (low x : ℕ) (ms : List ℕ) (floor : ℕ) → AreCuts floor ms → low ≤ floor → x ≤ floor → Agree low x ms
below_all low x [] floor h a b = tt
below_all low x (m ∷ ms) floor h a b =
    let lt = h.0 in
    let p : nat_le m low ≡ false = search (rules, lt, a) in
    let q : nat_le m x ≡ false = search (rules, lt, b) in
    (p ∙ sym q, below_all low x ms m h.2 (omega arith) (omega arith))

-- a coordinate of an interval is on the same side of each cut as the least one
abbrev pub AreBetween : ℕ → List ℕ → List Interval → Type 0
AreBetween x ms [] = Unit {0}
AreBetween x ms (i ∷ side) = (In i x → Agree i.low x ms) × AreBetween x ms side

past_cut : (x m : ℕ) (ms : List ℕ) (low : ℕ) (side : List Interval) → m ≤ low → AreFrom low side → AreBetween x ms side → AreBetween x (m ∷ ms) side
past_cut x m ms low [] le f h = tt
past_cut x m ms low (i ∷ side) le f h =
    let is = f.0 in let here = f.1 in (
      (λ inside.
          let a = inside.0 in
          let p : nat_le m i.low ≡ true = le-leb m i.low (omega arith) in
          let q : nat_le m x ≡ true = le-leb m x (omega arith) in
          (p ∙ sym q, h.0 inside)),
      past_cut x m ms (suc i.high) side (omega arith) f.3 h.1,
    )

pub between_cuts : (low x : ℕ) (ms : List ℕ) → AreCuts low ms → AreFrom low (intervals low ms) → AreBetween x ms (intervals low ms)
between_cuts low x [] h f = ((λ inside. tt), tt)
between_cuts low x (m ∷ ms) h f =
    let lt = h.0 in
    let next : suc (m - 1) ≡ m = omega arith in
    let after : AreFrom m (intervals m ms) = rw next at f.3 in (
      (λ inside.
          let b = inside.1 in
          let p : nat_le m low ≡ false = search (rules, lt) in
          let less : x < m = omega arith in
          let q : nat_le m x ≡ false = search (rules, less) in
          (p ∙ sym q, below_all low x ms m h.2 (omega arith) (omega arith))),
      past_cut x m ms m (intervals m ms) (omega arith) after (between_cuts m x ms h.2 after),
    )

-- ---- the points in the boxes

-- the sides of some lists of cuts
abbrev pub sides_of : List (List ℕ) → List (List Interval)
sides_of css = map (intervals 0) css

abbrev pub AreAllCuts : List (List ℕ) → Type 0
AreAllCuts [] = Unit {0}
AreAllCuts (cs ∷ css) = AreCuts 0 cs × AreFrom 0 (intervals 0 cs) × AreAllCuts css

-- a point has a coordinate for each list of cuts
abbrev pub IsOver : List (List ℕ) → List ℕ → Type 0
IsOver [] [] = Unit {0}
IsOver [] (x ∷ p) = ⊥
IsOver (cs ∷ css) [] = ⊥
IsOver (cs ∷ css) (x ∷ p) = (x ≤ greatest) × IsOver css p

-- two points lie between the same cuts
abbrev pub AreInOneCell : List (List ℕ) → List ℕ → List ℕ → Type 0
AreInOneCell [] p q = Unit {0}
AreInOneCell (cs ∷ css) [] q = ⊥
AreInOneCell (cs ∷ css) (x ∷ p) [] = ⊥
AreInOneCell (cs ∷ css) (x ∷ p) (y ∷ q) = Agree x y cs × AreInOneCell css p q

-- a test is the same on all points of a cell
abbrev pub IsOfCells : List (List ℕ) → (List ℕ → Bool) → Type 0
IsOfCells css test = (p q : List ℕ) → IsOver css p → IsOver css q → AreInOneCell css p q → test p ≡ test q

agree-refl : (x : ℕ) (ms : List ℕ) → Agree x x ms
agree-refl x [] = tt
agree-refl x (m ∷ ms) = (refl, agree-refl x ms)

one_cell-refl : (css : List (List ℕ)) (p : List ℕ) → IsOver css p → AreInOneCell css p p
one_cell-refl [] p h = tt
one_cell-refl (cs ∷ css) [] h = absurd h
one_cell-refl (cs ∷ css) (x ∷ p) h = (agree-refl x cs, one_cell-refl css p h.1)

steady : (t : ℕ → Bool) (cs : List ℕ) (x : ℕ) (side : List Interval) → ((y : ℕ) → y ≤ greatest → Agree y x cs → t y ≡ t x) → x ≤ greatest → AreBetween x cs side → Steady t x side
steady t cs x [] same le h = tt
steady t cs x (i ∷ side) same le h =
    ((λ inside. let a = inside.0 in same i.low (omega arith) (h.0 inside)), steady t cs x side same le h.1)

-- of each interval of a side: what its boxes have
abbrev Each : ℕ → (Interval → Type 0) → List Interval → Type 0
Each x P [] = Unit {0}
Each x P (i ∷ side) = (In i x → P i) × Each x P side

each-between : (x : ℕ) (cs : List ℕ) (P : Interval → Type 0) (side : List Interval) → ((i : Interval) → In i x → Agree i.low x cs → P i) → AreBetween x cs side → Each x P side
each-between x cs P [] h b = tt
each-between x cs P (i ∷ side) h b = ((λ inside. h i inside (b.0 inside)), each-between x cs P side h b.1)

among-side : (g : Interval → List Corners) (x : ℕ) (p : List ℕ) (C : Type 0) (side : List Interval) → Each x (λ i. Among (g i) p → C) side
    → Among (flat_map (λ i. map (beside i) (g i)) side) (x ∷ p) → C
among-side g x p C [] e h = absurd h
among-side g x p C (i ∷ side) e h = elim (among-parts (map (beside i) (g i)) (flat_map (λ i. map (beside i) (g i)) side) (x ∷ p) h) [
  | inl k ↦ let m = among-beside i (g i) x p k in e.0 m.0 m.1
  | inr k ↦ among-side g x p C side e.1 k
]

side-among : (g : Interval → List Corners) (low x : ℕ) (p : List ℕ) (side : List Interval) → AreFrom low side → low ≤ x → x ≤ greatest → Each x (λ i. Among (g i) p) side
    → Among (flat_map (λ i. map (beside i) (g i)) side) (x ∷ p)
side-among g low x p [] f le most e = let a = f in absurd (omega arith)
side-among g low x p (i ∷ side) f le most e =
    let is = f.0 in
    elim (leb_tells x i.high) [
      | inl q ↦ let b = q.1 in let inside : In i x = (omega arith, b) in
          among-left (map (beside i) (g i)) _ (x ∷ p) (beside-among i (g i) x p inside (e.0 inside))
      | inr q ↦ let past = q.1 in
          among-right (map (beside i) (g i)) _ (x ∷ p) (side-among g (suc i.high) x p side f.3 (omega arith) most e.1)
    ]

-- a test behind a coordinate is of cells too
behind-of_cells : (cs : List ℕ) (css : List (List ℕ)) (test : List ℕ → Bool) (x : ℕ) → x ≤ greatest → IsOfCells (cs ∷ css) test → IsOfCells css (λ p. test (x ∷ p))
behind-of_cells cs css test x le h p q a b c = h (x ∷ p) (x ∷ q) (le, a) (le, b) (agree-refl x cs, c)

same_behind : (cs : List ℕ) (css : List (List ℕ)) (test : List ℕ → Bool) (x y : ℕ) (p : List ℕ) → x ≤ greatest → y ≤ greatest → IsOver css p → IsOfCells (cs ∷ css) test → Agree y x cs → test (y ∷ p) ≡ test (x ∷ p)
same_behind cs css test x y p hx hy over h a = h (y ∷ p) (x ∷ p) (hy, over) (hx, over) (a, one_cell-refl css p over)

pub in_boxes : (test : List ℕ → Bool) (css : List (List ℕ)) (p : List ℕ) → 1 ≤ length css → AreAllCuts css → IsOfCells css test → IsOver css p
    → (Among (boxes_on test (sides_of css)) p → test p ≡ true) × (test p ≡ true → Among (boxes_on test (sides_of css)) p)
in_boxes test [] p some cuts of over = absurd (omega arith)
in_boxes test (cs ∷ []) [] some cuts of over = absurd over
in_boxes test (cs ∷ []) (x ∷ y ∷ p) some cuts of over = absurd over.1
in_boxes test (cs ∷ []) (x ∷ []) some cuts of over =
    let t : ℕ → Bool = λ low. test (low ∷ []) in
    let s : Steady t x (intervals 0 cs) = steady t cs x (intervals 0 cs) (λ y le a. same_behind cs [] test x y [] over.0 le tt of a) over.0 (between_cuts 0 x cs cuts.0 cuts.1) in (
      (λ h. run-holds t x (intervals 0 cs) s (line-run (runs t (intervals 0 cs)) x [] h)),
      (λ e. run-line (runs t (intervals 0 cs)) x (holds-run t 0 x (intervals 0 cs) cuts.1 s (omega arith) over.0 e)),
    )
in_boxes test (cs ∷ next ∷ css) [] some cuts of over = absurd over
in_boxes test (cs ∷ next ∷ css) (x ∷ p) some cuts of over =
    let g : Interval → List Corners = λ i. boxes_on (λ q. test (i.low ∷ q)) (sides_of (next ∷ css)) in
    let between = between_cuts 0 x cs cuts.0 cuts.1 in
    let deeper : (i : Interval) → i.low ≤ greatest → (Among (g i) p → test (i.low ∷ p) ≡ true) × (test (i.low ∷ p) ≡ true → Among (g i) p) =
    λ i le. in_boxes (λ q. test (i.low ∷ q)) (next ∷ css) p (omega arith) cuts.2 (behind-of_cells cs (next ∷ css) test i.low le of) over.1 in
    let same : (i : Interval) → In i x → Agree i.low x cs → test (i.low ∷ p) ≡ test (x ∷ p) =
    λ i inside a. let le = inside.0 in let most = over.0 in same_behind cs (next ∷ css) test x i.low p over.0 (omega arith) over.1 of a in (
      (λ h. among-side g x p (test (x ∷ p) ≡ true) (intervals 0 cs)
          (each-between x cs (λ i. Among (g i) p → test (x ∷ p) ≡ true) (intervals 0 cs)
          (λ i inside a. let le = inside.0 in let most = over.0 in λ k. sym (same i inside a) ∙ (deeper i (omega arith)).0 k) between) h),
      (λ e. side-among g 0 x p (intervals 0 cs) cuts.1 (omega arith) over.0
          (each-between x cs (λ i. Among (g i) p) (intervals 0 cs)
          (λ i inside a. let le = inside.0 in let most = over.0 in (deeper i (omega arith)).1 (same i inside a ∙ e)) between)),
    )
