-- Runs of intervals, and the boxes that they make.
use Rattle.std.proofs.Common.{◌≡◌, ◌≤◌, ◌<◌, ◌+◌, ◌==◌, ℕ, suc, List, [], ◌∷◌, ◌++◌, length, drop, get_or, map, add-one, Option, Some, None, Bool, true, false, IfSome, inl, inr, refl, sym, ap, arith, ◌∙◌, rules, append_assoc}
use Rattle.std.proofs.Math.Seq.{drop-cons}
use Rattle.std.proofs.lemmas.Bool.{cases_Bool, eq-eqb}
use Rattle.std.proofs.lemmas.List.{map-append, drop_all}
use Rattle.std.specs.Option.{option_to_list, option_map_or}
use Rattle.ub_bigmin.specs.Box.{Corners}
use Rattle.ub_boxes.specs.Boxes.{join, runs}
use Rattle.ub_boxes.specs.declared.interval.Interval.{Interval}
use Rattle.ub_boxes.specs.inner.Runs.{join_some, IsFollowed, AreUpTo}
use Rattle.ub_boxes.specs.inner.Sides.{AreFrom}

-- the first of some runs begins no lower
abbrev Begin : ℕ → List Interval → Type 0
Begin low [] = Unit {0}
Begin low (run ∷ runs) = low ≤ run.low

join-begins : (low : ℕ) (i : Interval) (rs : List Interval) → low ≤ i.low → Begin low (join i rs)
join-begins low i [] h = h
join-begins low i (r ∷ rs) h = elim (cases_Bool (i.high + 1 == r.low)) [
  | inl t ↦ rw t h
  | inr f ↦ rw f h
]

begin-lower : (low high : ℕ) (rs : List Interval) → low ≤ high → Begin high rs → Begin low rs
begin-lower low high [] h b = tt
begin-lower low high (r ∷ rs) h b = omega arith

runs-begin : (test : ℕ → Bool) (low : ℕ) (rest : List Interval) → AreFrom low rest → Begin low (runs test rest)
runs-begin test low [] h = tt
runs-begin test low (i ∷ rest) h =
    let is = h.0 in let le = h.1 in
    let after = runs-begin test (suc i.high) rest h.3 in
    elim (cases_Bool (test i.low)) [
      | inl t ↦ rw t (join-begins low i (runs test rest) (omega arith))
      | inr f ↦ rw f (begin-lower low (suc i.high) (runs test rest) (omega arith) after)
    ]

join-apart : (r : Interval) (rs : List Interval) → Begin (suc (suc r.high)) rs → join r rs ≡ r ∷ rs
join-apart r [] b = refl
join-apart r (s ∷ rs) b =
    let far : suc (suc r.high) ≤ s.low = b in
    let f : (r.high + 1 == s.low) ≡ false = search (rules, far) in
    rw f refl

-- the run after an interval on which the test holds
abbrev pub grown : Option Interval → Interval → Interval
grown None i = i
grown (Some r) i = record { low = r.low; high = i.high }

join-join : (r i : Interval) (rs : List Interval) → i.low ≡ suc r.high → join r (join i rs) ≡ join (record { low = r.low; high = i.high }) rs
join-join r i [] e =
    let t : (r.high + 1 == i.low) ≡ true = eq-eqb (r.high + 1) i.low (omega arith) in
    rw t refl
join-join r i (s ∷ rs) e =
    let t : (r.high + 1 == i.low) ≡ true = eq-eqb (r.high + 1) i.low (omega arith) in
    elim (cases_Bool (i.high + 1 == s.low)) [
      | inl u ↦ rw (u, t) refl
      | inr f ↦ rw (f, t) refl
    ]

grows : (test : ℕ → Bool) (run : Option Interval) (i : Interval) (rest : List Interval) → IsFollowed run (i ∷ rest) → test i.low ≡ true
    → join_some run (runs test (i ∷ rest)) ≡ join (grown run i) (runs test rest)
grows test None i rest h t = rw t refl
grows test (Some r) i rest h t = rw t (join-join r i (runs test rest) h.1.0)

grown-followed : (run : Option Interval) (i : Interval) (rest : List Interval) → IsFollowed run (i ∷ rest) → IsFollowed (Some (grown run i)) rest
grown-followed None i rest h = let is = h.1.0 in let le = h.1.1 in (omega arith, h.1.3)
grown-followed (Some r) i rest h = let is = h.1.0 in let le = h.1.1 in let here = h.0 in (omega arith, h.1.3)

ends : (test : ℕ → Bool) (run : Option Interval) (i : Interval) (rest : List Interval) → IsFollowed run (i ∷ rest) → test i.low ≡ false
    → join_some run (runs test (i ∷ rest)) ≡ option_to_list run ++ runs test rest
ends test None i rest h f = rw f refl
ends test (Some r) i rest h f =
    let is = h.1.0 in let le = h.1.1 in
    rw f (join-apart r (runs test rest) (begin-lower (suc (suc r.high)) (suc i.high) (runs test rest) (omega arith) (runs-begin test (suc i.high) rest h.1.3)))

ended-followed : (run : Option Interval) (i : Interval) (rest : List Interval) → IsFollowed run (i ∷ rest) → IsFollowed None rest
ended-followed None i rest h = (suc i.high, h.1.3)
ended-followed (Some r) i rest h = (suc i.high, h.1.3)

-- the run after an interval, as the code makes it
pub grown-is : (run : Option Interval) (i : Interval) (low : ℕ) → low ≡ option_map_or (λ r. r.low) run i.low
    → Some (record { low = low; high = i.high }) ≡ Some (grown run i)
grown-is None i low e = rw e refl
grown-is (Some r) i low e = rw e refl

module _ (f : Interval → Corners) (test : ℕ → Bool) (run : Option Interval) (side : List Interval) (k : ℕ) (d : Interval)
    (lt : k < length side) (some all : List Corners) (h : AreUpTo f test run (drop k side) some all) where
  cut : drop k side ≡ get_or side k d ∷ drop (suc k) side
  cut = drop-cons side k d lt

  pub up_to-grown : test (get_or side k d).low ≡ true → AreUpTo f test (Some (grown run (get_or side k d))) (drop (k + 1) side) some all
  up_to-grown t =
      let followed : IsFollowed run (get_or side k d ∷ drop (suc k) side) = rw cut at h.followed in
      let left : some ++ map f (join_some run (runs test (get_or side k d ∷ drop (suc k) side))) ≡ all = rw cut at h.left in
      rw add-one (record {
        left = rw (grows test run (get_or side k d) (drop (suc k) side) followed t) at left;
        followed = grown-followed run (get_or side k d) (drop (suc k) side) followed;
      })

  pub up_to-ended : (more : List Corners) → test (get_or side k d).low ≡ false → more ≡ some ++ map f (option_to_list run) → AreUpTo f test None (drop (k + 1) side) more all
  up_to-ended more isnt is =
      let followed : IsFollowed run (get_or side k d ∷ drop (suc k) side) = rw cut at h.followed in
      let left : some ++ map f (join_some run (runs test (get_or side k d ∷ drop (suc k) side))) ≡ all = rw cut at h.left in
      let parts : some ++ map f (option_to_list run ++ runs test (drop (suc k) side)) ≡ all = rw (ends test run (get_or side k d) (drop (suc k) side) followed isnt) at left in
      let joined : (some ++ map f (option_to_list run)) ++ map f (runs test (drop (suc k) side)) ≡ all =
      append_assoc some (map f (option_to_list run)) _ ∙ ap (λ (xs : List Corners). some ++ xs) (sym (map-append f (option_to_list run) (runs test (drop (suc k) side)))) ∙ parts in
      rw (add-one, is) (record { left = joined; followed = ended-followed run (get_or side k d) (drop (suc k) side) followed })

pub is_interval : (run : Option Interval) (rest : List Interval) → IsFollowed run rest → IfSome run (λ r. r.low ≤ r.high)
is_interval None rest h = tt
is_interval (Some r) rest h = h.0

pub up_to-all : (f : Interval → Corners) (test : ℕ → Bool) (run : Option Interval) (side : List Interval) (k : ℕ) → length side ≤ k
    → (some all : List Corners) → AreUpTo f test run (drop k side) some all → some ++ map f (option_to_list run) ≡ all
up_to-all f test run side k le some all h =
    let none : drop k side ≡ [] = drop_all k side le in
    let left : some ++ map f (join_some run []) ≡ all = rw none at h.left in
    ap (λ (xs : List Interval). some ++ map f xs) (last_run run) ∙ left
  where
    last_run : (run : Option Interval) → option_to_list run ≡ join_some run []
    last_run None = refl
    last_run (Some r) = refl
