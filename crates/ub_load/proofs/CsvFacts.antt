-- The records that a reader has read are the first of all, and at the end all.
use Rattle.std.proofs.Common.{◌≡◌, ◌≤◌, ◌+◌, ℕ, zero, suc, Bool, true, false, List, [], ◌∷◌, ◌++◌, length, Option, Some, None, refl, ap, arith}
use Rattle.std.specs.Prelude.{if◌then◌else◌}
use Rattle.csv.specs.Machine.{Read, next_record, step, is_end, ends_at_end, fields_after, field_after}
use Rattle.csv.specs.Reading.{AreRecords, Reached, records, records_from}
use Rattle.csv.specs.declared.parser.Config.{Config}
use Rattle.csv.specs.declared.parser.State.{State}
use Rattle.csv.specs.declared.parser.State.TheVariants as st

pick_some : (b : Bool) (x : Read) (o : Option Read) (q : Read) → (if b then Some x else o) ≡ Some q → (P : Read → Type 0) → P x → (o ≡ Some q → P q) → P q
pick_some true x o q e P h k = let same : x ≡ q = cc in rw same at h
pick_some false x o q e P h k = k e

-- a record leaves no more bytes than there were
pub next-shorter : (cfg : Config) (s : State) (f : List (List ℕ)) (p : List ℕ) (xs : List ℕ) (q : Read)
    → next_record cfg s f p xs ≡ Some q → length q.2 ≤ length xs
unfolding next_record
next-shorter cfg s f p [] q e =
    pick_some (ends_at_end s) (f ++ (p ∷ []), st.StartRecord, []) None q e (λ (r : Read). length r.2 ≤ 0) (omega arith) (λ bad. cc)
next-shorter cfg s f p (c ∷ rest) q e =
    pick_some (is_end (step cfg s c).1) (fields_after (step cfg s c).1 f p, (step cfg s c).0, rest) _ q e (λ (r : Read). length r.2 ≤ suc (length rest)) (omega arith)
    (λ more. let le : length q.2 ≤ length rest = next-shorter cfg (step cfg s c).0 (fields_after (step cfg s c).1 f p) (field_after (step cfg s c).1 c p) rest q more in omega arith)

-- where there are bytes, a record takes one at least
next-takes : (cfg : Config) (s : State) (f : List (List ℕ)) (p : List ℕ) (c : ℕ) (rest : List ℕ) (q : Read)
    → next_record cfg s f p (c ∷ rest) ≡ Some q → length q.2 ≤ length rest
unfolding next_record
next-takes cfg s f p c rest q e =
    pick_some (is_end (step cfg s c).1) (fields_after (step cfg s c).1 f p, (step cfg s c).0, rest) _ q e (λ (r : Read). length r.2 ≤ length rest) (omega arith)
    (λ more. next-shorter cfg (step cfg s c).0 (fields_after (step cfg s c).1 f p) (field_after (step cfg s c).1 c p) rest q more)

-- at the end of the bytes a record is the last
next-last : (cfg : Config) (s : State) (q : Read) → next_record cfg s [] [] [] ≡ Some q → next_record cfg q.1 [] [] q.2 ≡ None
unfolding next_record
next-last cfg s q e =
    pick_some (ends_at_end s) ([] ∷ [], st.StartRecord, []) None q e (λ (r : Read). next_record cfg r.1 [] [] r.2 ≡ None) refl (λ bad. cc)

-- there are no more records than bytes, and one
count : (cfg : Config) (s s2 : State) (xs ys : List ℕ) (rows : List (List (List ℕ))) → Reached cfg s xs rows s2 ys → length rows ≤ length xs + 1
unfolding Reached
count cfg s s2 xs ys [] h = omega arith
count cfg s s2 [] ys (r ∷ []) h = omega arith
count cfg s s2 [] ys (r ∷ r2 ∷ rs) h =
    let none = next-last cfg s h.0 h.1 in
    let (q, is, same, more) = h.3 in
    cc
count cfg s s2 (c ∷ rest) ys (r ∷ rs) h =
    let fewer = count cfg h.0.1 s2 h.0.2 ys rs h.3 in
    let takes = next-takes cfg s [] [] c rest h.0 h.1 in
    omega arith

from-reached : (cfg : Config) (s s2 : State) (xs ys : List ℕ) (rows : List (List (List ℕ))) (n : ℕ)
    → Reached cfg s xs rows s2 ys → next_record cfg s2 [] [] ys ≡ None → length rows ≤ n → rows ≡ records_from cfg n s xs
unfolding Reached records_from
from-reached cfg s s2 xs ys [] zero h none le = refl
from-reached cfg s s2 xs ys [] (suc n) h none le = rw (h.0, h.1, none) refl
from-reached cfg s s2 xs ys (r ∷ rs) zero h none le = absurd (omega arith)
from-reached cfg s s2 xs ys (r ∷ rs) (suc n) h none le =
    let more = from-reached cfg h.0.1 s2 h.0.2 ys rs n h.3 none (omega arith) in
    rw (h.1, h.2, more) refl

pub AreRecords-records : (cfg : Config) (xs : List ℕ) (rows : List (List (List ℕ))) → AreRecords cfg st.StartRecord xs rows → rows ≡ records cfg xs
AreRecords-records cfg xs rows h =
    from-reached cfg st.StartRecord h.0 xs h.1 rows (length xs + 1) h.2 h.3 (count cfg st.StartRecord h.0 xs h.1 rows h.2)

-- the records that were read are the first of all
front_from : (cfg : Config) (s s2 : State) (xs ys : List ℕ) (rows : List (List (List ℕ))) (n : ℕ)
    → Reached cfg s xs rows s2 ys → length rows ≤ n → (rest : List (List (List ℕ))) × (rows ++ rest ≡ records_from cfg n s xs)
unfolding Reached records_from
front_from cfg s s2 xs ys [] n h le = (records_from cfg n s xs, refl)
front_from cfg s s2 xs ys (r ∷ rs) zero h le = absurd (omega arith)
front_from cfg s s2 xs ys (r ∷ rs) (suc n) h le =
    let more = front_from cfg h.0.1 s2 h.0.2 ys rs n h.3 (omega arith) in
    (more.0, rw (h.1, h.2) (ap (λ (rows : List (List (List ℕ))). h.0.0 ∷ rows) more.1))

pub Reached-front : (cfg : Config) (xs ys : List ℕ) (s2 : State) (rows : List (List (List ℕ))) → Reached cfg st.StartRecord xs rows s2 ys
    → (rest : List (List (List ℕ))) × (rows ++ rest ≡ records cfg xs)
Reached-front cfg xs ys s2 rows h = front_from cfg st.StartRecord s2 xs ys rows (length xs + 1) h (count cfg st.StartRecord s2 xs ys rows h)
