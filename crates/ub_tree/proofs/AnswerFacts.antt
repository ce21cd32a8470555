-- What a tree answers that is asked for the next region that meets some boxes again and again, over any pages: each answer is later than
-- the one before it, and begins with a key of the space, so fewer keys are left after each.
use Rattle.std.proofs.Common.{rules, ◌≡◌, ◌<◌, ◌≤◌, ◌+◌, ◌-◌, ◌*◌, ◌^◌, ◌++◌, ◌∷◌, ◌⊎◌, ℕ, zero, suc, List, [], Option, Some, None, IfSome, if◌then◌else◌, nat_lt, slice_get, ap, ◌∙◌, refl, subst, sym, arith}
use Rattle.ub_tree.proofs.Common.{address_before, AllByRecursion, AreAnswers, AreFirst, at_least, before_parts, before_trans, Corners, end_before, GivesFrom}
use Rattle.ub_tree.proofs.Common.{GivesNext, HoldsAny, IsBefore, IsLater, IsRegionOf, Key, LeastFrom, Meets, Region, TreeView}

-- ---- how many keys of a space are later than a region's first one

-- a number, or the greatest of 32 bits
abbrev capped : ℕ → ℕ
capped n = if nat_lt n 4294967296 then n else 4294967295

capped_few : (n : ℕ) → capped n < 4294967296
capped_few n = search rules

-- the place of a region's first key among the keys of numbers of 32 bits, from 1 on
pub place : Option Region → ℕ
place None = 0
place (Some a) = a.first.z * 4294967296 + capped a.first.number + 1

place_later : (after : Option Region) (span : Region) → IsLater after span → span.first.number < 2 ^ 32 → place after < place (Some span)
unfolding place
place_later after span h k = search rules

place_within : (last : ℕ) (span : Region) → span.first.z ≤ last → place (Some span) ≤ (last + 1) * 4294967296
unfolding place
place_within last span le = let few = capped_few span.first.number in omega arith

-- how many keys of the tree's space are later than a region's first one
pub left_after : TreeView → Option Region → ℕ
left_after t after = (t.inner.index.last + 1) * 4294967296 - place after

-- ---- what one answer is

-- the later of a key and the least one of an address that isn't before its own has that address
pub at_least_z : (from : Key) (z : ℕ) → from.z ≤ z → (at_least from z).z ≡ z
at_least_z from z h = search rules

pub up_to : (kz kn z n : ℕ) → (kz < z) ⊎ ((kz ≡ z) × (kn < n)) → kz ≤ address_before z n
up_to kz kn z n h = search rules

ends_from : (last : ℕ) (key : Key) (next : Option Key) → IfSome next (IsBefore key) → key.z ≤ last → key.z ≤ end_before last next
ends_from last key None before le = le
ends_from last key (Some next) before le = up_to key.z key.number next.z next.number (before_parts key next before)

pub begins_up_to : (key first : Key) → ¬ (IsBefore key first) → first.z ≤ key.z
begins_up_to key first h = search rules

-- a region that is given is one that the tree tells of, and meets the boxes
given_met : (boxes : List Corners) (t : TreeView) (from : Option Key) (span : Region)
    → GivesFrom t.inner.index t.store (λ from. LeastFrom (HoldsAny boxes) from.z) from (Some span) → IsRegionOf t span × Meets boxes span
given_met boxes t None span h = absurd h
given_met boxes t (Some from) span (key, (z, least, le, aim), given) =
    let key_z : key.z ≡ z = ap (λ (k : Key). k.z) aim ∙ at_least_z from z least.1 in
    let first = begins_up_to key span.first given.holds.from in
    let begins : span.first.z ≤ z = omega arith in
    let within : key.z ≤ t.inner.index.last = omega arith in
    let last = ends_from t.inner.index.last key span.next given.holds.to within in
    let ends : z ≤ end_before t.inner.index.last span.next = omega arith in
    let from_is = given.from in
    let to_is = given.to in
    (record { key = key; falls = given }, (z, least.0, omega arith, omega arith))

module _ (boxes : List Corners) (t : TreeView) where
  pub next_later : (after : Option Region) (span : Region) → GivesNext boxes t after (Some span) → IsRegionOf t span × IsLater after span × Meets boxes span
  next_later after span h = search (rules, given_met)

  -- fewer are left after it
  pub left_less : (after : Option Region) (span : Region) → GivesNext boxes t after (Some span) → left_after t (Some span) < left_after t after
  unfolding left_after
  left_less after span h = search (rules, place_later, place_within)

  -- ---- all answers

  -- they are regions that the tree tells of and that meet the boxes
  pub answers_there : (after : Option Region) (answers : List Region) → AreAnswers boxes t after answers → AllByRecursion (λ r. IsRegionOf t r × Meets boxes r) answers
  answers_there after [] are = tt
  answers_there after (found ∷ more) (gives, rest) = let next = next_later after found gives in ((next.0, next.2), answers_there (Some found) more rest)

  -- and later than the one after which they are asked for
  pub answers_later : (a : Region) (answers : List Region) → AreAnswers boxes t (Some a) answers → AllByRecursion (λ r. IsBefore a.first r.first) answers
  answers_later a [] are = tt
  answers_later a (found ∷ more) (gives, rest) = (gives.found_after.later, all_later more (answers_later found more rest))
    where
      all_later : (rs : List Region) → AllByRecursion (λ r. IsBefore found.first r.first) rs → AllByRecursion (λ r. IsBefore a.first r.first) rs
      all_later [] all = tt
      all_later (r ∷ rs) all = (before_trans a.first found.first r.first gives.found_after.later all.0, all_later rs all.1)

  later_at : (a : Region) (rs : List Region) → AllByRecursion (λ r. IsBefore a.first r.first) rs → (j : ℕ) (b : Region) → slice_get rs j ≡ Some b → IsBefore a.first b.first
  later_at a [] all j b at = cc
  later_at a (r ∷ rs) all zero b at = let same : r ≡ b = cc in subst (λ (s : Region). IsBefore a.first s.first) same all.0
  later_at a (r ∷ rs) all (suc j) b at = later_at a rs all.1 j b at

  -- each is later than all before it
  pub answers_up : (after : Option Region) (answers : List Region) → AreAnswers boxes t after answers
      → (i j : ℕ) (a b : Region) → i < j → slice_get answers i ≡ Some a → slice_get answers j ≡ Some b → IsBefore a.first b.first
  answers_up after [] are i j a b lt at_i at_j = cc
  answers_up after (found ∷ more) are i zero a b lt at_i at_j = absurd (omega arith)
  answers_up after (found ∷ more) (gives, rest) zero (suc j) a b lt at_i at_j =
      let same : found ≡ a = cc in
      subst (λ (s : Region). IsBefore s.first b.first) same (later_at found more (answers_later found more rest) j b at_j)
  answers_up after (found ∷ more) (gives, rest) (suc i) (suc j) a b lt at_i at_j = answers_up (Some found) more rest i j a b (omega arith) at_i at_j

  -- ---- the first answers

  -- one more came
  pub first_more : (from : Option Region) (found : List Region) (after : Option Region) (span : Region) → AreFirst boxes t from found after → GivesNext boxes t after (Some span)
      → AreFirst boxes t from (found ++ span ∷ []) (Some span)
  first_more from [] after span first gives = (subst (λ (a : Option Region). GivesNext boxes t a (Some span)) (sym first) gives, refl)
  first_more from (x ∷ found) after span (given, first) gives = (given, first_more (Some x) found after span first gives)

  -- they are all where none is left
  pub answers_ended : (from : Option Region) (found : List Region) (after : Option Region) → AreFirst boxes t from found after → GivesNext boxes t after None → AreAnswers boxes t from found
  answers_ended from [] after first none = subst (λ (a : Option Region). GivesNext boxes t a None) (sym first) none
  answers_ended from (x ∷ found) after (given, first) none = (given, answers_ended (Some x) found after first none)
