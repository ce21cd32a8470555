-- The order of keys, and of rows by their keys.
use Rattle.std.proofs.Common.{◌≡◌, ◌<◌, ◌⊎◌, ◌↔◌, inl, inr, ℕ, zero, suc, Bool, true, false, not, IsTrue, List, [], ◌∷◌, Some, length, get_or, slice_get, refl, arith, ◌∙◌, sym, ap}
use Rattle.std.proofs.lemmas.Bool.{ltb-true, lt-ltb, eqb-true, eq-eqb, and_parts, and_from, or_cases, or_left, or_right}
use Rattle.ub_table.specs.Keys.{origin, precedes, are_ascending, IsBefore, AreKeysAscending}
use Rattle.ub_table.specs.Region.{key_of, keys_of, AreFrom}
use Rattle.ub_table.specs.declared.row.Key.{Key}
use Rattle.ub_table.specs.declared.row.Row.{Row}

-- before in the address, or in the number at one address
pub before_parts : (a b : Key) → IsBefore a b → (a.z < b.z) ⊎ ((a.z ≡ b.z) × (a.number < b.number))
before_parts a b t = elim (or_cases _ _ t) [
  | inl lt ↦ inl (ltb-true a.z b.z lt)
  | inr both ↦ let parts = and_parts _ _ both in inr (eqb-true a.z b.z parts.0, ltb-true a.number b.number parts.1)
]

pub before_from : (a b : Key) → (a.z < b.z) ⊎ ((a.z ≡ b.z) × (a.number < b.number)) → IsBefore a b
before_from a b (inl lt) = or_left _ _ (lt-ltb a.z b.z lt)
before_from a b (inr same) = or_right _ _ (and_from _ _ (eq-eqb a.z b.z same.0) (lt-ltb a.number b.number same.1))

pub before_of : (a b : Key) → precedes a b ≡ true → IsBefore a b
before_of a b t = t

pub precedes_of : (a b : Key) → IsBefore a b → precedes a b ≡ true
precedes_of a b t = t

pub before_trans : (a b c : Key) → IsBefore a b → IsBefore b c → IsBefore a c
before_trans a b c ab bc = before_from a c (by_parts (before_parts a b ab) (before_parts b c bc))
  where
    by_parts : (a.z < b.z) ⊎ ((a.z ≡ b.z) × (a.number < b.number)) → (b.z < c.z) ⊎ ((b.z ≡ c.z) × (b.number < c.number)) → (a.z < c.z) ⊎ ((a.z ≡ c.z) × (a.number < c.number))
    by_parts (inl p) (inl q) = inl (omega arith)
    by_parts (inl p) (inr q) = let e = q.0 in inl (omega arith)
    by_parts (inr p) (inl q) = let e = p.0 in inl (omega arith)
    by_parts (inr p) (inr q) = let e = p.0 in let f = q.0 in let g = p.1 in let h = q.1 in inr (omega arith, omega arith)

pub not_both_before : (a b : Key) → IsBefore a b → IsBefore b a → ⊥
not_both_before a b ab ba = by_parts (before_parts a b ab) (before_parts b a ba)
  where
    by_parts : (a.z < b.z) ⊎ ((a.z ≡ b.z) × (a.number < b.number)) → (b.z < a.z) ⊎ ((b.z ≡ a.z) × (b.number < a.number)) → ⊥
    by_parts (inl p) (inl q) = omega arith
    by_parts (inl p) (inr q) = let e = q.0 in omega arith
    by_parts (inr p) (inl q) = let e = p.0 in omega arith
    by_parts (inr p) (inr q) = let g = p.1 in let h = q.1 in omega arith

pub not_before_self : (a : Key) → IsBefore a a → ⊥
not_before_self a h = not_both_before a a h h

pub not_before_origin : (a : Key) → IsBefore a origin → ⊥
not_before_origin a h = elim (before_parts a origin h) [
  | inl p ↦ omega arith
  | inr p ↦ let q = p.1 in omega arith
]

pub precedes_trans : (a b c : Key) → precedes a b ≡ true → precedes b c ≡ true → precedes a c ≡ true
precedes_trans a b c p q = before_trans a b c p q

-- the first of ascending keys is before the others
head_before : (key : Key) (keys : List Key) → are_ascending (key ∷ keys) ≡ true → (j : ℕ) (b : Key) → slice_get keys j ≡ Some b → precedes key b ≡ true
head_before key [] up j b at = cc
head_before key (next ∷ keys) up zero b at = let same : next ≡ b = cc in ap (precedes key) (sym same) ∙ (and_parts _ _ up).0
head_before key (next ∷ keys) up (suc j) b at =
    precedes_trans key next b (and_parts _ _ up).0 (head_before next keys (and_parts _ _ up).1 j b at)

pub ascending_get : (keys : List Key) → are_ascending keys ≡ true → (i j : ℕ) → i < j → (a b : Key) → slice_get keys i ≡ Some a → slice_get keys j ≡ Some b → precedes a b ≡ true
ascending_get [] up i j lt a b at_i at_j = cc
ascending_get (key ∷ keys) up zero zero lt a b at_i at_j = absurd (omega arith)
ascending_get (key ∷ keys) up zero (suc j) lt a b at_i at_j =
    let same : key ≡ a = cc in ap (λ (k : Key). precedes k b) (sym same) ∙ head_before key keys up j b at_j
ascending_get (key ∷ keys) up (suc i) zero lt a b at_i at_j = absurd (omega arith)
ascending_get (key ∷ keys) up (suc i) (suc j) lt a b at_i at_j = ascending_get keys (and_parts _ _ up).1 i j (omega arith) a b at_i at_j

-- where the least of the keys is not before the first, none is
from_least : (first key : Key) (keys : List Key) → AreKeysAscending (key ∷ keys) → ¬ (IsBefore key first) → AreFrom first (key ∷ keys)
from_least first key [] ascending least = (least, tt)
from_least first key (next ∷ keys) ascending least = (least, from_least first next keys ascending.1 (λ yes. least (before_trans key next first ascending.0 yes)))

rows_from : (dims : ℕ) (first : Key) (rows : List Row) (blank : Row) → 0 < length rows → AreKeysAscending (keys_of dims rows)
    → AreFrom first (keys_of dims rows) ↔ (¬ (IsBefore (key_of dims (get_or rows 0 blank)) first))
rows_from dims first [] blank some ascending = absurd (omega arith)
rows_from dims first (row ∷ rows) blank some ascending = (λ all. all.0, λ least. from_least first (key_of dims row) (keys_of dims rows) ascending least)

not_true : (b : Bool) → (IsTrue (not b)) ↔ (¬ (IsTrue b))
not_true false = (λ yes t. (let wrong : false ≡ true = t in cc), λ not_t. refl)
not_true true = (λ bad. (let wrong : false ≡ true = bad in cc), λ not_t. absurd (not_t refl))

-- what the test of the least row's key tells
pub rows_are_from : (dims : ℕ) (first key : Key) (rows : List Row) (blank : Row) (b : Bool) → 0 < length rows → AreKeysAscending (keys_of dims rows)
    → key ≡ key_of dims (get_or rows 0 blank) → b ≡ precedes key first → IsTrue (not b) ↔ AreFrom first (keys_of dims rows)
rows_are_from dims first key rows blank b some ascending is test =
    let all = rows_from dims first rows blank some ascending in
    let same : b ≡ precedes (key_of dims (get_or rows 0 blank)) first = rw is at test in
    let turned = not_true b in
    (λ yes. all.1 (rw same at (turned.0 yes)), λ from. turned.1 (rw (← same) at (all.0 from)))
