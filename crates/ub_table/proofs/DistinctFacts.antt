-- What a search of a name among the names before it tells.
use Rattle.std.proofs.Common.{◌≡◌, ◌≢◌, ◌<◌, ◌+◌, ℕ, zero, suc, true, false, List, [], ◌∷◌, take, ap, sym, inl, inr, arith, ◌∙◌, below_more, slice_get, Some}
use Rattle.std.proofs.lemmas.Bool.{cases_Bool}
use Rattle.std.specs.Cmp.Lexicographic.{same_text, other_text}
use Rattle.std.specs.List.{list_any}
use Rattle.std.specs.Str.{bytes_eq}

-- a name that is found among the first i stands at one of their places
pub found : (names : List (List ℕ)) (i : ℕ) (name : List ℕ) → list_any (λ other. bytes_eq other name) (take i names) ≡ true
    → (a : ℕ) × (a < i) × (slice_get names a ≡ Some name)
found names zero name is = absurd (cc)
found [] (suc i) name is = absurd (cc)
found (other ∷ names) (suc i) name is = elim (cases_Bool (bytes_eq other name)) [
  | inl t ↦ (0, omega arith, ap (λ (n : List ℕ). Some n) (same_text other name (sym t)))
  | inr f ↦ let rest = found names i name (rw f at is) in let lt = rest.1 in (suc rest.0, omega arith, rest.2)
]

-- a name that is not found among the first i stands at none of their places
pub missing : (names : List (List ℕ)) (i : ℕ) (name : List ℕ) → list_any (λ other. bytes_eq other name) (take i names) ≡ false
    → (a : ℕ) → a < i → slice_get names a ≢ Some name
missing names zero name is a lt there = absurd (omega arith)
missing [] (suc i) name is a lt there = absurd (cc)
missing (other ∷ names) (suc i) name is zero lt there = elim (cases_Bool (bytes_eq other name)) [
  | inl t ↦ let no = rw t at is in absurd (cc)
  | inr f ↦ let same : other ≡ name = cc in absurd (other_text other name (sym f) same)
]
missing (other ∷ names) (suc i) name is (suc a) lt there = elim (cases_Bool (bytes_eq other name)) [
  | inl t ↦ let no = rw t at is in absurd (cc)
  | inr f ↦ missing names i name (rw f at is) a (omega arith) there
]

-- one more name keeps the names apart
pub distinct_more : (names : List (List ℕ)) (i : ℕ) (name : List ℕ) → ((a b : ℕ) → a < b → b < i → slice_get names a ≢ slice_get names b)
    → slice_get names i ≡ Some name → list_any (λ other. bytes_eq other name) (take i names) ≡ false
    → (a b : ℕ) → a < b → b < i + 1 → slice_get names a ≢ slice_get names b
distinct_more names i name apart here none a b ab bi =
    below_more (λ (b : ℕ). (a : ℕ) → a < b → slice_get names a ≢ slice_get names b) i
    (λ b bi a ab. apart a b ab bi)
    (λ a ai same. missing names i name none a ai (same ∙ here))
    b bi a ab
