-- Where a text stands first among some names.
use Rattle.std.proofs.Common.{◌≡◌, ◌↔◌, ap, IsTrue, not, ◌+◌, ◌<◌, ℕ, zero, suc, Bool, true, false, List, [], ◌∷◌, length, Option, Some, None, MatchOption, Contains, IsSome, refl, sym, ◌∙◌, arith, cond}
use Rattle.std.specs.List.{position_from}
use Rattle.std.specs.Option.{is_some}
use Rattle.std.specs.Str.{bytes_eq}
use Rattle.std.proofs.lemmas.Slice.Eq.{bytes_eq-Decides}
use Rattle.ub_parser.specs.Sense.{place_of}
use Rattle.ub_parser.proofs.FirstFacts.{fails}

Found : List ℕ → List (List ℕ) → ℕ → Option ℕ → Type 0
Found text names at r = MatchOption r (¬ Contains names text) (λ place. (place ≡ at + place_of text names) × (place_of text names < length names) × Contains names text)

other : (text name : List ℕ) (names : List (List ℕ)) → bytes_eq name text ≡ false → ¬ Contains names text → ¬ Contains (name ∷ names) text
other text name names is none (zero, lt, here) = fails (bytes_eq name text) (name ≡ text) (bytes_eq-Decides name text) is here
other text name names is none (suc k, lt, there) = none (k, omega arith, there)

here : (text name : List ℕ) (names : List (List ℕ)) (at : ℕ) → bytes_eq name text ≡ true → Found text (name ∷ names) at (Some at)
unfolding Found
here text name names at is = rw is (omega arith, omega arith, (zero, omega arith, (bytes_eq-Decides name text).0 is))

later : (text name : List ℕ) (names : List (List ℕ)) (at : ℕ) (r : Option ℕ) → bytes_eq name text ≡ false → Found text names (at + 1) r → Found text (name ∷ names) at r
unfolding Found
later text name names at None is none = other text name names is none
later text name names at (Some place) is h = let here = h.0 in let within = h.1 in rw is (omega arith, omega arith, (suc h.2.0, omega (arith, h.2.1), h.2.2))

search_from : (text : List ℕ) (names : List (List ℕ)) (at : ℕ) → Found text names at (position_from (λ name. bytes_eq name text) at names)
unfolding Found
search_from text [] at = λ h. let lt = h.1 in omega arith
search_from text (name ∷ names) at =
    elim (bytes_eq name text) as (λ b. (bytes_eq name text ≡ b) → Found text (name ∷ names) at (cond b (Some at) (position_from (λ n. bytes_eq n text) (at + 1) names))) [
      | true ↦ λ is. here text name names at is
      | false ↦ λ is. later text name names at (position_from (λ n. bytes_eq n text) (at + 1) names) is (search_from text names (at + 1))
    ] refl

-- a place is found where the text is one of the names, and then the first
pub found : (text : List ℕ) (names : List (List ℕ)) (r : Option ℕ) → r ≡ position_from (λ name. bytes_eq name text) 0 names
    → MatchOption r (¬ Contains names text) (λ place. (place ≡ place_of text names) × (place < length names) × Contains names text)
unfolding Found
found text names None is = rw (← is) at (search_from text names 0)
found text names (Some place) is = let h = rw (← is) at (search_from text names 0) in let here = h.0 in let within = h.1 in (omega arith, omega arith, h.2)

pub is_found : (text : List ℕ) (names : List (List ℕ)) (r : Option ℕ) → r ≡ position_from (λ name. bytes_eq name text) 0 names → Contains names text → IsSome r
is_found text names None is h = absurd (found text names None is h)
is_found text names (Some place) is h = refl

pub place_is : (text : List ℕ) (names : List (List ℕ)) (r : Option ℕ) (place : ℕ) → r ≡ position_from (λ name. bytes_eq name text) 0 names → r ≡ Some place
    → (place ≡ place_of text names) × (place < length names) × Contains names text
place_is text names r place is at = found text names (Some place) (sym at ∙ is)

pub missing_iff : (text : List ℕ) (names : List (List ℕ)) (r : Option ℕ) (b : Bool) → r ≡ position_from (λ name. bytes_eq name text) 0 names → is_some r ≡ not b
    → IsTrue b ↔ (¬ Contains names text)
missing_iff text names None true is tells = (λ t. found text names None is, λ h. refl)
missing_iff text names None false is tells = absurd (let bad : false ≡ true = tells in let no : ⊥ = cc in no)
missing_iff text names (Some place) true is tells = absurd (let bad : true ≡ false = tells in let no : ⊥ = cc in no)
missing_iff text names (Some place) false is tells = (λ t. absurd (let bad : false ≡ true = t in let no : ⊥ = cc in no), λ none. absurd (none (found text names (Some place) is).2))

-- the same search
pub searched_same : (a b : List ℕ) (xs ys : List (List ℕ)) (r : Option ℕ) → r ≡ position_from (λ name. bytes_eq name a) 0 xs → a ≡ b → xs ≡ ys → r ≡ position_from (λ name. bytes_eq name b) 0 ys
searched_same a b xs ys r e p q = e ∙ ap (λ (t : List ℕ). position_from (λ name. bytes_eq name t) 0 xs) p ∙ ap (λ (names : List (List ℕ)). position_from (λ name. bytes_eq name b) 0 names) q
