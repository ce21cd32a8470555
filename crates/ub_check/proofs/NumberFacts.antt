-- A bit for each number: what one number more changes.
use Rattle.std.proofs.Common.{rules, ◌≡◌, ◌≢◌, ◌<◌, ◌/◌, ◌%◌, ◌*◌, ◌^◌, ◌++◌, inl, inr, ℕ, List, [], ◌∷◌, length, slice_index_or, slice_set, bit_or, ap, sym, ◌∙◌, arith}
use Rattle.ub_check.proofs.Common.{all_append, all_left, all_right, bit_of, cases_eq, get_or-set_other, get_or-set_same, HasJust, IsNone, numbers_view}
use Rattle.std.proofs.lemmas.Nat.Bits.{bit_at_set_same, bit_at_set_other}
use Rattle.std.specs.Int.{bit_at, w64}

module _ (words : List ℕ) (number word : ℕ) (within : number / 64 < length words) (here : word ≡ slice_index_or words (number / 64) 0) where
  small : number % 64 < 64
  small = omega arith

  abbrev after : List ℕ
  after = slice_set words (number / 64) (bit_or word (1 * 2 ^ (number % 64) % 2 ^ 64))

  is_set : bit_of after number ≡ 1
  is_set =
      ap (λ (w : ℕ). bit_at w (number % 64)) (get_or-set_same words (number / 64) (bit_or word (1 * 2 ^ (number % 64) % 2 ^ 64)) 0 within)
      ∙ bit_at_set_same w64 word (number % 64) small

  others : (m : ℕ) → m ≢ number → bit_of after m ≡ bit_of words m
  others m ne = elim (cases_eq (m / 64) (number / 64)) [
    | inl same ↦
        let other : m % 64 ≢ number % 64 = λ e. ne (omega arith) in
        ap (λ (i : ℕ). bit_at (slice_index_or after i 0) (m % 64)) same
        ∙ (ap (λ (w : ℕ). bit_at w (m % 64)) (get_or-set_same words (number / 64) (bit_or word (1 * 2 ^ (number % 64) % 2 ^ 64)) 0 within)
        ∙ (bit_at_set_other w64 word (number % 64) small (m % 64) other
        ∙ (ap (λ (w : ℕ). bit_at w (m % 64)) here ∙ ap (λ (i : ℕ). bit_at (slice_index_or words i 0) (m % 64)) (sym same))))
    | inr apart ↦ ap (λ (w : ℕ). bit_at w (m % 64)) (get_or-set_other words (number / 64) (m / 64) (bit_or word (1 * 2 ^ (number % 64) % 2 ^ 64)) 0 apart)
  ]

  pub put_has : (bound : ℕ) (met : List ℕ) → HasJust (numbers_view bound words) met → HasJust (numbers_view bound after) (met ++ number ∷ [])
  put_has bound met h = grind (arith, all_append, all_left, all_right, cases_eq, is_set, others)

-- a number whose bit isn't set is none of those
pub is_new : (bound number word : ℕ) (words met : List ℕ) → word ≡ slice_index_or words (number / 64) 0 → HasJust (numbers_view bound words) met
    → (word / 2 ^ (number % 64) % 2 ≡ 1 → ⊥) → IsNone number met
is_new bound number word words met h k j = search rules
