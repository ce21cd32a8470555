-- The number that a few digits write, digit after digit.
use Rattle.std.proofs.Common.{◌≡◌, ◌≤◌, ◌<◌, ◌+◌, ◌-◌, ◌*◌, ◌∙◌, ap, ℕ, zero, suc, true, false, List, sym, subst, arith, length, take, slice_index_or, pos, neg_ℤ, ◌-ℤ◌, FitsSigned, to_z, of_z, w64, cond}
use Rattle.std.proofs.Math.Nat.{pow-le-pow_right}
use Rattle.std.proofs.lemmas.Bool.Decides.{nat_tests}
use Rattle.std.proofs.lemmas.Int.{to_z-of_z, to_z_pos}
use Rattle.std.proofs.lemmas.Int.Digits.{digits_value-lt, digits_value_more}
use Rattle.std.proofs.lemmas.Str.Parse.{digit_at, digits_value-take-le}
use Rattle.std.specs.Char.{digit_value}
use Rattle.std.specs.Str.Parse.{AllDigits, digits_value, starts_with_minus, without_leading_sign}
use Rattle.ub_load.proofs.FieldFacts.{fits_from}
use Rattle.ub_load.specs.Field.{IsWord, is_number, number_of}
use Rattle.ub_table.specs.Value.{fits_measure}

pub few_below : (ds : List ℕ) → AllDigits 10 ds → length ds ≤ 18 → digits_value 10 ds < 1000000000000000000
few_below ds h l = omega (arith, digits_value-lt 10 ds h, pow-le-pow_right {n = 10} (omega arith) l)

pub front_below : (ds : List ℕ) (i : ℕ) → AllDigits 10 ds → length ds ≤ 18 → digits_value 10 (take i ds) < 1000000000000000000
front_below ds i h l = omega (arith, digits_value-take-le 10 ds i (omega arith), few_below ds h l)

pub least_byte : (ds : List ℕ) (i : ℕ) → AllDigits 10 ds → i < length ds → 48 ≤ slice_index_or ds i 0
least_byte ds i h l = omega (arith, digit_at ds i h l)

pub most_byte : (ds : List ℕ) (i : ℕ) → AllDigits 10 ds → i < length ds → slice_index_or ds i 0 ≤ 57
most_byte ds i h l = omega (arith, digit_at ds i h l)

digit_of : (c : ℕ) → 48 ≤ c → c ≤ 57 → digit_value c ≡ c - 48
digit_of c l m = grind (arith, nat_tests)

pub next_digit : (ds : List ℕ) (i : ℕ) → AllDigits 10 ds → i < length ds
    → digits_value 10 (take (i + 1) ds) ≡ 10 * digits_value 10 (take i ds) + (slice_index_or ds i 0 - 48)
next_digit ds i h l =
    let d = digit_of (slice_index_or ds i 0) (least_byte ds i h l) (most_byte ds i h l) in
    omega (arith, digits_value_more 10 ds i l, d)

-- a number of few digits, with a sign or none, fits 64 bits with sign
fits_positive : (n : ℕ) → n < 1000000000000000000 → FitsSigned w64 (pos n)
fits_positive n l = record { sfits = omega arith }

fits_negative : (n : ℕ) → n < 1000000000000000000 → FitsSigned w64 (neg_ℤ (pos n))
fits_negative zero l = fits_positive zero l
fits_negative (suc m) l = record { sfits = omega arith }

minus_is : (n : ℕ) → pos 0 -ℤ pos n ≡ neg_ℤ (pos n)
minus_is n = grind (arith)

to_z_few : (n : ℕ) → n < 1000000000000000000 → to_z w64 n ≡ pos n
to_z_few n l = to_z_pos w64 n (omega arith)

minus_few : (n : ℕ) → n < 1000000000000000000 → to_z w64 (of_z w64 (pos 0 -ℤ to_z w64 n)) ≡ neg_ℤ (pos n)
minus_few n l =
    let is = ap (λ z. pos 0 -ℤ z) (to_z_few n l) ∙ minus_is n in
    ap (λ z. to_z w64 (of_z w64 z)) is ∙ to_z-of_z w64 (neg_ℤ (pos n)) (fits_negative n l)

-- the number that a text writes: by its sign, and its digits
negative_of : (text : List ℕ) → starts_with_minus text ≡ true → number_of text ≡ neg_ℤ (pos (digits_value 10 (without_leading_sign text)))
unfolding number_of
negative_of text s = ap (λ b. cond b (neg_ℤ (pos (digits_value 10 (without_leading_sign text)))) (pos (digits_value 10 (without_leading_sign text)))) s

positive_of : (text : List ℕ) → starts_with_minus text ≡ false → number_of text ≡ pos (digits_value 10 (without_leading_sign text))
unfolding number_of
positive_of text s = ap (λ b. cond b (neg_ℤ (pos (digits_value 10 (without_leading_sign text)))) (pos (digits_value 10 (without_leading_sign text)))) s

module _ (text : List ℕ) (n : ℕ) (is : n ≡ digits_value 10 (without_leading_sign text)) (few : n < 1000000000000000000) where
  pub negative_is : starts_with_minus text ≡ true → to_z w64 (of_z w64 (pos 0 -ℤ to_z w64 n)) ≡ number_of text
  negative_is s = minus_few n few ∙ ap (λ k. neg_ℤ (pos k)) is ∙ sym (negative_of text s)

  pub positive_is : starts_with_minus text ≡ false → to_z w64 n ≡ number_of text
  positive_is s = to_z_few n few ∙ ap pos is ∙ sym (positive_of text s)

  pub negative_word : is_number text ≡ true → starts_with_minus text ≡ true → IsWord text
  negative_word h s = (h, subst (λ z. fits_measure z ≡ true) (ap (λ k. neg_ℤ (pos k)) is ∙ sym (negative_of text s)) (fits_from (neg_ℤ (pos n)) (fits_negative n few)))

  pub positive_word : is_number text ≡ true → starts_with_minus text ≡ false → IsWord text
  positive_word h s = (h, subst (λ z. fits_measure z ≡ true) (ap pos is ∙ sym (positive_of text s)) (fits_from (pos n) (fits_positive n few)))
