-- Spaces at the ends, and numbers as `parse` reads them.
use Rattle.std.proofs.Common.{◌≡◌, ◌↔◌, ◌<◌, ◌+◌, ◌==◌, ℕ, zero, suc, true, List, [], ◌∷◌, Some, refl, arith, inl, inr}
use Rattle.std.proofs.lemmas.Bool.{and_parts, and_from, false≢true, cases_Bool, ltb-true, lt-ltb, leb-true, le-leb, eqb-true}
use Rattle.std.proofs.lemmas.Bool.Decides.{nat_tests}
use Rattle.std.proofs.lemmas.Str.Parse.{digit_from_value}
use Rattle.std.specs.Char.{is_ascii_digit, digit_value}
use Rattle.std.specs.List.{list_all}
use Rattle.std.specs.Str.{IsAscii, IsUtf8}
use Rattle.std.proofs.lemmas.Str.{IsUtf8-from_ascii}
use Rattle.std.specs.Str.Parse.{AllDigits, IsNumeral, ParsesSigned, without_leading_sign}
use Rattle.std.specs.Prelude.{ℤ, pos, negsuc, FitsSigned, Result, Ok, Err, IfSome, IsSome}
use Rattle.std.specs.Result.{result_ok}
use Rattle.std.specs.Int.{w64}
use Rattle.ub_load.specs.Field.{IsWord, is_number, number_of, trimmed}
use Rattle.ub_load.specs.Refusals.{field_refusal}
use Rattle.ub_load.specs.declared.fault.LoadFault.TheVariants.{OutOfRange}
use Rattle.ub_table.proofs.Laws.{fits_some_measure}
use Rattle.ub_table.specs.Value.{fits_at, fits_measure}
use Rattle.ub_table.specs.declared.axes.Axes.{Axes}

digit_is : (c : ℕ) → is_ascii_digit c ≡ true → digit_value c < 10
digit_is c h = grind (arith, nat_tests)

digit_from : (c : ℕ) → digit_value c < 10 → is_ascii_digit c ≡ true
digit_from c h = let r = digit_from_value c h in grind (arith, nat_tests)

digits_from_all : (ds : List ℕ) → list_all is_ascii_digit ds ≡ true → AllDigits 10 ds
digits_from_all [] h = tt
digits_from_all (c ∷ cs) h = let p = and_parts (is_ascii_digit c) (list_all is_ascii_digit cs) h in (digit_is c p.0, digits_from_all cs p.1)

all_from_digits : (ds : List ℕ) → AllDigits 10 ds → list_all is_ascii_digit ds ≡ true
all_from_digits [] h = refl
all_from_digits (c ∷ cs) h = and_from _ _ (digit_from c h.0) (all_from_digits cs h.1)

-- the test of a number says that a sign may stand first, and digits after it
pub numeral_from : (text : List ℕ) → is_number text ≡ true → IsNumeral 10 (without_leading_sign text)
unfolding is_number
numeral_from text h =
    let p = and_parts _ _ h in
    (ltb-true 0 _ p.0, digits_from_all _ p.1)

pub number_from : (text : List ℕ) → IsNumeral 10 (without_leading_sign text) → is_number text ≡ true
unfolding is_number
number_from text h = and_from _ _ (lt-ltb 0 _ h.0) (all_from_digits _ h.1)

-- what fits a measure's column is what fits 64 bits
pub fits_from : (z : ℤ) → FitsSigned w64 z → fits_measure z ≡ true
fits_from (pos n) h = let l : n < 9223372036854775808 = h.sfits in le-leb n 9223372036854775807 (omega arith)
fits_from (negsuc n) h = let l : n < 9223372036854775808 = h.sfits in and_from _ true (le-leb n 9223372036854775807 (omega arith)) refl

pub fits_to : (z : ℤ) → fits_measure z ≡ true → FitsSigned w64 z
fits_to (pos n) h = let l = leb-true n 9223372036854775807 h in record { sfits = omega arith }
fits_to (negsuc n) h = let l = leb-true n 9223372036854775807 (and_parts _ true h).0 in record { sfits = omega arith }

-- what `parse` reads
pub parsed_value : {E : Type 0} (text : List ℕ) (r : Result ℤ E) → ParsesSigned w64 10 text r → IfSome (result_ok r) (λ v. v ≡ number_of text)
unfolding number_of
parsed_value text (Ok v) h = h.1
parsed_value text (Err e) h = tt

pub parsed_valid : {E : Type 0} (text : List ℕ) (r : Result ℤ E) → ParsesSigned w64 10 text r
    → IsSome (result_ok r) ↔ ((is_number text ≡ true) × (fits_measure (number_of text) ≡ true))
unfolding number_of
parsed_valid text (Ok v) h = (λ _. (number_from text h.0.0, fits_from (number_of text) h.0.1), λ _. refl)
parsed_valid text (Err e) h = (λ bad. absurd (false≢true bad), λ p. absurd (h (numeral_from text p.0, fits_to (number_of text) p.1)))

-- a number that 64 bits with sign don't hold is refused in each column
pub out_of_range : (axes : Axes) (row place : ℕ) (field : List ℕ) → is_number (trimmed field) ≡ true → ¬ (IsWord (trimmed field))
    → field_refusal axes row (place, field) ≡ Some (OutOfRange row (place + 1))
out_of_range axes row place field is none = elim (cases_Bool (fits_at axes place (number_of (trimmed field)))) [
  | inl t ↦ absurd (none (is, fits_some_measure axes place (number_of (trimmed field)) t))
  | inr f ↦ rw (is, f) refl
]

digits_ascii : (ds : List ℕ) → AllDigits 10 ds → IsAscii ds
digits_ascii [] h i = omega arith
digits_ascii (c ∷ cs) h zero = let r = digit_from_value c h.0 in omega arith
digits_ascii (c ∷ cs) h (suc i) = digits_ascii cs h.1 i

after_sign : (c : ℕ) (cs : List ℕ) → c < 128 → AllDigits 10 cs → IsAscii (c ∷ cs)
after_sign c cs l h zero = l
after_sign c cs l h (suc i) = digits_ascii cs h i

sign_ascii : (c : ℕ) (cs : List ℕ) → AllDigits 10 (without_leading_sign (c ∷ cs)) → IsAscii (c ∷ cs)
sign_ascii c cs h = elim (cases_Bool (c == 45)) [
  | inl t ↦ let e = eqb-true c 45 t in after_sign c cs (omega arith) (rw t at h)
  | inr m ↦ let h' = rw m at h in elim (cases_Bool (c == 43)) [
    | inl t ↦ let e = eqb-true c 43 t in after_sign c cs (omega arith) (rw t at h')
    | inr n ↦ digits_ascii (c ∷ cs) (rw n at h')
  ]
]

-- a number is text
pub utf8_from : (text : List ℕ) → is_number text ≡ true → IsUtf8 text
utf8_from [] h = IsUtf8-from_ascii [] (λ i. omega arith)
utf8_from (c ∷ cs) h = IsUtf8-from_ascii (c ∷ cs) (sign_ascii c cs (numeral_from (c ∷ cs) h).1)
