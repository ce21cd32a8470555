-- What std's `parse` says of a text of digits alone.
use Rattle.std.proofs.Common.{◌≡◌, ◌<◌, ◌≤◌, ◌^◌, ℕ, true, List, [], ◌∷◌, length, Result, Ok, Err, refl, arith, rules, tests}
use Rattle.std.specs.Char.{is_ascii_digit}
use Rattle.std.specs.Int.{IsInRange}
use Rattle.std.specs.List.{AllPass}
use Rattle.std.specs.Option.{SomeIff}
use Rattle.std.specs.Result.{OkIff, result_ok}
use Rattle.std.specs.Str.Parse.{AllDigits, ParsesUnsigned, without_leading_plus, digits_value}
use Rattle.std.proofs.lemmas.Bool.Decides.{nat_tests}
use Rattle.std.proofs.lemmas.List.Elements.{All-head, All-tail}
use Rattle.std.proofs.lemmas.Str.{digit_value_digit}
use Rattle.std.proofs.lemmas.Str.Parse.{digits_value_short, numerals_by_value, tells_digits}
use Rattle.ub_query.specs.Posed.{greatest_number}

in_range : (c : ℕ) → is_ascii_digit c ≡ true → IsInRange 48 57 c
in_range c e = search (rules, tests)

pub all_digits : (ds : List ℕ) → AllPass is_ascii_digit ds → AllDigits 10 ds
all_digits [] h = tt
all_digits (c ∷ cs) h =
    let r = in_range c (All-head (λ x. is_ascii_digit x ≡ true) c cs h) in
    let v = digit_value_digit c r in
    (omega arith, all_digits cs (All-tail (λ x. is_ascii_digit x ≡ true) c cs h))

without_plus : (ds : List ℕ) → AllPass is_ascii_digit ds → without_leading_plus ds ≡ ds
without_plus [] h = refl
without_plus (c ∷ cs) h =
    let r = in_range c (All-head (λ x. is_ascii_digit x ≡ true) c cs h) in
    grind (arith, nat_tests)

parsed : {E : Type 0} (r : Result ℕ E) (n : ℕ) (P : Type 0) → OkIff r P n → (n ≤ greatest_number → P) → (P → n ≤ greatest_number) → SomeIff (result_ok r) (n ≤ greatest_number) n
parsed (Ok x) n P h to from = (from h.0, h.1)
parsed (Err e) n P h to from = λ le. h (to le)

pub number_is : {E : Type 0} (ds : List ℕ) (r : Result ℕ E) → 0 < length ds → AllPass is_ascii_digit ds → ParsesUnsigned 64 10 ds r
    → SomeIff (result_ok r) (digits_value 10 ds ≤ greatest_number) (digits_value 10 ds)
number_is ds r some all h =
    let plain = without_plus ds all in
    let k = rw plain at h in
    parsed r (digits_value 10 ds) _ k (λ le. ((some, all_digits ds all), omega arith)) (λ p. omega arith)

-- 19 digits write a number that a statement may write, whichever they are
pub short_fits : (ds : List ℕ) → AllPass is_ascii_digit ds → length ds ≤ 19 → digits_value 10 ds ≤ greatest_number
short_fits ds all le =
    let small : digits_value 10 ds < 10 ^ 19 = digits_value_short (numerals_by_value (AllDigits 10) tells_digits) ds 19 (all_digits ds all) le in
    let power : 10 ^ 19 ≡ 10000000000000000000 = refl in
    omega arith
