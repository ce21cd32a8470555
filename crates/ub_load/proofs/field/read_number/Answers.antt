use Rattle.std.proofs.Common.{◌∙◌, sym, refl, subst}
use Rattle.std.specs.Str.Parse.{AllDigits}
use Rattle.ub_load.proofs.DigitFacts.{negative_is, negative_word, positive_is, positive_word}
use Rattle.ub_load.proofs.FieldFacts.{numeral_from}
use Rattle.ub_load.proofs.field.read_number.Goals as goal

pub read_digits-value-requires-clause-digits : goal.read_digits-value-requires-clause-digits
read_digits-value-requires-clause-digits c = subst (AllDigits 10) (sym c.without_sign-digits.ensures) (numeral_from c.args.text.now c.requires).1

pub returns-then-is_negative-clause-value : goal.returns-then-is_negative-clause-value
returns-then-is_negative-clause-value c = negative_is c.args.text.now c.read_digits-value.result (rw c.without_sign-digits.ensures at c.read_digits-value.ensures.value) c.read_digits-value.ensures.small (sym c.is_negative.ensures ∙ c.if-is_negative.true)

pub returns-then-is_negative-clause-valid : goal.returns-then-is_negative-clause-valid
returns-then-is_negative-clause-valid c = (λ _. negative_word c.args.text.now c.read_digits-value.result (rw c.without_sign-digits.ensures at c.read_digits-value.ensures.value) c.read_digits-value.ensures.small c.requires (sym c.is_negative.ensures ∙ c.if-is_negative.true), λ _. refl)

pub returns-else-is_negative-clause-value : goal.returns-else-is_negative-clause-value
returns-else-is_negative-clause-value c = positive_is c.args.text.now c.read_digits-value.result (rw c.without_sign-digits.ensures at c.read_digits-value.ensures.value) c.read_digits-value.ensures.small (sym c.is_negative.ensures ∙ c.if-is_negative.false)

pub returns-else-is_negative-clause-valid : goal.returns-else-is_negative-clause-valid
returns-else-is_negative-clause-valid c = (λ _. positive_word c.args.text.now c.read_digits-value.result (rw c.without_sign-digits.ensures at c.read_digits-value.ensures.value) c.read_digits-value.ensures.small c.requires (sym c.is_negative.ensures ∙ c.if-is_negative.false), λ _. refl)
