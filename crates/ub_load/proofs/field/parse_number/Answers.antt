use Rattle.std.proofs.lemmas.Bool.{false≢true}
use Rattle.ub_load.proofs.FieldFacts.{parsed_value, parsed_valid, utf8_from}
use Rattle.ub_load.proofs.field.parse_number.Goals as goal

pub returns-in-Ok-clause-value : goal.returns-in-Ok-clause-value
returns-in-Ok-clause-value c = rw c.ok.ensures.value (parsed_value c.args.text.now c.parse.result (rw c.in-Ok.ensures.cases.0 at c.parse.ensures.value.0))

pub returns-in-Ok-clause-valid : goal.returns-in-Ok-clause-valid
returns-in-Ok-clause-valid c = rw c.ok.ensures.value (parsed_valid c.args.text.now c.parse.result (rw c.in-Ok.ensures.cases.0 at c.parse.ensures.value.0))

pub returns-in-Err-clause-valid : goal.returns-in-Err-clause-valid
returns-in-Err-clause-valid c = (λ bad. absurd (false≢true bad), λ h. absurd (c.in-Err.ensures.cases.0 (utf8_from c.args.text.now h.0)))
