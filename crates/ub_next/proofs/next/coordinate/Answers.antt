use Rattle.std.proofs.Common.{◌∙◌, sym, rules}
use Rattle.ub_next.proofs.NextFacts.{no_number, number_parsed}
use Rattle.ub_next.proofs.next.coordinate.Goals as goal

pub returns-then-not-is_digits : goal.returns-then-not-is_digits
returns-then-not-is_digits c = sym (no_number 32 c.args.text.now (search rules))

pub returns : goal.returns
returns c = c.ok.ensures.value ∙ number_parsed 32 c.args.text.now c.parse.result (search rules) c.parse.ensures.value.0
