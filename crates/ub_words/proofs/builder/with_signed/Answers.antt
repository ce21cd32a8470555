use Rattle.std.proofs.Common.{rules}
use Rattle.ub_words.specs.CommandLine.{IsArgFor, signed_rule}
use Rattle.ub_words.proofs.builder.with_signed.Goals as goal

pub returns : goal.returns
returns c =
    let fits : IsArgFor signed_rule c.default_value-arg.result = search rules in
    λ app is. c.with_arg.ensures app signed_rule is fits
