use Rattle.std.proofs.Common.{rules}
use Rattle.ub_words.specs.CommandLine.{IsArgFor, name_rule}
use Rattle.ub_words.proofs.builder.with_name.Goals as goal

pub returns : goal.returns
returns c =
    let fits : IsArgFor name_rule c.default_value-arg.result = search rules in
    λ app is. c.with_arg.ensures app name_rule is fits
