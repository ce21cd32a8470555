use Rattle.std.proofs.Common.{rules}
use Rattle.ub_words.specs.CommandLine.{IsArgFor, dims_rule}
use Rattle.ub_words.proofs.builder.with_dims.Goals as goal

pub returns : goal.returns
returns c =
    let fits : IsArgFor dims_rule c.required-arg.result = search rules in
    λ app is. c.with_arg.ensures app dims_rule is fits
