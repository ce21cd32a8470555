use Rattle.std.proofs.Common.{rules}
use Rattle.clap.specs.Words.{new_app}
use Rattle.ub_words.specs.CommandLine.{IsCommandFor}
use Rattle.ub_words.proofs.AddFacts.{boxed_is}
use Rattle.ub_words.proofs.builder.with_usage.Goals as goal

pub returns : goal.returns
returns c =
    let named : IsCommandFor (new_app c.args.name.now) c.override_usage.result = (search rules, search rules) in
    boxed_is c.boxed.result c.override_usage.result (new_app c.args.name.now) c.boxed.ensures named
