use Rattle.clap.specs.Words.{AddsArg, with_rule}
use Rattle.ub_words.specs.CommandLine.{IsCommandFor}
use Rattle.ub_words.proofs.AddFacts.{kept, with_arg_added}
use Rattle.ub_words.proofs.builder.with_arg.Goals as goal

pub returns : goal.returns
returns c = λ app rule is fits.
    kept c.added.result c.args.command (IsCommandFor app) (λ before after. AddsArg before c.args.arg after)
    (IsCommandFor (with_rule app rule)) c.added.ensures is (λ before after is adds. with_arg_added app rule before _ after is fits adds)
