use Rattle.std.proofs.Common.{rules}
use Rattle.clap.specs.Words.{AddsSubcommand, with_subcommand}
use Rattle.ub_words.specs.CommandLine.{IsCommandFor}
use Rattle.ub_words.proofs.AddFacts.{kept, with_command_added}
use Rattle.ub_words.proofs.builder.with_command.Goals as goal

pub returns : goal.returns
returns c = λ app under is below.
    let held : IsCommandFor under c.into_inner.result = search rules in
    kept c.added.result c.args.command (IsCommandFor app) (λ before after. AddsSubcommand before c.into_inner.result after)
    (IsCommandFor (with_subcommand app under.top)) c.added.ensures is (λ before after is adds. with_command_added app under before _ after is held adds)
