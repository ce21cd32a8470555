use Rattle.std.specs.Box.{box_value}
use Rattle.clap.specs.Words.{found_of, rows_of}
use Rattle.clap.specs.declared.parser.matches.ArgMatches.TheViews.{out-ArgMatches, out-SubCommand}
use Rattle.ub_words.proofs.AskFacts.{paired}
use Rattle.ub_words.proofs.given.command_found.Goals as goal

pub returns : goal.returns
returns c =
    paired c.subcommand.result (λ p. p.0.now) (λ p. rows_of (found_of p.1.now)) (out-ArgMatches c.args.matches.now).subcommand
    (λ b. (out-SubCommand (box_value b)).name.now) (λ b. rows_of (found_of (out-SubCommand (box_value b)).matches))
    c.subcommand.ensures.name c.subcommand.ensures.rows
