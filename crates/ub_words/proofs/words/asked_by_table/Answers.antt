use Rattle.std.proofs.Common.{sym, ◌∙◌}
use Rattle.clap.specs.Words.{found_of, rows_of}
use Rattle.ub_words.proofs.AskFacts.{nothing_by_table}
use Rattle.ub_words.proofs.words.asked_by_table.Goals as goal

pub returns-in-Some : goal.returns-in-Some
returns-in-Some c = λ words taken. (rows_of (found_of c.args.found.now), taken, sym c.in-Some.ensures)

pub returns-in-None : goal.returns-in-None
returns-in-None c = λ words taken. c.no_command.ensures words (nothing_by_table words c.args.command (rows_of (found_of c.args.found.now)) taken
    (λ table given. let bad = c.in-None.ensures ∙ given in cc))
