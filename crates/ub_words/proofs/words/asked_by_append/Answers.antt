use Rattle.clap.specs.Words.{found_of, rows_of}
use Rattle.ub_words.proofs.AskFacts.{nothing_by_append}
use Rattle.ub_words.proofs.words.asked_by_append.Goals as goal

pub returns-in-Some : goal.returns-in-Some
returns-in-Some c = λ words taken.
    (rows_of (found_of c.args.found.now), taken, record { table_is = c.in-Some.ensures.0; data_is = c.in-Some.ensures.1 })

pub returns-in-None : goal.returns-in-None
returns-in-None c = λ words taken. c.no_command.ensures words (nothing_by_append words (rows_of (found_of c.args.found.now)) taken
    (λ table source given. c.in-None.ensures table source (given.table_is, given.data_is)))
