use Rattle.clap.specs.Words.{found_of, rows_of}
use Rattle.ub_words.proofs.AskFacts.{nothing_by_query}
use Rattle.ub_words.proofs.words.asked_by_query.Goals as goal

pub returns-in-Some : goal.returns-in-Some
returns-in-Some c = λ words taken.
    (rows_of (found_of c.args.found.now), taken, record { table_is = c.in-Some.ensures.0; statements_are = c.in-Some.ensures.1 })

pub returns-in-None : goal.returns-in-None
returns-in-None c = λ words taken. c.no_command.ensures words (nothing_by_query words (rows_of (found_of c.args.found.now)) taken
    (λ table statements given. c.in-None.ensures table statements (given.table_is, given.statements_are)))
