use Rattle.clap.specs.Words.{found_of, rows_of}
use Rattle.ub_words.proofs.AskFacts.{nothing_by_upgrade}
use Rattle.ub_words.proofs.words.asked_by_upgrade.Goals as goal

pub returns-in-Some : goal.returns-in-Some
returns-in-Some c = λ words taken.
    (rows_of (found_of c.args.found.now), taken, record { old_is = c.in-Some.ensures.0; new_is = c.in-Some.ensures.1 })

pub returns-in-None : goal.returns-in-None
returns-in-None c = λ words taken. c.no_command.ensures words (nothing_by_upgrade words (rows_of (found_of c.args.found.now)) taken
    (λ old new given. c.in-None.ensures old new (given.old_is, given.new_is)))
