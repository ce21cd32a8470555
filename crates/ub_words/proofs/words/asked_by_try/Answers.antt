use Rattle.clap.specs.Words.{found_of, rows_of}
use Rattle.ub_words.proofs.AskFacts.{nothing_by_try}
use Rattle.ub_words.proofs.words.asked_by_try.Goals as goal

pub returns-in-None : goal.returns-in-None
returns-in-None c =
    λ words taken. c.no_command.ensures words
    (nothing_by_try words (rows_of (found_of c.args.found.now)) taken
    (λ source script name dims page_rows signed given. absurd (c.in-None.ensures source script name dims page_rows signed given)))
