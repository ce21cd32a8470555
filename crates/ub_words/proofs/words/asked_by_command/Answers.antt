use Rattle.std.proofs.Common.{◌≡◌, ℕ, List, codes}
use Rattle.clap.specs.Words.{found_of, rows_of}
use Rattle.ub_words.specs.CommandLine.{table_name}
use Rattle.ub_words.specs.declared.given.TableCommand.{TableCommand}
use Rattle.ub_words.specs.declared.given.TableCommand.TheVariants.{Check, Describe}
use Rattle.ub_words.proofs.AskFacts.{nothing_by}
use Rattle.ub_words.proofs.words.asked_by_command.Goals as goal

-- a name that is none of these is that of no command whose words are a table file alone
no_table : (name : List ℕ) → (name ≡ codes "describe" → ⊥) → (name ≡ codes "check" → ⊥) → (command : TableCommand) → name ≡ table_name command → ⊥
no_table name no_describe no_check Describe e = no_describe e
no_table name no_describe no_check Check e = no_check e

pub returns-in_default : goal.returns-in_default
returns-in_default c = λ words taken. c.no_command.ensures words (nothing_by words c.args.name.now (rows_of (found_of c.args.found.now)) taken
    (λ e. absurd (c.in_default.not-try e)) (λ e. absurd (c.in_default.not-load e)) (λ e. absurd (c.in_default.not-run e)) (λ e. absurd (c.in_default.not-query e))
    (λ e. absurd (c.in_default.not-append e)) (λ e. absurd (c.in_default.not-upgrade e))
    (λ command e. absurd (no_table c.args.name.now c.in_default.not-describe c.in_default.not-check command e)) (λ e. absurd (c.in_default.not-next e)))
