-- What statements that stand on the command line leave of a table file, and what is shown of their text: its answers on one output, and then
-- all that tells of them on another one.
use Rattle.std.specs.Prelude.{◌≡◌, ◌≤◌, ◌⊎◌, ℕ, List, [], Some, codes}
use Rattle.ub_files.specs.Files.{FilesFacts}
use Rattle.ub_script.specs.Output.{OutFacts, Breaks, Puts, out_facts}
use Rattle.ub_script.specs.Parts.{answers_in, notes_in}
use Rattle.ub_table_file.specs.Commands.{RunsScript}
use Rattle.ub_table_file.specs.declared.status.Status.{Status}
use Rattle.ub_table_file.specs.declared.status.Status.TheVariants.{Device, Memory}

-- the statements were run on the table file as `run` runs a script, but all was written into memory: this text, with this end; and so often a
-- write failed there, for which memory was refused
abbrev pub HasAsked : List ℕ → List ℕ → FilesFacts → FilesFacts → List ℕ → ℕ → Status → Type 0
HasAsked table statements old new text failed ended = RunsScript table statements old new (out_facts (Some []) 0) (out_facts (Some text) failed) ended

-- bytes were noted: all of them were written, or a write failed after a front of them, which nothing tells
abbrev pub Notes : List ℕ → OutFacts → OutFacts → Type 0
Notes bytes old new = Puts bytes old new ⊎ Breaks bytes old new

-- the answers of a text were written, and then its notes were noted; or a write of the answers failed, and no note was written
abbrev pub Shows : List ℕ → Status → OutFacts → OutFacts → OutFacts → OutFacts → Status → Type 0
Shows text ended out out_now notes notes_now status =
    ((status ≡ ended) × Puts (answers_in text) out out_now × Notes (notes_in text) notes notes_now)
    ⊎ ((status ≡ Device) × Breaks (answers_in text) out out_now × (notes_now ≡ notes))

-- memory was refused for the text, and nothing but that was noted
abbrev pub ShowsNone : OutFacts → OutFacts → OutFacts → OutFacts → Status → Type 0
ShowsNone out out_now notes notes_now status = (status ≡ Memory) × (out_now ≡ out) × Notes (codes "! Memory\n") notes notes_now

-- a text was shown where all of it was written into memory; else it was noted that memory was refused for it
abbrev pub IsShown : List ℕ → ℕ → Status → OutFacts → OutFacts → OutFacts → OutFacts → Status → Type 0
IsShown text failed ended out out_now notes notes_now status =
    ((failed ≡ 0) × Shows text ended out out_now notes notes_now status) ⊎ ((1 ≤ failed) × ShowsNone out out_now notes notes_now status)

-- the statements were run on the table file, and their text was shown
pub record QueriesFile (table statements : List ℕ) (old new : FilesFacts) (out out_now notes notes_now : OutFacts) (status : Status) : Type 0 where
  pub text : List ℕ
  pub failed : ℕ
  pub ended : Status
  pub asked : HasAsked table statements old new text failed ended
  pub shown : IsShown text failed ended out out_now notes notes_now status
