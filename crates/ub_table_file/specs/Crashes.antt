-- What a crash leaves of a table file at any moment of a run or a query: what it held, or what a whole one leaves there.
use Rattle.std.specs.Prelude.{◌≡◌, ◌≢◌, ◌⊎◌, ℕ, List, [], Some, IsOk, Result, Ok, Err}
use Rattle.ub_files.specs.Clock.{Endures, Folder, FolderClock, IsSameBut}
use Rattle.ub_files.specs.Files.{FilesFacts, HasPages, Held, IsLent}
use Rattle.ub_script.specs.Output.{OutFacts, out_facts}
use Rattle.ub_script.specs.Script.{HasChangeWord}
use Rattle.ub_table_file.specs.Commands.{HasRead, IsRunOn}
use Rattle.ub_table_file.specs.Queried.{IsShown}
use Rattle.ub_table_file.specs.declared.status.Status.{Status}
use Rattle.ub_table_file.specs.declared.status.Status.TheVariants.{Done, Refused}
use Rattle.ub_store.specs.Facts.{StoreFacts}
use Rattle.ub_script.specs.declared.fault.RunFault.{RunFault}
use Rattle.ub_script.specs.declared.script.Summary.{Summary}
use Rattle.ub_table_file.specs.declared.status.Status.TheVariants as ended

-- where it is told, this is the pages that were left of the store of a table file by a run of the script that the other path holds, once that
-- was closed
pub record HoldsRun (table script : List ℕ) (old : FilesFacts) (out out_now : OutFacts) (status : Status) (held : Held) : Type 0 where
  pub asked : List ℕ
  pub mid : FilesFacts
  pub store : StoreFacts
  pub left : StoreFacts
  pub read : HasRead script asked old mid
  pub lent : IsLent mid table store
  pub run : IsRunOn store asked left out out_now status
  pub closed : IsOk run.ran.closing
  pub holds : HasPages held left.pages

-- the same of a run on a store that was lent
abbrev pub HoldsLeft : StoreFacts → List ℕ → OutFacts → OutFacts → Status → Held → Type 0
HoldsLeft store script out out_now status held =
    (left : StoreFacts) × (run : IsRunOn store script left out out_now status) × IsOk run.ran.closing × HasPages held left.pages

-- and of a run on the table file
abbrev pub HoldsAsked : List ℕ → List ℕ → FilesFacts → OutFacts → OutFacts → Status → Held → Type 0
HoldsAsked table script old out out_now status held = (store : StoreFacts) × IsLent old table store × HoldsLeft store script out out_now status held

-- and of a run of statements into memory, whose text was shown
pub record HoldsQueried (table statements : List ℕ) (old : FilesFacts) (out out_now notes notes_now : OutFacts) (status : Status) (held : Held) : Type 0 where
  pub text : List ℕ
  pub failed : ℕ
  pub ended : Status
  pub asked : HoldsAsked table statements old (out_facts (Some []) 0) (out_facts (Some text) failed) ended held
  pub shown : IsShown text failed ended out out_now notes notes_now status

-- what a crash leaves while a script is run on a table file
abbrev pub RunsSafely : List ℕ → List ℕ → FilesFacts → OutFacts → OutFacts → Status → Folder → Folder → Type 0
RunsSafely table script old out out_now status = IsSameBut table (HoldsRun table script old out out_now status)

-- while statements are run on a table file
abbrev pub QueriesSafely : List ℕ → List ℕ → FilesFacts → OutFacts → OutFacts → OutFacts → OutFacts → Status → Folder → Folder → Type 0
QueriesSafely table statements old out out_now notes notes_now status =
    IsSameBut table (HoldsQueried table statements old out out_now notes notes_now status)

-- ---- after a command

-- the status says that all was done: each statement was answered or refused, or the table was made
abbrev pub SaysAllDone : Status → Type 0
SaysAllDone status = (status ≡ Done) ⊎ (status ≡ Refused)

-- the script that a path holds was read, and where it may change the table file, each crash from now on leaves there what was left of the
-- table's store by a run of it
pub record RunLasts (table script : List ℕ) (old : FilesFacts) (out out_now : OutFacts) (status : Status) (now : FolderClock) : Type 0 where
  pub asked : List ℕ
  pub mid : FilesFacts
  pub read : HasRead script asked old mid
  pub lasts : HasChangeWord asked → Endures table (HoldsAsked table asked mid out out_now status) mid now

-- each crash from now on leaves in the table file, where the statements may change it, what was left of the table's store by a run of them
abbrev pub QueryLasts : List ℕ → List ℕ → FilesFacts → OutFacts → OutFacts → OutFacts → OutFacts → Status → FolderClock → Type 0
QueryLasts table statements old out out_now notes notes_now status now =
    HasChangeWord statements → Endures table (HoldsQueried table statements old out out_now notes notes_now status) old now

-- the status with which a run of this result ended says that what it did is kept: all was done, or a statement was refused; or a fault ended
-- a statement, and the status isn't that of a file that failed
abbrev pub SaysKept : Result Summary RunFault → Status → Type 0
SaysKept (Ok summary) status = (status ≡ Done) ⊎ (status ≡ ended.Refused)
SaysKept (Err fault) status = status ≢ ended.Device
