-- How the program ends, all in one: what it leaves of the files, what it writes, its status, and what a crash leaves, while it works and after it.
use Rattle.std.specs.Prelude.{◌≡◌, ℕ, List}
use Rattle.ub_files.specs.Clock.{FolderClock, IsSameFolder, Runs}
use Rattle.ub_files.specs.Files.{FilesFacts}
use Rattle.ub_script.specs.Output.{OutFacts}
use Rattle.ub_table_file.specs.Appended.{AppendLasts}
use Rattle.ub_shell.specs.Loaded.{axes_asked}
use Rattle.ub_shell.specs.Crashes.{IsBeforeOrAfter, LoadLasts, UpgradeLasts}
use Rattle.ub_table_file.specs.Crashes.{QueryLasts, RunLasts, SaysAllDone}
use Rattle.ub_shell.specs.Ran.{HasEnded, HasNotRead}
use Rattle.ub_shell.specs.declared.program.WordsFault.{WordsFault}
use Rattle.ub_table_file.specs.declared.status.Status.{Status}
use Rattle.ub_table_file.specs.declared.status.Status.TheVariants.{Done}
use Rattle.ub_words.specs.Asked.{IsAskedBy}
use Rattle.ub_words.specs.declared.words.Asked.{Asked}
use Rattle.ub_words.specs.declared.words.Asked.TheVariants.{Append, Load, Query, Run, Upgrade}

-- what lasts of what is asked for, where the status says that all was done: in the table file that it names, what a whole run of it leaves
abbrev pub LastsAs : Asked → FilesFacts → OutFacts → OutFacts → OutFacts → OutFacts → Status → FolderClock → Type 0
LastsAs (Run asked) old out out_now notes notes_now status now = RunLasts asked.table.now asked.script.now old out out_now status now
LastsAs (Query asked) old out out_now notes notes_now status now = QueryLasts asked.table.now asked.statements.now old out out_now notes notes_now status now
LastsAs (Load asked) old out out_now notes notes_now status now =
    status ≡ Done → LoadLasts asked.source.path.now asked.table.now asked.source.name.now (axes_asked asked.source) asked.source.page_rows old now
LastsAs (Upgrade asked) old out out_now notes notes_now status now = status ≡ Done → UpgradeLasts asked.old.now asked.new.now old now
LastsAs (Append asked) old out out_now notes notes_now status now = AppendLasts asked.table.now asked.data.now old out out_now status now
LastsAs asked old out out_now notes notes_now status now = Unit {0}

-- the words ask for this, and that lasts
pub record IsLasting (words : List (List ℕ)) (old : FilesFacts) (out out_now notes notes_now : OutFacts) (status : Status) (now : FolderClock) : Type 0 where
  pub asked : Asked
  pub asks : IsAskedBy words asked
  pub lasts : LastsAs asked old out out_now notes notes_now status now

-- a command of the program has ended that was given these words: how; a crash at each moment of it left each path as before, or to hold what the
-- whole command leaves; and where all was done, each crash from now on leaves that
pub record EndsCommand (words : List (List ℕ)) (old new : FilesFacts) (was now : FolderClock) (out out_now notes notes_now : OutFacts) (status : Status) : Type 0 where
  pub ended : HasEnded words old new out out_now notes notes_now status
  pub crash : Runs (IsBeforeOrAfter words old out out_now notes notes_now status) old was now
  pub lasts : SaysAllDone status → IsLasting words old out out_now notes notes_now status now

-- the program has ended whose words weren't read
pub record EndsUnread (fault : WordsFault) (old new : FilesFacts) (was now : FolderClock) (out out_now notes notes_now : OutFacts) (status : Status) : Type 0 where
  pub told : HasNotRead fault old new out out_now notes notes_now status
  pub crash : Runs IsSameFolder old was now
