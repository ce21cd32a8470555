-- The laws of how a command ends. Each is what the function of its name in `law` ensures, and is proved in proofs/Laws.antt.
use Rattle.std.specs.Prelude.{◌≡◌, ◌≢◌, ◌≤◌, ◌⊎◌, ◌+◌, ◌++◌, ℕ, Bool, true, false, List, [], ◌∷◌, Some, Result, Ok, Err, IsOk, IsTrue, codes, length}
use Rattle.std.specs.List.{flat_map}
use Rattle.ub_exec.specs.Stand.{Stand, IsStandOf}
use Rattle.ub_words.specs.CommandLine.{AsksHelp, AsksHelpAlone, AsksNothing, AsksQuery}
use Rattle.ub_load.specs.Appending.{AreRowsOf}
use Rattle.ub_load.specs.LoadedTable.{IsLoaded, records_of}
use Rattle.ub_region.specs.Regions.{numbered_from}
use Rattle.ub_script.specs.Basis.{Basis, on_stand, over_any}
use Rattle.ub_script.specs.Output.{OutFacts, HasTaken, IsFrontOf, out_facts}
use Rattle.ub_script.specs.Run.{EndedOver, FirstOver, loaded_stand, summary_of}
use Rattle.ub_script.specs.Script.{OnlyAsks}
use Rattle.ub_script.specs.Text.{Reply, changed_by, texts_of}
use Rattle.ub_script.specs.declared.fault.RunFault.{RunFault}
use Rattle.ub_script.specs.declared.fault.RunFault.TheVariants.{Memory, Tree, Write}
use Rattle.ub_script.specs.declared.script.Summary.{Summary}
use Rattle.ub_store.specs.Facts.{StoreFacts, IsHonest}
use Rattle.ub_table.specs.declared.axes.Axes.{Axes}
use Rattle.ub_table.specs.declared.schema.Schema.{Schema}
use Rattle.ub_table.specs.Region.{RegionRows}
use Rattle.ub_table.specs.Table.{Table}
use Rattle.ub_table.specs.declared.row.Row.{Row}
use Rattle.ub_tree.specs.Old.{AreOldPages}
use Rattle.ub_tree.specs.Placed.{Placed, regions_in}
use Rattle.ub_tree.specs.Stored.{AreSoundPages}
use Rattle.ub_tree.specs.View.{IsSound}
use Rattle.ub_tree.specs.declared.fault.TreeFault.TheVariants.{Full}
use Rattle.ub_files.specs.Clock.{Folder}
use Rattle.ub_files.specs.Files.{FilesFacts, HasPages, Held, IsEmpty, IsLent, IsText, pages, standard_input, untold}
use Rattle.ub_table_file.specs.Commands.{HasRead, IsKept, IsKeptRun, IsRunOn, IsWeighed, OpensFor, RunsFile, RunsScript, loaded_line}
use Rattle.ub_shell.specs.Loaded.{LoadsFile}
use Rattle.ub_table_file.specs.Appended.{AppendsFile}
use Rattle.ub_table_file.specs.Asking.{ChecksFile, DescribesFile}
use Rattle.ub_shell.specs.Crashes.{HasLoaded, HasUpgraded, IsBeforeOrAfter}
use Rattle.ub_table_file.specs.Crashes.{HoldsQueried, HoldsRun, SaysKept}
use Rattle.ub_table_file.specs.Status.{Tells}
use Rattle.ub_table_file.specs.Queried.{IsShown, QueriesFile}
use Rattle.ub_shell.specs.Ran.{HasEnded, HasHelped, HasNoMemory, HasRefused}
use Rattle.ub_shell.specs.Short.{AreStanding, IsLeftAt, Lends}
use Rattle.ub_shell.specs.Upgrading.{UpgradesFile}
use Rattle.ub_table_file.specs.declared.status.Status.{Status}
use Rattle.ub_table_file.specs.declared.status.Status.TheVariants as ended
use Rattle.ub_table_file.specs.declared.status.Status.TheVariants.{Done}

-- where the words ask for the help alone, only the help is written; or memory was refused
abbrev pub OnlyHelpIsWritten : Type 0
OnlyHelpIsWritten =
    (words : List (List ℕ)) (old new : FilesFacts) (out out_now notes notes_now : OutFacts) (status : Status) → AsksHelpAlone words
    → HasEnded words old new out out_now notes notes_now status
    → (notes_now ≡ notes) × (HasHelped words old new out out_now status ⊎ HasNoMemory old new out out_now status)

-- where the words ask for nothing, nor may be told the help, only that is told; or memory was refused
abbrev pub WrongWordsAreTold : Type 0
WrongWordsAreTold =
    (words : List (List ℕ)) (old new : FilesFacts) (out out_now notes notes_now : OutFacts) (status : Status) → AsksNothing words
    → ¬ (AsksHelp words) → HasEnded words old new out out_now notes notes_now status
    → (notes_now ≡ notes) × (HasRefused words old new out out_now status ⊎ HasNoMemory old new out out_now status)

-- a command that is no query leaves the second output as it was
abbrev pub OnlyQueriesNote : Type 0
OnlyQueriesNote =
    (words : List (List ℕ)) (old new : FilesFacts) (out out_now notes notes_now : OutFacts) (status : Status)
    → ((table statements : List ℕ) → ¬ (AsksQuery words table statements)) → HasEnded words old new out out_now notes notes_now status
    → notes_now ≡ notes

-- where both are told, this is held still
abbrev pub IsHeldStill : Held → Held → Type 0
IsHeldStill untold now = Unit {0}
IsHeldStill held untold = Unit {0}
IsHeldStill held now = now ≡ held

-- a script that this can be only asks, whatever the table
abbrev pub IsOnlyAsking : Held → Type 0
IsOnlyAsking held = (script : List ℕ) (schema : Schema) → IsText held script → OnlyAsks schema script

-- both paths are that of standard input, which its reading as a script uses up
abbrev pub AreBothInput : List ℕ → List ℕ → Type 0
AreBothInput table script = (table ≡ standard_input) × (script ≡ standard_input)

-- a table file on which a script was run that only asks is as it was, page for page, whatever it is and however the run has ended
abbrev pub AskingRunsLeaveTheTable : Type 0
AskingRunsLeaveTheTable = (table script : List ℕ) (old new : FilesFacts) (out out_now : OutFacts) (status : Status) → ¬ (AreBothInput table script)
    → IsOnlyAsking (old.holds script) → RunsFile table script old new out out_now status → IsHeldStill (old.holds table) (new.holds table)

-- so is one on which statements were run that only ask
abbrev pub AskingQueriesLeaveTheTable : Type 0
AskingQueriesLeaveTheTable =
    (table statements : List ℕ) (old new : FilesFacts) (out out_now notes notes_now : OutFacts) (status : Status)
    → ((schema : Schema) → OnlyAsks schema statements) → QueriesFile table statements old new out out_now notes notes_now status
    → IsHeldStill (old.holds table) (new.holds table)

-- a table file that is only asked, by a run or a query, is as it was
abbrev pub AskingLeavesTheTable : Type 0
AskingLeavesTheTable = AskingRunsLeaveTheTable × AskingQueriesLeaveTheTable

-- a table file that was described is as it was, page for page, whatever it is and however that has ended
abbrev pub DescribingLeavesTheTable : Type 0
DescribingLeavesTheTable = (table : List ℕ) (old new : FilesFacts) (out out_now : OutFacts) (status : Status)
    → DescribesFile table old new out out_now status → IsHeldStill (old.holds table) (new.holds table)

-- a table file that was checked is as it was, page for page, whatever it is and however that has ended
abbrev pub CheckingLeavesTheTable : Type 0
CheckingLeavesTheTable = (table : List ℕ) (old new : FilesFacts) (out out_now : OutFacts) (status : Status)
    → ChecksFile table old new out out_now status → IsHeldStill (old.holds table) (new.holds table)

-- a table file of an older version is as it was, page for page, whatever it is and however making it anew at another path has ended
abbrev pub UpgradingLeavesTheOldTable : Type 0
UpgradingLeavesTheOldTable = (source table : List ℕ) (old new : FilesFacts) (out out_now : OutFacts) (status : Status) → source ≢ table
    → UpgradesFile source table old new out out_now status → IsHeldStill (old.holds source) (new.holds source)

-- where it is told what a path holds, it is the pages of a closed table of this schema, with these regions and this next number
abbrev pub IsClosedTable : Held → Schema → List RegionRows → ℕ → Type 0
IsClosedTable untold schema regions next = Unit {0}
IsClosedTable (pages all) schema regions next = (placed : List Placed) × AreSoundPages all schema placed next × (regions_in placed ≡ regions)
IsClosedTable _ schema regions next = ⊥

-- where it is told what a path holds, it is the pages of a closed table
abbrev pub IsSoundTable : Held → Type 0
IsSoundTable untold = Unit {0}
IsSoundTable (pages all) = (schema : Schema) × (placed : List Placed) × (next : ℕ) × AreSoundPages all schema placed next
IsSoundTable _ = ⊥

-- a table file that was checked, with nothing wrong, is a closed table
abbrev pub CheckedTablesAreSound : Type 0
CheckedTablesAreSound = (table : List ℕ) (old new : FilesFacts) (out out_now : OutFacts) → IsTrue old.honest
    → ChecksFile table old new out out_now Done → IsSoundTable (old.holds table)

-- what a path holds is the pages of a closed table of this schema, with these regions and this next number
abbrev pub IsHeldTable : Held → Schema → List Placed → ℕ → Type 0
IsHeldTable (pages all) schema placed next = AreSoundPages all schema placed next
IsHeldTable _ schema placed next = ⊥

-- how many rows these regions have
abbrev pub row_count : List Placed → ℕ
row_count placed = length (flat_map (λ region. region.rows) (regions_in placed))

-- a file failed, or memory was refused, and that was told
abbrev pub TellsPassing : OutFacts → OutFacts → Status → Type 0
TellsPassing out out_now status = Tells out out_now (codes "! Device\n") ended.Device status ⊎ Tells out out_now (codes "! Memory\n") ended.Memory status

-- a closed table that is checked is found well, and it is told how many rows and regions it has; unless its file failed or memory was refused
abbrev pub SoundTablesPass : Type 0
SoundTablesPass =
    (table : List ℕ) (old new : FilesFacts) (out out_now : OutFacts) (status : Status) (schema : Schema) (placed : List Placed) (next : ℕ)
    → IsTrue old.honest → IsHeldTable (old.holds table) schema placed next → ChecksFile table old new out out_now status
    → Tells out out_now (loaded_line (row_count placed) (length placed)) Done status ⊎ TellsPassing out out_now status

-- a script was run on the store in the table file, which is honest and holds the pages of this closed table; its tree is sound, and that of this
-- table
pub record IsScriptOfTable (table script : List ℕ) (schema : Schema) (placed : List Placed) (next : ℕ) (old new : FilesFacts) (out out_now : OutFacts) (status : Status) : Type 0 where
  pub store : StoreFacts
  pub left : StoreFacts
  pub changes : Bool
  pub opened : FilesFacts
  pub weighed : IsWeighed script changes
  pub lent : IsLent old table store
  pub opens : OpensFor changes table old opened
  pub honest : IsHonest store
  pub pages_are : AreSoundPages store.pages schema placed next
  pub run : IsRunOn store script left out out_now status
  pub kept : IsKept changes table left.pages run.ran.closing run.ran.keeping opened new
  pub sound : IsSound run.tree
  pub schema_is : run.tree.schema ≡ schema
  pub placed_is : run.tree.placed ≡ placed
  pub next_is : run.tree.next ≡ next

-- the script of a file was read, and so run
pub record IsRunOfTable (table script : List ℕ) (schema : Schema) (placed : List Placed) (next : ℕ) (old new : FilesFacts) (out out_now : OutFacts) (status : Status) : Type 0 where
  pub asked : List ℕ
  pub mid : FilesFacts
  pub read : HasRead script asked old mid
  pub ran : IsScriptOfTable table asked schema placed next mid new out out_now status

-- a journal stands beside a table file that is damaged, or another table's, and that was told
abbrev pub TellsBadJournal : OutFacts → OutFacts → Status → Type 0
TellsBadJournal out out_now status = Tells out out_now (codes "! BadJournal\n") ended.Data status

-- where a table file was checked, with nothing wrong, and holds still what it did then, it is a closed table, and each script that is run
-- on it is run on this table, by a sound tree; unless a file failed or memory was refused, or a journal stands there that is damaged or
-- another table's, which is told
abbrev pub CheckedTablesAreRunAsSound : Type 0
CheckedTablesAreRunAsSound =
    (table script statements : List ℕ) (old mid later new : FilesFacts) (out out_mid out_later out_now : OutFacts) (status : Status)
    → IsTrue old.honest → ChecksFile table old mid out out_mid Done
    → IsTrue later.honest → later.holds table ≡ mid.holds table → later.holds table ≢ untold
    → (schema : Schema) × (placed : List Placed) × (next : ℕ) × IsHeldTable (later.holds table) schema placed next
    × (¬ (AreBothInput table script) → RunsFile table script later new out_later out_now status
    → IsRunOfTable table script schema placed next later new out_later out_now status
    ⊎ (TellsPassing out_later out_now status ⊎ TellsBadJournal out_later out_now status))
    × (RunsScript table statements later new out_later out_now status
    → IsScriptOfTable table statements schema placed next later new out_later out_now status
    ⊎ (TellsPassing out_later out_now status ⊎ TellsBadJournal out_later out_now status))

-- what a path holds is the pages of a closed table of this older version
abbrev pub IsOldTable : Held → ℕ → Schema → List Placed → ℕ → Type 0
IsOldTable (pages all) version schema placed next = AreOldPages version all schema placed next
IsOldTable _ version schema placed next = ⊥

-- where a closed table of an older version was made anew, and all was done, the new table file is a closed table with the same schema,
-- regions, rows and next number
abbrev pub UpgradedTablesAreTheSame : Type 0
UpgradedTablesAreTheSame =
    (source table : List ℕ) (old new : FilesFacts) (out out_now : OutFacts) (version next : ℕ) (schema : Schema) (placed : List Placed)
    → IsTrue old.honest → IsOldTable (old.holds source) version schema placed next → UpgradesFile source table old new out out_now Done
    → IsClosedTable (new.holds table) schema (regions_in placed) next

-- where it is told what a path holds, it is the pages of a closed table of this older version
abbrev pub IsOldIfTold : Held → ℕ → Schema → List Placed → ℕ → Type 0
IsOldIfTold untold version schema placed next = Unit {0}
IsOldIfTold held version schema placed next = IsOldTable held version schema placed next

-- where a table file was made anew, and all was done, the old one was a closed table of an older version, and the new one is a closed table with
-- the same schema, regions, rows and next number
abbrev pub OnlySoundTablesAreUpgraded : Type 0
OnlySoundTablesAreUpgraded =
    (source table : List ℕ) (old new : FilesFacts) (out out_now : OutFacts) → IsTrue old.honest → UpgradesFile source table old new out out_now Done
    → (version : ℕ) × (schema : Schema) × (placed : List Placed) × (next : ℕ)
    × IsOldIfTold (old.holds source) version schema placed next × IsClosedTable (new.holds table) schema (regions_in placed) next

-- a fault ended a statement of a script after the first ones, whose texts were written, and the table that stood there is left so; or
-- memory was refused before them all
abbrev pub HasStopped : List ℕ → RunFault → Stand → Stand → OutFacts → OutFacts → Type 0
HasStopped script fault s now out out_now =
    ((fault ≡ Memory) × (now ≡ s) × (out_now ≡ out))
    ⊎ ((replies : List Reply) × (left : ℕ) × (pages : ℕ) × EndedOver (on_stand s) script fault replies left pages (on_stand now)
    × HasTaken (texts_of replies) false out out_now)

-- a script that was run with this result leaves a table so that stood there: all statements were done where it was run to its end;
-- where a write failed those whose texts were written, and the next one, of whose text a front was, not all of it; else those before
-- the one that a fault ended, and what that one did
abbrev pub HasLeft : List ℕ → Result Summary RunFault → Stand → Stand → OutFacts → OutFacts → Type 0
HasLeft script (Ok summary) s now out out_now =
    (replies : List Reply) × FirstOver (on_stand s) script replies 0 (on_stand now) × (summary ≡ summary_of replies)
    × HasTaken (texts_of replies) false out out_now
HasLeft script (Err Write) s now out out_now =
    (replies : List Reply) × (next : Reply) × (left : ℕ) × (front : List ℕ)
    × FirstOver (on_stand s) script (replies ++ next ∷ []) left (on_stand now) × IsFrontOf front next.text
    × HasTaken (texts_of replies ++ front) true out out_now
HasLeft script (Err fault) s now out out_now = HasStopped script fault s now out out_now

-- where a script was run on a closed table, and the closing after it wasn't refused, a closed table is left, which stands where the
-- script's statements left it, also after a fault of the run
abbrev pub WhatWasDoneStands : Type 0
WhatWasDoneStands =
    (store left : StoreFacts) (schema : Schema) (placed : List Placed) (next : ℕ) (script : List ℕ) (out out_now : OutFacts) (status : Status)
    → IsHonest store → AreSoundPages store.pages schema placed next → (run : IsRunOn store script left out out_now status)
    → IsOk run.ran.closing
    → (s : Stand) × (now : Stand) × IsStandOf run.tree s × HasLeft script run.ran.result s now out run.ran.mid × IsStandOf run.ran.now now
    × IsHonest left × AreSoundPages left.pages run.ran.now.schema run.ran.now.placed run.ran.now.next

-- a script that was run to its end on the tree of any store has replies, whose texts were written; where these put in no row and take
-- out none, the store is left as it was
abbrev pub UnchangedTablesAreLeft : Type 0
UnchangedTablesAreLeft =
    (store left : StoreFacts) (script : List ℕ) (out out_now : OutFacts) (status : Status) (run : IsRunOn store script left out out_now status)
    → IsOk run.ran.result
    → (replies : List Reply) × (now : Basis) × FirstOver (over_any run.tree) script replies 0 now
    × HasTaken (texts_of replies) false out run.ran.mid × (changed_by replies ≡ 0 → left ≡ store)

-- so is it where the run has ended at an INSERT that found no number left, or no room in the index, after such replies
abbrev pub FullTablesAreLeft : Type 0
FullTablesAreLeft =
    (store left : StoreFacts) (script : List ℕ) (out out_now : OutFacts) (status : Status) (run : IsRunOn store script left out out_now status)
    → run.ran.result ≡ Err (Tree Full)
    → (replies : List Reply) × (rest : ℕ) × (pages : ℕ) × (now : Basis)
    × EndedOver (over_any run.tree) script (Tree Full) replies rest pages now
    × HasTaken (texts_of replies) false out run.ran.mid × (changed_by replies ≡ 0 → left ≡ store)

-- ---- what a table file holds after a run, a load or an upgrade

-- however a run has ended on a table file, that holds what it held, or the pages that were left once the run was closed, and nothing else
abbrev pub FailedScriptsLoseNothing : Type 0
FailedScriptsLoseNothing =
    (table script : List ℕ) (old new : FilesFacts) (out out_now : OutFacts) (status : Status) → ¬ (AreBothInput table script)
    → RunsFile table script old new out out_now status
    → (new.holds table ≡ old.holds table) ⊎ HoldsRun table script old out out_now status (new.holds table)

-- the same of a query
abbrev pub FailedQueriesLoseNothing : Type 0
FailedQueriesLoseNothing =
    (table statements : List ℕ) (old new : FilesFacts) (out out_now notes notes_now : OutFacts) (status : Status)
    → QueriesFile table statements old new out out_now notes notes_now status
    → (new.holds table ≡ old.holds table) ⊎ HoldsQueried table statements old out out_now notes notes_now status (new.holds table)

abbrev pub FailedRunsLoseNothing : Type 0
FailedRunsLoseNothing = FailedScriptsLoseNothing × FailedQueriesLoseNothing

-- where a script was run that may change the table, and the status says that what it did is kept, the closing was done, the table file holds
-- the pages that it left, and each crash leaves them there
abbrev pub KeptScriptsLast : Type 0
KeptScriptsLast =
    (table script : List ℕ) (store : StoreFacts) (old new : FilesFacts) (out out_now : OutFacts) (status : Status)
    → (kept : IsKeptRun true table script store old new out out_now status) → SaysKept kept.run.ran.result status
    → IsOk kept.run.ran.closing × HasPages (new.holds table) kept.left.pages × HasPages (new.lasts table) kept.left.pages

-- the same of a query; but that memory was refused says nothing, since it may have been refused for the text alone
abbrev pub KeptQueriesLast : Type 0
KeptQueriesLast =
    (table statements text : List ℕ) (failed : ℕ) (store : StoreFacts) (old new : FilesFacts) (of_run status : Status) (out out_now notes notes_now : OutFacts)
    → (kept : IsKeptRun true table statements store old new (out_facts (Some []) 0) (out_facts (Some text) failed) of_run)
    → IsShown text failed of_run out out_now notes notes_now status → SaysKept kept.run.ran.result status → status ≢ ended.Memory
    → IsOk kept.run.ran.closing × HasPages (new.holds table) kept.left.pages × HasPages (new.lasts table) kept.left.pages

abbrev pub KeptRunsLast : Type 0
KeptRunsLast = KeptScriptsLast × KeptQueriesLast

-- however a load has ended into a path that held pages, that holds what it held, or the pages of the new table
abbrev pub LoadsLoseNoTable : Type 0
LoadsLoseNoTable =
    (source table name : List ℕ) (axes : Axes) (page_rows : ℕ) (old new : FilesFacts) (out out_now : OutFacts) (status : Status)
    → ¬ (IsEmpty (old.holds table)) → LoadsFile source table name axes page_rows old new out out_now status
    → (new.holds table ≡ old.holds table) ⊎ HasLoaded source name axes page_rows old (HasPages (new.holds table))

-- the same of an upgrade
abbrev pub UpgradesLoseNoTable : Type 0
UpgradesLoseNoTable =
    (source table : List ℕ) (old new : FilesFacts) (out out_now : OutFacts) (status : Status)
    → ¬ (IsEmpty (old.holds table)) → UpgradesFile source table old new out out_now status
    → (new.holds table ≡ old.holds table) ⊎ HasUpgraded source old (HasPages (new.holds table))

-- however a load or an upgrade has ended into a path that held pages, that holds what it held, or the pages of the new table
abbrev pub OldTablesAreNotLost : Type 0
OldTablesAreNotLost = LoadsLoseNoTable × UpgradesLoseNoTable

-- where a path holds a closed table, and a crash before a command would have left one there, each crash while the command works, and after it,
-- leaves one there, where that is told: the same, or the one that a whole run of the command leaves
abbrev pub CrashesLeaveATable : Type 0
CrashesLeaveATable =
    (words : List (List ℕ)) (table : List ℕ) (old : FilesFacts) (out out_now notes notes_now : OutFacts) (status : Status) (before after : Folder)
    (schema : Schema) (placed : List Placed) (next : ℕ) → IsTrue old.honest → table ≢ standard_input
    → IsHeldTable (old.holds table) schema placed next → IsSoundTable (before table)
    → IsBeforeOrAfter words old out out_now notes notes_now status before after → IsSoundTable (after table)

-- ---- rows that are appended

-- the status says that the command line, the data or the table was refused, or memory
abbrev pub SaysRefused : Status → Type 0
SaysRefused status = (status ≡ ended.CommandLine) ⊎ ((status ≡ ended.Data) ⊎ (status ≡ ended.Memory))

-- where rows were to be appended to a table file, and the status says that something was refused, it holds what it held
abbrev pub RefusedDataLeavesTheTable : Type 0
RefusedDataLeavesTheTable =
    (table source : List ℕ) (old new : FilesFacts) (out out_now : OutFacts) (status : Status) → SaysRefused status
    → AppendsFile table source old new out out_now status → new.holds table ≡ old.holds table

-- a text that this can be has no record but a header
abbrev pub HasNoRow : Held → Type 0
HasNoRow held = (text : List ℕ) → IsText held text → length (records_of text) ≤ 1

-- where the rows of a file were to be appended that has none, the table file holds what it held, however that has ended
abbrev pub NoRowsNoChange : Type 0
NoRowsNoChange =
    (table source : List ℕ) (old new : FilesFacts) (out out_now : OutFacts) (status : Status) → HasNoRow (old.holds source)
    → AppendsFile table source old new out out_now status → new.holds table ≡ old.holds table

-- what a path holds is such pages
abbrev pub IsHeldStand : Held → Stand → Type 0
IsHeldStand (pages all) s = AreStanding all s
IsHeldStand _ s = ⊥

-- where it is told, it is
abbrev pub StandsAs : Held → Stand → Type 0
StandsAs untold s = Unit {0}
StandsAs held s = IsHeldStand held s

-- a table has the rows that another one has, and behind them these ones, with numbers from the one on that was next
pub record HasMore (s : Stand) (rows : List Row) (now : Stand) : Type 0 where
  pub table_is : now.table ≡ record s.table { rows = s.table.rows ++ numbered_from s.next rows }
  pub next_is : now.next ≡ s.next + length rows

-- where rows were appended to a closed table, and all was done, its file is a closed table that has them behind its own, in the order of the
-- text that the other path held
abbrev pub AppendedTablesHaveTheRows : Type 0
AppendedTablesHaveTheRows =
    (table source : List ℕ) (s : Stand) (old new : FilesFacts) (out out_now : OutFacts) → IsTrue old.honest → IsHeldStand (old.holds table) s
    → AppendsFile table source old new out out_now Done
    → (text : List ℕ) × (rows : List Row) × (now : Stand) × IsText (old.holds source) text × AreRowsOf text s.table.schema s.next rows
    × HasMore s rows now × StandsAs (new.holds table) now

-- ---- the tables of which the short promise speaks

-- where a table file was checked, it lent pages: with nothing wrong they are those of a closed table, and where they are, the status is that of
-- nothing wrong, unless a file or the output failed or memory was refused
abbrev pub CheckedTablesStand : Type 0
CheckedTablesStand =
    (table : List ℕ) (old new : FilesFacts) (out out_now : OutFacts) (status : Status) → IsTrue old.honest → ChecksFile table old new out out_now status
    → (all : List (List ℕ)) × Lends (old.holds table) all × (status ≡ Done → (s : Stand) × AreStanding all s)
    × ((s : Stand) → AreStanding all s → (status ≡ Done) ⊎ ((status ≡ ended.Device) ⊎ (status ≡ ended.Memory)))

-- where a CSV file was loaded into a table file, and all was done, a closed table is left there, whose rows are those of the text, in order, in
-- the regions that they make one after the other, and whose next number is one more than there are
abbrev pub LoadedTablesStand : Type 0
LoadedTablesStand =
    (source table name : List ℕ) (axes : Axes) (page_rows : ℕ) (old new : FilesFacts) (out out_now : OutFacts)
    → LoadsFile source table name axes page_rows old new out out_now Done
    → (text : List ℕ) × (loaded : Table) × IsText (old.holds source) text × IsLoaded text axes page_rows name loaded.schema loaded.rows
    × IsLeftAt table new (loaded_stand axes.dims page_rows loaded)
