-- How a command ends, and what it has written then: all that it was to write, or a front of it where a write failed.
use Rattle.std.specs.Prelude.{◌≡◌, ◌≢◌, ◌⊎◌, ℕ, true, false, List, [], ◌++◌, Some, codes, Result, Ok, Err}
use Rattle.ub_load.specs.LoadedTable.{records_of}
use Rattle.ub_load.specs.Refusals.{first_refusal}
use Rattle.ub_load.specs.declared.fault.LoadFault.{LoadFault}
use Rattle.ub_load.specs.declared.fault.LoadFault.TheVariants.{Csv}
use Rattle.ub_script.specs.Output.{OutFacts, IsFrontOf, Takes}
use Rattle.ub_script.specs.Run.{IsBegun, IsBroken, IsDone}
use Rattle.ub_script.specs.declared.fault.RunFault.{RunFault}
use Rattle.ub_script.specs.declared.fault.RunFault.TheVariants as run
use Rattle.ub_script.specs.declared.script.Summary.{Summary}
use Rattle.ub_store.specs.declared.fault.StoreFault.TheVariants.{BadSize}
use Rattle.ub_table.specs.declared.axes.Axes.{Axes}
use Rattle.ub_tree.specs.declared.fault.TreeFault.{TreeFault}
use Rattle.ub_tree.specs.declared.fault.TreeFault.TheVariants.{Full, Store}
use Rattle.ub_table_file.specs.Status.{load_fault_text, summary_status, tree_fault_text}
use Rattle.ub_shell.specs.declared.program.WordsFault.{WordsFault}
use Rattle.ub_shell.specs.declared.program.WordsFault.TheVariants.{NotText}
use Rattle.ub_shell.specs.declared.program.WordsFault.TheVariants as words
use Rattle.ub_table_file.specs.declared.status.Status.{Status}
use Rattle.ub_table_file.specs.declared.status.Status.TheVariants.{Done, Refused, CommandLine, Data, Device, Memory}
use Rattle.ub_next.specs.declared.next.Neighbours.{Neighbours}
use Rattle.ub_next.specs.declared.next.NextFault.{NextFault}
use Rattle.ub_next.specs.declared.next.NextFault.TheVariants as next

-- ---- bytes that are whole, or broken off

-- a front of bytes that are whole with some status
abbrev pub IsCut : (List ℕ → Status → Type 0) → List ℕ → Type 0
IsCut whole bytes = (wanted : Status) × (all : List ℕ) × whole all wanted × IsFrontOf bytes all

-- bytes that are whole with this status were written; or a write failed, the status is `Device`, and the bytes that were
-- written are broken off, or a front of such as are whole with some status
abbrev pub Ends : (List ℕ → Status → Type 0) → (List ℕ → Type 0) → OutFacts → OutFacts → Status → Type 0
Ends whole broken old new status =
    Takes (λ bytes. whole bytes status) false old new
    ⊎ ((status ≡ Device) × Takes (λ bytes. broken bytes ⊎ IsCut whole bytes) true old new)

-- ---- a script on the table of a text

-- a CSV text, its dimensions, how many rows a page holds, the table's name, and a script
pub record Trial : Type 0 where
  pub text : List ℕ
  pub axes : Axes
  pub page_rows : ℕ
  pub name : List ℕ
  pub script : List ℕ

abbrev pub trial : List ℕ → Axes → ℕ → List ℕ → List ℕ → Trial
trial text axes page_rows name script =
    record { text = text; axes = axes; page_rows = page_rows; name = name; script = script }

-- the texts of the first statements of the script, but not of all: this fault ended the next one
abbrev pub AreFirstTexts : Trial → RunFault → List ℕ → Type 0
AreFirstTexts t fault bytes = IsBegun t.text t.axes t.page_rows t.name t.script fault bytes

-- a front of the texts of its statements, not all of them
abbrev pub AreBrokenTexts : Trial → List ℕ → Type 0
AreBrokenTexts t bytes = IsBroken t.text t.axes t.page_rows t.name t.script bytes

-- the text of the script, and the status says whether a statement of it was refused
pub record IsRunText (t : Trial) (bytes : List ℕ) (status : Status) : Type 0 where
  pub summary : Summary
  pub run : IsDone t.text t.axes t.page_rows t.name t.script summary bytes
  pub ended : status ≡ summary_status summary

-- the line of the first thing that is wrong with the CSV text, unless `csv` refused a record
pub record IsRefusedLine (t : Trial) (bytes : List ℕ) : Type 0 where
  pub fault : LoadFault
  pub first : fault ≢ Csv → first_refusal t.axes t.name (records_of t.text) ≡ Some fault
  pub line : bytes ≡ load_fault_text fault

-- nothing, or the texts of the first statements, and then the line that says that memory was refused
pub record IsMemoryText (t : Trial) (bytes : List ℕ) : Type 0 where
  pub texts : List ℕ
  pub first : (texts ≡ []) ⊎ AreFirstTexts t run.Memory texts
  pub line : bytes ≡ texts ++ codes "! Memory\n"

-- the texts of the first statements, and then the line of why the next one's row has no place: no number is left, or the tree's
-- store can't have another page
pub record IsFullText (t : Trial) (bytes : List ℕ) : Type 0 where
  pub fault : TreeFault
  pub is : (fault ≡ Full) ⊎ (fault ≡ Store BadSize)
  pub texts : List ℕ
  pub first : AreFirstTexts t (run.Tree fault) texts
  pub line : bytes ≡ texts ++ tree_fault_text fault

-- all that is written where a script is run on the table of a text, by the status
abbrev pub IsTrialText : Trial → List ℕ → Status → Type 0
IsTrialText t bytes Done = IsRunText t bytes Done
IsTrialText t bytes Refused = IsRunText t bytes Refused
IsTrialText t bytes CommandLine = ⊥
IsTrialText t bytes Data = IsRefusedLine t bytes ⊎ IsFullText t bytes
IsTrialText t bytes Device = ⊥
IsTrialText t bytes Memory = IsMemoryText t bytes

-- a script was run on the table of a text, or what kept it from that was told
abbrev pub HasTried : Trial → OutFacts → OutFacts → Status → Type 0
HasTried t old new status = Ends (IsTrialText t) (AreBrokenTexts t) old new status

-- ---- words that are not read, and neighbours

-- what is told where the words were not read, and how the program ends
abbrev pub words_fault_text : WordsFault → List ℕ
words_fault_text NotText = codes "error: the words of the command line are not all text in UTF-8\n"
words_fault_text words.Memory = codes "! Memory\n"

abbrev pub words_fault_status : WordsFault → Status
words_fault_status NotText = CommandLine
words_fault_status words.Memory = Memory

-- how the program ends that was asked for the neighbours of an address
abbrev pub answer_status : Result Neighbours NextFault → Status
answer_status (Ok n) = Done
answer_status (Err next.Memory) = Memory
answer_status (Err fault) = CommandLine
