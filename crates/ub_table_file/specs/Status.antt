-- How the program's commands end, and what they write then.
use Rattle.std.specs.Prelude.{ℕ, ◌==◌, if◌then◌else◌, List, ◌++◌, codes, decimal, ◌≡◌, ◌⊎◌}
use Rattle.ub_load.specs.declared.fault.LoadFault.{LoadFault}
use Rattle.ub_load.specs.declared.fault.LoadFault.TheVariants.{NoHeader, BadName, ColumnCount, BadNumber, OutOfRange, Csv, Tree}
use Rattle.ub_load.specs.declared.fault.LoadFault.TheVariants as load
use Rattle.ub_files.specs.declared.fault.OpenFault.{OpenFault}
use Rattle.ub_files.specs.declared.fault.OpenFault.TheVariants as opening
use Rattle.ub_store.specs.declared.fault.StoreFault.{StoreFault}
use Rattle.ub_store.specs.declared.fault.StoreFault.TheVariants as store
use Rattle.ub_tree.specs.declared.fault.TreeFault.{TreeFault}
use Rattle.ub_tree.specs.declared.fault.TreeFault.TheVariants as tree
use Rattle.ub_script.specs.declared.script.Summary.{Summary}
use Rattle.ub_table_file.specs.declared.status.Status.{Status}
use Rattle.ub_table_file.specs.declared.status.Status.TheVariants.{Done, Refused, CommandLine, Data, Device, Memory}
use Rattle.ub_table.specs.declared.fault.PageFault.TheVariants as page
use Rattle.ub_table.specs.declared.fault.PageFault.{PageFault}
use Rattle.ub_script.specs.Output.{OutFacts, Breaks, Puts}

-- the number that the program ends with
abbrev pub status_code : Status → ℕ
status_code Done = 0
status_code Refused = 1
status_code CommandLine = 2
status_code Data = 3
status_code Device = 4
status_code Memory = 5

-- how a script ends that was run to its end
abbrev pub summary_status : Summary → Status
summary_status s = if s.refused == 0 then Done else Refused

-- how a run ends whose store refused
abbrev pub store_fault_status : StoreFault → Status
store_fault_status store.Memory = Memory
store_fault_status store.Device = Device
store_fault_status fault = Data

-- how a command ends whose table file can't be opened to be changed, or can't be made
abbrev pub open_fault_status : OpenFault → Status
open_fault_status (opening.Store fault) = store_fault_status fault
open_fault_status opening.BadJournal = Data

-- how a run ends whose tree refused
abbrev pub tree_fault_status : TreeFault → Status
tree_fault_status tree.Memory = Memory
tree_fault_status tree.Failed = Device
tree_fault_status (tree.Store fault) = store_fault_status fault
tree_fault_status fault = Data

-- how a run ends whose table was refused
abbrev pub load_fault_status : LoadFault → Status
load_fault_status load.Memory = Memory
load_fault_status (Tree fault) = tree_fault_status fault
load_fault_status fault = Data

-- the place of a field, rows and columns counted from 1
abbrev pub place_text : ℕ → ℕ → List ℕ
place_text row column = codes " row " ++ (decimal row ++ (codes " column " ++ (decimal column ++ codes "\n")))

abbrev pub page_fault_word : PageFault → List ℕ
page_fault_word page.WrongKind = codes "WrongKind"
page_fault_word page.OldFormat = codes "OldFormat"
page_fault_word page.Unclean = codes "Unclean"
page_fault_word page.BadCount = codes "BadCount"
page_fault_word page.BadName = codes "BadName"
page_fault_word page.BadRow = codes "BadRow"
page_fault_word page.BadOrder = codes "BadOrder"
page_fault_word page.OutOfRegion = codes "OutOfRegion"
page_fault_word page.BadPadding = codes "BadPadding"

-- the last line after a store refused
abbrev pub store_fault_text : StoreFault → List ℕ
store_fault_text store.NoPage = codes "! NoPage\n"
store_fault_text store.BadSize = codes "! BadSize\n"
store_fault_text store.Device = codes "! Device\n"
store_fault_text store.Memory = codes "! Memory\n"

-- the last line after a table file couldn't be opened to be changed, or couldn't be made
abbrev pub open_fault_text : OpenFault → List ℕ
open_fault_text (opening.Store fault) = store_fault_text fault
open_fault_text opening.BadJournal = codes "! BadJournal\n"

-- the last line after a tree refused
abbrev pub tree_fault_text : TreeFault → List ℕ
tree_fault_text tree.Full = codes "! Full\n"
tree_fault_text (tree.Page number fault) = codes "! " ++ page_fault_word fault ++ codes " page " ++ decimal number ++ codes "\n"
tree_fault_text (tree.Store fault) = store_fault_text fault
tree_fault_text tree.Failed = codes "! Device\n"
tree_fault_text tree.Memory = codes "! Memory\n"

-- the last line after a table was refused
abbrev pub load_fault_text : LoadFault → List ℕ
load_fault_text NoHeader = codes "! NoHeader\n"
load_fault_text (BadName column) =
    if column == 0 then codes "! BadName table\n" else codes "! BadName column " ++ decimal column ++ codes "\n"
load_fault_text ColumnCount = codes "! ColumnCount\n"
load_fault_text (BadNumber row column) = codes "! BadNumber" ++ place_text row column
load_fault_text (OutOfRange row column) = codes "! OutOfRange" ++ place_text row column
load_fault_text Csv = codes "! Csv\n"
load_fault_text (Tree fault) = tree_fault_text fault
load_fault_text load.Memory = codes "! Memory\n"

-- ---- writing

-- the bytes were written and the status is the one wanted; or a write failed, and a front of them was written
abbrev pub Tells : OutFacts → OutFacts → List ℕ → Status → Status → Type 0
Tells old new bytes wanted status = ((status ≡ wanted) × Puts bytes old new) ⊎ ((status ≡ Device) × Breaks bytes old new)
