-- What appending the rows of a CSV file leaves of a table file, and what is told.
use Rattle.std.specs.Prelude.{◌≡◌, ◌≢◌, ◌⊎◌, ◌++◌, ◌<◌, ℕ, List, Result, Ok, Err, codes, decimal, length, nat_lt, true, IfErr, IsOk}
use Rattle.ub_files.specs.Clock.{Endures, Folder, FolderClock, IsSameBut}
use Rattle.ub_files.specs.Files.{FilesFacts, HasPages, Held, IsLent}
use Rattle.ub_load.specs.Appending.{AreRowsOf, IsRowsFault}
use Rattle.ub_load.specs.LoadedTable.{records_of}
use Rattle.ub_load.specs.declared.fault.LoadFault.{LoadFault}
use Rattle.ub_script.specs.Appending.{PutsRows}
use Rattle.ub_script.specs.Output.{OutFacts}
use Rattle.ub_table_file.specs.Commands.{Closes, HasRead, IsKept, IsSameFile, IsTreeOf, IsUnread, IsUnready, IsUntold, OpensFor, both_ended}
use Rattle.ub_table_file.specs.Status.{Tells, load_fault_status, load_fault_text, tree_fault_status, tree_fault_text}
use Rattle.ub_table_file.specs.declared.status.Status.{Status}
use Rattle.ub_table_file.specs.declared.status.Status.TheVariants.{Done}
use Rattle.ub_store.specs.Facts.{StoreFacts}
use Rattle.ub_store.specs.declared.fault.StoreFault.{StoreFault}
use Rattle.ub_store.specs.declared.fault.StoreFault.TheVariants.{Device}
use Rattle.ub_table.specs.declared.row.Row.{Row}
use Rattle.ub_tree.specs.View.{TreeView}
use Rattle.ub_tree.specs.declared.fault.TreeFault.{TreeFault}

-- ---- on a tree

-- the line for rows that were appended: how many they are, and how many rows the table has now
abbrev pub appended_line : ℕ → ℕ → List ℕ
appended_line count rows = codes "-- appended " ++ (decimal count ++ (codes ", rows " ++ (decimal rows ++ codes "\n")))

-- what is told of rows that were all put in, by how the closing with the keeping after it has ended
abbrev pub TellsAppended : ℕ → ℕ → Result (Unit {0}) TreeFault → OutFacts → OutFacts → Status → Type 0
TellsAppended count rows (Ok done) out out_now status = Tells out out_now (appended_line count rows) Done status
TellsAppended count rows (Err fault) out out_now status = Tells out out_now (tree_fault_text fault) (tree_fault_status fault) status

-- a tree into which so many rows were put was closed, with this store left of it, which may have been kept; and it was told how that has ended
pub record HasClosed (t : TreeView) (count : ℕ) (left : StoreFacts) (out out_now : OutFacts) (status : Status) : Type 0 where
  pub closing : Result (Unit {0}) TreeFault
  pub keeping : Result (Unit {0}) StoreFault
  pub closes : Closes t left closing
  pub faults : IfErr keeping (λ fault. fault ≡ Device)
  pub tells : TellsAppended count t.rows (both_ended closing keeping) out out_now status

-- all these rows were put into a tree, which was then closed so
pub record HasPut (t : TreeView) (rows : List Row) (left : StoreFacts) (out out_now : OutFacts) (status : Status) : Type 0 where
  pub now : TreeView
  pub puts : PutsRows t now rows (Ok tt)
  pub closed : HasClosed now (length rows) left out out_now status

-- a fault ended that at one of them, which was told
pub record IsUnput (t : TreeView) (rows : List Row) (out out_now : OutFacts) (status : Status) : Type 0 where
  pub now : TreeView
  pub fault : TreeFault
  pub puts : PutsRows t now rows (Err fault)
  pub tells : Tells out out_now (tree_fault_text fault) (tree_fault_status fault) status

-- no row of a text was put in: it doesn't fit the tree's table, the first thing that is wrong with it was told, or that memory was refused
pub record IsUntaken (t : TreeView) (text : List ℕ) (out out_now : OutFacts) (status : Status) : Type 0 where
  pub fault : LoadFault
  pub is : IsRowsFault text t.schema t.next fault
  pub tells : Tells out out_now (load_fault_text fault) (load_fault_status fault) status

-- the rows of a text for a tree weren't put in: they weren't taken from the text, or a fault ended their putting in
abbrev pub IsNotPut : TreeView → List ℕ → OutFacts → OutFacts → Status → Type 0
IsNotPut t text out out_now status =
    IsUntaken t text out out_now status
    ⊎ ((rows : List Row) × AreRowsOf text t.schema t.next rows × IsUnput t rows out out_now status)

-- ---- on the store of a table file

-- the rows of a text were put into the tree that was opened in a store, and this is left of that
pub record HasAppended (store : StoreFacts) (text : List ℕ) (left : StoreFacts) (out out_now : OutFacts) (status : Status) : Type 0 where
  pub tree : TreeView
  pub tree_is : IsTreeOf store tree
  pub rows : List Row
  pub rows_are : AreRowsOf text tree.schema tree.next rows
  pub put : HasPut tree rows left out out_now status

-- the table file at this path keeps what is left, where there were rows and the closing wasn't refused; else no file was changed
pub record IsKeptAppend (table text : List ℕ) (store : StoreFacts) (old new : FilesFacts) (out out_now : OutFacts) (status : Status) : Type 0 where
  pub left : StoreFacts
  pub appended : HasAppended store text left out out_now status
  pub kept : IsKept (nat_lt 0 (length appended.rows)) table left.pages appended.put.closed.closing appended.put.closed.keeping old new

-- a tree was opened in the store, and the rows of a text weren't put into it
pub record IsUnchanged (store : StoreFacts) (text : List ℕ) (out out_now : OutFacts) (status : Status) : Type 0 where
  pub tree : TreeView
  pub tree_is : IsTreeOf store tree
  pub is : IsNotPut tree text out out_now status

-- the rows of a text were put into the table in a store, and that was kept; or it was told what kept them from that, and no file was changed:
-- no tree was opened, or they weren't put in
abbrev pub AppendsStore : List ℕ → List ℕ → StoreFacts → FilesFacts → FilesFacts → OutFacts → OutFacts → Status → Type 0
AppendsStore table text store old new out out_now status =
    IsKeptAppend table text store old new out out_now status
    ⊎ ((IsUntold store out out_now status ⊎ IsUnchanged store text out out_now status) × (new ≡ old))

-- ---- on a table file

-- that was done of the store that the table file lent, which was opened to be changed
pub record IsAppendTo (table text : List ℕ) (old new : FilesFacts) (out out_now : OutFacts) (status : Status) : Type 0 where
  pub store : StoreFacts
  pub mid : FilesFacts
  pub lent : IsLent old table store
  pub opens : OpensFor true table old mid
  pub appends : AppendsStore table text store mid new out out_now status

-- or it wasn't opened, which was told
abbrev pub AppendsText : List ℕ → List ℕ → FilesFacts → FilesFacts → OutFacts → OutFacts → Status → Type 0
AppendsText table text old new out out_now status = IsAppendTo table text old new out out_now status ⊎ IsUnready table old new out out_now status

-- the text of a file was read, once, before the table file was opened
pub record IsAppendOf (table source : List ℕ) (old new : FilesFacts) (out out_now : OutFacts) (status : Status) : Type 0 where
  pub text : List ℕ
  pub mid : FilesFacts
  pub read : HasRead source text old mid
  pub appends : AppendsText table text mid new out out_now status

-- the rows of the file at the second path were appended to the table file of the first one; or it was told what kept them from that
abbrev pub AppendsFile : List ℕ → List ℕ → FilesFacts → FilesFacts → OutFacts → OutFacts → Status → Type 0
AppendsFile table source old new out out_now status =
    IsSameFile source table old new out out_now status
    ⊎ ((source ≢ table) × (IsAppendOf table source old new out out_now status ⊎ IsUnread source old new out out_now status))

-- ---- what a crash leaves

-- where it is told, this is the pages that are left of the store of a table file to which the rows of the file at the other path were appended, once
-- the tree was closed
pub record HoldsAppended (table source : List ℕ) (old : FilesFacts) (out out_now : OutFacts) (status : Status) (held : Held) : Type 0 where
  pub text : List ℕ
  pub mid : FilesFacts
  pub store : StoreFacts
  pub left : StoreFacts
  pub read : HasRead source text old mid
  pub lent : IsLent mid table store
  pub appended : HasAppended store text left out out_now status
  pub closed : IsOk appended.put.closed.closing
  pub holds : HasPages held left.pages

-- what a crash leaves while rows are appended to a table file
abbrev pub AppendsSafely : List ℕ → List ℕ → FilesFacts → OutFacts → OutFacts → Status → Folder → Folder → Type 0
AppendsSafely table source old out out_now status = IsSameBut table (HoldsAppended table source old out out_now status)

-- ---- what lasts after it

-- a text has a record behind its header
abbrev pub HasRows : List ℕ → Type 0
HasRows text = 1 < length (records_of text)

-- the text that a path holds was read, and where it has a row, each crash from now on leaves in the table file what is left of the table's store with
-- the text's rows put in
pub record AppendLasts (table source : List ℕ) (old : FilesFacts) (out out_now : OutFacts) (status : Status) (now : FolderClock) : Type 0 where
  pub text : List ℕ
  pub mid : FilesFacts
  pub read : HasRead source text old mid
  pub lasts : HasRows text → Endures table (HoldsAppended table source old out out_now status) old now
