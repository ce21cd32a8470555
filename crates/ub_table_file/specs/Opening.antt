-- How a table file is opened, and a tree made of its table; and what is told where that isn't done.
use Rattle.std.specs.Prelude.{◌≡◌, ◌⊎◌, ℕ, Bool, List, Result, IfErr, IfOk, OnOk}
use Rattle.ub_files.specs.Clock.{FolderClock, IsSameFolder, Runs}
use Rattle.ub_files.specs.Files.{FilesFacts, IsLent}
use Rattle.ub_script.specs.Output.{OutFacts}
use Rattle.ub_table_file.specs.Commands.{IsTreeOf, IsUnlent, IsUntold, OpensFor}
use Rattle.ub_table_file.specs.declared.status.Status.{Status}
use Rattle.ub_store.specs.Facts.{StoreFacts}
use Rattle.ub_tree.specs.View.{TreeView}

-- a table file was opened, to be changed or to be asked, and lent its store, and nothing was told; or it was told why not
pub record LendsTable {S : Type 0} (facts : S → StoreFacts) (changes : Bool) (table : List ℕ) (old new : FilesFacts) (was now : FolderClock) (out out_now : OutFacts) (result : Result S Status) : Type 0 where
  pub lent : IfOk result (λ store. IsLent old table (facts store))
  pub opens : OnOk result (OpensFor changes table old new)
  pub quiet : OnOk result (out_now ≡ out)
  pub unlent : IfErr result (IsUnlent changes table old new out out_now)
  pub crash : Runs IsSameFolder old was now

-- a tree was made of the store that it lent
pub record HasOpened (changes : Bool) (table : List ℕ) (old new : FilesFacts) (t : TreeView) : Type 0 where
  pub store : StoreFacts
  pub lent : IsLent old table store
  pub opens : OpensFor changes table old new
  pub tree_is : IsTreeOf store t

-- there is none, which was told, and the store was put back
pub record HasNoTree (changes : Bool) (table : List ℕ) (old new : FilesFacts) (out out_now : OutFacts) (status : Status) : Type 0 where
  pub store : StoreFacts
  pub lent : IsLent old table store
  pub opens : OpensFor changes table old new
  pub untold : IsUntold store out out_now status

-- no tree is at hand of the table file
abbrev pub IsNotOpened : Bool → List ℕ → FilesFacts → FilesFacts → OutFacts → OutFacts → Status → Type 0
IsNotOpened changes table old new out out_now status =
    IsUnlent changes table old new out out_now status ⊎ HasNoTree changes table old new out out_now status

-- a table file was opened, and a tree made of its table; or it was told why not
pub record OpensTable (changes : Bool) (table : List ℕ) (old new : FilesFacts) (was now : FolderClock) (out out_now : OutFacts) (result : Result TreeView Status) : Type 0 where
  pub opened : IfOk result (HasOpened changes table old new)
  pub quiet : OnOk result (out_now ≡ out)
  pub refused : IfErr result (IsNotOpened changes table old new out out_now)
  pub crash : Runs IsSameFolder old was now
