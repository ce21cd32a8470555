-- What making a table file of an older version anew leaves of files, and what is told.
use Rattle.std.specs.Prelude.{◌≡◌, ◌≢◌, ◌⊎◌, ℕ, List, [], false, true}
use Rattle.ub_files.specs.Files.{FilesFacts, IsLent}
use Rattle.ub_script.specs.Output.{OutFacts}
use Rattle.ub_table_file.specs.Commands.{IsSameFile, IsUnopened, MakesTable}
use Rattle.ub_table_file.specs.Status.{Tells, tree_fault_status, tree_fault_text}
use Rattle.ub_table_file.specs.declared.status.Status.{Status}
use Rattle.ub_store.specs.Facts.{StoreFacts, IsHonest, memory_facts}
use Rattle.ub_table.specs.declared.schema.Schema.{Schema}
use Rattle.ub_tree.specs.Closing.{header_of}
use Rattle.ub_tree.specs.Old.{AreOldPages}
use Rattle.ub_tree.specs.Placed.{Placed}
use Rattle.ub_tree.specs.Stored.{AreSoundPages}
use Rattle.ub_tree.specs.Upgrade.{HasTable, IsUpgradeFault, IsUpgradePassing, IsUpgraded}
use Rattle.ub_tree.specs.View.{TreeView, IsSound, region_count}
use Rattle.ub_tree.specs.declared.fault.TreeFault.{TreeFault}
use Rattle.ub_writing.specs.Closing.{IsClosed}

-- the tree that is made in memory of a store of an older version: it is sound, and the pages of that store, if it is honest, are a closed table
-- of its regions; where they are that of some regions it has those
pub record IsUpgradeOf (from : StoreFacts) (t : TreeView) : Type 0 where
  pub upgraded : IsUpgraded from (memory_facts []) t
  pub made : (version next : ℕ) (schema : Schema) (placed : List Placed) → IsHonest from → AreOldPages version from.pages schema placed next
      → HasTable schema placed next t

-- a tree over a store in memory that counts as changed and works: closing it writes its header
pub record IsAfoot (t : TreeView) : Type 0 where
  pub changed : t.is_changed ≡ true
  pub working : t.is_failed ≡ false
  pub honest : IsHonest t.store
  pub unfailing : t.store.can_fail ≡ false

-- these pages are such a tree closed, which is sound, of so many rows and regions: its store's, but for the first, which is its header now, a
-- clean one; they are a closed table
pub record IsTableAnew (from : StoreFacts) (rows regions : ℕ) (pages : List (List ℕ)) : Type 0 where
  pub tree : TreeView
  pub upgrade : IsUpgradeOf from tree
  pub headed : IsClosed (header_of tree) tree.store (memory_facts pages)
  pub sound : IsSound tree
  pub closed : AreSoundPages pages tree.schema tree.placed tree.next
  pub rows_are : rows ≡ tree.rows
  pub regions_are : regions ≡ region_count tree

-- the store isn't one of an older version that can be read, or memory was refused; of a closed table that is for want of memory, or since the
-- store failed, or the new one would have too many pages
pub record IsRefusedOld (from : StoreFacts) (fault : TreeFault) : Type 0 where
  pub is : IsUpgradeFault from (memory_facts []) fault
  pub passing : (version next : ℕ) (schema : Schema) (placed : List Placed) → IsHonest from → AreOldPages version from.pages schema placed next
      → IsUpgradePassing fault

-- the table of a store was closed anew in memory, and a table file of its pages was made at this path; or that wasn't made, and why was told
pub record IsFileAnew (table : List ℕ) (from : StoreFacts) (old new : FilesFacts) (out out_now : OutFacts) (status : Status) : Type 0 where
  pub rows : ℕ
  pub regions : ℕ
  pub pages : List (List ℕ)
  pub table_is : IsTableAnew from rows regions pages
  pub makes : MakesTable table pages rows regions old new out out_now status

-- none was closed in memory, and why not was told; the files hold what they did
pub record IsRefusedAnew (store : StoreFacts) (old new : FilesFacts) (out out_now : OutFacts) (status : Status) : Type 0 where
  pub fault : TreeFault
  pub is : IsRefusedOld store fault
  pub files : new ≡ old
  pub tells : Tells out out_now (tree_fault_text fault) (tree_fault_status fault) status

-- that was done of a store
abbrev pub UpgradesStore : List ℕ → StoreFacts → FilesFacts → FilesFacts → OutFacts → OutFacts → Status → Type 0
UpgradesStore table store old new out out_now status =
    IsFileAnew table store old new out out_now status ⊎ IsRefusedAnew store old new out out_now status

-- that was done of the store in the old table file, which was let go before the new one is made
pub record IsAnewOf (source table : List ℕ) (old new : FilesFacts) (out out_now : OutFacts) (status : Status) : Type 0 where
  pub store : StoreFacts
  pub lent : IsLent old source store
  pub upgrades : UpgradesStore table store old new out out_now status

-- the table file of an older version at the first path was made anew at the second one; or it was told what kept it from that
abbrev pub UpgradesFile : List ℕ → List ℕ → FilesFacts → FilesFacts → OutFacts → OutFacts → Status → Type 0
UpgradesFile source table old new out out_now status =
    IsSameFile source table old new out out_now status
    ⊎ ((source ≢ table) × (IsAnewOf source table old new out out_now status ⊎ IsUnopened source old new out out_now status))
