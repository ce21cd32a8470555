-- Which fault of a run a fault of loading is, and which one of a tree; and what a run leaves of a tree.
use Rattle.std.specs.Prelude.{◌≡◌, ◌≢◌, ◌⊎◌, ◌+◌, ℕ, Result, Err, IfErr, IsTrue, OnOk}
use Rattle.ub_exec.specs.Deleting.{HasMetDevice}
use Rattle.ub_load.specs.declared.fault.LoadFault.{LoadFault}
use Rattle.ub_load.specs.declared.fault.LoadFault.TheVariants.{Memory as no_memory_to_load}
use Rattle.ub_store.specs.Facts.{raised}
use Rattle.ub_store.specs.declared.fault.StoreFault.TheVariants as store
use Rattle.ub_table.specs.declared.row.TheConstants.{MAX_ROW_NUMBER}
use Rattle.ub_tree.specs.Effects.{IsFull, IsIndexFull, IsReadFault, KeepsMark, Leaves, Works, raised_by}
use Rattle.ub_tree.specs.View.{TreeView, IsSound}
use Rattle.ub_tree.specs.declared.fault.TreeFault.{TreeFault}
use Rattle.ub_tree.specs.declared.fault.TreeFault.TheVariants.{Full, Page, Store, Failed, Memory as no_memory}
use Rattle.ub_tree.specs.declared.read_fault.ReadFault.{ReadFault}
use Rattle.ub_tree.specs.declared.read_fault.ReadFault.TheVariants.{Memory as no_memory_to_read, Tree as of_tree}
use Rattle.ub_script.specs.declared.fault.RunFault.{RunFault}
use Rattle.ub_script.specs.declared.fault.RunFault.TheVariants.{Memory, Write, Load, Tree}

-- want of memory is one fault wherever it comes
abbrev pub fault_of_load : LoadFault → RunFault
fault_of_load no_memory_to_load = Memory
fault_of_load fault = Load fault

abbrev pub fault_of_read : ReadFault → RunFault
fault_of_read no_memory_to_read = Memory
fault_of_read (of_tree fault) = Tree fault

abbrev pub fault_of_tree : TreeFault → RunFault
fault_of_tree no_memory = Memory
fault_of_tree fault = Tree fault

-- what a run over a tree can answer: a fault of the tree as its reading calls answer it, and of one that has failed no other than that
abbrev pub IsGiven : TreeView → RunFault → Type 0
IsGiven old Memory = Unit {0}
IsGiven old Write = Unit {0}
IsGiven old (Load fault) = ⊥
IsGiven old (Tree fault) = IsReadFault old fault × (fault ≢ no_memory) × (IsTrue old.is_failed → fault ≡ Failed)

-- a count of failed writes after a run with this result: Write raises it by one, and nothing else does
abbrev pub failures_after : {A : Type 0} → Result A RunFault → ℕ → ℕ
failures_after (Err Write) n = raised n 1
failures_after _ n = n

-- a count of failed reads after a run with this result
abbrev pub counted : {A : Type 0} → Result A RunFault → ℕ → ℕ
counted (Err (Tree fault)) n = raised_by fault n
counted _ n = n

-- a run over a tree reads it and no more
pub record RunsReading {A : Type 0} (old new : TreeView) (result : Result A RunFault) : Type 0 where
  pub same : new ≡ record old { store = record old.store { failed_reads = counted result old.store.failed_reads }; trace = new.trace }
  pub faults : IfErr result (IsGiven old)

-- what can end a run over a tree, and what it leaves then. The tree works on, but for a write, an extension or a sync that failed.
-- Full comes where the last number is given, or the index has no room; BadSize where the store has none for another region
abbrev pub IsRunLeft : TreeView → TreeView → RunFault → Type 0
IsRunLeft old new Memory = Works old new
IsRunLeft old new Write = Works old new
IsRunLeft old new (Load fault) = ⊥
IsRunLeft old new (Tree Full) = ((new.next ≡ MAX_ROW_NUMBER + 1) ⊎ IsIndexFull new) × Works old new
IsRunLeft old new (Tree Failed) = IsTrue old.is_failed × Works old new
IsRunLeft old new (Tree no_memory) = ⊥
IsRunLeft old new (Tree (Page page fault)) = (¬ (IsSound old)) × Works old new
IsRunLeft old new (Tree (Store store.Device)) = IsTrue old.store.can_fail × HasMetDevice old new
IsRunLeft old new (Tree (Store store.NoPage)) = (¬ (IsSound old)) × Works old new
IsRunLeft old new (Tree (Store store.BadSize)) = Works old new × (mid : TreeView) × IsFull mid × Leaves mid new
IsRunLeft old new (Tree (Store store.Memory)) = ⊥

-- a run over a tree: its schema stays; a sound tree that was run on to the end is sound; over an honest store the first page marks a
-- table that has changed, if it did where it was changed before; and what a fault leaves
pub record Runs {A : Type 0} (old new : TreeView) (result : Result A RunFault) : Type 0 where
  pub schema : new.schema ≡ old.schema
  pub sound : IsSound old → OnOk result (IsSound new)
  pub marked : KeepsMark old new
  pub done : OnOk result (Works old new)
  pub left : IfErr result (IsRunLeft old new)
