-- What a call can answer that reads a tree, as often as it likes, and what it leaves of the tree.
use Rattle.std.specs.Prelude.{◌≡◌, ◌≢◌, ℕ, List, Option, None, Result, Err, IfErr}
use Rattle.ub_tree.specs.Common.{Corners, Memory as no_memory, ReadFault, Region, StoreFacts, Tree, TreeFault, TreeView}
use Rattle.ub_tree.specs.Effects.{IsReadFault, IsSearchFault, raised_by}
use Rattle.ub_tree.specs.Told.{AreFirst, SeeksNext}
use Rattle.ub_tree.specs.declared.read_fault.ReadFault.TheVariants.{Memory}

-- want of memory is one fault wherever it comes
abbrev pub fault_of_tree : TreeFault → ReadFault
fault_of_tree no_memory = Memory
fault_of_tree fault = Tree fault

-- a fault of the tree as its reading calls answer it, but for want of memory
abbrev pub IsGiven : TreeView → ReadFault → Type 0
IsGiven old Memory = Unit {0}
IsGiven old (Tree fault) = IsReadFault old fault × (fault ≢ no_memory)

-- a count of failed reads after a call with this result
abbrev pub counted : {A : Type 0} → Result A ReadFault → ℕ → ℕ
counted (Err (Tree fault)) n = raised_by fault n
counted _ n = n

-- a store after a call with this result that only reads
abbrev pub read_store : {A : Type 0} → Result A ReadFault → StoreFacts → StoreFacts
read_store result old = record old { failed_reads = counted result old.failed_reads }

-- a walk over the regions that meet some boxes was refused as it asked for the next one, after some of them
abbrev pub IsWalkFault : List Corners → TreeView → ReadFault → Type 0
IsWalkFault boxes old Memory = Unit {0}
IsWalkFault boxes old (Tree fault) =
    (fault ≢ no_memory) × (found : List Region) × (after : Option Region) × AreFirst boxes old None found after
    × IsSearchFault (SeeksNext boxes old after) old fault

-- the tree is read and no more
pub record ReadsTree {A : Type 0} (old new : TreeView) (result : Result A ReadFault) : Type 0 where
  pub same : new ≡ record old { store = read_store result old.store; trace = new.trace }
  pub faults : IfErr result (IsGiven old)

-- the tree is searched for the regions that meet some boxes, one after the other, and no more: no region is fetched
pub record SearchesTree {A : Type 0} (boxes : List Corners) (old new : TreeView) (result : Result A ReadFault) : Type 0 where
  pub same : new ≡ record old { store = read_store result old.store }
  pub faults : IfErr result (IsWalkFault boxes old)
