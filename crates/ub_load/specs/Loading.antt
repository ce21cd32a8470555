-- What loading makes, and why it is refused.
use Rattle.std.specs.Prelude.{◌≡◌, ◌≤◌, ◌+◌, ◌*◌, ◌⊎◌, ℕ, false, List, Option, Some, IsTrue}
use Rattle.ub_load.specs.LoadedTable.{records_of}
use Rattle.ub_load.specs.Refusals.{first_refusal}
use Rattle.ub_load.specs.declared.fault.LoadFault.{LoadFault}
use Rattle.ub_load.specs.declared.fault.LoadFault.TheVariants.{Csv, Tree, Memory}
use Rattle.ub_store.specs.Facts.{StoreFacts, IsHonest, page_count}
use Rattle.ub_store.specs.View.{untouched}
use Rattle.ub_store.specs.declared.fault.StoreFault.TheVariants as store
use Rattle.ub_table.specs.declared.axes.Axes.{Axes}
use Rattle.ub_tree.specs.View.{TreeView}
use Rattle.ub_tree.specs.declared.fault.TreeFault.TheVariants as tree

-- a tree that works, over the store that had these facts, no call of which has failed since, and no region of which was read; there are
-- no more pages than the first three, and eighteen for each row number that was given: one for a region, and those of the index
pub record IsAtWork (facts : StoreFacts) (t : TreeView) : Type 0 where
  pub working : t.is_failed ≡ false
  pub store_is : t.store ≡ record facts { pages = t.store.pages; synced = t.store.synced }
  pub pages : page_count t.store + 15 ≤ 18 * t.next
  pub trace_is : t.trace ≡ untouched

-- a new tree is refused for want of memory, or the store failed, which it then can
abbrev pub IsNewFault : StoreFacts → LoadFault → Type 0
IsNewFault facts Memory = Unit {0}
IsNewFault facts (Tree (tree.Store store.Device)) = IsTrue facts.can_fail
IsNewFault facts _ = ⊥

-- what can be told where this is the first thing wrong, if anything is: that; or that memory was refused, or that the store
-- failed, which it then can; and only of a broken store that a page of the tree is not what it was, or that its index is full
abbrev pub IsToldOf : Option LoadFault → (CanFail IsBroken : Type 0) → LoadFault → Type 0
IsToldOf first CanFail IsBroken Memory = Unit {0}
IsToldOf first CanFail IsBroken (Tree tree.Full) = (first ≡ Some (Tree tree.Full)) ⊎ IsBroken
IsToldOf first CanFail IsBroken (Tree (tree.Store store.Device)) = CanFail
IsToldOf first CanFail IsBroken (Tree (tree.Store store.NoPage)) = IsBroken
IsToldOf first CanFail IsBroken (Tree (tree.Page page fault)) = IsBroken
IsToldOf first CanFail IsBroken (Tree _) = ⊥
IsToldOf first CanFail IsBroken fault = first ≡ Some fault

-- why a text isn't loaded into a new tree over a store with these facts: `csv` refused a record, or this is told of the first thing
-- that is wrong with the text
abbrev pub IsLoadFault : Axes → List ℕ → List ℕ → StoreFacts → LoadFault → Type 0
IsLoadFault axes name text facts fault =
    (fault ≡ Csv) ⊎ IsToldOf (first_refusal axes name (records_of text)) (IsTrue facts.can_fail) (¬ (IsHonest facts)) fault
