-- What checking each page of a table file tells.
use Rattle.std.specs.Prelude.{◌≡◌, ◌⊎◌, ℕ, List}
use Rattle.ub_table_file.specs.Commands.{IsTreeOf, loaded_line}
use Rattle.ub_store.specs.Facts.{StoreFacts, IsHonest}
use Rattle.ub_table.specs.declared.schema.Schema.{Schema}
use Rattle.ub_tree.specs.Checking.{IsCheckFault, IsWell}
use Rattle.ub_tree.specs.Opened.{IsOpenFault, IsPassing}
use Rattle.ub_tree.specs.Placed.{Placed}
use Rattle.ub_tree.specs.Stored.{AreSoundPages}
use Rattle.ub_tree.specs.View.{TreeView, region_count}
use Rattle.ub_tree.specs.declared.fault.TreeFault.{TreeFault}

-- a tree was opened in the store, and this tells how many rows and regions it counts; over an honest store its pages are well
pub record IsCountOf (store : StoreFacts) (text : List ℕ) : Type 0 where
  pub tree : TreeView
  pub tree_is : IsTreeOf store tree
  pub well : IsHonest tree.store → IsWell tree
  pub text_is : text ≡ loaded_line tree.rows (region_count tree)

-- a tree was opened in the store, and its check stopped at this fault; over an honest store, where its pages are well, that was for want of
-- memory, or as the store failed
pub record IsStopped (store : StoreFacts) (fault : TreeFault) : Type 0 where
  pub tree : TreeView
  pub tree_is : IsTreeOf store tree
  pub is : IsCheckFault tree fault
  pub exact : IsHonest tree.store → IsWell tree → IsPassing fault

-- why a store isn't well: it can't be opened, or the check of its tree stopped
abbrev pub IsIllFault : StoreFacts → TreeFault → Type 0
IsIllFault store fault = IsOpenFault store fault ⊎ IsStopped store fault

-- a closed table is refused for want of memory alone, or as the store failed
abbrev pub PassesSound : StoreFacts → TreeFault → Type 0
PassesSound store fault =
    (schema : Schema) (placed : List Placed) (next : ℕ) → IsHonest store → AreSoundPages store.pages schema placed next → IsPassing fault
