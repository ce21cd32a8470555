-- What a removal does to a tree.
use Rattle.std.specs.Prelude.{◌≡◌, ◌+◌, ◌⊎◌, Bool, true, false, List, IsTrue, Result, Err, IfErr, IfOk, if◌then◌else◌}
use Rattle.ub_tree.specs.Common.{AreTableRows, BadCount, Failed, Full, has_key, IsHonest, IsSound, Key, Page, region_count, regions, remove, Row}
use Rattle.ub_tree.specs.Common.{Store, tree_rows, TreeFault, TreeView, without_number}
use Rattle.ub_tree.specs.Effects.{Changes, IsDropRefused, IsPageRefused}
use Rattle.ub_tree.specs.Holding.{AnswersRemoval, ShrinksAt}
use Rattle.ub_tree.specs.Pages.{TakesRow}
use Rattle.ub_store.specs.declared.fault.StoreFault.TheVariants as store

-- whether a row of a sound tree has the key, and that row alone is taken out of the table
pub record IsRemoved (key : Key) (found : Bool) (old new : TreeView) : Type 0 where
  pub found_is : found ≡ has_key old.schema.dims key (tree_rows old)
  pub schema : new.schema ≡ old.schema
  pub regions_are : regions new ≡ remove old.schema.dims old.schema.page_rows key (regions old)
  pub table : (rows : List Row) → AreTableRows (regions old) rows → AreTableRows (regions new) (if found then without_number key.number rows else rows)
  pub next : new.next ≡ old.next
  pub rows : new.rows + (if found then 1 else 0) ≡ old.rows
  pub sound : IsSound new

-- what a removal can answer: not Full, not BadSize; of a page that it is refused, or BadCount of the first, where no row or one region is counted
abbrev pub IsRemovalFault : TreeView → TreeFault → Type 0
IsRemovalFault t Full = ⊥
IsRemovalFault t (Store store.BadSize) = ⊥
IsRemovalFault t (Page page fault) =
    IsPageRefused t page fault ⊎ IsDropRefused t page fault
    ⊎ ((page ≡ 0) × (fault ≡ BadCount) × ((t.rows ≡ 0) ⊎ (region_count t ≡ 1)))
IsRemovalFault t _ = Unit {0}

-- a row with this key was taken out of any tree: the other rows of its region stand on that one's page then, or with those of a region beside it
pub record LosesRow (key : Key) (old new : TreeView) : Type 0 where
  pub next : new.next ≡ old.next
  pub rows : new.rows + 1 ≡ old.rows
  pub shrunk : ShrinksAt key old new
  pub put : TakesRow key old new

-- a call that can take a row out of a tree, or a part of one: a table that was marked as changed stays so
pub record Lessens {A : Type 0} (old new : TreeView) (result : Result A TreeFault) : Type 0 where
  pub changes : Changes old new result
  pub faults : IfErr result (IsRemovalFault old)
  pub stays : old.is_changed ≡ true → new.is_changed ≡ true

-- the row with a key was asked to be taken out of a tree, with this answer: what that did to a sound one, and to any, and which answers must come
pub record Removes (key : Key) (old new : TreeView) (result : Result Bool TreeFault) : Type 0 where
  pub removed : IsSound old → IfOk result (λ found. IsRemoved key found old new)
  pub done : IfOk result (λ found. (found ≡ true → LosesRow key old new) × (found ≡ false → new ≡ old))
  pub refused : (IsTrue old.is_failed → result ≡ Err Failed) × (old.is_failed ≡ false → IsHonest old.store → AnswersRemoval old key result)
  pub leaves : Lessens old new result
