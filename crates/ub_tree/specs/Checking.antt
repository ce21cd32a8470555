-- What a check of a tree's pages comes to, and where it stops.
use Rattle.std.specs.Prelude.{◌≡◌, ℕ, false, IsTrue, List, Option, Result, Err, IfErr, OnOk}
use Rattle.ub_tree.specs.Common.{Failed, Full, IsHonest, IsSound, Memory, Page, PageFault, Placed, region_count, Store, TreeFault, TreeView}
use Rattle.ub_check.specs.Checking.{Asked, AreWell, IsFirst, StopsTable, TakesTable, asked_for}
use Rattle.ub_check.specs.declared.checking.Told.{Told}
use Rattle.ub_tree.specs.Effects.{read_store}
use Rattle.ub_tree.specs.Holding.{Answers}
use Rattle.ub_tree.specs.Opened.{IsPassing}
use Rattle.ub_index.specs.declared.fault.IndexFault.TheVariants as index
use Rattle.ub_store.specs.declared.fault.StoreFault.TheVariants as store

-- what a check of a tree asks, and what is told of its table
abbrev pub asked_of : TreeView → Asked
asked_of t = asked_for t.schema t.inner.index.last (region_count t) t.next t.store.pages

abbrev pub told_of : TreeView → Told
told_of t = record { root = t.inner.index.root; levels = t.inner.index.levels; regions = region_count t; rows = t.rows; next = t.next }

-- the check of a tree takes these regions, from the root of its index on
abbrev pub TakesTree : TreeView → List Placed → Type 0
TakesTree t after = TakesTable (asked_of t) (told_of t) after

-- a tree's pages are well: its regions are taken, as many as it counts, with as many rows
abbrev pub IsWell : TreeView → Type 0
IsWell t = AreWell (asked_of t) (told_of t) t.placed

-- where the check of a tree stops
abbrev pub StopsTree : TreeView → ℕ → Option PageFault → Type 0
StopsTree t n fault = StopsTable (asked_of t) (told_of t) n fault

-- the fault at which the check of a tree stops, the first on the walk, or that of the counts at its end; there is no other
abbrev pub IsFirstFault : TreeView → TreeFault → Type 0
IsFirstFault t (Page n fault) = IsFirst (asked_of t) (told_of t) (index.Page n fault)
IsFirstFault t (Store fault) = IsFirst (asked_of t) (told_of t) (index.Store fault)
IsFirstFault t _ = ⊥

-- what a check can answer: over an honest store the fault of a page, or that there is none, is the first
abbrev pub IsCheckFault : TreeView → TreeFault → Type 0
IsCheckFault t Full = ⊥
IsCheckFault t Failed = IsTrue t.is_failed
IsCheckFault t Memory = Unit {0}
IsCheckFault t (Page n fault) = IsHonest t.store → IsFirstFault t (Page n fault)
IsCheckFault t (Store store.Device) = IsTrue t.store.can_fail
IsCheckFault t (Store store.NoPage) = IsHonest t.store → IsFirstFault t (Store store.NoPage)
IsCheckFault t (Store _) = ⊥

-- a check of a tree: with the device's fault the store has one failed read more, and else nothing has changed
pub record ChecksPages {A : Type 0} (old new : TreeView) (result : Result A TreeFault) : Type 0 where
  pub same : new ≡ record old { store = read_store result old.store }
  pub faults : IfErr result (IsCheckFault old)

-- a tree was checked with this answer: over an honest store Ok just where its pages are well, and else the first fault, device and memory aside
pub record IsChecked {A : Type 0} (old new : TreeView) (result : Result A TreeFault) : Type 0 where
  pub well : IsHonest old.store → OnOk result (IsWell old)
  pub exact : IsHonest old.store → IsWell old → old.is_failed ≡ false → IfErr result IsPassing
  pub sound : IsSound old → IfErr result IsPassing
  pub stopped : (fault : TreeFault) → IsHonest old.store → old.is_failed ≡ false → IsFirstFault old fault → Answers result fault
  pub failed : IsTrue old.is_failed → result ≡ Err Failed
  pub effect : ChecksPages old new result
