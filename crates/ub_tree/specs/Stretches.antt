-- Stretches of a tree: each is what an entry of some level of its index names. Crates above know of `IsStretchOf` and `ArePartsOf` what the laws say.
use Rattle.std.specs.Prelude.{◌≡◌, ◌≤◌, IsTrue, List, Some, Result, Err, IfErr, OnOk}
use Rattle.ub_tree.specs.Common.{Corners, entry_at, IsHonest, IsNotTaken, page_count, ReadFault, Tree, TreeView}
use Rattle.ub_index.specs.Stretches.{ArePartsOn, IsStretchOn, whole_stretch}
use Rattle.ub_tree.specs.Reading.{IsGiven, read_store}
use Rattle.ub_tree.specs.declared.read_fault.ReadFault.TheVariants.{Memory}
use Rattle.ub_store.specs.declared.fault.StoreFault.TheVariants as store
use Rattle.ub_tree.specs.declared.fault.TreeFault.TheVariants as tree
pub use Rattle.ub_index.specs.Sinks.{Began, TakesThese}
pub use Rattle.ub_index.specs.Stretches.{MeetsAny, holds_key, within}
pub use Rattle.ub_index.specs.declared.stretch.Stretch.{Stretch}

-- the whole tree as one stretch
abbrev pub whole_of : TreeView → Stretch
whole_of t = whole_stretch t.inner.index

-- a stretch that the tree tells of: it holds its first key, and over an honest store a way from the root comes to it, on which each page fits
pub record IsStretchOf (t : TreeView) (stretch : Stretch) : Type 0 where
  pub is : IsStretchOn t.inner.index t.store stretch

-- what the tree gives where a stretch is opened: its parts that meet the boxes, in the order of their first keys
pub record ArePartsOf (t : TreeView) (boxes : List Corners) (stretch : Stretch) (parts : List Stretch) : Type 0 where
  pub are : ArePartsOn t.inner.index t.store boxes stretch parts

-- what opening a stretch answers, also one of which the tree doesn't tell: then by what that one says
abbrev pub IsOpeningFault : Stretch → TreeView → ReadFault → Type 0
IsOpeningFault stretch old Memory = Unit {0}
IsOpeningFault stretch old (Tree tree.Failed) = IsTrue old.is_failed
IsOpeningFault stretch old (Tree (tree.Page n fault)) =
    (n ≡ stretch.span.page)
    × (IsHonest old.store → IsNotTaken old.inner.index.last old.store.pages stretch.level (entry_at stretch.span) stretch.span.next (Some fault))
IsOpeningFault stretch old (Tree (tree.Store store.Device)) = IsTrue old.store.can_fail
IsOpeningFault stretch old (Tree (tree.Store store.NoPage)) = page_count old.store ≤ stretch.span.page
IsOpeningFault stretch old (Tree _) = ⊥

-- a stretch was to be opened, and this was answered: the sink has taken its parts that meet the boxes, or why not; no region is fetched
pub record OpensStretch {S A : Type 0} (Takes : S → List Stretch → S → Type 0) (boxes : List Corners) (stretch : Stretch)
    (old new : TreeView) (before after : S) (result : Result A ReadFault) : Type 0 where
  pub parts : OnOk result ((parts : List Stretch) × ArePartsOf old boxes stretch parts × TakesThese Takes before after parts)
  pub failed : IsTrue old.is_failed → result ≡ Err (Tree tree.Failed)
  pub same : new ≡ record old { store = read_store result old.store }
  pub faults : IsStretchOf old stretch → IfErr result (IsGiven old)
  pub refused : IfErr result (IsOpeningFault stretch old)
