-- What the steps of a check say, and its public clauses do not.
use Rattle.std.specs.Prelude.{◌≡◌, ◌+◌, ◌↔◌, ◌++◌, ℕ, min, IsTrue, List, Option, Some, None, Result, IfErr, length, take, drop}
use Rattle.ub_region.specs.declared.entry.Entry.{Entry}
use Rattle.ub_region.specs.Regions.{rows_of}
use Rattle.ub_store.specs.Facts.{StoreFacts, IsHonest}
use Rattle.ub_store.specs.View.{PagerView}
use Rattle.ub_store.specs.declared.fault.StoreFault.TheVariants as store
use Rattle.ub_table.specs.declared.fault.PageFault.{PageFault}
use Rattle.ub_table.specs.declared.row.Key.{Key}
use Rattle.ub_table.specs.declared.schema.Schema.{Schema}
use Rattle.ub_check.specs.Checking.{Asked, StopsEach, StopsIn, TakesAll, TakesEach, asked_for, numbers_in}
use Rattle.ub_check.specs.Numbers.{AreNew, HasJust, NumbersView}
use Rattle.ub_check.specs.Placed.{Placed, regions_in}
use Rattle.ub_check.specs.declared.walk.Walk.{Walk}
use Rattle.ub_index.specs.Held.{KeepsChecked}
use Rattle.ub_index.specs.Searching.{store_after}
use Rattle.ub_index.specs.declared.fault.IndexFault.{IndexFault}
use Rattle.ub_index.specs.declared.fault.IndexFault.TheVariants.{Full, Page, Store}

-- a check has taken these regions, where so many are counted: so many are left, and it has met their rows, and no others
pub record HasTaken (count : ℕ) (walk : Walk) (taken : List Placed) : Type 0 where
  pub left : walk.left + length taken ≡ count
  pub rows : walk.rows ≡ min (length (rows_of (regions_in taken))) 18446744073709551615
  pub numbers : HasJust walk.numbers (numbers_in taken)

-- what a check asks from a walk on
abbrev pub asked_by : Schema → ℕ → ℕ → Walk → StoreFacts → Asked
asked_by schema last count walk facts = asked_for schema last count walk.numbers.bound facts.pages

-- what an entry of this level leads to is taken, whatever was taken before it
abbrev pub TakesOn : Schema → ℕ → ℕ → Entry → Option Key → StoreFacts → Walk → Walk → Type 0
TakesOn schema last level entry end old from to =
    (count : ℕ) (before : List Placed) → IsHonest old → HasTaken count from before
    → (after : List Placed) × TakesAll (asked_by schema last count from old) level entry end before after × HasTaken count to after

-- why it isn't taken
abbrev pub IsWalkFault : Schema → ℕ → ℕ → Entry → Option Key → StoreFacts → Walk → IndexFault → Type 0
IsWalkFault schema last level entry end old from Full = ⊥
IsWalkFault schema last level entry end old from (Page n fault) =
    (count : ℕ) (before : List Placed) → IsHonest old → HasTaken count from before
    → StopsIn (asked_by schema last count from old) level entry end before n (Some fault)
IsWalkFault schema last level entry end old from (Store store.Memory) = Unit {0}
IsWalkFault schema last level entry end old from (Store store.Device) = IsTrue old.can_fail
IsWalkFault schema last level entry end old from (Store store.NoPage) =
    (count : ℕ) (before : List Placed) → IsHonest old → HasTaken count from before
    → (n : ℕ) × StopsIn (asked_by schema last count from old) level entry end before n None
IsWalkFault schema last level entry end old from (Store store.BadSize) = ⊥

-- a step of a check with this result: with the device's fault the store has one failed read more, and else nothing has changed
-- but the pages that the pager holds, each of which was checked, if they were before
pub record Walks {A : Type 0} (schema : Schema) (last level : ℕ) (entry : Entry) (end : Option Key) (from : Walk) (old new : PagerView)
    (result : Result A IndexFault) : Type 0 where
  pub same : new ≡ record old { store = store_after result old.store; cached = new.cached }
  pub checked : KeepsChecked last old new
  pub faults : IfErr result (IsWalkFault schema last level entry end old.store from)

-- so many of some entries of this level were walked through: what comes of the others comes of all
pub record IsWalkedTo (schema : Schema) (last level : ℕ) (entries : List Entry) (end : Option Key) (old now : PagerView) (from to : Walk) (i : ℕ) : Type 0 where
  pub same : now ≡ record old { cached = now.cached }
  pub checked : KeepsChecked last old now
  pub bound : to.numbers.bound ≡ from.numbers.bound
  pub goes : (count : ℕ) (before : List Placed) → IsHonest old.store → HasTaken count from before
      → (between : List Placed) × HasTaken count to between
      × ((after : List Placed) → TakesEach (TakesAll (asked_by schema last count from old.store) level) (drop i entries) end between after
      → TakesEach (TakesAll (asked_by schema last count from old.store) level) entries end before after)
      × ((n : ℕ) (fault : Option PageFault) → StopsEach (TakesAll (asked_by schema last count from old.store) level) (StopsIn (asked_by schema last count from old.store) level) (drop i entries) end between n fault
      → StopsEach (TakesAll (asked_by schema last count from old.store) level) (StopsIn (asked_by schema last count from old.store) level) entries end before n fault)

-- so many of some numbers were put into a set: they were new, and so are all where the others are
pub record IsPutTo (numbers : List ℕ) (from to : NumbersView) (i : ℕ) : Type 0 where
  pub bound : to.bound ≡ from.bound
  pub goes : (met : List ℕ) → HasJust from met
      → HasJust to (met ++ take i numbers) × (AreNew from.bound met numbers ↔ AreNew from.bound (met ++ take i numbers) (drop i numbers))
