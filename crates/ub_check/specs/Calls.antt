-- What the check of a table's pages answers, and what it leaves.
use Rattle.std.specs.Prelude.{◌≡◌, IsTrue, List, Result, IfErr, OnOk}
use Rattle.ub_check.specs.Checking.{Asked, AreWell, IsFirst, asked_for}
use Rattle.ub_check.specs.Placed.{Placed}
use Rattle.ub_check.specs.declared.checking.Told.{Told}
use Rattle.ub_index.specs.Held.{KeepsChecked}
use Rattle.ub_index.specs.Searching.{store_after}
use Rattle.ub_index.specs.declared.fault.IndexFault.{IndexFault}
use Rattle.ub_index.specs.declared.fault.IndexFault.TheVariants.{Full, Page, Store}
use Rattle.ub_store.specs.Facts.{StoreFacts, IsHonest}
use Rattle.ub_store.specs.View.{PagerView}
use Rattle.ub_store.specs.declared.fault.StoreFault.TheVariants as store
use Rattle.ub_table.specs.declared.schema.Schema.{Schema}
use Rattle.ub_zaddr.specs.Address.{last_address}

-- what is asked of the pages of a store, of a table of this schema of which this is told
abbrev pub asked_in : Schema → Told → StoreFacts → Asked
asked_in schema told store = asked_for schema (last_address schema.dims) told.regions told.next store.pages

-- what the check can answer: over an honest store the fault of a page, or that there is none, is the first
abbrev pub IsCheckFault : Schema → Told → StoreFacts → IndexFault → Type 0
IsCheckFault schema told old Full = ⊥
IsCheckFault schema told old (Page n fault) = IsHonest old → IsFirst (asked_in schema told old) told (Page n fault)
IsCheckFault schema told old (Store store.Memory) = Unit {0}
IsCheckFault schema told old (Store store.Device) = IsTrue old.can_fail
IsCheckFault schema told old (Store store.NoPage) = IsHonest old → IsFirst (asked_in schema told old) told (Store store.NoPage)
IsCheckFault schema told old (Store store.BadSize) = ⊥

-- a check of the pages of such a table: over an honest store Ok comes only where they are well; with the device's fault the store
-- has one failed read more, and else nothing has changed but the pages that the pager holds, each of which was checked, if they
-- were before
pub record Checks {A : Type 0} (schema : Schema) (told : Told) (old new : PagerView) (result : Result A IndexFault) : Type 0 where
  pub same : new ≡ record old { store = store_after result old.store; cached = new.cached }
  pub checked : KeepsChecked (last_address schema.dims) old new
  pub well : IsHonest old.store → OnOk result ((placed : List Placed) × AreWell (asked_in schema told old.store) told placed)
  pub faults : IfErr result (IsCheckFault schema told old.store)
