-- The first pages of a table.
use Rattle.std.specs.Prelude.{◌≡◌, ◌≤◌, ◌⊎◌, List, ℕ, Some, IsTrue, length, slice_get}
use Rattle.ub_region.specs.RegionPage.{only_region, region_on, region_page}
use Rattle.ub_store.specs.Facts.{StoreFacts, page_count}
use Rattle.ub_store.specs.declared.fault.StoreFault.{StoreFault}
use Rattle.ub_store.specs.declared.fault.StoreFault.TheVariants.{Device, Memory}
use Rattle.ub_table.specs.declared.schema.Schema.{Schema}
use Rattle.ub_writing.specs.Marks.{HasMark}

-- three pages, of which the first marks the table as changed, and the second spells an empty region, and tells of it
pub record IsLaidOut (schema : Schema) (pages : List (List ℕ)) : Type 0 where
  pub count : length pages ≡ 3
  pub marked : HasMark schema pages
  pub spelled : slice_get pages 1 ≡ Some (region_page schema only_region)
  pub reads_back : region_on schema (region_page schema only_region) ≡ only_region

-- of a creation that was refused: nothing stands in the store but the first page, or that marks the table as changed
abbrev pub IsUncreated : Schema → StoreFacts → Type 0
IsUncreated schema new = (page_count new ≤ 1) ⊎ HasMark schema new.pages

-- why the first pages aren't written: for want of memory, or the store failed in this call, which it then can
abbrev pub IsLayoutFault : StoreFacts → StoreFault → Type 0
IsLayoutFault old Memory = Unit {0}
IsLayoutFault old Device = IsTrue old.can_fail
IsLayoutFault old _ = ⊥
