-- Regions on pages that follow each other, and what is laid behind the pages of a store.
use Rattle.std.specs.Prelude.{◌≡◌, ◌≤◌, ◌+◌, ◌*◌, ℕ, suc, List, [], ◌∷◌, ◌++◌, Some, Result, IfOk, OnOk, length, map, slice_get}
use Rattle.std.specs.List.{AllByRecursion}
use Rattle.ub_laying.specs.Effects.{Adds}
use Rattle.ub_laying.specs.Levels.{IsIndexOf, IsRoot}
use Rattle.ub_laying.specs.declared.levels.Root.{Root}
use Rattle.ub_region.specs.RegionPage.{region_page}
use Rattle.ub_region.specs.Regions.{firsts_of}
use Rattle.ub_region.specs.declared.entry.Entry.{Entry}
use Rattle.ub_store.specs.Facts.{IsHonest, page_count}
use Rattle.ub_store.specs.View.{PagerView}
use Rattle.ub_store.specs.declared.fault.StoreFault.{StoreFault}
use Rattle.ub_table.specs.Keys.{AreKeysAscending, origin}
use Rattle.ub_table.specs.Region.{RegionRows, IsRegion}
use Rattle.ub_table.specs.declared.row.Key.{Key}
use Rattle.ub_table.specs.declared.schema.Schema.{Schema}
use Rattle.ub_zaddr.specs.Address.{last_address}

-- the entries of regions that begin with these keys, on pages that follow each other from this number on
abbrev pub entries_from : ℕ → List Key → List Entry
entries_from n [] = []
entries_from n (first ∷ firsts) = record { first = first; page = n } ∷ entries_from (suc n) firsts

-- regions that can be laid: they are of this schema, the first one begins with the least key of all, and each after the one before it
pub record CanBeLaid (schema : Schema) (regions : List RegionRows) : Type 0 where
  pub begins : slice_get (firsts_of regions) 0 ≡ Some origin
  pub ascending : AreKeysAscending (firsts_of regions)
  pub each : AllByRecursion (IsRegion schema) regions

-- the pages of these regions stand behind those that there were, in their order, and behind them an index of theirs, with this root
pub record AreLaid (schema : Schema) (regions : List RegionRows) (old new : List (List ℕ)) (root : Root) : Type 0 where
  pub pages : (index : List (List ℕ)) × (new ≡ (old ++ map (region_page schema) regions) ++ index)
  pub indexed : IsIndexOf (last_address schema.dims) new (length old + length regions) (length new) root (entries_from (length old) (firsts_of regions))

-- how many pages so many regions take at most: one each, and those of their index, which are no more than the regions
abbrev pub most_laid : ℕ → ℕ
most_laid regions = 2 * regions

-- these regions were to be laid behind the pages of a store, and this was answered
pub record LaysRegions (schema : Schema) (regions : List RegionRows) (old new : PagerView) (result : Result Root StoreFault) : Type 0 where
  pub laid : IsHonest old.store → IfOk result (AreLaid schema regions old.store.pages new.store.pages)
  pub root : IfOk result (IsRoot (page_count new.store))
  pub count : OnOk result (page_count new.store ≤ page_count old.store + most_laid (length regions))
  pub effect : Adds (most_laid (length regions)) old new result
