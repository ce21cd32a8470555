-- Pages of which a region's is spelled when it is asked for, and what contracts see of a store that has such pages.
use Rattle.std.specs.Prelude.{ℕ, suc, true, List, [], ◌∷◌, Option, Some, None, Box, get_or, map}
use Rattle.std.specs.declared.alloc.Global.{Global}
use Rattle.ub_region.specs.RegionPage.{region_page}
use Rattle.ub_store.specs.Facts.{StoreFacts, memory_facts, zero_page}
use Rattle.ub_table.specs.Region.{RegionRows}
use Rattle.ub_table.specs.declared.schema.Schema.{Schema}

-- the page of this number where these regions stand on the pages from 1 on, one after the other: zeros where none of them stands
abbrev pub spelled : Schema → List RegionRows → ℕ → List ℕ
spelled schema regions n = get_or (zero_page ∷ map (region_page schema) regions) n zero_page

-- the page that is held, or else this one
abbrev pub held_or : List ℕ → Option (Box (List ℕ) Global) → List ℕ
held_or page None = page
held_or page (Some held) = held.value

-- pages with the numbers from this one on: each is the one that is held, or else as it is spelled
abbrev pub pages_from : (ℕ → List ℕ) → ℕ → List (Option (Box (List ℕ) Global)) → List (List ℕ)
pages_from spell n [] = []
pages_from spell n (held ∷ more) = held_or (spell n) held ∷ pages_from spell (suc n) more

-- the pages of a store over regions that are lent, and how often memory was refused for a page that was to be written (a count that stays
-- at the greatest u64)
pub record GrownView : Type 0 where
  pub pages : List (List ℕ)
  pub failed : ℕ

abbrev pub grown_view : List (List ℕ) → ℕ → GrownView
grown_view pages failed = record { pages = pages; failed = failed }

-- its facts: those of a store in memory with these pages, but that each page which is written may be refused
abbrev pub grown_facts : GrownView → StoreFacts
grown_facts v = record (memory_facts v.pages) { can_fail = true; failed_writes = v.failed }
