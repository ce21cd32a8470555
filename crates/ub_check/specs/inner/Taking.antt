-- How what stands on a page that is held is taken in.
use Rattle.std.specs.Prelude.{◌≡◌, ◌<◌, ℕ, List, None, Result, IsOk, IfErr, OnOk, OnErr}
use Rattle.ub_check.specs.Standing.{IsHeldBy, IsRegionRefused}
use Rattle.ub_index.specs.declared.fault.IndexFault.{IndexFault}
use Rattle.ub_index.specs.declared.fault.IndexFault.TheVariants.{Page}
use Rattle.ub_region.specs.RegionPage.{RegionView, region_page}
use Rattle.ub_region.specs.declared.region.Region.{Region}
use Rattle.ub_store.specs.Cache.{SameBut, page_at}
use Rattle.ub_store.specs.Facts.{IsPage, page_count}
use Rattle.ub_store.specs.View.{Holds, PagerView}
use Rattle.ub_table.specs.Region.{RegionRows, IsRegion}
use Rattle.ub_table.specs.declared.fault.PageFault.{PageFault}
use Rattle.ub_table.specs.declared.schema.Schema.{Schema}

-- the page of a region is refused where that is due
abbrev pub IsRefusedAt : Schema → Region → List ℕ → IndexFault → Type 0
IsRefusedAt schema span bytes fault =
    (of_page : PageFault) × (fault ≡ Page span.page of_page) × IsRegionRefused schema span.first span.next bytes of_page

-- what stands on the page of a region is taken in with this result. The pager holds these bytes of that page: they spell what is
-- taken in, which stands where the region is due, and whatever they spell that stands there is taken in; and nothing else has
-- changed. Or the page is refused, and is held no more
pub record TakesIn {A : Type 0} (schema : Schema) (span : Region) (old new : PagerView) (page : RegionView) (result : Result A IndexFault) : Type 0 where
  pub bytes : List ℕ
  pub held : Holds old span.page bytes
  pub there : span.page < page_count old.store
  pub page_is : IsPage old.store span.page bytes
  pub dims : OnOk result (page.dims ≡ schema.dims)
  pub is : OnOk result (IsRegion schema page.region)
  pub spelled : OnOk result (bytes ≡ region_page schema page.region)
  pub stands : OnOk result (IsHeldBy schema.dims span.first span.next page.region)
  pub exact : (r : RegionRows) → IsRegion schema r → bytes ≡ region_page schema r → IsHeldBy schema.dims span.first span.next r
      → IsOk result × (page ≡ record { dims = schema.dims; region = r })
  pub refused : IfErr result (IsRefusedAt schema span bytes)
  pub kept : OnOk result (new ≡ old)
  pub gone : OnErr result (page_at new.cached span.page ≡ None)
  pub others : SameBut span.page old.cached new.cached
  pub same : new ≡ record old { cached = new.cached }
