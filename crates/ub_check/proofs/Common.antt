-- What the proofs of this crate take from elsewhere.
pub use Rattle.std.proofs.lemmas.List.{append_assoc, get_or-set_other, get_or-set_same, get_or_read_under, length-map, map-append, take_all}
pub use Rattle.std.proofs.lemmas.Option.{slice_get-get_or}
pub use Rattle.ub_index.proofs.Common.{all_append, all_left, all_more, all_right, AllByRecursion, append-nil, BadCount, before_of, before_trans, cases_eq}
pub use Rattle.ub_index.proofs.Common.{drop_all, each_right, EachTo, entries_of, Entry, first_or, flat_map, flat_map-append, get_or_from_slice_get, IsBefore}
pub use Rattle.ub_index.proofs.Common.{IsEntry, IsErrAnd, IsHonest, IsIndexFault, IsIndexKind, IsIndexPage, IsNotTaken, IsPage, IsStepFault, IsUnder, IsUnfit}
pub use Rattle.ub_index.proofs.Common.{KeepsChecked, Key, length-append, NamesFitting, node_not_refused, node_on, NoneMore, NoneMoreBut, origin, OutOfRegion}
pub use Rattle.ub_index.proofs.Common.{page_at, page_count, PageFault, PagerView, precedes, precedes_of, Region, region_of, slice_get_within, Steps}
pub use Rattle.ub_index.proofs.Common.{store_after, StoreFacts, top, under}
pub use Rattle.ub_index.proofs.HeldFacts.{keeps_but, keeps_gone, keeps_less, keeps_on}
pub use Rattle.ub_index.proofs.SearchFacts.{same_store}
pub use Rattle.ub_index.proofs.WayFacts.{named_not_refused}
pub use Rattle.ub_index.specs.Common.{SameTrace, StoreFault}
pub use Rattle.ub_index.specs.declared.fault.IndexFault.{IndexFault}
pub use Rattle.ub_index.specs.declared.fault.IndexFault.TheVariants.{Full, Page, Store}
pub use Rattle.ub_page.proofs.PageLaws.{region_parts}
pub use Rattle.ub_region.proofs.RegionFacts.{not_refused}
pub use Rattle.ub_region.specs.RegionPage.{IsRegionFault, region_on, RegionView}
pub use Rattle.ub_store.specs.Facts.{counted, Reads}
pub use Rattle.ub_table.specs.Region.{IsRegion, keys_of, RegionRows}
pub use Rattle.ub_table.specs.declared.row.Row.{Row}
pub use Rattle.ub_table.specs.declared.schema.Schema.{Schema}
pub use Rattle.ub_zaddr.specs.Address.{last_address}
pub use Rattle.ub_check.specs.Checking.{AreWell, Asked, EndsMiscounted, IsFirst, numbers_in, numbers_of, StandsHere, StopsAtRegion, StopsEach, StopsIn}
pub use Rattle.ub_check.specs.Checking.{StopsTable, TakesAll, TakesEach, TakesRegion, TakesTable}
pub use Rattle.ub_check.specs.Numbers.{AreNew, bit_of, HasJust, IsNone, numbers_view, NumbersView}
pub use Rattle.ub_check.specs.Placed.{Placed, placed_of, regions_in}
pub use Rattle.ub_check.specs.Standing.{IsRegionRefused, IsSpanFault, IsTakenIn, ReadsAt}
pub use Rattle.ub_check.specs.declared.checking.Told.{Told}
pub use Rattle.ub_check.specs.declared.walk.Walk.{Walk}
pub use Rattle.ub_check.specs.inner.Checking.{asked_by, HasTaken, IsPutTo, IsWalkedTo, IsWalkFault, TakesOn, Walks}
unfoldable pub use Rattle.ub_index.proofs.Common.{IsDistinct}
unfoldable pub use Rattle.ub_region.specs.RegionPage.{region_page}
