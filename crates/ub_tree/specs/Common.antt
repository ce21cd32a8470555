-- What the definitions of this crate take from elsewhere, and what they stand on.
pub use Rattle.ub_index.specs.Common.{AllByRecursion, AreThose, Corners, Entry, HoldsAny, IsBefore, IsHonest, IsIndexPage, IsNotTaken, IsPage}
pub use Rattle.ub_index.specs.Common.{IsUnfit, Key, LeastFrom, NamesFitting, origin, page_count, PageFault, PagerView, pages_under, raised, SameTrace}
pub use Rattle.ub_index.specs.Common.{StoreFacts, StoreFault, top}
pub use Rattle.ub_index.specs.Held.{AreChecked, KeepsChecked}
pub use Rattle.ub_index.specs.Searching.{Gives, GivesAfter, GivesAny, IsSought, key_before}
pub use Rattle.ub_index.specs.Standing.{IsOutside}
pub use Rattle.ub_index.specs.View.{entries_in, entries_under, entry_at, index_view, IndexView, IsIndexOn, IsNextRegion, IsPreviousRegion, IsRegionAt}
pub use Rattle.ub_index.specs.View.{Stops}
pub use Rattle.ub_index.specs.Way.{HoldsKey}
pub use Rattle.ub_index_change.specs.Lowering.{IsDropFault, IsDropped}
pub use Rattle.ub_index_change.specs.Preparing.{added_at, ChangeView, HasFullWay, IsPrepared, IsWithinRegion, MakesIndex, NeedsPages, TakesNeeded}
pub use Rattle.ub_page.specs.Header.{header_page, header_page_of, IsHeader, IsHeaderFault, IsOldHeader, IsOldHeaderFault}
pub use Rattle.ub_page.specs.declared.header.Header.{Header}
pub use Rattle.ub_page.specs.declared.header.OldHeader.{OldHeader}
pub use Rattle.ub_page.specs.declared.header.TheConstants.{MAX_LEVEL}
pub use Rattle.ub_region.specs.RegionPage.{RegionView}
pub use Rattle.ub_region.specs.Regions.{AreRegions, AreTableRows, index_holding, IsFree, remove, rows_of, settle, split_region, without_number}
pub use Rattle.ub_region.specs.Rows.{Halves, has_key, insert_row, remove_row, split}
pub use Rattle.ub_store.specs.View.{Notes, untouched}
pub use Rattle.ub_store.specs.Writing.{Grows}
pub use Rattle.ub_store.specs.declared.fault.Rejected.{Rejected}
pub use Rattle.ub_table.specs.Region.{IsRegion, key_of, keys_of, RegionRows}
pub use Rattle.ub_table.specs.declared.fault.PageFault.TheVariants.{BadCount, BadOrder, Unclean}
pub use Rattle.ub_table.specs.declared.row.Row.{Row}
pub use Rattle.ub_table.specs.declared.row.TheConstants.{MAX_ROW_NUMBER}
pub use Rattle.ub_table.specs.declared.schema.Schema.{Schema}
pub use Rattle.ub_upgrade.specs.Bringing.{directory_of, HasOldHeader}
pub use Rattle.ub_upgrade.specs.Reading.{AreBelow, IsAskedFor, IsDirectory, IsNamed, IsRefused}
pub use Rattle.ub_writing.specs.Creation.{IsLaidOut, IsUncreated}
pub use Rattle.ub_writing.specs.Marks.{HasMark, IsMarkOf, KeepsUnless}
pub use Rattle.ub_zaddr.specs.Address.{last_address}
pub use Rattle.ub_tree.specs.Grown.{IsOnlyGrown}
pub use Rattle.ub_tree.specs.Indexed.{HasIndex, reserved}
pub use Rattle.ub_tree.specs.Placed.{ArePlaced, entry_of, Placed, placed_of, regions_in}
pub use Rattle.ub_tree.specs.Spans.{First, first_keys, IsLater, Meets, Region}
pub use Rattle.ub_tree.specs.Stored.{AreSoundPages, index_of}
pub use Rattle.ub_tree.specs.View.{IsSound, KeepsTrace, level_count, region_count, regions, spans_of, tree_rows, TreeView}
pub use Rattle.ub_tree.specs.declared.fault.TreeFault.{TreeFault}
pub use Rattle.ub_tree.specs.declared.fault.TreeFault.TheVariants.{Failed, Full, Memory, Page, Store}
pub use Rattle.ub_tree.specs.declared.read_fault.ReadFault.{ReadFault}
pub use Rattle.ub_tree.specs.declared.read_fault.ReadFault.TheVariants.{Tree}
unfoldable pub use Rattle.ub_region.specs.RegionPage.{region_page}
