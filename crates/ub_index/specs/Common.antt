-- What the definitions of this crate take from elsewhere, and what they stand on.
pub use Rattle.std.specs.List.{AllByRecursion}
pub use Rattle.ub_bigmin.specs.Box.{Corners, HoldsAny}
pub use Rattle.ub_bigmin.specs.Extremes.{LeastFrom}
pub use Rattle.ub_page.specs.Index.{head_on, IsIndexKind, node_on}
pub use Rattle.ub_region.specs.Spans.{end_before}
pub use Rattle.ub_region.specs.Those.{AreThose, FirstBy}
pub use Rattle.ub_region.specs.declared.entry.Entry.{Entry}
pub use Rattle.ub_region.specs.declared.region.Region.{Region}
pub use Rattle.ub_store.specs.Cache.{NoneMoreBut, page_at}
pub use Rattle.ub_store.specs.Facts.{IsHonest, IsPage, page_count, raised, StoreFacts, WritesAt, zero_page}
pub use Rattle.ub_store.specs.View.{Holds, IsCached, PagerView, SameTrace}
pub use Rattle.ub_store.specs.declared.fault.StoreFault.{StoreFault}
pub use Rattle.ub_table.specs.Keys.{are_ascending, IsBefore, origin, precedes}
pub use Rattle.ub_table.specs.declared.fault.PageFault.{PageFault}
pub use Rattle.ub_table.specs.declared.row.Key.{Key}
pub use Rattle.ub_index.specs.Fitting.{FallsTo, FitsAtEnds, IsNotTaken, IsUnfit}
pub use Rattle.ub_index.specs.Index.{AscendTo, entries_of, first_or, Fits, IsIndexPage, IsUnder, NamesFitting, page_in, pages_under, top, under}
pub use Rattle.ub_index.specs.Sinks.{TakesThese}
pub use Rattle.ub_index.specs.declared.descent.Leaf.{Leaf}
pub use Rattle.ub_index.specs.declared.fault.IndexFault.{IndexFault}
pub use Rattle.ub_index.specs.declared.fault.IndexFault.TheVariants.{Full, Page, Store}
unfoldable pub use Rattle.std.specs.List.{IsDistinct}
unfoldable pub use Rattle.ub_page.specs.Index.{index_page}
