-- The spans of a UB-tree's regions (Bayer 1997), and which regions a search asks for, as crates below the tree have them.
pub use Rattle.ub_index.specs.Spans.{ArePlaces, First, IsLater, Meets, first_keys, regions_of}
pub use Rattle.ub_region.specs.declared.region.Region.{Region}
