-- What the definitions of this crate take from elsewhere, and what they stand on.
pub use Rattle.ub_answer.specs.Shaped.{IsShaped}
pub use Rattle.ub_query.specs.Groups.{is_selected, selected}
pub use Rattle.ub_query.specs.Meaning.{IsMeaning}
pub use Rattle.ub_query.specs.Shape.{Asked}
pub use Rattle.ub_query.specs.declared.cell.Cell.{Cell}
pub use Rattle.ub_tetris.specs.Awaited.{AreInOrder, AreStretchesOf, AreValued, AwaitedRegion, AwaitedStretch, IsWholeAwaited, lowest, times_held}
pub use Rattle.ub_tetris.specs.Common.{Contains, Failed, filter, HasNoted, IsInOrder, IsPermutation, IsTakenIn, plan_of, PlanView, ReadFault, Sweep}
pub use Rattle.ub_tetris.specs.Common.{whole_of}
pub use Rattle.ub_tetris.specs.Sweep.{HasBegun, IsStarted, IsSweepOf, SweepView}
pub use Rattle.ub_tree.specs.Common.{AllByRecursion, AreRegions, AreTableRows, AreThose, Corners, First, HoldsAny, IsLater, IsSound, KeepsTrace}
pub use Rattle.ub_tree.specs.Common.{KeepsUnless, Key, key_of, keys_of, Meets, Placed, raised, Region, RegionRows, regions, regions_in, remove, Row}
pub use Rattle.ub_tree.specs.Common.{rows_of, Schema, spans_of, TreeView, without_number}
pub use Rattle.ub_tree.specs.Reading.{fault_of_tree, ReadsTree}
pub use Rattle.ub_tree.specs.declared.read_fault.ReadFault.TheVariants.{Memory, Tree}
