-- What the definitions of this crate take from elsewhere, and what they stand on.
pub use Rattle.std.specs.Cmp.{back_total, int_cmp_total, IsTotalOrder, nat_cmp_total, on_total, then_total}
pub use Rattle.std.specs.List.{All, Contains, filter, sum_by}
pub use Rattle.std.specs.List.Sorted.{IsPermutation}
pub use Rattle.std.specs.Ordering.{int_cmp, nat_cmp, ordering_then}
pub use Rattle.std.specs.declared.cmp.Ordering.{Ordering}
pub use Rattle.ub_bigmin.specs.Box.{IsValueInSpan}
pub use Rattle.ub_filter.specs.Choice.{is_chosen}
pub use Rattle.ub_filter.specs.declared.choice.Choice.{Choice}
pub use Rattle.ub_planning.specs.Plan.{plan_of, PlanView}
pub use Rattle.ub_planning.specs.Visits.{AreArranged, AreEvents, Event, is_past, IsAlong, selected_rows}
pub use Rattle.ub_planning.specs.declared.planned.Kind.TheVariants.{Sweep}
pub use Rattle.ub_query.specs.Lead.{swept_order}
pub use Rattle.ub_query.specs.declared.query.SortKey.{SortKey}
pub use Rattle.ub_table.specs.Table.{column_value, IsInOrder}
pub use Rattle.ub_tree.specs.Common.{AllByRecursion, Corners, HoldsAny, IsBefore, IsSound, KeepsTrace, Key, Meets, Placed, raised, Region, RegionRows}
pub use Rattle.ub_tree.specs.Common.{regions, regions_in, Row, Schema, spans_of, TreeView}
pub use Rattle.ub_tree.specs.Effects.{HasNoted, IsSpanFault, IsTakenIn}
pub use Rattle.ub_tree.specs.Stretches.{ArePartsOf, holds_key, IsOpeningFault, IsStretchOf, MeetsAny, Stretch, whole_of}
pub use Rattle.ub_tree.specs.declared.fault.TreeFault.TheVariants.{Failed, Memory}
pub use Rattle.ub_tree.specs.declared.read_fault.ReadFault.{ReadFault}
pub use Rattle.ub_tetris.specs.declared.event.Awaited.{Awaited}
pub use Rattle.ub_tetris.specs.declared.fault.SweepFault.{SweepFault}
pub use Rattle.ub_tetris.specs.declared.fault.SweepFault.TheVariants.{Tree}
