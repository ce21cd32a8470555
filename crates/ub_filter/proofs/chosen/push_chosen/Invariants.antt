use Rattle.std.proofs.Common.{◌++◌, List, take}
use Rattle.std.specs.List.{filter}
use Rattle.ub_filter.specs.Choice.{is_chosen}
use Rattle.ub_table.specs.declared.row.Row.{Row as RowView}
use Rattle.ub_filter.proofs.chosen.push_chosen.Given as goal

abbrev pub invariant-loop-place : goal.invariant-loop-place
invariant-loop-place g l =
    (before : _) (taken : List RowView) → g.K.RowSink.HasTaken l.schema l.plan.asked before taken l.initial.sink
    → g.K.RowSink.HasTaken l.schema l.plan.asked before (taken ++ filter (is_chosen l.fn.choice l.schema l.plan) (take l.place l.page.region.rows)) l.sink
