use Rattle.std.proofs.Common.{◌++◌, IfSome, List}
use Rattle.std.specs.List.{filter}
use Rattle.ub_tree.proofs.Laws.{Keeps, left_after}
use Rattle.ub_exec.proofs.NotedFacts.{HasReadUpTo}
use Rattle.ub_exec.proofs.RowsReadFacts.{HasRowsUpTo}
use Rattle.ub_exec.proofs.WalkFacts.{HasCome}
use Rattle.ub_exec.specs.Reading.{StandAhead}
use Rattle.ub_filter.specs.Choice.{is_chosen}
use Rattle.ub_table.specs.declared.row.Row.{Row as RowView}
use Rattle.ub_tree.specs.Told.{IsRegionOf}
use Rattle.ub_tree.specs.View.{IsSound}
use Rattle.ub_exec.proofs.walking.walk.Given as goal

abbrev pub invariant-loop-ahead : goal.invariant-loop-ahead
invariant-loop-ahead g l = record {
  kept : Keeps l.initial.tree l.tree;
  read : HasReadUpTo l.plan.covering.boxes l.initial.tree l.tree l.after;
  told : IfSome l.after (IsRegionOf l.initial.tree);
  ahead : StandAhead l.plan.covering.boxes l.initial.tree l.after l.ahead.items;
  come : (before : _) (taken : List RowView) → g.K.RowSink.HasTaken l.initial.tree.schema l.plan.asked before taken l.initial.sink
      → (rows : List RowView) × g.K.RowSink.HasTaken l.initial.tree.schema l.plan.asked before (taken ++ filter (is_chosen l.fn.choice l.initial.tree.schema l.plan) rows) l.sink
      × (HasRowsUpTo l.plan.covering.boxes l.initial.tree l.tree l.after rows
      × (IsSound l.initial.tree → HasCome l.plan.covering.boxes l.initial.tree l.tree rows l.after));
}

abbrev pub decreases-loop-ahead : goal.decreases-loop-ahead
decreases-loop-ahead g l = left_after l.initial.tree l.after
