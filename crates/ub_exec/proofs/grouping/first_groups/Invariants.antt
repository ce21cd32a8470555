use Rattle.std.proofs.Common.{◌≡◌, Ok, length}
use Rattle.ub_answer.specs.Shaped.{IsShaped}
use Rattle.ub_exec.proofs.ComeFacts.{HasComeOn, IsAtWork}
use Rattle.ub_exec.proofs.GroupTurnFacts.{HaveSwept}
use Rattle.ub_exec.specs.Answers.{begun}
use Rattle.ub_exec.specs.Reading.{NotesPages}
use Rattle.ub_exec.specs.Visits.{fetches_then}
use Rattle.ub_tetris.specs.Sweep.{rows_left}
use Rattle.ub_tree.proofs.Laws.{Keeps}
use Rattle.ub_exec.proofs.grouping.first_groups.Given as goal

abbrev pub invariant-loop-query : goal.invariant-loop-query
invariant-loop-query g l = record {
  kept : Keeps l.fn.tree l.tree;
  works : IsAtWork l.tree l.sweep;
  notes : NotesPages {A = Unit {0}} (begun l.fn.tree) l.tree (Ok tt);
  fetches : l.tree.trace.fetches ≡ fetches_then l.fn.tree.trace.fetches (length l.tree.trace.pages);
  shaped : IsShaped l.plan.asked l.groups;
  come_on : HasComeOn l.plan (begun l.fn.tree) l.tree l.sweep;
  come : HaveSwept l.plan l.fn.tree l.tree l.sweep l.groups;
}

abbrev pub decreases-loop-query : goal.decreases-loop-query
decreases-loop-query g l = rows_left l.sweep
