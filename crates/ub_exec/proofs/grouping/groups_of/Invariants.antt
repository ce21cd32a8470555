use Rattle.std.proofs.Common.{take}
use Rattle.ub_answer.specs.Gathered.{IsGathered}
use Rattle.ub_query.specs.Shape.{asked}
use Rattle.ub_exec.proofs.grouping.groups_of.Given as goal

abbrev pub invariant-loop-row : goal.invariant-loop-row
invariant-loop-row l = IsGathered l.schema (asked l.query) (take l.row-index l.rows) l.gathering
