-- The values so far.
use Rattle.std.proofs.Common.{◌≡◌, take}
use Rattle.ub_query.specs.Groups.{values_of}
use Rattle.ub_answer.proofs.groups.values_of.Given as goal

abbrev pub invariant-loop-column : goal.invariant-loop-column
invariant-loop-column l = l.all.items ≡ values_of l.schema (take l.column-index l.columns) l.row
