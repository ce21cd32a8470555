use Rattle.std.proofs.Common.{◌-◌, length}
use Rattle.ub_table_file.proofs.PartingFacts.{IsUnended}
use Rattle.ub_table_file.proofs.parting.line_length.Given as goal

abbrev pub invariant-loop-at : goal.invariant-loop-at
invariant-loop-at l = IsUnended l.text l.at

abbrev pub decreases-loop-at : goal.decreases-loop-at
decreases-loop-at l = length l.text - l.at
