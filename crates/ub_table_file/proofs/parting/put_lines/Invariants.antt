use Rattle.std.proofs.Common.{◌-◌, length}
use Rattle.ub_table_file.proofs.PartingFacts.{IsParted}
use Rattle.ub_table_file.proofs.parting.put_lines.Given as goal

abbrev pub invariant-loop-at : goal.invariant-loop-at
invariant-loop-at g l = IsParted l.are_notes l.text l.from l.at (g.W.Out.facts l.initial.out) (g.W.Out.facts l.out)

abbrev pub decreases-loop-at : goal.decreases-loop-at
decreases-loop-at g l = length l.text - l.at
