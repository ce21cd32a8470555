use Rattle.std.proofs.Common.{◌≤◌, ◌-◌, length, take}
use Rattle.ub_script.specs.Output.{Puts}
use Rattle.ub_script.proofs.output.put_all.Given as goal

abbrev pub invariant-loop-at : goal.invariant-loop-at
invariant-loop-at g l = record {
  within : l.at ≤ length l.bytes;
  put : Puts (take l.at l.bytes) (g.W.Out.facts l.initial.out) (g.W.Out.facts l.out);
}

abbrev pub decreases-loop-at : goal.decreases-loop-at
decreases-loop-at g l = length l.bytes - l.at
