use Rattle.std.proofs.Common.{◌-◌, ◌≤◌, length}
use Rattle.std.specs.List.{AllPass, slice_range}
use Rattle.ub_lexer.specs.Pieces.{goes_on}
use Rattle.ub_lexer.proofs.lexer.run_end.Given as goal

abbrev pub invariant-loop-to : goal.invariant-loop-to
invariant-loop-to l = record {
  ordered : l.from ≤ l.to;
  within : l.to ≤ length l.source;
  passes : AllPass (goes_on l.run) (slice_range l.source l.from l.to);
}

abbrev pub decreases-loop-to : goal.decreases-loop-to
decreases-loop-to l = length l.source - l.to
