use Rattle.std.proofs.Common.{◌≡◌, reverse, length}
use Rattle.ub_load.specs.Field as spec
use Rattle.ub_load.proofs.field.before_spaces.Given as goal

abbrev pub invariant-loop-last : goal.invariant-loop-last
invariant-loop-last l = reverse (spec.after_spaces (reverse l.rest)) ≡ reverse (spec.after_spaces (reverse l.field))

abbrev pub decreases-loop-last : goal.decreases-loop-last
decreases-loop-last l = length l.rest
