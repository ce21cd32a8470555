use Rattle.std.proofs.Common.{◌≡◌, length}
use Rattle.ub_load.specs.Field as spec
use Rattle.ub_load.proofs.field.after_spaces.Given as goal

abbrev pub invariant-loop-first : goal.invariant-loop-first
invariant-loop-first l = spec.after_spaces l.rest ≡ spec.after_spaces l.field

abbrev pub decreases-loop-first : goal.decreases-loop-first
decreases-loop-first l = length l.rest
