use Rattle.std.proofs.Common.{◌<◌, ◌≢◌, ℕ, slice_get}
use Rattle.ub_table.proofs.schema.are_distinct.Given as goal

abbrev pub invariant-loop-i : goal.invariant-loop-i
invariant-loop-i l = (a b : ℕ) → a < b → b < l.i → slice_get l.columns a ≢ slice_get l.columns b
