use Rattle.std.proofs.Common.{◌≡◌, ◌<◌, ℕ, length, slice_index, max}
use Rattle.ub_bigmin.proofs.event.join.Given as goal

abbrev pub invariant-loop-i : goal.invariant-loop-i
invariant-loop-i l = (length l.values ≡ 4) × ((j : ℕ) → j < l.i → slice_index l.values j ≡ max (slice_index l.p j) (slice_index l.q j))
