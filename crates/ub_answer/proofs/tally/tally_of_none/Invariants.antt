-- The cells so far.
use Rattle.std.proofs.Common.{◌≡◌, ◌<◌, ℕ, length, slice_index_or}
use Rattle.ub_answer.specs.inner.Tally.{of_none}
use Rattle.ub_query.specs.declared.cell.Cell.{Cell}
use Rattle.ub_query.specs.declared.query.Item.{Item}
use Rattle.ub_answer.proofs.tally.tally_of_none.Given as goal

abbrev pub invariant-loop-place : goal.invariant-loop-place
invariant-loop-place l = record {
  cells : (k : ℕ) (d : Item) (e : Cell) → k < l.place → slice_index_or l.tally k e ≡ of_none (slice_index_or l.items k d);
  long : length l.tally ≡ 8;
}
