-- The cells so far, and those that are left as they were.
use Rattle.std.proofs.Common.{◌≡◌, ◌<◌, ◌≤◌, ℕ, length, slice_index_or}
use Rattle.ub_answer.specs.inner.Tally.{with_row, IsNarrow}
use Rattle.ub_query.specs.declared.cell.Cell.{Cell}
use Rattle.ub_query.specs.declared.query.Item.{Item}
use Rattle.ub_answer.proofs.tally.add_row.Given as goal

abbrev pub invariant-loop-place : goal.invariant-loop-place
invariant-loop-place l = record {
  done : (k : ℕ) (d : Item) (e : Cell) → k < l.place
      → slice_index_or l.tally k e ≡ with_row l.schema l.row (slice_index_or l.items k d) (slice_index_or l.initial.tally k e);
  rest : (k : ℕ) (e : Cell) → l.place ≤ k → slice_index_or l.tally k e ≡ slice_index_or l.initial.tally k e;
  long : length l.tally ≡ 8;
  narrow : (k : ℕ) (d : Item) → k < l.place → IsNarrow l.schema l.row (slice_index_or l.items k d);
}
