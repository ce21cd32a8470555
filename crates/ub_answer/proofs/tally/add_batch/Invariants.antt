-- The cells so far, and those that are left as they were.
use Rattle.std.proofs.Common.{◌≡◌, ◌<◌, ◌≤◌, [], ℕ, length, slice_index_or}
use Rattle.ub_answer.specs.inner.Tally.{with_part, all_of, IsSmallOf}
use Rattle.ub_query.specs.Cells.{group_cell}
use Rattle.ub_query.specs.declared.cell.Cell.{Cell}
use Rattle.ub_query.specs.declared.query.Item.{Item}
use Rattle.ub_answer.proofs.tally.add_batch.Given as goal

abbrev pub invariant-loop-place : goal.invariant-loop-place
invariant-loop-place g l = record {
  done : (k : ℕ) (d : Item) (e : Cell) → k < l.place → slice_index_or l.tally k e
      ≡ with_part (group_cell l.schema [] (all_of (g.B.RowBatch.rows l.batch)) (slice_index_or l.items k d)) (slice_index_or l.items k d)
      (slice_index_or l.initial.tally k e);
  rest : (k : ℕ) (e : Cell) → l.place ≤ k → slice_index_or l.tally k e ≡ slice_index_or l.initial.tally k e;
  long : length l.tally ≡ 8;
  small : (k : ℕ) (d : Item) → k < l.place → IsSmallOf l.schema (g.B.RowBatch.rows l.batch) (slice_index_or l.items k d);
}
