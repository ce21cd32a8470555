-- The values of the rows so far, and those of the rows that are left.
use Rattle.std.proofs.Common.{◌≡◌, ◌+◌, ◌<◌, ◌++◌, ℕ, length, map, take}
use Rattle.std.specs.Int.{bit_at}
use Rattle.ub_filter.specs.Batch.{rows_at}
use Rattle.ub_table.specs.Table.{column_value}
use Rattle.ub_table.specs.declared.row.Row.{Row}
use Rattle.ub_filter.proofs.batch.put_at.Given as goal

abbrev pub invariant-loop-count : goal.invariant-loop-count
invariant-loop-count l = record {
  long : length l.values ≡ 64;
  placed : (i : ℕ) → bit_at l.left i ≡ 1 → i < length l.page.region.rows;
  many : l.count + length (rows_at l.left l.page.region.rows) ≡ length (rows_at l.fn.mask l.page.region.rows);
  so_far : take l.count l.values ++ map (λ (row : Row). column_value l.schema row l.column) (rows_at l.left l.page.region.rows)
      ≡ map (λ (row : Row). column_value l.schema row l.column) (rows_at l.fn.mask l.page.region.rows);
}
