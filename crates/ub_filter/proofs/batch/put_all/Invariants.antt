-- The values of the rows so far.
use Rattle.std.proofs.Common.{◌≡◌, length, map, take}
use Rattle.ub_table.specs.Table.{column_value}
use Rattle.ub_table.specs.declared.row.Row.{Row}
use Rattle.ub_filter.proofs.batch.put_all.Given as goal

abbrev pub invariant-loop-place : goal.invariant-loop-place
invariant-loop-place l = record {
  long : length l.values ≡ 64;
  so_far : take l.place l.values ≡ map (λ (row : Row). column_value l.schema row l.column) (take l.place l.page.region.rows);
}
