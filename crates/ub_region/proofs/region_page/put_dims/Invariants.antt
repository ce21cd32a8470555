use Rattle.std.proofs.Common.{◌≡◌, ◌+◌, ◌*◌, ◌++◌, length}
use Rattle.ub_region.specs.Columns.{dims_in}
use Rattle.ub_region.proofs.region_page.put_dims.Given as goal

abbrev pub invariant-loop-dim : goal.invariant-loop-dim
invariant-loop-dim l = record {
  bytes : l.draft ≡ l.initial.draft ++ dims_in l.columns l.dim l.count;
  len : length l.draft ≡ length l.initial.draft + 4 * (l.count * l.dim);
}
