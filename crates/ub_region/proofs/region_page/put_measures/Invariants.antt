use Rattle.std.proofs.Common.{◌≡◌, ◌+◌, ◌*◌, ◌++◌, length}
use Rattle.ub_region.specs.Columns.{measures_in}
use Rattle.ub_region.proofs.region_page.put_measures.Given as goal

abbrev pub invariant-loop-measure : goal.invariant-loop-measure
invariant-loop-measure l = record {
  bytes : l.draft ≡ l.initial.draft ++ measures_in l.columns l.measure l.count;
  len : length l.draft ≡ length l.initial.draft + 8 * (l.count * l.measure);
}
