use Rattle.std.proofs.Common.{◌≡◌, take}
use Rattle.ub_answer.specs.inner.Tally.{IsWithin}
use Rattle.ub_query.specs.Cells.{total}
use Rattle.ub_answer.proofs.part.total.Given as goal

abbrev pub invariant-loop-value : goal.invariant-loop-value
invariant-loop-value l = record {
  is : l.sum ≡ total (take l.value-index l.values);
  within : IsWithin l.value-index l.sum;
}
