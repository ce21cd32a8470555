-- The keys so far decide nothing.
use Rattle.std.proofs.Common.{◌≡◌, drop}
use Rattle.ub_answer.specs.inner.Compare.{row_cmp}
use Rattle.ub_answer.proofs.order.compare_rows.Given as goal

abbrev pub invariant-loop-key : goal.invariant-loop-key
invariant-loop-key l = row_cmp l.schema (drop l.key-index l.keys) l.a l.b ≡ row_cmp l.schema l.keys l.a l.b
