use Rattle.std.proofs.Common.{◌↔◌, IsTrue}
use Rattle.ub_region.proofs.KeysFacts.{AreBefore}
use Rattle.ub_region.proofs.order.are_ascending_in.Given as goal
use Rattle.ub_region.specs.Columns.{key_in}

abbrev pub invariant-loop-i : goal.invariant-loop-i
invariant-loop-i g l = IsTrue l.ascending ↔ AreBefore (key_in g.row.D l.numbers l.dims) l.i
