use Rattle.std.proofs.Common.{take}
use Rattle.ub_bigmin.specs.Box.{HoldsAny}
use Rattle.ub_bigmin.specs.Extremes.{LeastFrom}
use Rattle.ub_bigmin.proofs.several.next_in_any.Given as goal

abbrev pub invariant-loop-zbox : goal.invariant-loop-zbox
invariant-loop-zbox l = LeastFrom (HoldsAny (take l.zbox-index l.boxes)) l.z l.least
