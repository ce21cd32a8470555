use Rattle.std.proofs.Common.{take}
use Rattle.ub_bigmin.specs.Box.{IsValueInSpan}
use Rattle.ub_bigmin.specs.Extremes.{Greatest}
use Rattle.ub_bigmin.proofs.several.greatest_value.Given as goal

abbrev pub invariant-loop-zbox : goal.invariant-loop-zbox
invariant-loop-zbox l = Greatest (IsValueInSpan (take l.zbox-index l.boxes) l.from l.to l.dim) l.greatest
