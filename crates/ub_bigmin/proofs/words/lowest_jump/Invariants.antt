use Rattle.std.proofs.Common.{◌≡◌, ◌+◌}
use Rattle.ub_bigmin.proofs.NeedFacts.{IsBest}
use Rattle.ub_bigmin.proofs.words.lowest_jump.Given as goal

abbrev pub invariant-loop-i : goal.invariant-loop-i
invariant-loop-i l = IsBest l.zbox l.point l.to l.i l.best × (l.turns ≡ l.initial.turns + l.i)
