use Rattle.std.proofs.Common.{◌≡◌, ◌+◌}
use Rattle.ub_bigmin.specs.Jumps.{AreNeeds}
use Rattle.ub_bigmin.proofs.words.find_needs.Given as goal

abbrev pub invariant-loop-j : goal.invariant-loop-j
invariant-loop-j l = AreNeeds l.zbox l.point l.j l.needs.highest l.needs.dimension l.needs.next × (l.turns ≡ l.initial.turns + l.j)
