use Rattle.std.proofs.Common.{◌≡◌, ◌+◌}
use Rattle.ub_bigmin.proofs.NeedFacts.{IsLanded}
use Rattle.ub_bigmin.proofs.words.landing.Given as goal

abbrev pub invariant-loop-j : goal.invariant-loop-j
invariant-loop-j l = IsLanded l.zbox l.point l.jump.dimension l.jump.bit l.to l.landed l.j × (l.turns ≡ l.initial.turns + l.j)
