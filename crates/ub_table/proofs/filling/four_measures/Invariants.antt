use Rattle.std.proofs.Common.{FitsSigned, ◌≡◌, ◌-◌, ◌++◌, pos, replicate, take}
use Rattle.std.specs.Int.{w64}
use Rattle.std.specs.List.{AllByRecursion}
use Rattle.ub_table.proofs.filling.four_measures.Given as goal

abbrev pub invariant-loop-i : goal.invariant-loop-i
invariant-loop-i l = (l.all ≡ take l.i l.measures ++ replicate (4 - l.i) (pos 0)) × AllByRecursion (λ x. FitsSigned w64 x) (take l.i l.measures)
