use Rattle.std.proofs.Common.{◌<◌, length, take}
use Rattle.std.specs.List.{AllByRecursion}
use Rattle.ub_tetris.proofs.course.have_dimension.Given as goal

abbrev pub invariant-loop-zbox : goal.invariant-loop-zbox
invariant-loop-zbox l = AllByRecursion (λ b. l.dim < length b.lo) (take l.zbox-index l.boxes)
