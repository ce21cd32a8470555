use Rattle.std.proofs.Common.{◌≡◌, map, take, Some}
use Rattle.ub_next.specs.Next.{number_in}
use Rattle.ub_next.proofs.next.point_of.Given as goal

abbrev pub invariant-loop-piece : goal.invariant-loop-piece
invariant-loop-piece l = map (λ x. number_in 32 x.now) (take l.piece-index l.piece-items) ≡ map Some l.values.items
