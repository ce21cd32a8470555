use Rattle.ub_bigmin.specs.Around.{IsAround}
use Rattle.ub_bigmin.proofs.search.find_neighbours.Given as goal

abbrev pub invariant-loop-place : goal.invariant-loop-place
invariant-loop-place l = IsAround l.zbox l.z l.place l.search.low l.search.high l.search.below l.search.above
