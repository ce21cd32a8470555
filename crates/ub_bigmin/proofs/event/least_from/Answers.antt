-- Along the edge of the part, the first address from z on.
use Rattle.std.proofs.Common.{◌<◌, ◌≤◌, length, arith, None, Some}
use Rattle.ub_bigmin.proofs.PointFacts.{IsAtMost-refl}
use Rattle.ub_bigmin.proofs.EdgeFacts.{least_part, least_edge_none, least_edge, held_within}
use Rattle.ub_bigmin.proofs.event.least_from.Goals as goal

pub returns-in_err-nearest : goal.returns-in_err-nearest
returns-in_err-nearest c =
    let part = c.in_ok-part.ensures in
    let room : c.args.dim < length c.in_ok-part.part.lo = let long = part.0 in let dim = c.requires.dim in omega arith in
    rw c.from_residual-in_err-nearest.ensures
    (least_part c.args.zbox.now c.in_ok-part.part c.args.z c.args.free c.args.dim (λ a. c.args.z ≤ a) part None
    (least_edge_none c.shape-shape.result c.in_ok-part.part c.shape-shape.ensures.corners c.args.dim c.args.z room c.upper_edge.result c.upper_edge.ensures.lo c.upper_edge.ensures.hi c.in_err-nearest.ensures))

pub point_at-requires : goal.point_at-requires
point_at-requires c =
    held_within c.shape-shape.result c.in_ok-part.part c.upper_edge.result _ c.shape-shape.ensures.corners (rw c.upper_edge.ensures.hi (IsAtMost-refl _)) c.in_ok-nearest.ensures.0

pub returns : goal.returns
returns c =
    let part = c.in_ok-part.ensures in
    let room : c.args.dim < length c.in_ok-part.part.lo = let long = part.0 in let dim = c.requires.dim in omega arith in
    rw c.values.ensures.values
    (least_part c.args.zbox.now c.in_ok-part.part c.args.z c.args.free c.args.dim (λ a. c.args.z ≤ a) part (Some _)
    (least_edge c.shape-shape.result c.in_ok-part.part c.shape-shape.ensures.corners c.args.dim c.args.z room c.upper_edge.result c.upper_edge.ensures.lo c.upper_edge.ensures.hi
    c.in_ok-nearest.nearest c.in_ok-nearest.ensures c.point_at.result c.point_at.ensures.point c.point_at.ensures.address))
