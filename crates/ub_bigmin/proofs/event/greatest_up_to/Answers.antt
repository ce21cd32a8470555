-- Along the edge of the part, the last address up to z.
use Rattle.std.proofs.Common.{◌<◌, ◌≤◌, length, arith, None, Some}
use Rattle.ub_bigmin.proofs.PointFacts.{IsAtMost-set_left}
use Rattle.ub_bigmin.proofs.EdgeFacts.{greatest_part, greatest_edge_none, greatest_edge, held_within}
use Rattle.ub_bigmin.proofs.event.greatest_up_to.Goals as goal

pub returns-in_err-nearest : goal.returns-in_err-nearest
returns-in_err-nearest c =
    let part = c.in_ok-part.ensures in
    let room : c.args.dim < length c.in_ok-part.part.lo = let long = part.0 in let dim = c.requires.dim in omega arith in
    rw c.from_residual-in_err-nearest.ensures
    (greatest_part c.args.zbox.now c.in_ok-part.part c.args.z c.args.free c.args.dim (λ a. a ≤ c.args.z) part None
    (greatest_edge_none c.shape-shape.result c.in_ok-part.part c.shape-shape.ensures.corners c.args.dim c.args.z room c.lower_edge.result c.lower_edge.ensures.lo c.lower_edge.ensures.hi c.in_err-nearest.ensures))

pub point_at-requires : goal.point_at-requires
point_at-requires c =
    let part = c.in_ok-part.ensures in
    let room : c.args.dim < length c.in_ok-part.part.lo = let long = part.0 in let dim = c.requires.dim in omega arith in
    held_within c.shape-shape.result c.in_ok-part.part c.lower_edge.result _ c.shape-shape.ensures.corners
    (rw c.lower_edge.ensures.hi (IsAtMost-set_left _ _ c.args.dim _ c.shape-shape.ensures.corners.ordered room (omega arith))) c.in_ok-nearest.ensures.0

pub returns : goal.returns
returns c =
    let part = c.in_ok-part.ensures in
    let room : c.args.dim < length c.in_ok-part.part.lo = let long = part.0 in let dim = c.requires.dim in omega arith in
    rw c.values.ensures.values
    (greatest_part c.args.zbox.now c.in_ok-part.part c.args.z c.args.free c.args.dim (λ a. a ≤ c.args.z) part (Some _)
    (greatest_edge c.shape-shape.result c.in_ok-part.part c.shape-shape.ensures.corners c.args.dim c.args.z room c.lower_edge.result c.lower_edge.ensures.lo c.lower_edge.ensures.hi
    c.in_ok-nearest.nearest c.in_ok-nearest.ensures c.point_at.result c.point_at.ensures.point c.point_at.ensures.address))
