-- What is at least the corner's coordinate is at least each point's.
use Rattle.std.proofs.Common.{◌≤◌, slice_index, arith}
use Rattle.std.proofs.lemmas.Bool.{leb-true}
use Rattle.ub_bigmin.proofs.PartFacts.{end_over}
use Rattle.ub_bigmin.proofs.event.is_greatest.Goals as goal

pub returns-in-Some : goal.returns-in-Some
returns-in-Some c = λ yes.
    let le : slice_index c.values.result.now c.args.dim ≤ c.in-Some.greatest = leb-true _ _ yes in
    let long = c.end_at.ensures.length in
    rw c.in-Some.is
    (end_over _ c.args.zbox.now c.end_at.ensures.corners c.args.z c.args.free _ c.end_at.ensures.end c.args.dim c.in-Some.greatest (let dim = c.requires.dim in omega arith) (rw c.values.ensures.values at le))
