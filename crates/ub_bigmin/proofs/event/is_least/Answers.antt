-- What is at most the corner's coordinate is at most each point's.
use Rattle.std.proofs.Common.{◌≤◌, slice_index, arith}
use Rattle.std.proofs.lemmas.Bool.{leb-true}
use Rattle.ub_bigmin.proofs.PartFacts.{start_under}
use Rattle.ub_bigmin.proofs.event.is_least.Goals as goal

pub returns-in-Some : goal.returns-in-Some
returns-in-Some c = λ yes.
    let le : c.in-Some.least ≤ slice_index c.values.result.now c.args.dim = leb-true _ _ yes in
    let long = c.start_at.ensures.length in
    rw c.in-Some.is
    (start_under _ c.args.zbox.now c.start_at.ensures.corners c.args.z c.args.free _ c.start_at.ensures.start c.args.dim c.in-Some.least (let dim = c.requires.dim in omega arith) (rw c.values.ensures.values at le))
