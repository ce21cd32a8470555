use Rattle.std.proofs.Common.{rules}
use Rattle.ub_next.proofs.NextFacts.{IsPointText-some, IsNextAnswer-nearest}
use Rattle.ub_next.proofs.next.neighbours_of.Goals as goal

pub nearest-requires-clause-some : goal.nearest-requires-clause-some
nearest-requires-clause-some c =
    let low = c.in_ok-low.ensures.point in
    rw c.as_slice.ensures.value (IsPointText-some c.args.lo.now c.in_ok-low.low.items low)

pub returns : goal.returns
returns c = IsNextAnswer-nearest c.args.lo.now c.args.hi.now c.args.z.now _ _ c.nearest.result
    (record { low = search rules; high = search rules; same = search rules; number = search rules }) c.nearest.ensures
