-- A coordinate more for each piece.
use Rattle.std.proofs.Common.{◌≤◌, ◌∙◌, length, map, Some, sym, ap, arith}
use Rattle.ub_next.proofs.NextFacts.{IsPointText-none, IsPointText-all, IsPointText-long, read_more}
use Rattle.ub_next.proofs.next.point_of.Goals as goal

pub returns-then-len-gt4-clause-bad : goal.returns-then-len-gt4-clause-bad
returns-then-len-gt4-clause-bad c =
    λ same point. IsPointText-long c.in_ok-pieces.pieces.items c.args.text.now point c.in_ok-pieces.ensures (omega (arith, c.len.ensures))

pub returns-in-None-clause-bad : goal.returns-in-None-clause-bad
returns-in-None-clause-bad c =
    λ same point. IsPointText-none c.deref-piece-items.result.now c.args.text.now point c.loop-piece.piece-index _
    (rw c.deref-piece-items.ensures.value c.in_ok-pieces.ensures) c.loop-piece-test.true c.in-None.ensures

pub loop-piece-preserved : goal.loop-piece-preserved
loop-piece-preserved c =
    read_more c.deref-piece-items.result.now c.loop-piece.piece-index _ c.loop-piece.values.items c.in-Some.value
    c.loop-piece-test.true c.in-Some.ensures c.loop-piece.invariant
    ∙ ap (map Some) (sym c.in_ok-push-in-Some.ensures.items)

pub returns-clause-point : goal.returns-clause-point
returns-clause-point c =
    let few : length c.deref-piece-items.result.now ≤ 4 = rw c.deref-piece-items.ensures.value (omega (arith, c.len.ensures)) in
    IsPointText-all c.deref-piece-items.result.now c.args.text.now c.loop-piece.values.items c.loop-piece.piece-index
    (rw c.deref-piece-items.ensures.value c.in_ok-pieces.ensures) c.loop-piece-test.false few c.loop-piece.invariant
