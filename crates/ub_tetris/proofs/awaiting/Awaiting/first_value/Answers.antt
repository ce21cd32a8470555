use Rattle.std.proofs.Common.{Some, subst}
use Rattle.std.specs.BinaryHeap.{heap_items}
use Rattle.ub_tetris.proofs.EventFacts.{first_is}
use Rattle.ub_tetris.specs.inner.Events.{Ahead, IsValueOfFirst}
use Rattle.ub_tetris.proofs.awaiting.Awaiting.first_value.Goals as goal

pub returns : goal.returns
returns c =
    subst (λ (v : Ahead). IsValueOfFirst v (Some c.in_ok-first.first.now.value)) c.self.view_is
    (first_is c.self.inside.course (heap_items c.self.inside.heap) c.in_ok-first.first.now c.in_ok-first.ensures.item.3.0 c.in_ok-first.ensures.lookup
    (c.in_ok-first.ensures.greatest c.self.invariant.heap) c.self.invariant)
