use Rattle.std.proofs.Common.{Some, subst}
use Rattle.std.specs.BinaryHeap.{heap_items}
use Rattle.ub_tetris.proofs.EventFacts.{first_taken, left_heaped}
use Rattle.ub_tetris.specs.inner.Events.{Ahead, TakesNext, ahead_on, awaited_of}
use Rattle.ub_tetris.proofs.awaiting.Awaiting.take_first.Goals as goal

pub returns : goal.returns
returns c =
    subst (λ (v : Ahead). TakesNext v (ahead_on c.self.inside.course (awaited_of (heap_items c.pop.new.self))) (Some c.in_ok-next.next)) c.self.view_is
    (first_taken c.self.inside.course (heap_items c.self.inside.heap) (heap_items c.pop.new.self) c.in_ok-next.next c.in_ok-next.ensures.permutation
    (c.in_ok-next.ensures.below_top c.self.invariant.heap) c.self.invariant)

pub invariant_of-self-2 : goal.invariant_of-self-2
invariant_of-self-2 c =
    left_heaped c.self.inside.course (heap_items c.self.inside.heap) (heap_items c.pop.new.self) c.in_ok-next.next c.in_ok-next.ensures.permutation
    (c.in_ok-next.ensures.heap_order c.self.invariant.heap).0 c.self.invariant
