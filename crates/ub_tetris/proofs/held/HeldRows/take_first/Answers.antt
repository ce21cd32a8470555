use Rattle.std.proofs.Common.{List, Some, subst, sym}
use Rattle.std.specs.BinaryHeap.{heap_items}
use Rattle.ub_tetris.proofs.HeldFacts.{first_taken}
use Rattle.ub_tetris.specs.Held.{HeldRow}
use Rattle.ub_tetris.specs.declared.place.Held.{Held}
use Rattle.ub_tetris.specs.inner.Kept.{TakesFirst, held_of}
use Rattle.ub_tetris.proofs.held.HeldRows.take_first.Goals as goal

pub returns : goal.returns
returns c =
    subst (λ (h : Held). TakesFirst c.args.self.now (held_of (heap_items c.pop.new.self)) (Some h.row)) (sym c.deref.ensures)
    (subst (λ (held : List HeldRow). TakesFirst held (held_of (heap_items c.pop.new.self)) (Some c.in_ok-held.field-0.held.value.row)) c.self.view_is
    (first_taken (heap_items c.self.inside.heap) (heap_items c.pop.new.self) c.in_ok-held.field-0 c.in_ok-held.ensures.permutation (c.in_ok-held.ensures.below_top c.self.invariant)))

pub invariant_of-self-2 : goal.invariant_of-self-2
invariant_of-self-2 c =
    (c.in_ok-held.ensures.heap_order c.self.invariant).0
