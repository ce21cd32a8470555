use Rattle.std.proofs.Common.{List, Some, subst, sym}
use Rattle.std.specs.BinaryHeap.{heap_items}
use Rattle.ub_tetris.proofs.HeldFacts.{first_is}
use Rattle.ub_tetris.specs.Held.{HeldRow}
use Rattle.ub_tetris.specs.declared.place.Held.{Held}
use Rattle.ub_tetris.specs.inner.Kept.{IsFirstOf}
use Rattle.ub_tetris.proofs.held.HeldRows.first.Goals as goal

pub returns : goal.returns
returns c =
    subst (λ (h : Held). IsFirstOf c.args.self.now (Some h.row)) (sym c.deref.ensures)
    (subst (λ (held : List HeldRow). IsFirstOf held (Some c.in_ok-first.first.now.held.value.row)) c.self.view_is
    (first_is (heap_items c.self.inside.heap) c.in_ok-first.first.now c.in_ok-first.ensures.item.3.0 c.in_ok-first.ensures.lookup (c.in_ok-first.ensures.greatest c.self.invariant)))
