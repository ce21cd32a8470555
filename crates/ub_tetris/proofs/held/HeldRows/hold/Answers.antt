use Rattle.std.proofs.Common.{◌∷◌, ◌∙◌, List, ap, subst, sym}
use Rattle.std.specs.BinaryHeap.{IsHeap, heap_items}
use Rattle.std.specs.List.Sorted.{IsPermutation}
use Rattle.ub_tetris.proofs.HeldFacts.{held_more}
use Rattle.ub_tetris.proofs.StepsFacts.{on_err}
use Rattle.ub_tetris.proofs.TurnFacts.{refused_none}
use Rattle.ub_tetris.specs.Held.{HeldRow, held_row}
use Rattle.ub_tetris.specs.declared.ranked.Ranked.{Ranked}
use Rattle.ub_tetris.specs.inner.Kept.{held_cmp, held_of, seen_row}
use Rattle.ub_tetris.proofs.held.HeldRows.hold.Goals as goal

pub returns-clause-ok : goal.returns-clause-ok
returns-clause-ok c =
    subst (λ (held : List HeldRow). IsPermutation (held_row c.args.schema.now c.args.keys.now c.args.row.now ∷ held) (held_of (heap_items c.push.new.self))) c.self.view_is
    (held_more c.new.result (heap_items c.self.inside.heap) (heap_items c.push.new.self) c.args.schema.now c.args.keys.now c.args.row.now c.in_ok-push.ensures.permutation
    (ap (λ (b : _). seen_row b.value) c.new.ensures ∙ c.in_ok-fill.ensures))

pub fill-requires : goal.fill-requires
fill-requires c = c.requires

pub invariant_of-self : goal.invariant_of-self
invariant_of-self c = c.self.invariant

pub returns-in_err-held-clause-ok : goal.returns-in_err-held-clause-ok
returns-in_err-held-clause-ok c = refused_none _ c.from_residual.result _ c.from_residual.ensures.1

pub returns-in_err-held-clause-err : goal.returns-in_err-held-clause-err
returns-in_err-held-clause-err c = on_err c.from_residual.result _ c.self.view_is

pub invariant_of-self-in_err-fill : goal.invariant_of-self-in_err-fill
invariant_of-self-in_err-fill c = c.self.invariant

pub returns-in_err-fill-clause-ok : goal.returns-in_err-fill-clause-ok
returns-in_err-fill-clause-ok c = refused_none _ c.from_residual-in_err-fill.result _ c.from_residual-in_err-fill.ensures.1

pub returns-in_err-fill-clause-err : goal.returns-in_err-fill-clause-err
returns-in_err-fill-clause-err c = on_err c.from_residual-in_err-fill.result _ c.self.view_is

pub returns-in_err-push-clause-ok : goal.returns-in_err-push-clause-ok
returns-in_err-push-clause-ok c = refused_none _ c.from_residual-in_err-push.result _ c.from_residual-in_err-push.ensures.1

pub invariant_of-self-in_err-push : goal.invariant_of-self-in_err-push
invariant_of-self-in_err-push c = subst (λ (items : List Ranked). IsHeap held_cmp items) (sym c.in_err-push.ensures.unchanged.0) c.self.invariant

pub returns-in_err-push-clause-err : goal.returns-in_err-push-clause-err
returns-in_err-push-clause-err c = on_err c.from_residual-in_err-push.result _ (ap held_of c.in_err-push.ensures.unchanged.0 ∙ c.self.view_is)

pub invariant_of-self-2 : goal.invariant_of-self-2
invariant_of-self-2 c = c.in_ok-push.ensures.heap_order c.self.invariant

pub returns-clause-err : goal.returns-clause-err
returns-clause-err c = tt
