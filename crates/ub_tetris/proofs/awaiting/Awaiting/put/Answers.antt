use Rattle.std.proofs.Common.{◌≡◌, ◌∙◌, List, ap, sym, ◌∷◌, subst}
use Rattle.std.specs.BinaryHeap.{heap_items}
use Rattle.std.specs.List.Sorted.{IsPermutation}
use Rattle.ub_tetris.proofs.EventFacts.{more_awaited}
use Rattle.ub_tetris.specs.inner.Events.{AreHeaped, ahead_on, Ahead, awaited_of, seen}
use Rattle.ub_query.proofs.Laws.{all_permutation}
use Rattle.ub_tetris.proofs.StepsFacts.{on_err}
use Rattle.ub_tetris.proofs.TurnFacts.{refused_none}
use Rattle.ub_tetris.specs.declared.event.Awaited.{Awaited}
use Rattle.ub_tetris.proofs.awaiting.Awaiting.put.Goals as goal

pub returns-clause-ok : goal.returns-clause-ok
returns-clause-ok c =
    subst (λ (v : Ahead). IsPermutation (seen c.args.awaited ∷ v.stretches) (awaited_of (heap_items c.push.new.self))) c.self.view_is
    (more_awaited (heap_items c.self.inside.heap) (heap_items c.push.new.self) c.args.awaited c.in_ok-push.ensures.permutation)

pub invariant_of-self : goal.invariant_of-self
invariant_of-self c =
    subst (λ (items : List Awaited). AreHeaped c.self.inside.course items) (sym c.in_err-push.ensures.unchanged.0) c.self.invariant

pub returns-in_err-push-clause-ok : goal.returns-in_err-push-clause-ok
returns-in_err-push-clause-ok c =
    refused_none _ c.from_residual.result _ c.from_residual.ensures.1

pub returns-in_err-push-clause-course : goal.returns-in_err-push-clause-course
returns-in_err-push-clause-course c =
    ap (λ (v : Ahead). record v { stretches = awaited_of (heap_items c.push.new.self) }) c.self.view_is

pub returns-in_err-push-clause-err : goal.returns-in_err-push-clause-err
returns-in_err-push-clause-err c =
    on_err c.from_residual.result _ (ap (λ (items : List Awaited). ahead_on c.self.inside.course (awaited_of items)) c.in_err-push.ensures.unchanged.0 ∙ c.self.view_is)

pub invariant_of-self-2 : goal.invariant_of-self-2
invariant_of-self-2 c =
    record {
      heap = c.in_ok-push.ensures.heap_order c.self.invariant.heap;
      along = all_permutation (λ (a : Awaited). a.is_descending ≡ c.self.inside.course.is_descending) (c.args.awaited ∷ heap_items c.self.inside.heap) (heap_items c.push.new.self) c.in_ok-push.ensures.permutation
          (c.requires ∙ sym (ap (λ (v : Ahead). v.is_descending) c.self.view_is), c.self.invariant.along);
    }

pub returns-clause-course : goal.returns-clause-course
returns-clause-course c =
    ap (λ (v : Ahead). record v { stretches = awaited_of (heap_items c.push.new.self) }) c.self.view_is

pub returns-clause-err : goal.returns-clause-err
returns-clause-err c =
    tt
