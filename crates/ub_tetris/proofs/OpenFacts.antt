-- A stretch was to be opened: what is answered, and what is left of the tree.
use Rattle.std.proofs.Common.{◌≡◌, ◌≤◌, [], Result, Ok, Err, inl, ap}
use Rattle.std.specs.Result.{IsErrAnd}
use Rattle.ub_planning.specs.Plan.{PlanView}
use Rattle.ub_tetris.proofs.DueFacts.{opened_of}
use Rattle.ub_tetris.proofs.EffectFacts.{opened_swept, swept_by, swept_short, swept_with, unopened_swept}
use Rattle.ub_tetris.specs.Awaited.{AwaitedStretch}
use Rattle.ub_tetris.specs.Sweep.{SweepView}
use Rattle.ub_tetris.specs.inner.Turns.{AsksNext, HasComeTo, with_next}
use Rattle.ub_tree.specs.Reading.{IsGiven, read_store}
use Rattle.ub_tree.specs.Stretches.{IsOpeningFault, IsStretchOf}
use Rattle.ub_tree.specs.View.{TreeView}
use Rattle.ub_tree.specs.declared.read_fault.ReadFault.{ReadFault}
use Rattle.ub_tree.specs.declared.read_fault.ReadFault.TheVariants as read

pub opened_asks : (plan : PlanView) (t new : TreeView) (s new_s : SweepView) (next : AwaitedStretch) → 1 ≤ next.stretch.level → HasComeTo plan t new s new_s next [] → AsksNext {A = Unit {0}} plan t new s new_s next (Ok tt)
opened_asks plan t new s new_s next upper come =
    let opened = opened_of plan t new s new_s next upper come in
    record {
      asked = inl (ap (λ (v : TreeView). v.trace) opened.same);
      effect = λ first. opened_swept plan tt s new_s next t new (ap (λ (v : SweepView). v.dim) come.view_is, ap (λ (v : SweepView). v.is_descending) come.view_is) opened;
    }

pub unopened_asks : {T : Type 0} (plan : PlanView) (r : Result T ReadFault) (e : ReadFault) (s new_s : SweepView) (next : AwaitedStretch) (t new : TreeView) → 1 ≤ next.stretch.level → IsErrAnd r (λ x. x ≡ e)
    → new ≡ record t { store = read_store {A = T} (Err e) t.store } → (IsStretchOf t next.stretch → IsGiven t e) → IsOpeningFault next.stretch t e → AsksNext plan t new s new_s next r
unopened_asks plan r e s new_s next t new upper is same faults refused = record {
  asked = inl (ap (λ (v : TreeView). v.trace) same);
  effect = λ first. unopened_swept plan r e s new_s next t new upper is same faults refused;
}

-- a fault of a part of a turn, handed on
pub asks_by : {T U : Type 0} (plan : PlanView) (r : Result T ReadFault) (e : ReadFault) (s mid new_s : SweepView) (next : AwaitedStretch) (t new : TreeView) → IsErrAnd r (λ x. x ≡ e)
    → AsksNext {A = U} plan t new s mid next (Err e) → AsksNext plan t new s new_s next r
asks_by plan r e s mid new_s next t new is asks = record { asked = asks.asked; effect = λ first. swept_by plan r e (with_next s next) mid new_s t new is (asks.effect first) }

-- or memory was refused for the rows of a region that was read
pub asks_short : {T : Type 0} (plan : PlanView) (r : Result T ReadFault) (s mid new_s : SweepView) (next : AwaitedStretch) (t new : TreeView) → IsErrAnd r (λ x. x ≡ read.Memory)
    → (new_s.dim ≡ mid.dim) × (new_s.is_descending ≡ mid.is_descending) × (new_s.awaited ≡ mid.awaited) → AsksNext {A = Unit {0}} plan t new s mid next (Ok tt) → AsksNext plan t new s new_s next r
asks_short plan r s mid new_s next t new is same asks =
    record { asked = asks.asked; effect = λ first. swept_short plan tt (with_next s next) mid new_s t new same (asks.effect first) r is }

-- and else they were taken
pub asks_with : (plan : PlanView) (s mid new_s : SweepView) (next : AwaitedStretch) (t new : TreeView) → (new_s.dim ≡ mid.dim) × (new_s.is_descending ≡ mid.is_descending) × (new_s.awaited ≡ mid.awaited)
    → AsksNext {A = Unit {0}} plan t new s mid next (Ok tt) → AsksNext {A = Unit {0}} plan t new s new_s next (Ok tt)
asks_with plan s mid new_s next t new same asks = record { asked = asks.asked; effect = λ first. swept_with plan tt (with_next s next) mid new_s t new same (asks.effect first) tt }
