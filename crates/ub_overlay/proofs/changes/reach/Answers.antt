use Rattle.std.proofs.Common.{[], ◌∷◌, ◌≡◌, ◌+◌, None, length, length-append, arith, refl, ap, ◌∙◌}
use Rattle.ub_overlay.specs.Changes.{held_from}
use Rattle.ub_overlay.proofs.SlotFacts.{one_more}
use Rattle.ub_overlay.proofs.changes.reach.Goals as goal

pub loop-slots-init : goal.loop-slots-init
loop-slots-init c = record { same = refl; few = omega arith; held = refl }

pub loop-slots-smaller : goal.loop-slots-smaller
loop-slots-smaller c =
    let slots = c.loop-slots.slots.items in
    let more : length c.push.new.self.items ≡ length slots + 1 = ap length c.in_ok-push.ensures.items ∙ length-append slots (None ∷ []) in
    omega (arith, more, c.loop-slots-test.true)

pub loop-slots-preserved : goal.loop-slots-preserved
loop-slots-preserved c =
    let inv = c.loop-slots.invariant in
    let slots = c.loop-slots.slots.items in
    let more : length c.push.new.self.items ≡ length slots + 1 = ap length c.in_ok-push.ensures.items ∙ length-append slots (None ∷ []) in
    record {
      same = inv.same;
      few = omega (arith, more, c.loop-slots-test.true);
      held = ap (held_from 0) c.in_ok-push.ensures.items ∙ one_more 0 slots ∙ inv.held;
    }

pub returns-in_err-push-clause-held : goal.returns-in_err-push-clause-held
returns-in_err-push-clause-held c = ap (held_from 0) c.in_err-push.ensures.items ∙ c.loop-slots.invariant.held

pub returns-clause-few : goal.returns-clause-few
returns-clause-few c = c.loop-slots.invariant.few

pub returns-clause-held : goal.returns-clause-held
returns-clause-held c = c.loop-slots.invariant.held
