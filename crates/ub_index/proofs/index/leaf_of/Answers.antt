use Rattle.std.proofs.Common.{◌≡◌, ◌∙◌, ap, arith, refl, subst, ℕ}
use Rattle.ub_index.proofs.Common.{index_view, Key, LeadsDown, Leaf, PagerView, Place}
use Rattle.ub_index.proofs.BehindFacts.{down_step, holds_step, step_before}
use Rattle.ub_index.proofs.HeldFacts.{both_on}
use Rattle.ub_index.proofs.SearchFacts.{step_keeps, step_refused}
use Rattle.ub_index.proofs.index.leaf_of.Goals as goal

pub loop-level-preserved : goal.loop-level-preserved
loop-level-preserved g c =
    let stores = c.loop-level.invariant.store in
    record {
      some = omega (arith, c.loop-level-test.true);
      store = ap (λ (p : PagerView). p.store) c.in_ok-place.ensures.effect.same ∙ stores;
      trace = ap (λ (p : PagerView). p.trace) c.in_ok-place.ensures.effect.same ∙ c.loop-level.invariant.trace;
      holds = holds_step c.args.key.now c.loop-level.leaf c.in_ok-place.place c.earlier-until.result c.earlier-until.ensures c.loop-level.invariant.holds c.in_ok-place.ensures.holds;
      kept = both_on c.args.last c.args.pager.now c.loop-level.pager c.step_down.new.pager c.loop-level.invariant.kept (step_keeps c.in_ok-place.ensures.effect);
      down = λ honest sure.
          down_step (index_view c.args.root c.args.levels c.args.last) c.args.pager.now.store c.args.key.now c.loop-level.level c.loop-level.leaf c.in_ok-place.place c.earlier-until.result
          (omega (arith, c.loop-level-test.true)) c.earlier-until.ensures (c.loop-level.invariant.down honest sure)
          (step_before c.args.last c.args.pager.now.store c.loop-level.pager.store stores c.args.key.now c.loop-level.level c.loop-level.leaf.place.entry
          c.loop-level.leaf.place.next c.in_ok-place.place.entry c.in_ok-place.place.next (λ good. c.in_ok-place.ensures.below good (c.loop-level.invariant.kept.0 sure)) honest);
    }

pub returns-in_err-place-clause-effect : goal.returns-in_err-place-clause-effect
returns-in_err-place-clause-effect g c =
    step_refused Leaf Place (λ (k : Key). k ≡ c.args.key.now) (index_view c.args.root c.args.levels c.args.last) c.args.key.now refl c.loop-level.level (omega (arith, c.loop-level-test.true))
    c.loop-level.leaf.place.entry c.loop-level.leaf.place.next c.args.pager.now c.loop-level.pager c.step_down.new.pager c.loop-level.invariant.store c.loop-level.invariant.trace
    c.loop-level.invariant.kept (λ honest sure. (c.loop-level.invariant.down honest sure).stops) c.from_residual.result c.in_err-place.field-0.0 c.from_residual.ensures.1 c.in_err-place.ensures.effect

pub returns-clause-leads : goal.returns-clause-leads
returns-clause-leads g c = λ honest sure.
    let one : c.loop-level.level ≡ 1 = (let some = c.loop-level.invariant.some in omega (arith, c.loop-level-test.false)) in
    subst (λ (n : ℕ). LeadsDown (index_view c.args.root c.args.levels c.args.last) c.args.pager.now.store c.args.key.now n c.loop-level.leaf) one (c.loop-level.invariant.down honest sure)
