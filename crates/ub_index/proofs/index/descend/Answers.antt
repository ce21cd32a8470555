use Rattle.std.proofs.Common.{◌≡◌, ap, arith, refl, subst, sym}
use Rattle.ub_index.proofs.Common.{Gives, index_view, Key, PagerView, Place, Region}
use Rattle.ub_index.proofs.BehindFacts.{step_before, step_given}
use Rattle.ub_index.proofs.SearchFacts.{down_keeps, step_refused}
use Rattle.ub_index.proofs.index.descend.Goals as goal

pub returns-in_err-place-clause-effect : goal.returns-in_err-place-clause-effect
returns-in_err-place-clause-effect g c =
    step_refused Region Place (λ (k : Key). k ≡ c.args.key.now) (index_view c.args.root c.args.levels c.args.last) c.args.key.now refl 1 (omega arith) c.in_ok-leaf.leaf.place.entry
    c.in_ok-leaf.leaf.place.next c.args.pager.now c.leaf_of.new.pager c.step_down.new.pager (ap (λ (p : PagerView). p.store) c.in_ok-leaf.ensures.effect.same)
    (ap (λ (p : PagerView). p.trace) c.in_ok-leaf.ensures.effect.same) (down_keeps c.in_ok-leaf.ensures.effect) (λ honest sure. (c.in_ok-leaf.ensures.leads honest sure).stops)
    c.from_residual-in_err-place.result c.in_err-place.field-0.0 c.from_residual-in_err-place.ensures.1 c.in_err-place.ensures.effect

pub returns-clause-given : goal.returns-clause-given
returns-clause-given g c = λ sure.
    subst (λ (region : Region). Gives (index_view c.args.root c.args.levels c.args.last) c.args.pager.now.store c.args.key.now region) (sym c.region_at.ensures.region)
    (step_given (index_view c.args.root c.args.levels c.args.last) c.args.pager.now.store c.args.key.now c.in_ok-leaf.leaf c.in_ok-place.place c.in_ok-leaf.ensures.holds
    (λ honest. c.in_ok-leaf.ensures.leads honest sure) c.in_ok-place.ensures.holds
    (step_before c.args.last c.args.pager.now.store c.leaf_of.new.pager.store (ap (λ (p : PagerView). p.store) c.in_ok-leaf.ensures.effect.same) c.args.key.now 1
    c.in_ok-leaf.leaf.place.entry c.in_ok-leaf.leaf.place.next c.in_ok-place.place.entry c.in_ok-place.place.next
    (λ good. c.in_ok-place.ensures.below good (c.in_ok-leaf.ensures.effect.checked sure))))
