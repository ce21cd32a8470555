use Rattle.std.proofs.Common.{◌≤◌, subst, sym}
use Rattle.ub_index.proofs.Common.{Head}
use Rattle.ub_index.proofs.BehindFacts.{below_holds}
use Rattle.ub_index.proofs.descent.step_down.Goals as goal

pub fall-requires-clause-some : goal.fall-requires-clause-some
fall-requires-clause-some g c =
    let here = c.in_ok-head.ensures.ends c.cached-page.result.now c.cached-page.ensures.held in
    subst (λ (h : Head). 1 ≤ h.count) (sym here.0) here.1.head.1

pub fall-requires-clause-few : goal.fall-requires-clause-few
fall-requires-clause-few g c =
    let here = c.in_ok-head.ensures.ends c.cached-page.result.now c.cached-page.ensures.held in
    subst (λ (h : Head). h.count ≤ 170) (sym here.0) here.1.head.2

pub returns-clause-holds : goal.returns-clause-holds
returns-clause-holds g c =
    below_holds c.cached-page.result.now c.args.level c.args.key.now c.args.place.now.entry c.args.place.now.next c.fall.result.entry c.fall.result.next
    (c.in_ok-head.ensures.ends c.cached-page.result.now c.cached-page.ensures.held).1 c.requires c.fall.ensures
