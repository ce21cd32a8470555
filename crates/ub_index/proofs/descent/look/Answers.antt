use Rattle.std.proofs.Common.{◌≤◌, subst, sym}
use Rattle.ub_index.proofs.Common.{Head}
use Rattle.ub_index.proofs.descent.look.Goals as goal

pub looked-requires-clause-some : goal.looked-requires-clause-some
looked-requires-clause-some g c =
    let here = c.in_ok-head.ensures.ends c.cached-page.result.now c.cached-page.ensures.held in
    subst (λ (h : Head). 1 ≤ h.count) (sym here.0) here.1.head.1

pub looked-requires-clause-few : goal.looked-requires-clause-few
looked-requires-clause-few g c =
    let here = c.in_ok-head.ensures.ends c.cached-page.result.now c.cached-page.ensures.held in
    subst (λ (h : Head). h.count ≤ 170) (sym here.0) here.1.head.2
