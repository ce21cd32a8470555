use Rattle.std.proofs.Common.{ap}
use Rattle.ub_index_change.proofs.Common.{brought_page, few_count, Head, some_count, step_misfits}
use Rattle.ub_index_change.proofs.ClimbFacts.{opens_page}
use Rattle.ub_index_change.proofs.turning.open.Goals as goal

pub opened_at-requires-clause-few : goal.opened_at-requires-clause-few
opened_at-requires-clause-few g c =
    let fits = c.in_ok-head.ensures.effect.fits c.cached-page.result.now c.cached-page.ensures.held in
    few_count c.cached-page.result.now c.args.last c.args.level c.in_ok-head.head.count c.args.place.now.entry c.args.place.now.next (ap (λ (h : Head). h.count) fits.0) fits.1.is.is

pub returns-clause-opened : goal.returns-clause-opened
returns-clause-opened g c = λ honest.
    opens_page c.args.pager.now.store.pages c.args.last c.args.key.now c.args.level c.args.place.now.entry c.args.place.now.next
    c.in_ok-opened_at.field-0.before.items c.in_ok-opened_at.field-0.below.entry c.in_ok-opened_at.field-0.below.next c.in_ok-opened_at.field-0.after.items
    c.cached-page.result.now
    (brought_page c.args.last c.args.level c.args.place.now.entry c.args.place.now.next c.args.pager.now c.bring_fitting.new.pager c.in_ok-head.head c.cached-page.result.now
    c.in_ok-head.ensures.effect c.cached-page.ensures.page honest)
    (c.in_ok-head.ensures.effect.fits c.cached-page.result.now c.cached-page.ensures.held).1 c.in_ok-opened_at.ensures.falls

pub returns-in_err-head-clause-effect : goal.returns-in_err-head-clause-effect
returns-in_err-head-clause-effect g c =
    step_misfits c.args.last c.args.level c.args.place.now.entry c.args.place.now.next c.args.pager.now c.bring_fitting.new.pager c.from_residual.result c.in_err-head.field-0.0
    c.from_residual.ensures.1 c.in_err-head.ensures.effect

pub opened_at-requires-clause-some : goal.opened_at-requires-clause-some
opened_at-requires-clause-some g c =
    let fits = c.in_ok-head.ensures.effect.fits c.cached-page.result.now c.cached-page.ensures.held in
    some_count c.cached-page.result.now c.args.last c.args.level c.in_ok-head.head.count c.args.place.now.entry c.args.place.now.next (ap (λ (h : Head). h.count) fits.0) fits.1.is.is
