use Rattle.std.proofs.Common.{ap}
use Rattle.ub_index.proofs.Common.{Head}
use Rattle.ub_index.proofs.FitFacts.{few_count}
use Rattle.ub_index.proofs.StepFacts.{step_misfits}
use Rattle.ub_index.proofs.entries.entries_at.Goals as goal

pub returns-in_err-head-clause-effect : goal.returns-in_err-head-clause-effect
returns-in_err-head-clause-effect g c =
    step_misfits c.args.last c.args.level c.args.entry.now c.args.end c.args.pager.now c.bring_fitting.new.pager c.from_residual.result c.in_err-head.field-0.0 c.from_residual.ensures.1
    c.in_err-head.ensures.effect

pub copied-requires-clause-few : goal.copied-requires-clause-few
copied-requires-clause-few g c =
    let fits = c.in_ok-head.ensures.effect.fits c.cached.result.now c.cached.ensures.held in
    few_count c.cached.result.now c.args.last c.args.level c.in_ok-head.head.count c.args.entry.now c.args.end (ap (λ (h : Head). h.count) fits.0) fits.1.is.is
