use Rattle.std.proofs.Common.{◌∙◌, ap}
use Rattle.ub_check.proofs.Common.{last_address}
use Rattle.ub_check.proofs.CheckFacts.{run_ends, run_refused, run_well}
use Rattle.ub_check.proofs.checking.check_with.Goals as goal

pub returns-in_err-check_under : goal.returns-in_err-check_under
returns-in_err-check_under g c =
    let last_is = c.last-last.ensures ∙ ap last_address c.shape.ensures in
    run_refused c.args.schema.now c.args.told.now c.args.pager.now c.last-last.result c.args.walk.now last_is c.requires.bound c.requires.begun c.root_entry-top.result c.root_entry-top.ensures
    c.from_residual.result c.in_err-check_under.field-0.0 c.check_under.new.pager c.from_residual.ensures.1 c.in_err-check_under.ensures.effect

pub returns-then-has_met_all : goal.returns-then-has_met_all
returns-then-has_met_all g c =
    let last_is = c.last-last.ensures ∙ ap last_address c.shape.ensures in
    run_well c.args.schema.now c.args.told.now c.args.pager.now c.last-last.result c.args.walk.now last_is c.requires.bound c.requires.begun c.root_entry-top.result c.root_entry-top.ensures
    c.check_under.new.walk c.in_ok-check_under.ensures.taken c.check_under.new.pager c.in_ok-check_under.ensures.effect.same c.in_ok-check_under.ensures.effect.checked c.has_met_all.result c.has_met_all.ensures tt c.if-has_met_all.true

pub returns-else-has_met_all : goal.returns-else-has_met_all
returns-else-has_met_all g c =
    let last_is = c.last-last.ensures ∙ ap last_address c.shape.ensures in
    run_ends c.args.schema.now c.args.told.now c.args.pager.now c.last-last.result c.args.walk.now last_is c.requires.bound c.requires.begun c.root_entry-top.result c.root_entry-top.ensures
    c.check_under.new.walk c.in_ok-check_under.ensures.taken c.check_under.new.pager c.in_ok-check_under.ensures.effect.same c.in_ok-check_under.ensures.effect.checked c.has_met_all.result c.has_met_all.ensures
    c.miscounted.result c.miscounted.ensures (λ all. let bad = c.if-has_met_all.false in cc)
