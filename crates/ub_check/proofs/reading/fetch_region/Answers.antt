use Rattle.ub_check.proofs.ReadingFacts.{taken_in, unread}
use Rattle.ub_check.proofs.reading.fetch_region.Goals as goal

pub returns-in_err-bring_region-clause-read : goal.returns-in_err-bring_region-clause-read
returns-in_err-bring_region-clause-read g c =
    unread c.args.schema.now c.args.region.now c.args.pager.now c.bring_region.new.self c.args.page.now c.in_err-bring_region.ensures.others {U = Unit {0}} c.from_residual.result c.in_err-bring_region.field-0.0
    c.from_residual.ensures.1 c.in_err-bring_region.ensures.effect c.in_err-bring_region.ensures.missing c.in_err-bring_region.ensures.no_size c.in_err-bring_region.ensures.missed

pub returns-clause-read : goal.returns-clause-read
returns-clause-read g c =
    taken_in c.args.schema.now c.args.region.now c.args.pager.now c.bring_region.new.self c.take_region.new.page c.in_ok-bring_region.ensures.others c.in_ok-bring_region.ensures.effect.same c.take_region.new.pager
    c.take_region.result c.take_region.ensures
