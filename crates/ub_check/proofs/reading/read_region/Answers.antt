use Rattle.std.proofs.Common.{Bool}
use Rattle.ub_check.proofs.ReadingFacts.{taken_in, unread}
use Rattle.ub_check.proofs.reading.read_region.Goals as goal

pub returns-in_err-bring-clause-read : goal.returns-in_err-bring-clause-read
returns-in_err-bring-clause-read g c =
    unread c.args.schema.now c.args.region.now c.args.pager.now c.bring.new.self c.args.page.now c.in_err-bring.ensures.others {U = Bool} c.from_residual.result c.in_err-bring.field-0.0
    c.from_residual.ensures.1 c.in_err-bring.ensures.effect c.in_err-bring.ensures.missing c.in_err-bring.ensures.no_size c.in_err-bring.ensures.missed

pub returns-clause-read : goal.returns-clause-read
returns-clause-read g c =
    taken_in c.args.schema.now c.args.region.now c.args.pager.now c.bring.new.self c.take_region.new.page c.in_ok-bring.ensures.others c.in_ok-bring.ensures.effect.same c.take_region.new.pager
    c.take_region.result c.take_region.ensures
