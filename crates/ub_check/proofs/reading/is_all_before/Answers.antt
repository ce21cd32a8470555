use Rattle.ub_check.proofs.StandingFacts.{last_tells}
use Rattle.ub_check.proofs.reading.is_all_before.Goals as goal

pub returns-else-len-eq0 : goal.returns-else-len-eq0
returns-else-len-eq0 c =
    last_tells c.args.key.now c.key.result c.args.region.now.dims c.len-len.result c.args.region.now.region.rows c.is_before.result c.requires c.len-len.ensures.len c.if-len-eq0.false c.key.ensures c.is_before.ensures
