use Rattle.ub_answer.proofs.GatheredFacts.{none_there}
use Rattle.ub_answer.proofs.gathering.nothing_collected.Goals as goal

pub returns-then-has_groups-clause-taken : goal.returns-then-has_groups-clause-taken
returns-then-has_groups-clause-taken c schema = (
  c.has_groups.ensures.groups.0 c.if-has_groups.true,
  none_there c.as_slice.result.now c.args.query.now.group c.is_empty.result c.as_slice.ensures c.is_empty.ensures c.if-not-is_empty.false,
  c.new-then-has_groups.ensures schema,
)
