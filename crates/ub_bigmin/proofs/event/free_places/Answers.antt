-- The highest place at which two numbers differ is that of the highest bit of their exclusive or.
use Rattle.ub_bigmin.proofs.HalfFacts.{halved_apart, places_count}
use Rattle.ub_bigmin.proofs.event.free_places.Goals as goal

pub overflow_sub-result : goal.overflow_sub-result
overflow_sub-result c = (places_count c.args.from c.args.to c.ranges.from c.ranges.to c.if-from-to.false).0

pub returns-clause-halved : goal.returns-clause-halved
returns-clause-halved c = halved_apart c.args.from c.args.to c.ranges.from c.ranges.to c.if-from-to.false c.requires

pub returns-clause-within : goal.returns-clause-within
returns-clause-within c = (places_count c.args.from c.args.to c.ranges.from c.ranges.to c.if-from-to.false).1 c.requires
