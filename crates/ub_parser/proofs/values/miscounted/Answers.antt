use Rattle.ub_parser.proofs.ValueFacts.{begins_some, begins_none}
use Rattle.ub_parser.proofs.values.miscounted.Goals as goal

pub returns-in-Some : goal.returns-in-Some
returns-in-Some c =
    let found = c.in-Some.ensures.lookup in
    begins_some c.args.columns c.as_slice.result.now c.args.insertion.now.values c.args.insertion.now.close c.in-Some.value.now c.as_slice.ensures found.3.0 found.3.1

pub returns-in-None : goal.returns-in-None
returns-in-None c =
    begins_none c.args.columns c.as_slice.result.now c.args.insertion.now.values c.args.insertion.now.close c.as_slice.ensures c.in-None.ensures.lookup.3
