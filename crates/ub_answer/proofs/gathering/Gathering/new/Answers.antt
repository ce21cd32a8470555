use Rattle.ub_answer.specs.Gathered.{IsGathered}
use Rattle.ub_answer.proofs.gathering.Gathering.new.Goals as goal

pub returns-clause-gathered : goal.returns-clause-gathered
unfolding IsGathered
returns-clause-gathered c = c.nothing_collected.ensures.taken c.args.schema.now
