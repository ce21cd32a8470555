use Rattle.ub_index.proofs.WayFacts.{never_stops}
use Rattle.ub_index.proofs.law.ways_never_stop.Goals as goal

pub returns : goal.returns
returns c = λ last pages key level entry end n fault small is. never_stops last small pages key level entry end n fault is
