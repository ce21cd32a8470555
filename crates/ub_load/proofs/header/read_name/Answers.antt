use Rattle.std.proofs.Common.{rules}
use Rattle.ub_load.proofs.header.read_name.Goals as goal

pub returns-in-Ok-clause-accepted : goal.returns-in-Ok-clause-accepted
returns-in-Ok-clause-accepted c = search rules
