use Rattle.std.proofs.Common.{rules}
use Rattle.ub_file.proofs.store.FileStore.create.Goals as goal

pub invariant_of-result : goal.invariant_of-result
invariant_of-result g c = search rules

pub returns-in-Ok-clause-emptied : goal.returns-in-Ok-clause-emptied
returns-in-Ok-clause-emptied g c = search rules
