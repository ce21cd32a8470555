use Rattle.ub_index.proofs.Numbers.{within_store}
use Rattle.ub_index.proofs.law.pages_are_there.Goals as goal

pub returns : goal.returns
returns c = within_store
