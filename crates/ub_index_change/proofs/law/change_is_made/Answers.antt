use Rattle.ub_index_change.proofs.MadeFacts.{made}
use Rattle.ub_index_change.proofs.law.change_is_made.Goals as goal

pub returns : goal.returns
returns c = made
