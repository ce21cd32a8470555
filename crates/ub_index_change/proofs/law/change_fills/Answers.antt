use Rattle.ub_index_change.proofs.MadeFacts.{made_filled}
use Rattle.ub_index_change.proofs.law.change_fills.Goals as goal

pub returns : goal.returns
returns c = made_filled
