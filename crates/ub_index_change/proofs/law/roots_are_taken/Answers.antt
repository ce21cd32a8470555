use Rattle.ub_index_change.proofs.DropFacts.{roots_taken}
use Rattle.ub_index_change.proofs.law.roots_are_taken.Goals as goal

pub returns : goal.returns
returns c = roots_taken
