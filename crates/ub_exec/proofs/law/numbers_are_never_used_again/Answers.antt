use Rattle.ub_exec.proofs.Laws.{numbers_are_never_used_again}
use Rattle.ub_exec.proofs.law.numbers_are_never_used_again.Goals as goal

pub returns : goal.returns
returns c = numbers_are_never_used_again
