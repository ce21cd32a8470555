use Rattle.std.proofs.Common.{rules}
use Rattle.ub_syntax.proofs.machine.can_end.Goals as goal

pub returns : goal.returns
returns c = search rules
