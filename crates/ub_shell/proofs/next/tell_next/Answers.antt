use Rattle.std.proofs.Common.{Err, rules}
use Rattle.ub_next.specs.Next.{answer_text}
use Rattle.ub_next.specs.declared.next.NextFault.TheVariants.{Memory}
use Rattle.ub_shell.proofs.next.tell_next.Goals as goal

pub returns-in-Err : goal.returns-in-Err
unfolding answer_text
returns-in-Err g c = (Err Memory, tt, c.tell_memory.ensures)

pub returns-in-Ok : goal.returns-in-Ok
returns-in-Ok g c = search rules
