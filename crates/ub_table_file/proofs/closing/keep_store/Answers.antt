use Rattle.std.proofs.Common.{Err, Ok, ap, refl}
use Rattle.ub_table_file.proofs.closing.keep_store.Goals as goal

pub returns-in-Ok-clause-keeps : goal.returns-in-Ok-clause-keeps
returns-in-Ok-clause-keeps g c = (Ok tt, c.in-Ok.ensures.effect, refl, tt)

pub returns-in-Err-clause-keeps : goal.returns-in-Err-clause-keeps
returns-in-Err-clause-keeps g c = (Err c.in-Err.fault, c.in-Err.ensures.effect, ap (λ fault. Err fault) c.from.ensures, c.in-Err.ensures.faults)

pub returns-in-Ok-clause-crash : goal.returns-in-Ok-clause-crash
returns-in-Ok-clause-crash g c = c.in-Ok.ensures.crash

pub returns-in-Err-clause-crash : goal.returns-in-Err-clause-crash
returns-in-Err-clause-crash g c = c.in-Err.ensures.crash

pub returns-in-Ok-clause-lasts : goal.returns-in-Ok-clause-lasts
returns-in-Ok-clause-lasts g c = c.in-Ok.ensures.lasts
