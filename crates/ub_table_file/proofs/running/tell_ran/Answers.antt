use Rattle.ub_table_file.proofs.FileFacts.{told_after_fault}
use Rattle.ub_table_file.proofs.running.tell_ran.Goals as goal

pub returns-in-Err : goal.returns-in-Err
returns-in-Err g c = rw (c.in-Err.is, c.status_after.ensures) (told_after_fault c.in-Err.fault c.args.closed _ _ _ c.tell_run_fault-status.ensures)
