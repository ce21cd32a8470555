use Rattle.std.proofs.Common.{rules}
use Rattle.ub_table_file.proofs.status.tell.Goals as goal

pub returns-in-Err : goal.returns-in-Err
returns-in-Err g c = search rules
