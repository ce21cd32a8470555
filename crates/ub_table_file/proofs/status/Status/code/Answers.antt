use Rattle.std.proofs.Common.{rules}
use Rattle.ub_table_file.proofs.status.Status.code.Goals as goal

pub returns-in-Data : goal.returns-in-Data
returns-in-Data c = search rules
