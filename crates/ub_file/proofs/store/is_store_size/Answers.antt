use Rattle.std.proofs.Common.{rules}
use Rattle.ub_file.proofs.store.is_store_size.Goals as goal

pub returns-then-length-eq0 : goal.returns-then-length-eq0
returns-then-length-eq0 c = search rules
