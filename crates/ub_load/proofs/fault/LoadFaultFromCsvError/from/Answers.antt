use Rattle.std.proofs.Common.{rules}
use Rattle.ub_load.proofs.fault.LoadFaultFromCsvError.from.Goals as goal

pub returns : goal.returns
returns c = search rules
