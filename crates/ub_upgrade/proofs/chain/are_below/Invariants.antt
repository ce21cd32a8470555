use Rattle.std.proofs.Common.{◌↔◌, drop}
use Rattle.ub_upgrade.proofs.Common.{AreBelow}
use Rattle.ub_upgrade.proofs.chain.are_below.Given as goal

abbrev pub invariant-loop-entry : goal.invariant-loop-entry
invariant-loop-entry l = AreBelow l.count l.entries ↔ AreBelow l.count (drop l.entry-index l.entries)
