use Rattle.std.proofs.Common.{◌≡◌, take}
use Rattle.ub_journal.proofs.torn.copy_of.Given as goal

-- the first so many changes were copied
abbrev pub invariant-loop-at : goal.invariant-loop-at
invariant-loop-at g l = record {
  same : l.journal ≡ l.fn.journal;
  changes : l.changes.items ≡ take l.at (g.J.Tells.told l.fn.journal).changes;
}
