-- The keys so far decide nothing.
use Rattle.std.proofs.Common.{◌≡◌, drop}
use Rattle.ub_answer.specs.inner.Groups.{entry_cmp, entry_of}
use Rattle.ub_answer.proofs.groups.compare_entries.Given as goal

abbrev pub invariant-loop-key : goal.invariant-loop-key
invariant-loop-key l = entry_cmp l.items (drop l.key-index l.keys) (entry_of l.a) (entry_of l.b) ≡ entry_cmp l.items l.keys (entry_of l.a) (entry_of l.b)
