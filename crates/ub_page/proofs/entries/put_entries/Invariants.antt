use Rattle.std.proofs.Common.{◌≡◌, ◌+◌, ◌*◌, ◌++◌, length, take}
use Rattle.std.specs.List.{flat_map}
use Rattle.ub_page.specs.Entries.{entry_bytes}
use Rattle.ub_page.proofs.entries.put_entries.Given as goal

abbrev pub invariant-loop-entry : goal.invariant-loop-entry
invariant-loop-entry l = record {
  bytes : l.draft ≡ l.initial.draft ++ flat_map (λ entry. entry_bytes entry) (take l.entry-index l.entries);
  len : length l.draft ≡ length l.initial.draft + 24 * l.entry-index;
}
