use Rattle.std.proofs.Common.{◌≡◌, ◌+◌, ◌*◌, ◌-◌, ◌++◌, length}
use Rattle.ub_page.specs.Entries.{entries_on}
use Rattle.ub_page.proofs.entries.read_entries.Given as goal

abbrev pub invariant-loop-i : goal.invariant-loop-i
invariant-loop-i l = record {
  entries : l.entries ++ entries_on (16 + 24 * l.i) (l.count - l.i) l.page ≡ entries_on 16 l.count l.page;
  len : length l.entries ≡ l.i;
}
