use Rattle.std.proofs.Common.{◌≡◌, ◌+◌, ◌*◌, ◌-◌, ◌++◌, ◌↔◌, length}
use Rattle.ub_page.specs.Header.{names_on, AreNamesOn}
use Rattle.ub_page.proofs.header.read_columns.Given as goal

abbrev pub invariant-loop-i : goal.invariant-loop-i
invariant-loop-i l = record {
  names : l.columns ++ names_on (65 + 33 * l.i) (l.count - l.i) l.page ≡ names_on 65 l.count l.page;
  len : length l.columns ≡ l.i;
  valid : AreNamesOn 65 l.count l.page ↔ AreNamesOn (65 + 33 * l.i) (l.count - l.i) l.page;
}
