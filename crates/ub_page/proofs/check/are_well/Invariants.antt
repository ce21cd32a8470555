use Rattle.std.proofs.Common.{◌≡◌, ◌↔◌, ◌+◌, ◌*◌, ◌-◌, IsTrue}
use Rattle.std.specs.List.{AllByRecursion}
use Rattle.ub_page.specs.Entries.{AreAscending, IsEntry, entries_on, entry_on}
use Rattle.ub_page.specs.Named.{IsNamed}
use Rattle.ub_page.proofs.IndexFacts.{AreWellFrom}
use Rattle.ub_page.proofs.check.are_well.Given as goal

abbrev pub invariant-loop-slot : goal.invariant-loop-slot
invariant-loop-slot l = record {
  before : l.before ≡ entry_on (16 + 24 * (l.slot - 1)) l.page;
  named : IsTrue l.are_well → IsNamed l.before;
  so_far : (AllByRecursion (IsEntry l.last) (entries_on 16 l.count l.page) × AreAscending (entries_on 16 l.count l.page))
      ↔ (IsTrue l.are_well × AreWellFrom l.last (l.slot - 1) l.count l.page);
}
