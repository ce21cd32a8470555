use Rattle.std.proofs.Common.{◌↔◌, ◌+◌, ◌*◌, ◌-◌}
use Rattle.std.specs.List.{AllByRecursion}
use Rattle.ub_page.specs.Entries.{IsEntry, entries_on}
use Rattle.ub_page.proofs.check.are_in_range.Given as goal

abbrev pub invariant-loop-slot : goal.invariant-loop-slot
invariant-loop-slot l =
    AllByRecursion (IsEntry l.last) (entries_on 16 l.count l.page)
    ↔ AllByRecursion (IsEntry l.last) (entries_on (16 + 24 * l.slot) (l.count - l.slot) l.page)
