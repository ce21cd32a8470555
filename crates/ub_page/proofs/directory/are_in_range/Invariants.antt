use Rattle.std.proofs.Common.{◌↔◌, drop}
use Rattle.std.specs.List.{AllByRecursion}
use Rattle.ub_page.specs.Entries.{IsEntry}
use Rattle.ub_page.proofs.directory.are_in_range.Given as goal

abbrev pub invariant-loop-entry : goal.invariant-loop-entry
invariant-loop-entry l = AllByRecursion (IsEntry l.last) l.entries ↔ AllByRecursion (IsEntry l.last) (drop l.entry-index l.entries)
