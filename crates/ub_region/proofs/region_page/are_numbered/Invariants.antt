use Rattle.std.proofs.Common.{◌↔◌, IsTrue, drop}
use Rattle.std.specs.List.{AllByRecursion}
use Rattle.ub_region.proofs.region_page.are_numbered.Given as goal
use Rattle.ub_region.specs.Columns.{IsRowNumber}

abbrev pub invariant-loop-number : goal.invariant-loop-number
invariant-loop-number l = AllByRecursion IsRowNumber l.numbers ↔ (IsTrue l.are_numbered × AllByRecursion IsRowNumber (drop l.number-index l.numbers))
