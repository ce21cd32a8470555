-- By each column among the items so far is grouped.
use Rattle.std.proofs.Common.{take}
use Rattle.std.specs.List.{All}
use Rattle.ub_syntax.specs.Tree.{select_of}
use Rattle.ub_parser.specs.Refusals.{IsUngrouped}
use Rattle.ub_parser.proofs.grouping.first_ungrouped.Given as goal

abbrev pub invariant-loop-item : goal.invariant-loop-item
invariant-loop-item l = All (λ item. ¬ IsUngrouped l.source (select_of l.syntax) item) (take l.item-index l.items)
