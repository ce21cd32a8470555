-- Each name of the items so far is a column.
use Rattle.std.proofs.Common.{take}
use Rattle.std.specs.List.{All}
use Rattle.ub_parser.specs.Known.{IsUnknown}
use Rattle.ub_parser.specs.Refusals.{item_names}
use Rattle.ub_parser.proofs.columns.unknown_in_items.Given as goal

abbrev pub invariant-loop-item : goal.invariant-loop-item
invariant-loop-item l = All (λ item. All (λ name. ¬ IsUnknown l.source l.schema name) (item_names item)) (take l.item-index l.items)
