-- Each name of the keys so far is a column.
use Rattle.std.proofs.Common.{take}
use Rattle.std.specs.List.{All}
use Rattle.ub_parser.specs.Known.{IsUnknown}
use Rattle.ub_parser.specs.Refusals.{item_names}
use Rattle.ub_parser.proofs.columns.unknown_in_keys.Given as goal

abbrev pub invariant-loop-key : goal.invariant-loop-key
invariant-loop-key l = All (λ key. All (λ name. ¬ IsUnknown l.source l.schema name) (item_names key.item)) (take l.key-index l.keys)
