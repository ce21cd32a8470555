-- Each name so far is a column.
use Rattle.std.proofs.Common.{take}
use Rattle.std.specs.List.{All}
use Rattle.ub_parser.specs.Known.{IsUnknown}
use Rattle.ub_parser.proofs.columns.unknown_in_names.Given as goal

abbrev pub invariant-loop-name : goal.invariant-loop-name
invariant-loop-name l = All (λ name. ¬ IsUnknown l.source l.schema name) (take l.name-index l.names)
