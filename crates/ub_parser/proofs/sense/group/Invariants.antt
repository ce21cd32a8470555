-- The columns so far.
use Rattle.std.proofs.Common.{◌≡◌, ◌<◌, take, map, length}
use Rattle.std.specs.List.{All}
use Rattle.ub_parser.specs.Sense.{column_of}
use Rattle.ub_parser.proofs.sense.group.Given as goal

abbrev pub invariant-loop-name : goal.invariant-loop-name
invariant-loop-name l =
    (l.group.items ≡ map (λ name. column_of l.source l.schema name) (take l.name-index l.names))
    × All (λ column. column < length l.schema.columns) l.group.items
