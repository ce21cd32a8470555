-- The items so far.
use Rattle.std.proofs.Common.{◌≡◌, take, map, length}
use Rattle.std.specs.List.{All}
use Rattle.ub_parser.specs.Sense.{item_of}
use Rattle.ub_query.specs.Posed.{IsItemOver}
use Rattle.ub_parser.proofs.sense.listed.Given as goal

abbrev pub invariant-loop-item : goal.invariant-loop-item
invariant-loop-item l =
    (l.items.items ≡ map (λ item. item_of l.source l.schema item) (take l.item-index l.spelled))
    × All (λ item. IsItemOver (length l.schema.columns) item) l.items.items
