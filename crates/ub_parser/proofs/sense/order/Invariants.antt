-- The keys so far.
use Rattle.std.proofs.Common.{◌≡◌, take, map, length}
use Rattle.std.specs.List.{All}
use Rattle.ub_parser.specs.Sense.{key_of}
use Rattle.ub_query.specs.Posed.{IsItemOver}
use Rattle.ub_parser.proofs.sense.order.Given as goal

abbrev pub invariant-loop-key : goal.invariant-loop-key
invariant-loop-key l =
    (l.order.items ≡ map (λ key. key_of l.source l.schema key) (take l.key-index l.keys))
    × All (λ key. IsItemOver (length l.schema.columns) key.item) l.order.items
