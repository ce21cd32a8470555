-- The numbers of the values so far, each of which its column can hold.
use Rattle.std.proofs.Common.{◌≡◌, take, map}
use Rattle.std.specs.List.{All, enumerate_from}
use Rattle.ub_parser.specs.Refusals.{IsUnfit}
use Rattle.ub_parser.specs.Sense.{value_of}
use Rattle.ub_parser.proofs.values.fitting.Given as goal

abbrev pub invariant-loop-column : goal.invariant-loop-column
invariant-loop-column l =
    (l.values.items ≡ map (λ v. value_of l.source v.literal) (take l.column l.literals)) × All (λ v. ¬ IsUnfit l.source l.schema v) (take l.column (enumerate_from 0 l.literals))
