-- What is wanted is none of what is selected so far.
use Rattle.std.proofs.Common.{◌≢◌, take}
use Rattle.std.specs.List.{All}
use Rattle.ub_parser.specs.Sense.{item_of}
use Rattle.ub_parser.proofs.grouping.is_selected.Given as goal

abbrev pub invariant-loop-other : goal.invariant-loop-other
invariant-loop-other l = All (λ other. item_of l.source l.schema other ≢ l.wanted) (take l.other-index l.items)
