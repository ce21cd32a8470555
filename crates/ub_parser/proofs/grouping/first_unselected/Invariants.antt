-- By each key so far may be ordered.
use Rattle.std.proofs.Common.{take}
use Rattle.std.specs.List.{All}
use Rattle.ub_syntax.specs.Tree.{select_of}
use Rattle.ub_parser.specs.Refusals.{IsUnselected}
use Rattle.ub_parser.proofs.grouping.first_unselected.Given as goal

abbrev pub invariant-loop-key : goal.invariant-loop-key
invariant-loop-key l = All (λ key. ¬ IsUnselected l.source l.schema (select_of l.syntax) key.item) (take l.key-index l.keys)
