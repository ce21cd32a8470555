-- The name is none of those so far.
use Rattle.std.proofs.Common.{◌≢◌, take}
use Rattle.std.specs.List.{All}
use Rattle.ub_lexer.specs.Tokens.{text_of}
use Rattle.ub_parser.proofs.grouping.is_grouped.Given as goal

abbrev pub invariant-loop-other : goal.invariant-loop-other
invariant-loop-other l = All (λ other. text_of l.source other ≢ text_of l.source l.name) (take l.other-index l.group)
