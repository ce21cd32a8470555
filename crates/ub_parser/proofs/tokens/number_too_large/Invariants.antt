-- None of the tokens so far is refused.
use Rattle.std.proofs.Common.{take}
use Rattle.std.specs.List.{All}
use Rattle.ub_parser.specs.Refusals.{IsTooLarge}
use Rattle.ub_parser.proofs.tokens.number_too_large.Given as goal

abbrev pub invariant-loop-token : goal.invariant-loop-token
invariant-loop-token l = All (λ t. ¬ IsTooLarge l.source t) (take l.token-index l.tokens)
