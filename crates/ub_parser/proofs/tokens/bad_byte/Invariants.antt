-- None of the tokens so far is refused.
use Rattle.std.proofs.Common.{◌≡◌, take}
use Rattle.std.specs.List.{All}
use Rattle.ub_lexer.specs.declared.token.TokenKind.TheVariants.{Bad}
use Rattle.ub_parser.proofs.tokens.bad_byte.Given as goal

abbrev pub invariant-loop-token : goal.invariant-loop-token
invariant-loop-token l = All (λ t. ¬ (t.kind ≡ Bad)) (take l.token-index l.tokens)
