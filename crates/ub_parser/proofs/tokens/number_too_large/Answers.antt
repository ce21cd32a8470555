use Rattle.std.proofs.Common.{refl, arith}
use Rattle.ub_lexer.specs.declared.token.Token.{Token}
use Rattle.ub_parser.specs.Refusals.{IsTooLarge}
use Rattle.ub_parser.proofs.FirstFacts.{first_at, none_more, none_at_all, fails}
use Rattle.ub_parser.proofs.tokens.number_too_large.Goals as goal

pub returns-then-is_too_large : goal.returns-then-is_too_large
returns-then-is_too_large c =
    (_, first_at (λ (t : Token). IsTooLarge c.args.source.now t) c.args.tokens.now c.loop-token.token-index _ (omega arith) c.loop-token.invariant (c.is_too_large.ensures.0 c.if-is_too_large.true), refl)

pub loop-token-preserved : goal.loop-token-preserved
loop-token-preserved c =
    none_more (λ (t : Token). IsTooLarge c.args.source.now t) c.args.tokens.now c.loop-token.token-index _ (omega arith) c.loop-token.invariant
    (fails c.is_too_large.result _ c.is_too_large.ensures c.if-is_too_large.false)

pub returns : goal.returns
returns c = none_at_all (λ (t : Token). IsTooLarge c.args.source.now t) c.args.tokens.now c.loop-token.token-index (omega arith) c.loop-token.invariant
