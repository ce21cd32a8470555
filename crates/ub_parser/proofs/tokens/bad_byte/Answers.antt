use Rattle.std.proofs.Common.{◌≡◌, refl, arith, rules}
use Rattle.ub_lexer.specs.declared.token.Token.{Token}
use Rattle.ub_lexer.specs.declared.token.TokenKind.TheVariants.{Bad}
use Rattle.ub_parser.proofs.FirstFacts.{first_at, none_at_all}
use Rattle.ub_parser.proofs.tokens.bad_byte.Goals as goal

pub returns-then-eq : goal.returns-then-eq
returns-then-eq c =
    (_, first_at (λ (t : Token). t.kind ≡ Bad) c.args.tokens.now c.loop-token.token-index _ (omega arith) c.loop-token.invariant (search rules), refl)

pub returns : goal.returns
returns c = none_at_all (λ (t : Token). t.kind ≡ Bad) c.args.tokens.now c.loop-token.token-index (omega arith) c.loop-token.invariant
