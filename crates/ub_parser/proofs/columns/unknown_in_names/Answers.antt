use Rattle.std.proofs.Common.{arith}
use Rattle.ub_lexer.specs.declared.token.Token.{Token}
use Rattle.ub_parser.specs.Known.{IsUnknown}
use Rattle.ub_parser.proofs.FirstFacts.{first_at, none_more, none_at_all, fails}
use Rattle.ub_parser.proofs.columns.unknown_in_names.Goals as goal

pub returns-then-is_unknown : goal.returns-then-is_unknown
returns-then-is_unknown c =
    first_at (λ (t : Token). IsUnknown c.args.source.now c.args.schema.now t) c.args.names.now c.loop-name.name-index _ (omega arith) c.loop-name.invariant (c.is_unknown.ensures.0 c.if-is_unknown.true)

pub loop-name-preserved : goal.loop-name-preserved
loop-name-preserved c =
    none_more (λ (t : Token). IsUnknown c.args.source.now c.args.schema.now t) c.args.names.now c.loop-name.name-index _ (omega arith) c.loop-name.invariant
    (fails c.is_unknown.result _ c.is_unknown.ensures c.if-is_unknown.false)

pub returns : goal.returns
returns c = none_at_all (λ (t : Token). IsUnknown c.args.source.now c.args.schema.now t) c.args.names.now c.loop-name.name-index (omega arith) c.loop-name.invariant
