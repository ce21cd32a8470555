-- One name is the first of one.
use Rattle.std.proofs.Common.{[], refl}
use Rattle.std.proofs.lemmas.List.Elements.{All-cons, All-nil}
use Rattle.ub_lexer.specs.declared.token.Token.{Token}
use Rattle.ub_parser.specs.Known.{IsUnknown}
use Rattle.ub_parser.proofs.FirstFacts.{fails}
use Rattle.ub_parser.proofs.columns.unknown_name.Goals as goal

pub returns-then-is_unknown : goal.returns-then-is_unknown
returns-then-is_unknown c =
    ([], [], refl, All-nil (λ (t : Token). ¬ IsUnknown c.args.source.now c.args.schema.now t), c.is_unknown.ensures.0 c.if-is_unknown.true)

pub returns-else-is_unknown : goal.returns-else-is_unknown
returns-else-is_unknown c =
    All-cons (λ (t : Token). ¬ IsUnknown c.args.source.now c.args.schema.now t) c.args.name.now [] (fails c.is_unknown.result _ c.is_unknown.ensures c.if-is_unknown.false)
    (All-nil (λ (t : Token). ¬ IsUnknown c.args.source.now c.args.schema.now t))
