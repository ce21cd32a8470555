-- The columns of a condition are those of its parts, in order.
use Rattle.std.proofs.Common.{◌≡◌, ◌++◌, inl, inr, List, [], ◌∷◌, refl, ap, sym, ◌∙◌}
use Rattle.ub_lexer.specs.declared.token.Token.{Token}
use Rattle.ub_syntax.specs.Tree.{shape}
use Rattle.ub_syntax.specs.declared.syntax.Condition.{Condition}
use Rattle.ub_parser.specs.Known.{IsUnknown}
use Rattle.ub_syntax.specs.Limits.{compared}
use Rattle.ub_parser.proofs.FirstFacts.{first_same, first_joined}
use Rattle.ub_parser.proofs.columns.+unknown_in_condition.Goals as goal

columns : Condition → List Token
columns c = compared (shape c)

two : (a b x y : Condition) → x ≡ a → y ≡ b → columns a ++ columns b ≡ columns x ++ columns y
two a b x y p q = rw (p, q) refl

pub returns-in-Not : goal.returns-in-Not
unfolding columns
returns-in-Not t c =
    first_same (λ (name : Token). IsUnknown c.args.source.now c.args.schema.now name) _ (columns c.deref.result.now) c.unknown_in_condition.result
    (ap columns c.in-Not.is ∙ ap columns (sym c.deref.ensures)) c.unknown_in_condition.ensures

pub returns-in-Compare : goal.returns-in-Compare
unfolding columns
returns-in-Compare t c =
    first_same (λ (name : Token). IsUnknown c.args.source.now c.args.schema.now name) _ (c.in-Compare.name ∷ []) c.unknown_name.result
    (elim c.in-Compare.is [ inl (operator, literal, e) ↦ ap columns e | inr (low, high, e) ↦ ap columns e ]) c.unknown_name.ensures

pub returns-in-And : goal.returns-in-And
unfolding columns
returns-in-And t c =
    let parts = two c.in-And.a.value c.in-And.b.value c.deref-in-And.result.now c.deref-in-And-2.result.now c.deref-in-And.ensures c.deref-in-And-2.ensures in
    first_joined (λ (name : Token). IsUnknown c.args.source.now c.args.schema.now name) _ (columns c.deref-in-And.result.now) (columns c.deref-in-And-2.result.now)
    c.unknown_in_condition-first.result c.unknown_in_condition-in-And.result c.or.result
    (elim c.in-And.is [ inl e ↦ ap columns e ∙ parts | inr e ↦ ap columns e ∙ parts ])
    c.unknown_in_condition-first.ensures c.unknown_in_condition-in-And.ensures c.or.ensures
