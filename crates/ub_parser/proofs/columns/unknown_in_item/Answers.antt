-- A column's item names it, and so does an aggregate's.
use Rattle.std.proofs.Common.{inl, inr, [], ◌∷◌, ap}
use Rattle.ub_lexer.specs.declared.token.Token.{Token}
use Rattle.ub_parser.specs.Known.{IsUnknown}
use Rattle.ub_parser.specs.Refusals.{item_names}
use Rattle.ub_parser.proofs.FirstFacts.{first_same}
use Rattle.ub_parser.proofs.columns.unknown_in_item.Goals as goal

pub returns-in-Column : goal.returns-in-Column
returns-in-Column c =
    first_same (λ (name : Token). IsUnknown c.args.source.now c.args.schema.now name) (item_names c.args.item.now) (c.in-Column.name ∷ []) c.unknown_name.result
    (elim c.in-Column.is [ inl e ↦ ap item_names e | inr (aggregate, first, e) ↦ ap item_names e ]) c.unknown_name.ensures
