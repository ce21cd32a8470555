use Rattle.std.proofs.Common.{ap, sym}
use Rattle.std.proofs.lemmas.List.Elements.{All-same}
use Rattle.ub_lexer.specs.declared.token.Token.{Token}
use Rattle.ub_syntax.specs.Tree.{select_of}
use Rattle.ub_syntax.specs.declared.syntax.Item.{Item}
use Rattle.ub_syntax.specs.declared.syntax.OrderKey.{OrderKey}
use Rattle.ub_parser.specs.Known.{IsColumn, IsKnownItem}
use Rattle.ub_syntax.specs.Limits.{key_items}
use Rattle.ub_parser.specs.Refusals.{IsUnselected}
use Rattle.ub_parser.proofs.FirstFacts.{first_same}
use Rattle.ub_parser.proofs.KnownFacts.{names_of_items, names_of_keys}
use Rattle.ub_parser.proofs.grouping.not_selected.Goals as goal

pub first_unselected-requires-clause-keys : goal.first_unselected-requires-clause-keys
first_unselected-requires-clause-keys c =
    All-same (λ (key : OrderKey). IsKnownItem c.args.source.now c.args.schema.now key.item) c.as_slice.result.now _ c.as_slice.ensures
    (names_of_keys (λ (t : Token). IsColumn c.args.source.now c.args.schema.now t) (select_of c.args.syntax.now) c.requires.names)

pub first_unselected-requires-clause-items : goal.first_unselected-requires-clause-items
first_unselected-requires-clause-items c = names_of_items (λ (t : Token). IsColumn c.args.source.now c.args.schema.now t) (select_of c.args.syntax.now) c.requires.names

pub returns : goal.returns
returns c =
    first_same (λ (key : Item). IsUnselected c.args.source.now c.args.schema.now (select_of c.args.syntax.now) key) (key_items c.args.syntax.now.order) (key_items c.as_slice.result.now) c.first_unselected.result
    (ap key_items (sym c.as_slice.ensures)) c.first_unselected.ensures
