use Rattle.std.specs.List.{All}
use Rattle.std.proofs.lemmas.List.Elements.{All-same}
use Rattle.std.proofs.Common.{rules}
use Rattle.ub_lexer.specs.declared.token.Token.{Token}
use Rattle.ub_syntax.specs.Tree.{select_of}
use Rattle.ub_syntax.specs.declared.syntax.Item.{Item}
use Rattle.ub_parser.specs.Refusals.{item_names}
use Rattle.ub_parser.specs.Spans.{IsWithin}
use Rattle.ub_parser.proofs.GroupFacts.{all_grouped, first_not_grouped}
use Rattle.ub_parser.proofs.KnownFacts.{names_of_items, names_of_group}
use Rattle.ub_parser.proofs.grouping.not_grouped.Goals as goal

pub first_ungrouped-requires-clause-group : goal.first_ungrouped-requires-clause-group
first_ungrouped-requires-clause-group c = names_of_group (λ (t : Token). IsWithin c.args.source.now t) (select_of c.args.syntax.now) c.requires.names

pub first_ungrouped-requires-clause-items : goal.first_ungrouped-requires-clause-items
first_ungrouped-requires-clause-items c =
    let within = rw c.in-Listed.is at (names_of_items (λ (t : Token). IsWithin c.args.source.now t) (select_of c.args.syntax.now) c.requires.names) in
    All-same (λ (item : Item). All (λ (t : Token). IsWithin c.args.source.now t) (item_names item)) c.as_slice.result.now _ c.as_slice.ensures within

pub returns-in_err-item-in-Listed : goal.returns-in_err-item-in-Listed
returns-in_err-item-in-Listed c =
    rw c.from_residual.ensures
    (λ t grouping h. all_grouped c.args.source.now (select_of c.args.syntax.now) c.args.syntax.now.selection _ c.as_slice.result.now c.in-Listed.is c.as_slice.ensures c.in_err-item-in-Listed.ensures t h)

pub returns-in_ok-item-in-Listed : goal.returns-in_ok-item-in-Listed
returns-in_ok-item-in-Listed c = (
  c.requires.groups.0 c.if-not-has_groups.false,
  first_not_grouped c.args.source.now (select_of c.args.syntax.now) c.args.syntax.now.selection _ c.as_slice.result.now c.in_ok-item-in-Listed.item c.first_token.result c.in-Listed.is c.as_slice.ensures
      c.in_ok-item-in-Listed.ensures c.first_token.ensures,
)

pub returns-in-All : goal.returns-in-All
returns-in-All c = search rules
