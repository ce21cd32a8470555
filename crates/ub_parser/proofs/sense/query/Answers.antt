-- Each part of the statement has columns for names.
use Rattle.std.proofs.lemmas.List.Elements.{All-same}
use Rattle.std.proofs.Common.{rules}
use Rattle.ub_lexer.specs.declared.token.Token.{Token}
use Rattle.ub_syntax.specs.Tree.{select_of}
use Rattle.ub_syntax.specs.declared.syntax.OrderKey.{OrderKey}
use Rattle.ub_parser.specs.Known.{IsColumn, IsKnownItem}
use Rattle.ub_parser.proofs.KnownFacts.{are_columns, known_items, known_filter, known_group, known_order, known_limit}
use Rattle.ub_parser.proofs.sense.query.Goals as goal

pub items-requires : goal.items-requires
items-requires c =
    let source = c.args.source.now in
    let schema = c.args.schema.now in
    let s = select_of c.args.syntax.now in
    known_items source schema s (are_columns source schema s c.requires.written c.requires.known)

pub filter-requires : goal.filter-requires
filter-requires c =
    let source = c.args.source.now in
    let schema = c.args.schema.now in
    let s = select_of c.args.syntax.now in
    known_filter source schema s c.requires.written (are_columns source schema s c.requires.written c.requires.known)

pub group-requires : goal.group-requires
group-requires c =
    let source = c.args.source.now in
    let schema = c.args.schema.now in
    let s = select_of c.args.syntax.now in
    All-same (λ (t : Token). IsColumn source schema t) c.as_slice.result.now _ c.as_slice.ensures
    (known_group source schema s (are_columns source schema s c.requires.written c.requires.known))

pub order-requires : goal.order-requires
order-requires c =
    let source = c.args.source.now in
    let schema = c.args.schema.now in
    let s = select_of c.args.syntax.now in
    All-same (λ (key : OrderKey). IsKnownItem source schema key.item) c.as_slice-2.result.now _ c.as_slice-2.ensures
    (known_order source schema s (are_columns source schema s c.requires.written c.requires.known))

pub limit-requires : goal.limit-requires
limit-requires c =
    known_limit c.args.source.now c.args.schema.now (select_of c.args.syntax.now) c.requires.written

pub returns-clause-asked : goal.returns-clause-asked
returns-clause-asked c = search rules
