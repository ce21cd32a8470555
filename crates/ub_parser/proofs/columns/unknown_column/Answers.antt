-- The names of the parts, in the order of the tokens.
use Rattle.std.proofs.Common.{◌++◌, List, Option, ap, refl, sym, ◌∙◌}
use Rattle.std.specs.Option.{option_map, option_or}
use Rattle.std.specs.List.{All, flat_map}
use Rattle.std.proofs.lemmas.List.Elements.{All-same}
use Rattle.ub_lexer.specs.declared.token.Token.{Token}
use Rattle.ub_syntax.specs.Tree.{select_of, shape}
use Rattle.ub_syntax.specs.declared.syntax.Item.{Item}
use Rattle.ub_syntax.specs.declared.syntax.OrderKey.{OrderKey}
use Rattle.ub_parser.specs.Known.{IsUnknown}
use Rattle.ub_syntax.specs.Limits.{comparisons, key_items, listed}
use Rattle.ub_parser.specs.Refusals.{item_names, names}
use Rattle.ub_parser.specs.Spans.{IsWithin}
use Rattle.ub_parser.proofs.FirstFacts.{first_same, first_joined}
use Rattle.ub_parser.proofs.KnownFacts.{names_of_items, names_of_filter, names_of_group, names_of_keys, within_filter}
use Rattle.ub_parser.proofs.FirstFacts.{from_left}
use Rattle.ub_parser.proofs.columns.unknown_column.Goals as goal

pub unknown_in_items-item-requires : goal.unknown_in_items-item-requires
unknown_in_items-item-requires c =
    All-same (λ (item : Item). All (λ (t : Token). IsWithin c.args.source.now t) (item_names item)) c.listed.result.now _ c.listed.ensures
    (names_of_items (λ (t : Token). IsWithin c.args.source.now t) (select_of c.args.syntax.now) c.requires)

pub unknown_in_filter-compared-requires : goal.unknown_in_filter-compared-requires
unknown_in_filter-compared-requires c =
    within_filter c.args.source.now (option_map shape c.args.syntax.now.filter) (names_of_filter (λ (t : Token). IsWithin c.args.source.now t) (select_of c.args.syntax.now) c.requires)

pub unknown_in_names-name-requires : goal.unknown_in_names-name-requires
unknown_in_names-name-requires c =
    All-same (λ (t : Token). IsWithin c.args.source.now t) c.as_slice.result.now _ c.as_slice.ensures
    (names_of_group (λ (t : Token). IsWithin c.args.source.now t) (select_of c.args.syntax.now) c.requires)

pub unknown_in_keys-key-requires : goal.unknown_in_keys-key-requires
unknown_in_keys-key-requires c =
    All-same (λ (key : OrderKey). All (λ (t : Token). IsWithin c.args.source.now t) (item_names key.item)) c.as_slice-2.result.now _ c.as_slice-2.ensures
    (names_of_keys (λ (t : Token). IsWithin c.args.source.now t) (select_of c.args.syntax.now) c.requires)

pub returns : goal.returns
returns c =
    let P : Token → Type 0 = λ name. IsUnknown c.args.source.now c.args.schema.now name in
    let s = select_of c.args.syntax.now in
    let i = c.unknown_in_items-item.result in
    let f = c.unknown_in_filter-compared.result in
    let g = c.unknown_in_names-name.result in
    let k = c.unknown_in_keys-key.result in
    let items = first_same P (flat_map item_names (listed s.selection)) (flat_map item_names c.listed.result.now) i (ap (flat_map item_names) (sym c.listed.ensures)) c.unknown_in_items-item.ensures in
    let group = first_same P s.group c.as_slice.result.now g (sym c.as_slice.ensures) c.unknown_in_names-name.ensures in
    let keys =
    first_same P (flat_map item_names (key_items s.order)) (flat_map item_names (key_items c.as_slice-2.result.now)) k (ap (λ (keys : List OrderKey). flat_map item_names (key_items keys)) (sym c.as_slice-2.ensures))
    c.unknown_in_keys-key.ensures in
    first_joined P (names s) (flat_map item_names (listed s.selection)) (comparisons s.filter ++ (s.group ++ flat_map item_names (key_items s.order))) i (option_or f (option_or g k)) c.or-3.result refl items
    (first_joined P (comparisons s.filter ++ (s.group ++ flat_map item_names (key_items s.order))) (comparisons s.filter) (s.group ++ flat_map item_names (key_items s.order)) f (option_or g k) (option_or f (option_or g k)) refl
    c.unknown_in_filter-compared.ensures
    (first_joined P (s.group ++ flat_map item_names (key_items s.order)) s.group (flat_map item_names (key_items s.order)) g k (option_or g k) refl group keys refl) refl)
    (c.or-3.ensures ∙ ap (λ (o : Option Token). option_or o k) c.or-2.ensures ∙ ap (λ (o : Option Token). option_or (option_or o g) k) c.or.ensures ∙ from_left i f g k)
