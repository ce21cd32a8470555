use Rattle.std.proofs.Common.{List, ◌≤◌, length, sym, subst, take, arith}
use Rattle.std.specs.List.{All}
use Rattle.std.proofs.lemmas.List.Elements.{All-more, All-same}
use Rattle.std.proofs.Common.{take_all}
use Rattle.ub_lexer.specs.declared.token.Token.{Token}
use Rattle.ub_syntax.specs.declared.syntax.Item.{Item}
use Rattle.ub_parser.specs.Known.{IsUnknown}
use Rattle.ub_parser.specs.Refusals.{IsFirst, item_names}
use Rattle.ub_parser.proofs.FirstFacts.{flat_first, flat_none, items_names}
use Rattle.ub_parser.proofs.columns.unknown_in_items.Goals as goal

pub returns-in-Some : goal.returns-in-Some
returns-in-Some c =
    subst (λ (ts : List Token). IsFirst (λ (t : Token). IsUnknown c.args.source.now c.args.schema.now t) ts c.in-Some.name) (sym (items_names c.args.items.now))
    (flat_first (λ (t : Token). IsUnknown c.args.source.now c.args.schema.now t) (λ (item : Item). item_names item) c.args.items.now c.loop-item.item-index _ c.in-Some.name (omega arith) c.loop-item.invariant c.in-Some.ensures)

pub loop-item-preserved : goal.loop-item-preserved
loop-item-preserved c =
    All-more (λ (item : Item). All (λ (t : Token). ¬ IsUnknown c.args.source.now c.args.schema.now t) ((λ (item : Item). item_names item) item)) c.args.items.now c.loop-item.item-index _ (omega arith) c.loop-item.invariant c.in_default.ensures

pub returns : goal.returns
returns c =
    let le : length c.args.items.now ≤ c.loop-item.item-index = omega arith in
    subst (λ (ts : List Token). All (λ (t : Token). ¬ IsUnknown c.args.source.now c.args.schema.now t) ts) (sym (items_names c.args.items.now))
    (flat_none (λ (t : Token). IsUnknown c.args.source.now c.args.schema.now t) (λ (item : Item). item_names item) c.args.items.now (All-same (λ (item : Item). All (λ (t : Token). ¬ IsUnknown c.args.source.now c.args.schema.now t) ((λ (item : Item). item_names item) item)) c.args.items.now (take c.loop-item.item-index c.args.items.now) (sym (take_all c.loop-item.item-index c.args.items.now le)) c.loop-item.invariant))
