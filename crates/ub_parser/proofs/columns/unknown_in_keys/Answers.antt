use Rattle.std.proofs.Common.{List, ◌≤◌, length, sym, subst, take, arith}
use Rattle.std.specs.List.{All}
use Rattle.std.proofs.lemmas.List.Elements.{All-more, All-same}
use Rattle.std.proofs.Common.{take_all}
use Rattle.ub_lexer.specs.declared.token.Token.{Token}
use Rattle.ub_syntax.specs.declared.syntax.OrderKey.{OrderKey}
use Rattle.ub_parser.specs.Known.{IsUnknown}
use Rattle.ub_parser.specs.Refusals.{IsFirst, item_names}
use Rattle.ub_parser.proofs.FirstFacts.{flat_first, flat_none, keys_names}
use Rattle.ub_parser.proofs.columns.unknown_in_keys.Goals as goal

pub returns-in-Some : goal.returns-in-Some
returns-in-Some c =
    subst (λ (ts : List Token). IsFirst (λ (t : Token). IsUnknown c.args.source.now c.args.schema.now t) ts c.in-Some.name) (sym (keys_names c.args.keys.now))
    (flat_first (λ (t : Token). IsUnknown c.args.source.now c.args.schema.now t) (λ (key : OrderKey). item_names key.item) c.args.keys.now c.loop-key.key-index _ c.in-Some.name (omega arith) c.loop-key.invariant c.in-Some.ensures)

pub loop-key-preserved : goal.loop-key-preserved
loop-key-preserved c =
    All-more (λ (key : OrderKey). All (λ (t : Token). ¬ IsUnknown c.args.source.now c.args.schema.now t) ((λ (key : OrderKey). item_names key.item) key)) c.args.keys.now c.loop-key.key-index _ (omega arith) c.loop-key.invariant c.in_default.ensures

pub returns : goal.returns
returns c =
    let le : length c.args.keys.now ≤ c.loop-key.key-index = omega arith in
    subst (λ (ts : List Token). All (λ (t : Token). ¬ IsUnknown c.args.source.now c.args.schema.now t) ts) (sym (keys_names c.args.keys.now))
    (flat_none (λ (t : Token). IsUnknown c.args.source.now c.args.schema.now t) (λ (key : OrderKey). item_names key.item) c.args.keys.now (All-same (λ (key : OrderKey). All (λ (t : Token). ¬ IsUnknown c.args.source.now c.args.schema.now t) ((λ (key : OrderKey). item_names key.item) key)) c.args.keys.now (take c.loop-key.key-index c.args.keys.now) (sym (take_all c.loop-key.key-index c.args.keys.now le)) c.loop-key.invariant))
