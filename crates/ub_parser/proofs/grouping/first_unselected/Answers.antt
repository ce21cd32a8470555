use Rattle.std.proofs.Common.{arith}
use Rattle.std.proofs.lemmas.List.Elements.{All-map}
use Rattle.ub_syntax.specs.Tree.{select_of}
use Rattle.ub_syntax.specs.declared.syntax.Item.{Item}
use Rattle.ub_syntax.specs.declared.syntax.OrderKey.{OrderKey}
use Rattle.ub_parser.specs.Refusals.{IsUnselected}
use Rattle.ub_parser.proofs.FirstFacts.{first_at, none_more, none_at_all, fails}
use Rattle.ub_parser.proofs.GroupFacts.{first_image}
use Rattle.ub_parser.proofs.grouping.first_unselected.Goals as goal

pub is_unselected-requires-clause-key : goal.is_unselected-requires-clause-key
is_unselected-requires-clause-key c = c.requires.keys c.loop-key.key-index _ (omega arith)

pub returns-then-is_unselected : goal.returns-then-is_unselected
returns-then-is_unselected c =
    first_image (λ (key : OrderKey). key.item) (λ (key : Item). IsUnselected c.args.source.now c.args.schema.now (select_of c.args.syntax.now) key) c.args.keys.now _
    (first_at (λ (key : OrderKey). IsUnselected c.args.source.now c.args.schema.now (select_of c.args.syntax.now) key.item) c.args.keys.now c.loop-key.key-index _ (omega arith) c.loop-key.invariant
    (c.is_unselected.ensures.0 c.if-is_unselected.true))

pub loop-key-preserved : goal.loop-key-preserved
loop-key-preserved c =
    none_more (λ (key : OrderKey). IsUnselected c.args.source.now c.args.schema.now (select_of c.args.syntax.now) key.item) c.args.keys.now c.loop-key.key-index _ (omega arith) c.loop-key.invariant
    (fails c.is_unselected.result _ c.is_unselected.ensures c.if-is_unselected.false)

pub returns : goal.returns
returns c =
    All-map (λ (key : Item). ¬ IsUnselected c.args.source.now c.args.schema.now (select_of c.args.syntax.now) key) (λ (key : OrderKey). key.item) c.args.keys.now
    (none_at_all (λ (key : OrderKey). IsUnselected c.args.source.now c.args.schema.now (select_of c.args.syntax.now) key.item) c.args.keys.now c.loop-key.key-index (omega arith) c.loop-key.invariant)
