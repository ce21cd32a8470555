use Rattle.std.proofs.Common.{◌≢◌, map, Contains, IsTrue, false, ◌↔◌, subst, arith}
use Rattle.std.proofs.lemmas.List.Elements.{All-more}
use Rattle.ub_syntax.specs.declared.syntax.Item.{Item}
use Rattle.ub_parser.specs.Sense.{item_of}
use Rattle.ub_query.specs.declared.query.Item.{Item as Meant}
use Rattle.ub_parser.proofs.FirstFacts.{fails}
use Rattle.ub_parser.proofs.GroupFacts.{no_image}
use Rattle.ub_parser.proofs.grouping.is_selected.Goals as goal

pub item-requires : goal.item-requires
item-requires c = c.requires.items c.loop-other.other-index _ (omega arith)

pub loop-other-preserved : goal.loop-other-preserved
loop-other-preserved c =
    All-more (λ (other : Item). item_of c.args.source.now c.args.schema.now other ≢ c.item-wanted.result) c.args.items.now c.loop-other.other-index _ (omega arith) c.loop-other.invariant
    (subst (λ (meant : Meant). meant ≢ c.item-wanted.result) c.item.ensures.item (fails c.is_same.result _ c.is_same.ensures.same c.if-is_same.false))

pub returns : goal.returns
returns c =
    subst (λ (wanted : Meant). IsTrue false ↔ Contains (map (λ (item : Item). item_of c.args.source.now c.args.schema.now item) c.args.items.now) wanted) c.item-wanted.ensures.item
    (no_image (λ (item : Item). item_of c.args.source.now c.args.schema.now item) c.args.items.now c.loop-other.other-index c.item-wanted.result (omega arith) c.loop-other.invariant)
