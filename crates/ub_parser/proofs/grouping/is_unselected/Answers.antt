use Rattle.std.proofs.Common.{◌↔◌, IsTrue, subst}
use Rattle.std.proofs.lemmas.List.Elements.{All-same}
use Rattle.ub_query.specs.Posed.{IsAggregate as IsTaken}
use Rattle.ub_query.specs.declared.query.Item.{Item as Meant}
use Rattle.ub_syntax.specs.Tree.{select_of}
use Rattle.ub_syntax.specs.declared.syntax.Item.{Item}
use Rattle.ub_parser.specs.Known.{IsKnownItem}
use Rattle.ub_parser.proofs.FirstFacts.{fails}
use Rattle.ub_parser.proofs.GroupFacts.{tells_aggregate, unselected_grouping, unselected_plain}
use Rattle.ub_parser.proofs.grouping.is_unselected.Goals as goal

pub is_selected-requires-clause-items : goal.is_selected-requires-clause-items
is_selected-requires-clause-items c =
    All-same (λ (item : Item). IsKnownItem c.args.source.now c.args.schema.now item) c.listed.result.now _ c.listed.ensures c.requires.items

pub returns-then-has_groups : goal.returns-then-has_groups
returns-then-has_groups c =
    unselected_grouping c.args.source.now c.args.schema.now (select_of c.args.syntax.now) c.args.key.now c.listed.result.now c.is_selected.result (c.requires.groups.0 c.if-has_groups.true)
    c.listed.ensures c.is_selected.ensures

pub returns-else-has_groups : goal.returns-else-has_groups
returns-else-has_groups c =
    unselected_plain c.args.source.now c.args.schema.now (select_of c.args.syntax.now) c.args.key.now c.is_aggregate.result (fails c.args.has_groups _ c.requires.groups c.if-has_groups.false)
    (tells_aggregate c.args.source.now c.args.schema.now c.args.key.now c.is_aggregate.result
    (subst (λ (meant : Meant). IsTrue c.is_aggregate.result ↔ IsTaken meant) c.item.ensures.item c.is_aggregate.ensures.aggregate))
