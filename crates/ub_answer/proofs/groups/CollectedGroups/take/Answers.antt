use Rattle.std.proofs.Common.{ℕ, List, ap, subst, ◌∙◌}
use Rattle.std.proofs.lemmas.Result.{on_ok_weaker}
use Rattle.ub_answer.proofs.GroupedFacts.{group-next}
use Rattle.ub_answer.specs.inner.Groups.{AddsRow}
use Rattle.ub_query.specs.Groups.{values_of}
use Rattle.ub_query.specs.declared.query.Item.{Item}
use Rattle.ub_answer.proofs.groups.CollectedGroups.take.Goals as goal

pub returns : goal.returns
returns c taken grouped held =
    let own = c.in_ok-values.ensures ∙ ap (λ (columns : List ℕ). values_of c.args.schema.now columns c.args.row.now) c.as_slice.ensures in
    on_ok_weaker c.add_to_group.result
    (λ adds. group-next c.args.schema.now c.args.query.now.group c.args.query.now.items taken c.args.row.now c.in_ok-values.values c.args.self.now.groups.entries
    c.add_to_group.new.groups.entries own grouped
    (subst (λ (items : List Item). AddsRow c.args.schema.now items c.args.row.now c.in_ok-values.values c.args.self.now.groups.entries c.add_to_group.new.groups.entries)
    c.as_slice-2.ensures adds) held)
    c.add_to_group.ensures
