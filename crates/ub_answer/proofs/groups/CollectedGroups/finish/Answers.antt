use Rattle.std.proofs.Common.{◌∙◌}
use Rattle.std.proofs.lemmas.Result.{IfOk-weaker}
use Rattle.ub_answer.proofs.GroupedFacts.{grouped_meaning, held_once}
use Rattle.ub_answer.proofs.ShapedFacts.{shaped_groups}
use Rattle.ub_query.specs.Shape.{asked}
use Rattle.ub_answer.proofs.groups.CollectedGroups.finish.Goals as goal

pub returns-clause-answer : goal.returns-clause-answer
returns-clause-answer c table filter taken some few listed same held =
    let (sorted, moved, up, is) = c.arrange_entries.ensures.arranged in
    IfOk-weaker c.cells_of_entries.result _ _
    (λ cells e. grouped_meaning table (record (asked c.args.query.now) { filter = filter }) taken c.args.self.groups.entries c.in_ok-entries.entries.items sorted c.as_slice-2.result.now
    c.as_slice-items.result.now c.as_slice.result.now cells c.as_slice-items.ensures c.as_slice.ensures c.requires some few listed same held
    c.in_ok-entries.ensures.unique c.in_ok-entries.ensures.entries moved up (c.as_slice-2.ensures.value ∙ is) e)
    c.cells_of_entries.ensures.lines

pub returns-clause-held : goal.returns-clause-held
returns-clause-held c schema taken groups some few held are =
    held_once schema c.args.query.now.group c.args.query.now.items taken c.args.self.groups.entries groups some few held c.in_ok-entries.ensures.unique are

pub returns-in_err-entries-clause-held : goal.returns-in_err-entries-clause-held
returns-in_err-entries-clause-held c schema taken groups some few held are =
    held_once schema c.args.query.now.group c.args.query.now.items taken c.args.self.groups.entries groups some few held c.in_err-entries.ensures.unique are

pub returns-clause-shaped : goal.returns-clause-shaped
returns-clause-shaped c =
    shaped_groups (asked c.args.query.now) c.as_slice-items.result.now c.arrange_entries.new.entries.items c.as_slice-2.result.now _ c.cells_of_entries.result
    c.as_slice-items.ensures c.as_slice-2.ensures.value c.arrange_entries.ensures.few c.cells_of_entries.ensures.lines c.cells_of_entries.ensures.wide
