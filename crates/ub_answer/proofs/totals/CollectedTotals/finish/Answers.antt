use Rattle.std.proofs.Common.{rules, ◌≡◌, ◌≤◌, ◌∙◌, List, ap, length, refl, subst, sym}
use Rattle.std.specs.List.{AllByRecursion}
use Rattle.ub_answer.proofs.ShapedFacts.{shaped_totals}
use Rattle.ub_answer.proofs.TotalFacts.{total_meaning}
use Rattle.ub_answer.specs.inner.Cut.{cut}
use Rattle.ub_query.specs.Shape.{asked}
use Rattle.ub_query.specs.declared.cell.Cell.{Cell}
use Rattle.ub_answer.proofs.totals.CollectedTotals.finish.Goals as goal

pub returns-clause-answer : goal.returns-clause-answer
returns-clause-answer c table filter taken none_grouped few same held =
    let fits : length c.args.query.now.items ≤ length c.args.self.tally = search rules in
    total_meaning table (record (asked c.args.query.now) { filter = filter }) taken c.args.self.tally c.one_within-count.result _ c.of_cells.result none_grouped few same held
    (ap length c.as_slice-width.ensures) fits c.one_within-count.ensures.none c.one_within-count.ensures.one
    (c.of_cells.ensures ∙ c.new.ensures.rows ∙ ap (cut c.one_within-count.result (length c.as_slice-width.result.now)) c.in_ok-cells.ensures.items)

pub returns-clause-shaped : goal.returns-clause-shaped
returns-clause-shaped c =
    shaped_totals (asked c.args.query.now) c.as_slice-width.result.now c.one_within-count.result _ _ c.of_cells.result c.as_slice-width.ensures refl
    c.one_within-count.ensures.few c.one_within-count.ensures.none (c.of_cells.ensures ∙ c.new.ensures.rows)
    (subst (λ (rows : List (List Cell)). AllByRecursion (λ cells. length cells ≡ length c.as_slice-width.result.now) rows) (sym c.of_cells.ensures) c.new.ensures.wide)
