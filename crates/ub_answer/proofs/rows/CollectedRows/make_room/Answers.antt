use Rattle.std.proofs.Common.{ℕ, List, Option, Some, ◌≤◌, ◌<◌, ◌-◌, length, slice_get, rules, arith, ap, sym, subst, ◌∙◌}
use Rattle.std.specs.List.Sorted.{IsSorted}
use Rattle.ub_answer.proofs.CompareFacts.{rows_total}
use Rattle.ub_answer.proofs.FirstFacts.{held_first, last_behind}
use Rattle.ub_answer.specs.inner.Compare.{row_cmp}
use Rattle.ub_answer.specs.inner.Kept.{HoldsFirst, HoldsRows}
use Rattle.ub_query.specs.declared.query.SortKey.{SortKey}
use Rattle.ub_table.specs.declared.row.Row.{Row}
use Rattle.ub_answer.proofs.rows.CollectedRows.make_room.Goals as goal

pub returns-then-most_held-len-clause-held : goal.returns-then-most_held-len-clause-held
returns-then-most_held-len-clause-held c taken h =
    let schema = c.args.schema.now in
    let keys = c.args.query.now.order in
    let cmp = row_cmp schema keys in
    let (sorted, same, up, is) = c.arrange_rows.ensures.arranged in
    let up_keys : IsSorted cmp sorted = subst (λ (ks : List SortKey). IsSorted (row_cmp schema ks) sorted) c.as_slice.ensures up in
    let first : HoldsFirst cmp (Some c.in-Some.most) taken c.arrange_rows.new.rows.items =
    subst (λ (rows : List Row). HoldsFirst cmp (Some c.in-Some.most) taken rows) (sym is)
    (held_first cmp (rows_total schema keys) (Some c.in-Some.most) taken c.args.self.now.rows.items sorted same up_keys
    (subst (λ (l : Option ℕ). HoldsFirst cmp l taken c.args.self.now.rows.items) c.in-Some.is h.0)) in
    let range : c.in-Some.most < 18446744073709551616 = search rules in
    let fits : c.in-Some.most ≤ length c.args.self.now.rows.items =
    let asked = c.most_held.ensures in let counted = c.len.ensures in let enough = c.if-most_held-len.true in omega arith in
    let is_last = c.copied-self.ensures ∙ c.last.ensures.value ∙ ap (λ (rows : List Row). slice_get rows (length rows - 1)) c.as_slice-then-most_held-len.ensures.value in
    let last = last_behind cmp (rows_total schema keys) c.in-Some.most c.args.self.now.rows.items sorted c.arrange_rows.new.rows.items c.copied-self.result same up_keys fits is
    is_last in
    subst (λ (l : Option ℕ). HoldsRows schema keys l taken c.arrange_rows.new.rows.items c.copied-self.result) (sym c.in-Some.is) (first, last)
