use Rattle.std.proofs.Common.{List, Option, ◌≡◌, ◌∷◌, [], ◌++◌, IfSome, sym, subst}
use Rattle.std.specs.declared.cmp.Ordering.TheVariants.{Less}
use Rattle.ub_answer.proofs.CompareFacts.{rows_total}
use Rattle.ub_answer.proofs.FirstFacts.{held_more, held_without, behind_push}
use Rattle.ub_answer.specs.inner.Compare.{row_cmp}
use Rattle.ub_answer.specs.inner.Kept.{HoldsRows, IsBehind}
use Rattle.ub_query.specs.declared.query.SortKey.{SortKey}
use Rattle.ub_table.specs.declared.row.Row.{Row}
use Rattle.ub_answer.proofs.rows.CollectedRows.take.Goals as goal

pub returns-then-is_behind-clause-taken : goal.returns-then-is_behind-clause-taken
returns-then-is_behind-clause-taken c taken h =
    let schema = c.args.schema.now in
    let keys = c.args.query.now.order in
    let (before, is, less) = c.is_behind.ensures c.if-is_behind.true in
    let limit = c.args.query.now.limit in
    let behind : IsBehind (row_cmp schema keys) limit c.args.self.now.rows.items before =
    subst (λ (last : Option Row). IfSome last (λ row. IsBehind (row_cmp schema keys) limit c.args.self.now.rows.items row)) is h.1 in (
      held_without (row_cmp schema keys) (rows_total schema keys) limit taken c.args.self.now.rows.items before c.args.row.now
          (subst (λ (ks : List SortKey). row_cmp schema ks before c.args.row.now ≡ Less) c.as_slice.ensures less) behind h.0,
      h.1,
    )

pub returns-clause-taken : goal.returns-clause-taken
returns-clause-taken c taken h =
    let schema = c.args.schema.now in
    let keys = c.args.query.now.order in
    let limit = c.args.query.now.limit in
    let made = c.make_room.ensures.held taken h in
    subst (λ (rows : List Row). HoldsRows schema keys limit (taken ++ c.args.row.now ∷ []) rows c.make_room.new.self.last) (sym c.in_ok-push.ensures.items) (
      held_more (row_cmp schema keys) (rows_total schema keys) limit taken c.make_room.new.self.rows.items c.args.row.now made.0,
      behind_push (row_cmp schema keys) (rows_total schema keys) limit c.make_room.new.self.rows.items c.args.row.now c.make_room.new.self.last made.1,
    )
