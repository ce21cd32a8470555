-- Each column puts its value behind those before.
use Rattle.std.proofs.Common.{[], rules, ◌∙◌}
use Rattle.std.proofs.lemmas.Int.{to_z-of_z}
use Rattle.std.proofs.lemmas.Result.{IfOk-from_err}
use Rattle.std.specs.Int.{w64}
use Rattle.ub_answer.proofs.CutFacts.{values-all, values-next}
use Rattle.ub_table.specs.Table.{column_value}
use Rattle.ub_answer.proofs.groups.values_of.Goals as goal

pub loop-column-init : goal.loop-column-init
loop-column-init c = c.new-all.ensures.items

pub loop-column-preserved : goal.loop-column-preserved
loop-column-preserved c =
    values-next (column_value c.args.schema.now c.args.row.now) c.args.columns.now c.loop-column.column-index _ [] c.loop-column.all.items
    c.push.new.self.items _
    c.loop-column-test.true c.loop-column.invariant c.in_ok-push.ensures.ok (to_z-of_z w64 _ (search rules) ∙ c.value_of.ensures.value)

pub returns-in_err-push : goal.returns-in_err-push
returns-in_err-push c = IfOk-from_err c.from_residual.result _ c.from_residual.ensures.0

pub returns : goal.returns
returns c =
    values-all (column_value c.args.schema.now c.args.row.now) c.args.columns.now c.loop-column.column-index [] c.loop-column.all.items
    c.loop-column-test.false c.loop-column.invariant
