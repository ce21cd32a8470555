use Rattle.ub_table_file.proofs.DescribeFacts.{column_step, not_put}
use Rattle.ub_table_file.proofs.description.push_columns.Goals as goal

pub loop-column-preserved : goal.loop-column-preserved
loop-column-preserved c = column_step _ c.loop-column.column _ _ _ c.loop-column.invariant c.in_ok-push_column.ensures

pub returns-in_err-push_column : goal.returns-in_err-push_column
returns-in_err-push_column c = not_put _ c.from_residual.result c.in_err-push_column.field-0.0 c.from_residual.ensures.1
