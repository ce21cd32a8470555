use Rattle.ub_table_file.specs.Described.{description}
use Rattle.ub_table_file.proofs.DescribeFacts.{description_put, not_put}
use Rattle.ub_table_file.proofs.description.push_counts.Goals as goal

pub returns-in_err-push_number : goal.returns-in_err-push_number
returns-in_err-push_number c = not_put _ c.from_residual.result c.in_err-push_number.field-0.0 c.from_residual.ensures.1

pub returns-in_err-push_number-2 : goal.returns-in_err-push_number-2
returns-in_err-push_number-2 c = not_put _ c.from_residual-in_err-push_number-2.result c.in_err-push_number-2.field-0.0 c.from_residual-in_err-push_number-2.ensures.1

pub returns-in_err-push_number-3 : goal.returns-in_err-push_number-3
returns-in_err-push_number-3 c = not_put _ c.from_residual-in_err-push_number-3.result c.in_err-push_number-3.field-0.0 c.from_residual-in_err-push_number-3.ensures.1

pub returns-in_err-push_number-4 : goal.returns-in_err-push_number-4
returns-in_err-push_number-4 c = not_put _ c.from_residual-in_err-push_number-4.result c.in_err-push_number-4.field-0.0 c.from_residual-in_err-push_number-4.ensures.1

pub returns-in_err-push_number-5 : goal.returns-in_err-push_number-5
returns-in_err-push_number-5 c = not_put _ c.from_residual-in_err-push_number-5.result c.in_err-push_number-5.field-0.0 c.from_residual-in_err-push_number-5.ensures.1

pub returns : goal.returns
returns c =
    description_put c.push_number-6.result (description c.args.schema.now c.args.numbers) c.page_rows.result c.from.result c.levels_word.result.now c.args.text.now.items _ _ _ _ _ _
    c.page_rows.ensures.page_rows c.levels_word.ensures c.from.ensures
    c.in_ok-push_number.ensures c.in_ok-push_number-2.ensures c.in_ok-push_number-3.ensures c.in_ok-push_number-4.ensures c.in_ok-push_number-5.ensures c.push_number-6.ensures
