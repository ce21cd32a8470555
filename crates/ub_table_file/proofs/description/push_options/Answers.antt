use Rattle.std.proofs.Common.{◌∙◌}
use Rattle.ub_table_file.proofs.DescribeFacts.{not_put, options_put}
use Rattle.ub_table_file.proofs.description.push_options.Goals as goal

pub returns-in_err-push_option : goal.returns-in_err-push_option
returns-in_err-push_option c = not_put _ c.from_residual.result c.in_err-push_option.field-0.0 c.from_residual.ensures.1

pub returns-in_err-push_option-2 : goal.returns-in_err-push_option-2
returns-in_err-push_option-2 c = not_put _ c.from_residual-in_err-push_option-2.result c.in_err-push_option-2.field-0.0 c.from_residual-in_err-push_option-2.ensures.1

pub returns-in_err-push_option-3 : goal.returns-in_err-push_option-3
returns-in_err-push_option-3 c = not_put _ c.from_residual-in_err-push_option-3.result c.in_err-push_option-3.field-0.0 c.from_residual-in_err-push_option-3.ensures.1

pub returns : goal.returns
returns c =
    options_put c.push_fact.result c.args.schema.now c.dims.result c.signed.result c.page_rows.result c.bytes.result.now c.args.text.now.items _ _ _ _
    c.dims.ensures.dims c.signed.ensures.signed c.page_rows.ensures.page_rows (c.bytes.ensures.bytes ∙ c.name.ensures)
    c.in_ok-push_option.ensures c.in_ok-push_option-2.ensures c.in_ok-push_option-3.ensures c.push_fact.ensures
