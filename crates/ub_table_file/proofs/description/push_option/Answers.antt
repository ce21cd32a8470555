use Rattle.std.proofs.Common.{◌∙◌, decimal}
use Rattle.ub_table_file.proofs.DescribeFacts.{not_put, option_put}
use Rattle.ub_table_file.proofs.description.push_option.Goals as goal

pub returns-in_err-extend_from_slice : goal.returns-in_err-extend_from_slice
returns-in_err-extend_from_slice c = not_put _ c.from_residual.result c.in_err-extend_from_slice.field-0.0 c.from_residual.ensures.1

pub returns : goal.returns
returns c =
    option_put c.extend_from_slice-2.result c.args.option.now c.as_bytes.result.now (decimal c.args.number) c.args.text.now.items _ _ (c.as_bytes.ensures.value ∙ c.format.ensures.text)
    c.in_ok-extend_from_slice.ensures.items c.extend_from_slice-2.ensures.items
