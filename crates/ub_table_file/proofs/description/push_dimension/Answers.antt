use Rattle.ub_table_file.proofs.DescribeFacts.{dimension_put, not_put}
use Rattle.ub_table_file.proofs.description.push_dimension.Goals as goal

pub returns-in_err-extend_from_slice : goal.returns-in_err-extend_from_slice
returns-in_err-extend_from_slice c = not_put _ c.from_residual.result c.in_err-extend_from_slice.field-0.0 c.from_residual.ensures.1

pub returns-in_err-extend_from_slice-2 : goal.returns-in_err-extend_from_slice-2
returns-in_err-extend_from_slice-2 c = not_put _ c.from_residual-in_err-extend_from_slice-2.result c.in_err-extend_from_slice-2.field-0.0 c.from_residual-in_err-extend_from_slice-2.ensures.1

pub returns-in_err-extend_from_slice-3 : goal.returns-in_err-extend_from_slice-3
returns-in_err-extend_from_slice-3 c = not_put _ c.from_residual-in_err-extend_from_slice-3.result c.in_err-extend_from_slice-3.field-0.0 c.from_residual-in_err-extend_from_slice-3.ensures.1

pub returns : goal.returns
returns c =
    let signed = rw c.sign_word.ensures at c.in_ok-extend_from_slice-3.ensures.items in
    dimension_put c.extend_from_slice-4.result c.args.name.now _ c.args.text.now.items _ _ _ _ c.in_ok-extend_from_slice.ensures.items c.in_ok-extend_from_slice-2.ensures.items signed
    c.extend_from_slice-4.ensures.items
