use Rattle.ub_exec.proofs.RefusedFacts.{no_result}
use Rattle.ub_exec.proofs.sweeping.hold_row.Goals as goal

pub returns-in_err-push : goal.returns-in_err-push
returns-in_err-push c =
    no_result c.from_residual.result _ _ c.from_residual.ensures.1

pub returns : goal.returns
returns c =
    c.in_ok-push.ensures.items
