use Rattle.ub_exec.proofs.RefusedFacts.{no_result}
use Rattle.ub_exec.proofs.deleting.DoomedRowSink.push.Goals as goal

pub returns-in_err-push : goal.returns-in_err-push
returns-in_err-push c before taken has =
    no_result c.from_residual.result _ _ c.from_residual.ensures.1
