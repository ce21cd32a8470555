use Rattle.std.proofs.Common.{None}
use Rattle.ub_index_change.proofs.Common.{step_misfits, top}
use Rattle.ub_index_change.proofs.change.named_alone.Goals as goal

pub returns-in_err-bring_root-clause-effect : goal.returns-in_err-bring_root-clause-effect
returns-in_err-bring_root-clause-effect g c =
    step_misfits c.args.last c.args.level (top c.args.root) None c.args.pager.now c.bring_root.new.pager c.from_residual.result c.in_err-bring_root.field-0.0 c.from_residual.ensures.1
    c.in_err-bring_root.ensures.effect
