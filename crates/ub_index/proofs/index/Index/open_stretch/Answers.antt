use Rattle.std.proofs.Common.{ℕ, Err, subst}
use Rattle.ub_index.proofs.Common.{BringsFitting, entry_at}
use Rattle.ub_index.proofs.StretchSteps.{opens_misfits}
use Rattle.ub_index.proofs.index.Index.open_stretch.Goals as goal

pub returns-in_err-head : goal.returns-in_err-head
returns-in_err-head g c =
    let effect = subst (λ (n : ℕ). BringsFitting n c.args.stretch.now.level (entry_at c.args.stretch.now.span) c.args.stretch.now.span.next c.args.pager.now c.bring_fitting.new.pager (Err c.in_err-head.field-0.0))
    c.last-last.ensures c.in_err-head.ensures.effect in
    opens_misfits (g.T.StretchSink.Takes c.args.boxes.now) c.args.self.now c.args.boxes.now c.args.stretch.now c.args.sink.now c.args.sink.now c.args.pager.now c.bring_fitting.new.pager
    c.from_residual.result c.in_err-head.field-0.0 c.from_residual.ensures.1 effect
