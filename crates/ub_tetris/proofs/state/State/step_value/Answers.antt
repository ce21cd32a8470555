use Rattle.std.proofs.Common.{refl}
use Rattle.ub_tetris.proofs.GiveFacts.{dim_taken, first_none, first_refused, others_refused, others_taken}
use Rattle.ub_tetris.specs.inner.Turns.{view_of}
use Rattle.ub_tetris.proofs.state.State.step_value.Goals as goal

pub returns-in_err-first : goal.returns-in_err-first
returns-in_err-first g c =
    first_refused _ c.args.plan.now (view_of c.args.self.now) c.args.tree.now c.step.new.tree (view_of c.step.new.self) c.from_residual.result _ c.from_residual.ensures.1 c.in_err-first.ensures

pub returns-in_default : goal.returns-in_default
returns-in_default g c =
    first_none _ c.args.plan.now (view_of c.args.self.now) c.args.tree.now c.step.new.tree (view_of c.step.new.self) _ c.in_default.is c.in_ok-first.ensures

pub returns-in_err-rows : goal.returns-in_err-rows
returns-in_err-rows g c =
    others_refused _ c.args.plan.now (view_of c.args.self.now) c.args.tree.now c.step.new.tree (view_of c.step.new.self) (view_of (record c.step.new.self { held = c.take_value.new.self })) _ c.in-Some.first c.in-Some.is
    c.in_ok-first.ensures refl c.from_residual-in_err-rows.result c.from_residual-in_err-rows.ensures.1

pub returns : goal.returns
returns g c =
    others_taken _ c.args.plan.now (view_of c.args.self.now) c.args.tree.now c.step.new.tree (view_of c.step.new.self) (view_of (record c.step.new.self { held = c.take_value.new.self })) _ c.in-Some.first c.in-Some.is
    c.in_ok-first.ensures refl c.in_ok-rows.rows (dim_taken c.step.new.self.ahead c.course-dim.result c.in-Some.first c.step.new.self.held c.take_value.new.self c.in_ok-rows.rows.items c.course-dim.ensures c.in_ok-rows.ensures)
