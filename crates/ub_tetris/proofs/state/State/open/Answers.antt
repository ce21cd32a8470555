use Rattle.std.proofs.Common.{[], refl}
use Rattle.ub_tetris.proofs.DueFacts.{lacks_by, parts_lack, parts_put, within_by}
use Rattle.ub_tetris.proofs.EventFacts.{queued_none}
use Rattle.ub_tetris.proofs.OpenFacts.{opened_asks, unopened_asks}
use Rattle.ub_tetris.proofs.TurnFacts.{refused_none}
use Rattle.ub_tetris.specs.inner.Events.{seen}
use Rattle.ub_tetris.specs.inner.Turns.{view_of}
use Rattle.ub_tetris.proofs.state.State.open.Goals as goal

pub returns-then-not-have_dimension : goal.returns-then-not-have_dimension
returns-then-not-have_dimension g c =
    let come = parts_lack c.args.plan.now c.args.tree.now c.args.self.now (seen c.args.next.now) c.requires
    (lacks_by c.course-dim.result c.args.self.now.ahead c.boxes.result.now c.args.plan.now.covering.boxes c.have_dimension.result c.course-dim.ensures c.boxes.ensures.boxes c.have_dimension.ensures
    c.if-not-have_dimension.true) in
    record {
      next = opened_asks c.args.plan.now c.args.tree.now c.args.tree.now (view_of c.args.self.now) (view_of c.args.self.now) (seen c.args.next.now) c.requires come;
      held = refl;
      came = come;
    }

pub open_stretch-requires-clause-began : goal.open_stretch-requires-clause-began
open_stretch-requires-clause-began g c = (
  c.args.self.now.ahead,
  [],
  queued_none c.boxes-2.result.now c.args.self.now.ahead
      (within_by c.course-dim.result c.args.self.now.ahead c.boxes.result.now c.boxes-2.result.now c.args.plan.now.covering.boxes c.have_dimension.result c.course-dim.ensures c.boxes.ensures.boxes c.boxes-2.ensures.boxes
      c.have_dimension.ensures c.if-not-have_dimension.false),
)

pub returns-in_err-open_stretch : goal.returns-in_err-open_stretch
returns-in_err-open_stretch g c = record {
  next = unopened_asks c.args.plan.now c.from_residual.result _ (view_of c.args.self.now) _ (seen c.args.next.now) c.args.tree.now c.open_stretch.new.self c.requires c.from_residual.ensures.1
      c.in_err-open_stretch.ensures.same c.in_err-open_stretch.ensures.faults c.in_err-open_stretch.ensures.refused;
  held = refl;
  came = refused_none _ c.from_residual.result _ c.from_residual.ensures.1;
}

pub returns : goal.returns
returns g c =
    let come = parts_put c.args.plan.now c.args.tree.now c.open_stretch.new.self c.args.self.now c.open_stretch.new.sink (seen c.args.next.now) c.boxes-2.result.now c.requires
    c.in_ok-open_stretch.ensures.same c.boxes-2.ensures.boxes
    (within_by c.course-dim.result c.args.self.now.ahead c.boxes.result.now c.boxes-2.result.now c.args.plan.now.covering.boxes c.have_dimension.result c.course-dim.ensures c.boxes.ensures.boxes c.boxes-2.ensures.boxes
    c.have_dimension.ensures c.if-not-have_dimension.false) c.in_ok-open_stretch.ensures.parts in
    record {
      next = opened_asks c.args.plan.now c.args.tree.now c.open_stretch.new.self (view_of c.args.self.now) _ (seen c.args.next.now) c.requires come;
      held = refl;
      came = come;
    }
