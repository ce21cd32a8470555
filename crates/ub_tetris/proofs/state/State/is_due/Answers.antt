use Rattle.ub_tetris.proofs.DueFacts.{due_first, due_row}
use Rattle.ub_tetris.proofs.state.State.is_due.Goals as goal

pub returns-in-Some : goal.returns-in-Some
returns-in-Some c =
    due_row c.args.self.now c.course-dim.result c.in-Some.row.now c.coordinate.result c.args.value c.is_past.result c.course-dim.ensures c.in-Some.ensures c.coordinate.ensures c.is_past.ensures

pub returns-in-None : goal.returns-in-None
returns-in-None c = due_first c.args.self.now c.args.value c.in-None.ensures
