use Rattle.ub_tetris.proofs.EventFacts.{met_first}
use Rattle.ub_tetris.proofs.event.Awaited.new.Goals as goal

pub unreachable-requires : goal.unreachable-requires
unreachable-requires c =
    met_first c.args.boxes.now c.args.stretch.span c.args.course.dim c.args.course.is_descending c.first_value.result c.requires.meets c.first_value.ensures c.in-None.is
