use Rattle.std.proofs.Common.{rules}
use Rattle.ub_tetris.proofs.event.first_value.Goals as goal

pub returns-then-course : goal.returns-then-course
returns-then-course c = search rules
