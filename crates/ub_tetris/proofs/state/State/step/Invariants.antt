use Rattle.ub_tetris.proofs.StepsFacts.{Fetches}
use Rattle.ub_tetris.specs.Awaited.{most_regions}
use Rattle.ub_tetris.specs.inner.Turns.{view_of}
use Rattle.ub_tetris.proofs.state.State.step.Given as goal

abbrev pub invariant-loop-next : goal.invariant-loop-next
invariant-loop-next g l = Fetches l.plan l.initial.tree l.tree l.initial.self l.self

abbrev pub decreases-loop-next : goal.decreases-loop-next
decreases-loop-next g l = most_regions (view_of l.self).awaited
