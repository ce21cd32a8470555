use Rattle.ub_tetris.proofs.HandFacts.{Hands}
use Rattle.ub_tetris.specs.Awaited.{most_regions}
use Rattle.ub_tetris.specs.inner.Turns.{view_of}
use Rattle.ub_tetris.proofs.state.State.hand_over.Given as goal

abbrev pub invariant-loop-next : goal.invariant-loop-next
invariant-loop-next g l = Hands (g.K.RowSink.HasTaken l.initial.tree.schema l.plan.asked) l.plan l.initial.tree l.tree l.initial.self l.self l.initial.sink l.sink

abbrev pub decreases-loop-next : goal.decreases-loop-next
decreases-loop-next g l = most_regions (view_of l.self).awaited
