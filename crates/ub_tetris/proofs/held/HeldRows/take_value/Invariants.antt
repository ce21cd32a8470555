use Rattle.std.proofs.Common.{◌≡◌, ◌∷◌, List, length}
use Rattle.ub_table.specs.declared.row.Row.{Row}
use Rattle.ub_tetris.specs.inner.Kept.{AreTakenAt}
use Rattle.ub_tetris.proofs.held.HeldRows.take_value.Given as goal

abbrev pub invariant-loop-row : goal.invariant-loop-row
invariant-loop-row l = (others : List Row) × (l.rows.items ≡ l.fn.first ∷ others) × AreTakenAt l.dim l.value l.initial.self l.self others

abbrev pub decreases-loop-row : goal.decreases-loop-row
decreases-loop-row l = length l.self
