use Rattle.std.proofs.Common.{◌≡◌, take}
use Rattle.ub_tetris.specs.Held.{values_by}
use Rattle.ub_tetris.proofs.place.Held.fill.Given as goal

abbrev pub invariant-loop-key : goal.invariant-loop-key
invariant-loop-key l = (l.self.values.items ≡ values_by l.schema (take l.key-index l.keys) l.row) × (l.self.row ≡ l.row)
