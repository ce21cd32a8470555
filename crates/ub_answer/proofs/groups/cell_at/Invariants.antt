-- None of the items so far is the one.
use Rattle.std.proofs.Common.{◌≡◌, drop}
use Rattle.ub_answer.specs.inner.Groups.{cell_from}
use Rattle.ub_answer.proofs.groups.cell_at.Given as goal

abbrev pub invariant-loop-place : goal.invariant-loop-place
invariant-loop-place l = cell_from l.place (drop l.place l.items) l.tally l.item ≡ cell_from 0 l.items l.tally l.item
