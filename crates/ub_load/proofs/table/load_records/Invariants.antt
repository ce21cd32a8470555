use Rattle.std.proofs.Common.{◌-◌}
use Rattle.ub_load.proofs.LoadFacts.{IsTaking}
use Rattle.ub_load.proofs.table.load_records.Given as goal

abbrev pub invariant-loop-rows : goal.invariant-loop-rows
invariant-loop-rows g l = IsTaking g.R.Read.remaining l.fn.reader l.schema l.number l.rows.items l.reader

-- there are only so many row numbers
abbrev pub decreases-loop-rows : goal.decreases-loop-rows
decreases-loop-rows g l = 16777217 - l.number
