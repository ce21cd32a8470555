use Rattle.std.proofs.Common.{◌-◌}
use Rattle.csv.specs.Records.{fields_of}
use Rattle.ub_load.proofs.RowsFacts.{IsReading}
use Rattle.ub_load.proofs.rows.take_rows.Given as goal

abbrev pub invariant-loop-rows : goal.invariant-loop-rows
invariant-loop-rows l = IsReading l.fn.reader (fields_of l.fn.fields) l.schema l.next l.number l.rows.items l.reader

-- there are only so many row numbers
abbrev pub decreases-loop-rows : goal.decreases-loop-rows
decreases-loop-rows l = 16777218 - l.number
