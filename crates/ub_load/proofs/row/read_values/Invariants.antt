use Rattle.std.proofs.Common.{◌≡◌, map, take, None}
use Rattle.std.specs.List.{enumerate_from}
use Rattle.csv.specs.Records.{fields_of}
use Rattle.ub_load.specs.LoadedTable.{row_of}
use Rattle.ub_load.specs.Refusals.{field_refusal, first_of}
use Rattle.ub_load.proofs.row.read_values.Given as goal

-- the fields so far are fine, and the row is theirs
abbrev pub invariant-loop-place : goal.invariant-loop-place
invariant-loop-place l = record {
  row : l.row ≡ row_of l.axes (l.number, take l.place (fields_of l.fields));
  accepted : first_of (map (field_refusal l.axes l.number) (enumerate_from 0 (take l.place (fields_of l.fields)))) ≡ None;
}
