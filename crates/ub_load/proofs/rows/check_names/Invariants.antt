use Rattle.std.proofs.Common.{◌≡◌, ◌≤◌, map, take, None}
use Rattle.std.specs.List.{enumerate_from}
use Rattle.csv.specs.Records.{fields_of}
use Rattle.ub_load.specs.Appending.{named_refusal}
use Rattle.ub_load.specs.LoadedTable.{columns_of}
use Rattle.ub_load.specs.Refusals.{first_of}
use Rattle.ub_load.proofs.rows.check_names.Given as goal

-- the names so far are fine, so that they are no more than there are columns
abbrev pub invariant-loop-place : goal.invariant-loop-place
invariant-loop-place l = record {
  few : l.place ≤ 8;
  accepted : first_of (map (named_refusal l.columns (columns_of (fields_of l.header))) (enumerate_from 0 (take l.place (columns_of (fields_of l.header))))) ≡ None;
}
