use Rattle.std.proofs.Common.{◌≡◌, length, map, take, None}
use Rattle.std.specs.List.{enumerate_from}
use Rattle.csv.specs.Records.{fields_of}
use Rattle.ub_load.specs.Field.{trimmed}
use Rattle.ub_load.specs.Refusals.{first_of, name_refusal}
use Rattle.ub_load.proofs.header.read_names.Given as goal

-- the names so far are fine, and stand in their places
abbrev pub invariant-loop-place : goal.invariant-loop-place
invariant-loop-place l = record {
  long : length l.names ≡ 8;
  names : take l.place l.names ≡ take l.place (map trimmed (fields_of l.header));
  accepted : first_of (map (name_refusal (map trimmed (fields_of l.header))) (enumerate_from 0 (take l.place (map trimmed (fields_of l.header))))) ≡ None;
}
