use Rattle.std.proofs.Common.{◌≡◌, [], take}
use Rattle.csv.specs.Records.{fields_of, partial_of}
use Rattle.ub_load.specs.Appending.{arranged}
use Rattle.ub_load.proofs.rows.arrange.Given as goal

-- the fields of the places so far
abbrev pub invariant-loop-place : goal.invariant-loop-place
invariant-loop-place l = record {
  fields : fields_of l.ordered ≡ arranged (take l.place-index l.places) (fields_of l.fields);
  whole : partial_of l.ordered ≡ [];
}
