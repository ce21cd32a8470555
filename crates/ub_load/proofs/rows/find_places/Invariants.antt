use Rattle.std.proofs.Common.{◌≡◌, true, length, map, take}
use Rattle.std.specs.List.{list_all, list_any}
use Rattle.std.specs.Str.{bytes_eq}
use Rattle.csv.specs.Records.{fields_of}
use Rattle.ub_load.specs.Appending.{place_in}
use Rattle.ub_load.specs.LoadedTable.{columns_of}
use Rattle.ub_load.proofs.rows.find_places.Given as goal

-- the columns so far stand in the header, at these places
abbrev pub invariant-loop-index : goal.invariant-loop-index
invariant-loop-index l = record {
  long : length l.places ≡ 8;
  places : take l.index l.places ≡ map (place_in (columns_of (fields_of l.header))) (take l.index l.columns);
  found : list_all (λ column. list_any (bytes_eq column) (columns_of (fields_of l.header))) (take l.index l.columns) ≡ true;
}
