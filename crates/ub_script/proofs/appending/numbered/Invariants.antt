use Rattle.std.proofs.Common.{◌≡◌, ◌+◌, take}
use Rattle.ub_region.specs.Regions.{numbered_from}
use Rattle.ub_script.proofs.appending.numbered.Given as goal

-- the rows up to the next one stand there, with their numbers
abbrev pub invariant-loop-row : goal.invariant-loop-row
invariant-loop-row l = record {
  number : l.number ≡ l.initial.first + l.row-index;
  items : l.numbered.items ≡ numbered_from l.initial.first (take l.row-index l.rows);
}
