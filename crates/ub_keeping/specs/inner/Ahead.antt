-- Pages of a table that were read ahead.
use Rattle.std.specs.Prelude.{◌≤◌, ◌*◌, length}
use Rattle.ub_journal.specs.Place.{AreIn, IsHonest, PlaceFacts}
use Rattle.ub_keeping.specs.declared.ahead.Ahead.{Ahead}

-- the pages that were read ahead are those of the table at a place, where it is honest
pub record IsAhead (facts : PlaceFacts) (ahead : Ahead) : Type 0 where
  pub fits : ahead.held * 4096 ≤ length ahead.bytes.items
  pub are : IsHonest facts → AreIn ahead.bytes.items ahead.first ahead.held facts.seen.table
