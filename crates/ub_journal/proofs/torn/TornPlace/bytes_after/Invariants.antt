use Rattle.std.proofs.Common.{◌≡◌, take}
use Rattle.ub_journal.specs.Torn.{first_image, seen_after}
use Rattle.ub_journal.proofs.torn.TornPlace.bytes_after.Given as goal

-- so many bytes stand there after the first so many calls
abbrev pub invariant-loop-deed : goal.invariant-loop-deed
invariant-loop-deed l = record {
  items : l.deed-items ≡ l.self.deeds.items;
  rest : (seen_after (first_image l.self) (take l.deed-index l.deed-items)).rest ≡ l.rest;
}
