use Rattle.std.proofs.Common.{◌≡◌, take}
use Rattle.ub_journal.specs.Torn.{HoldsAt, first_image, seen_after}
use Rattle.ub_journal.proofs.torn.TornPlace.look_up.Given as goal

-- the page is that of after the first so many calls
abbrev pub invariant-loop-deed : goal.invariant-loop-deed
invariant-loop-deed l = record {
  items : l.deed-items ≡ l.self.deeds.items;
  holds : HoldsAt (seen_after (first_image l.self) (take l.deed-index l.deed-items)) l.n l.count l.page;
}
