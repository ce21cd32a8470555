use Rattle.std.proofs.Common.{◌≡◌, ◌<◌, ◌⊎◌, List, Some}
use Rattle.ub_index.proofs.Common.{FollowOn, IsAim, IsBefore, Key, Meeting, node_on, Region, TakesThese}
use Rattle.ub_index.proofs.walking.hand_along.Given as goal

abbrev pub invariant-loop : goal.invariant-loop
invariant-loop g l = record {
  handed : (handed : List Region) × FollowOn l.last (Meeting l.boxes) l.leaf (node_on l.page).entries (Some l.from) handed (Some l.on)
      × TakesThese (g.T.RegionSink.Takes l.boxes) l.initial.sink l.sink handed;
  within : l.behind < l.count;
  begun : (aim : Key) → IsAim l.last (Meeting l.boxes) l.on aim → ¬ (IsBefore aim l.leaf.place.entry.first);
  later : (l.on ≡ l.from) ⊎ IsBefore l.from l.on;
  moved : 0 < l.counter → IsBefore l.from l.on;
}
