use Rattle.std.proofs.Common.{◌≡◌, take}
use Rattle.ub_journal.specs.Place.{IsHonest, PlaceFacts}
use Rattle.ub_journal.specs.inner.Way.{Puts, with_others}
use Rattle.ub_journal.proofs.Moments.{At}
use Rattle.ub_journal.proofs.committing.put_changes.Given as goal

-- the first so many of the pages stand, and no call failed
abbrev pub invariant-loop-at : goal.invariant-loop-at
invariant-loop-at g l =
    let j = g.J.Tells.told l.fn.journal in
    let old : PlaceFacts = g.P.Place.facts l.fn.place in
    let now : PlaceFacts = g.P.Place.facts l.place in
    record {
      same : l.journal ≡ l.fn.journal;
      honest : now.honest ≡ old.honest;
      failures : now.failures ≡ old.failures;
      seen : IsHonest old → now.seen ≡ with_others (record j { changes = take l.at j.changes }) old.seen;
      at : IsHonest old → At (Puts j old.seen) (Puts j old.seen) old now;
    }
