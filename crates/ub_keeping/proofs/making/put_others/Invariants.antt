use Rattle.std.proofs.Common.{◌≡◌}
use Rattle.ub_journal.specs.Place.{IsHonest, PlaceFacts}
use Rattle.ub_keeping.specs.inner.Made.{HasZero, PutsUpTo}
use Rattle.ub_journal.proofs.Moments.{At}
use Rattle.ub_keeping.proofs.making.put_others.Given as goal

-- the pages so far stand there, and no call failed
abbrev pub invariant-loop-n : goal.invariant-loop-n
invariant-loop-n g l =
    let old : PlaceFacts = g.P.Place.facts l.fn.place in
    let now : PlaceFacts = g.P.Place.facts l.place in
    record {
      honest : now.honest ≡ old.honest;
      failures : now.failures ≡ old.failures;
      put : IsHonest old → PutsUpTo l.n (g.Q.Pages.pages l.pages) old.seen now.seen;
      at : IsHonest old → At HasZero HasZero old now;
    }
