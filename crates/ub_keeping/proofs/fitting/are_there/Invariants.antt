use Rattle.std.proofs.Common.{◌≡◌, ◌↔◌, drop}
use Rattle.ub_journal.specs.Place.{IsHonest}
use Rattle.ub_keeping.specs.inner.Fitting.{AreThere}
use Rattle.ub_keeping.specs.Calm.{IsCalm}
use Rattle.ub_keeping.proofs.fitting.are_there.Given as goal

-- all stand where those that are left do, and no call failed
abbrev pub invariant-loop-change : goal.invariant-loop-change
invariant-loop-change g l = record {
  calm : IsCalm (g.P.Place.facts l.fn.place) (g.P.Place.facts l.place);
  failures : (g.P.Place.facts l.place).failures ≡ (g.P.Place.facts l.fn.place).failures;
  there : IsHonest (g.P.Place.facts l.fn.place)
      → AreThere l.changes (g.P.Place.facts l.fn.place).seen.table ↔ AreThere (drop l.change-index l.changes) (g.P.Place.facts l.fn.place).seen.table;
}
