use Rattle.std.proofs.Common.{◌≡◌, Option, inr, subst}
use Rattle.std.specs.Option.{option_map}
use Rattle.ub_journal.specs.Image.{told}
use Rattle.ub_journal.specs.Place.{IsHonest}
use Rattle.ub_journal.specs.declared.journal.Journal.{Journal}
use Rattle.ub_keeping.proofs.CalmFacts.{calm_look}
use Rattle.ub_keeping.proofs.ResultFacts.{looked_raises}
use Rattle.ub_keeping.proofs.keeping.see_none.Goals as goal

pub returns-in-Ok-None-clause-none : goal.returns-in-Ok-None-clause-none
returns-in-Ok-None-clause-none g c =
    subst (λ f. IsHonest (g.P.Place.facts c.args.place.now) → (g.P.Place.facts c.args.place.now).seen.journal ≡ option_map told f) c.in-Ok-None.field-0-is c.in-Ok-None.ensures.seen

pub returns-in-Ok-None-clause-calm : goal.returns-in-Ok-None-clause-calm
returns-in-Ok-None-clause-calm g c = calm_look c.journal.ensures.effect (g.met.P.Place.clock c.args.place.now)

pub returns-in-Ok-None-clause-cause : goal.returns-in-Ok-None-clause-cause
returns-in-Ok-None-clause-cause g c = c.in-Ok-None.ensures.effect.failures

pub returns-in-Ok-Some-clause-calm : goal.returns-in-Ok-Some-clause-calm
returns-in-Ok-Some-clause-calm g c = calm_look c.journal.ensures.effect (g.met.P.Place.clock c.args.place.now)

pub returns-in-Ok-Some-clause-cause : goal.returns-in-Ok-Some-clause-cause
returns-in-Ok-Some-clause-cause g c = inr c.in-Ok-Some.ensures.effect.failures

pub returns-clause-calm : goal.returns-clause-calm
returns-clause-calm g c = calm_look c.journal.ensures.effect (g.met.P.Place.clock c.args.place.now)

pub returns-clause-cause : goal.returns-clause-cause
returns-clause-cause g c = looked_raises (Option Journal) c.in-Err.field-0 _ _ c.in-Err.ensures.effect.failures
