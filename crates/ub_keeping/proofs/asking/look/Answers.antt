use Rattle.std.proofs.Common.{◌≡◌, ◌∙◌, ℕ, Err, IfSome, Option, ap, subst}
use Rattle.std.specs.Option.{option_map}
use Rattle.ub_store.specs.Facts.{raised}
use Rattle.ub_journal.specs.Image.{Fits, IsJournal, told}
use Rattle.ub_journal.specs.Place.{IsHonest}
use Rattle.ub_journal.specs.declared.journal.Journal.{Journal}
use Rattle.ub_keeping.proofs.CalmFacts.{calm_look, calm_then, pages_calm, told_calm}
use Rattle.ub_keeping.proofs.ResultFacts.{looked_is}
use Rattle.ub_keeping.proofs.SeenFacts.{empty_fits, none_fits, none_seen}
use Rattle.ub_keeping.proofs.asking.look.Goals as goal

pub fits-requires-clause-journal : goal.fits-requires-clause-journal
fits-requires-clause-journal g c = subst (λ f. IfSome f (λ j. IsJournal (told j))) c.in-Ok-Some.field-0-is c.in-Ok-Some.ensures.journal

pub fits-requires-clause-pages : goal.fits-requires-clause-pages
fits-requires-clause-pages g c =
    pages_calm (g.P.Place.facts c.args.place.now) (g.P.Place.facts c.journal.new.self) c.args.pages (calm_look c.journal.ensures.effect (g.met.P.Place.clock c.args.place.now)) c.requires

pub returns-in-Ok-true-clause-found : goal.returns-in-Ok-true-clause-found
returns-in-Ok-true-clause-found g c honest = (
  (subst (λ f. IsHonest (g.P.Place.facts c.args.place.now) → (g.P.Place.facts c.args.place.now).seen.journal ≡ option_map told f) c.in-Ok-Some.field-0-is c.in-Ok-Some.ensures.seen) honest,
  told_calm (λ i. Fits (told c.in-Ok-Some.journal) i.table i.rest) (g.P.Place.facts c.args.place.now) (g.P.Place.facts c.journal.new.self) (calm_look c.journal.ensures.effect (g.met.P.Place.clock c.args.place.now))
      (λ at. (c.in-Ok-true.ensures.fits at).0 c.in-Ok-true.field-0-test) honest,
)

pub returns-in-Ok-true-clause-journal : goal.returns-in-Ok-true-clause-journal
returns-in-Ok-true-clause-journal g c = subst (λ f. IfSome f (λ j. IsJournal (told j))) c.in-Ok-Some.field-0-is c.in-Ok-Some.ensures.journal

pub returns-in-Ok-true-clause-complete : goal.returns-in-Ok-true-clause-complete
returns-in-Ok-true-clause-complete g c = c.in-Ok-true.ensures.complete c.in-Ok-true.field-0-test

pub returns-in-Ok-true-clause-calm : goal.returns-in-Ok-true-clause-calm
returns-in-Ok-true-clause-calm g c =
    calm_then (g.P.Place.facts c.args.place.now) (g.P.Place.facts c.journal.new.self) (g.P.Place.facts c.fits.new.place) (calm_look c.journal.ensures.effect (g.met.P.Place.clock c.args.place.now))
    c.fits.ensures.calm

pub returns-in-Ok-true-clause-cause : goal.returns-in-Ok-true-clause-cause
returns-in-Ok-true-clause-cause g c = c.in-Ok-true.ensures.cause.failures ∙ c.in-Ok-Some.ensures.effect.failures

pub returns-in-Ok-false-clause-found : goal.returns-in-Ok-false-clause-found
returns-in-Ok-false-clause-found g c =
    none_fits (told c.in-Ok-Some.journal) (g.P.Place.facts c.args.place.now) (g.P.Place.facts c.journal.new.self) _ (calm_look c.journal.ensures.effect (g.met.P.Place.clock c.args.place.now)) (subst (λ f. IsHonest (g.P.Place.facts c.args.place.now) → (g.P.Place.facts c.args.place.now).seen.journal ≡ option_map told f) c.in-Ok-Some.field-0-is c.in-Ok-Some.ensures.seen)
    c.in-Ok-false.ensures.fits c.in-Ok-false.field-0-test

pub returns-in-Ok-false-clause-calm : goal.returns-in-Ok-false-clause-calm
returns-in-Ok-false-clause-calm g c =
    calm_then (g.P.Place.facts c.args.place.now) (g.P.Place.facts c.journal.new.self) (g.P.Place.facts c.fits.new.place) (calm_look c.journal.ensures.effect (g.met.P.Place.clock c.args.place.now))
    c.fits.ensures.calm

pub returns-in-Ok-false-clause-cause : goal.returns-in-Ok-false-clause-cause
returns-in-Ok-false-clause-cause g c = c.in-Ok-false.ensures.cause.failures ∙ c.in-Ok-Some.ensures.effect.failures

pub returns-in-Err-clause-calm : goal.returns-in-Err-clause-calm
returns-in-Err-clause-calm g c =
    calm_then (g.P.Place.facts c.args.place.now) (g.P.Place.facts c.journal.new.self) (g.P.Place.facts c.fits.new.place) (calm_look c.journal.ensures.effect (g.met.P.Place.clock c.args.place.now))
    c.fits.ensures.calm

pub returns-in-Err-clause-cause : goal.returns-in-Err-clause-cause
returns-in-Err-clause-cause g c = c.in-Err.ensures.cause.failures ∙ ap (λ (n : ℕ). raised n 1) c.in-Ok-Some.ensures.effect.failures

pub returns-in-Ok-None-clause-found : goal.returns-in-Ok-None-clause-found
returns-in-Ok-None-clause-found g c honest = none_seen (g.P.Place.facts c.args.place.now).seen ((subst (λ f. IsHonest (g.P.Place.facts c.args.place.now) → (g.P.Place.facts c.args.place.now).seen.journal ≡ option_map told f) c.in-Ok-None.field-0-is c.in-Ok-None.ensures.seen) honest)

pub returns-in-Ok-None-clause-calm : goal.returns-in-Ok-None-clause-calm
returns-in-Ok-None-clause-calm g c = calm_look c.journal.ensures.effect (g.met.P.Place.clock c.args.place.now)

pub returns-in-Ok-None-clause-cause : goal.returns-in-Ok-None-clause-cause
returns-in-Ok-None-clause-cause g c = c.in-Ok-None.ensures.effect.failures

pub returns-in-Err-Damaged-clause-found : goal.returns-in-Err-Damaged-clause-found
returns-in-Err-Damaged-clause-found g c honest = let other = c.in-Err-Damaged.ensures.damaged (ap (λ f. Err f) c.in-Err-Damaged.field-0-is) honest in empty_fits (g.P.Place.facts c.args.place.now).seen other.0 other.1 other.2

pub returns-in-Err-Damaged-clause-calm : goal.returns-in-Err-Damaged-clause-calm
returns-in-Err-Damaged-clause-calm g c = calm_look c.journal.ensures.effect (g.met.P.Place.clock c.args.place.now)

pub returns-in-Err-Damaged-clause-cause : goal.returns-in-Err-Damaged-clause-cause
returns-in-Err-Damaged-clause-cause g c = let is = looked_is (Option Journal) _ _ _ _ c.in-Err-Damaged.field-0-is c.in-Err-Damaged.ensures.effect.failures in is

pub returns-in-Err-Memory-clause-calm : goal.returns-in-Err-Memory-clause-calm
returns-in-Err-Memory-clause-calm g c = calm_look c.journal.ensures.effect (g.met.P.Place.clock c.args.place.now)

pub returns-in-Err-Memory-clause-cause : goal.returns-in-Err-Memory-clause-cause
returns-in-Err-Memory-clause-cause g c = let is = looked_is (Option Journal) _ _ _ _ c.in-Err-Memory.field-0-is c.in-Err-Memory.ensures.effect.failures in is

pub returns-in-Err-Device-clause-calm : goal.returns-in-Err-Device-clause-calm
returns-in-Err-Device-clause-calm g c = calm_look c.journal.ensures.effect (g.met.P.Place.clock c.args.place.now)

pub returns-in-Err-Device-clause-cause : goal.returns-in-Err-Device-clause-cause
returns-in-Err-Device-clause-cause g c = let is = looked_is (Option Journal) _ _ _ _ c.in-Err-Device.field-0-is c.in-Err-Device.ensures.effect.failures in is
