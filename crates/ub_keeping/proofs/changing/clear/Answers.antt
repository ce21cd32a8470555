use Rattle.std.proofs.Common.{◌≡◌, ◌∙◌, ℕ, Err, IfSome, Option, Some, ap, subst}
use Rattle.std.specs.Option.{option_map}
use Rattle.std.proofs.lemmas.Result.{IfErr-weaker, on_ok_weaker}
use Rattle.ub_files.specs.Files.{counted_open}
use Rattle.ub_journal.specs.Image.{Finds, Image, IsJournal, told}
use Rattle.ub_journal.specs.Place.{IsHonest}
use Rattle.ub_journal.specs.declared.journal.Journal.{Journal}
use Rattle.ub_keeping.specs.Found.{IsForeign}
use Rattle.ub_keeping.proofs.CalmFacts.{calm_look, still, seen_calm, told_calm}
use Rattle.ub_keeping.proofs.FoundFacts.{finish_joined}
use Rattle.ub_keeping.proofs.ResultFacts.{looked_is, one_more}
use Rattle.ub_keeping.proofs.SeenFacts.{empty_fits, none_found, quiet_finishes}
use Rattle.ub_keeping.proofs.changing.clear.Goals as goal

pub returns-in-Ok-Some-clause-any_moment : goal.returns-in-Ok-Some-clause-any_moment
returns-in-Ok-Some-clause-any_moment g c honest =
    let old = g.P.Place.facts c.args.place.now in
    let looked = g.P.Place.facts c.journal.new.self in
    let calm = calm_look c.journal.ensures.effect (g.met.P.Place.clock c.args.place.now) in
    finish_joined old looked (g.P.Place.facts c.finish_left.new.place) honest calm (c.finish_left.ensures.any_moment (still old looked calm.quiet.honest honest))

pub finish_left-requires-clause-journal : goal.finish_left-requires-clause-journal
finish_left-requires-clause-journal g c = subst (λ f. IfSome f (λ j. IsJournal (told j))) c.in-Ok-Some.field-0-is c.in-Ok-Some.ensures.journal

pub finish_left-requires-clause-seen : goal.finish_left-requires-clause-seen
finish_left-requires-clause-seen g c =
    seen_calm (λ i. i.journal ≡ Some (told c.in-Ok-Some.journal)) (g.P.Place.facts c.args.place.now) (g.P.Place.facts c.journal.new.self) (calm_look c.journal.ensures.effect (g.met.P.Place.clock c.args.place.now))
    (subst (λ f. IsHonest (g.P.Place.facts c.args.place.now) → (g.P.Place.facts c.args.place.now).seen.journal ≡ option_map told f) c.in-Ok-Some.field-0-is c.in-Ok-Some.ensures.seen)

pub returns-in-Ok-Some-clause-found : goal.returns-in-Ok-Some-clause-found
returns-in-Ok-Some-clause-found g c =
    let new = g.P.Place.facts c.finish_left.new.place in
    on_ok_weaker c.finish_left.result (λ is. told_calm (λ i. Finds i new.seen.table new.seen.rest) (g.P.Place.facts c.args.place.now) (g.P.Place.facts c.journal.new.self) (calm_look c.journal.ensures.effect (g.met.P.Place.clock c.args.place.now)) is) c.finish_left.ensures.found

pub returns-in-Ok-Some-clause-alone : goal.returns-in-Ok-Some-clause-alone
returns-in-Ok-Some-clause-alone g c = on_ok_weaker c.finish_left.result (λ is honest. is (still (g.P.Place.facts c.args.place.now) (g.P.Place.facts c.journal.new.self) c.journal.ensures.effect.honest honest)) c.finish_left.ensures.alone

pub returns-in-Ok-Some-clause-foreign : goal.returns-in-Ok-Some-clause-foreign
returns-in-Ok-Some-clause-foreign g c is = told_calm (λ i. IsForeign i) (g.P.Place.facts c.args.place.now) (g.P.Place.facts c.journal.new.self) (calm_look c.journal.ensures.effect (g.met.P.Place.clock c.args.place.now)) (c.finish_left.ensures.foreign is)

pub returns-in-Ok-Some-clause-faults : goal.returns-in-Ok-Some-clause-faults
returns-in-Ok-Some-clause-faults g c = IfErr-weaker c.finish_left.result _ _ (λ x is. one_more is) c.finish_left.ensures.faults

pub returns-in-Ok-Some-clause-honest : goal.returns-in-Ok-Some-clause-honest
returns-in-Ok-Some-clause-honest g c = c.finish_left.ensures.honest ∙ c.journal.ensures.effect.honest

pub returns-in-Ok-Some-clause-cause : goal.returns-in-Ok-Some-clause-cause
returns-in-Ok-Some-clause-cause g c = c.finish_left.ensures.cause ∙ ap (λ (n : ℕ). counted_open c.finish_left.result n) c.in-Ok-Some.ensures.effect.failures

pub returns-in-Ok-None-clause-found : goal.returns-in-Ok-None-clause-found
returns-in-Ok-None-clause-found g c =
    none_found (g.P.Place.facts c.args.place.now) (g.P.Place.facts c.journal.new.self) (calm_look c.journal.ensures.effect (g.met.P.Place.clock c.args.place.now)) (subst (λ f. IsHonest (g.P.Place.facts c.args.place.now) → (g.P.Place.facts c.args.place.now).seen.journal ≡ option_map told f) c.in-Ok-None.field-0-is c.in-Ok-None.ensures.seen)

pub returns-in-Ok-None-clause-alone : goal.returns-in-Ok-None-clause-alone
returns-in-Ok-None-clause-alone g c honest =
    ap (λ (i : Image). i.journal) (c.journal.ensures.effect.seen honest) ∙ (subst (λ f. IsHonest (g.P.Place.facts c.args.place.now) → (g.P.Place.facts c.args.place.now).seen.journal ≡ option_map told f) c.in-Ok-None.field-0-is c.in-Ok-None.ensures.seen) honest

pub returns-in-Ok-None-clause-any_moment : goal.returns-in-Ok-None-clause-any_moment
returns-in-Ok-None-clause-any_moment g c = quiet_finishes (g.P.Place.facts c.args.place.now) (g.P.Place.facts c.journal.new.self) (calm_look c.journal.ensures.effect (g.met.P.Place.clock c.args.place.now)).quiet

pub returns-in-Ok-None-clause-honest : goal.returns-in-Ok-None-clause-honest
returns-in-Ok-None-clause-honest g c = c.journal.ensures.effect.honest

pub returns-in-Ok-None-clause-cause : goal.returns-in-Ok-None-clause-cause
returns-in-Ok-None-clause-cause g c = c.in-Ok-None.ensures.effect.failures

pub returns-in-Err-Damaged-clause-foreign : goal.returns-in-Err-Damaged-clause-foreign
returns-in-Err-Damaged-clause-foreign g c is honest =
    let other = c.in-Err-Damaged.ensures.damaged (ap (λ f. Err f) c.in-Err-Damaged.field-0-is) honest in
    (other.0, other.1, empty_fits (g.P.Place.facts c.args.place.now).seen other.0 other.1 other.2 other.0 other.1)

pub returns-in-Err-Damaged-clause-any_moment : goal.returns-in-Err-Damaged-clause-any_moment
returns-in-Err-Damaged-clause-any_moment g c = quiet_finishes (g.P.Place.facts c.args.place.now) (g.P.Place.facts c.journal.new.self) (calm_look c.journal.ensures.effect (g.met.P.Place.clock c.args.place.now)).quiet

pub returns-in-Err-Damaged-clause-honest : goal.returns-in-Err-Damaged-clause-honest
returns-in-Err-Damaged-clause-honest g c = c.journal.ensures.effect.honest

pub returns-in-Err-Damaged-clause-cause : goal.returns-in-Err-Damaged-clause-cause
returns-in-Err-Damaged-clause-cause g c = let is = looked_is (Option Journal) _ _ _ _ c.in-Err-Damaged.field-0-is c.in-Err-Damaged.ensures.effect.failures in is

pub returns-in-Err-Memory-clause-any_moment : goal.returns-in-Err-Memory-clause-any_moment
returns-in-Err-Memory-clause-any_moment g c = quiet_finishes (g.P.Place.facts c.args.place.now) (g.P.Place.facts c.journal.new.self) (calm_look c.journal.ensures.effect (g.met.P.Place.clock c.args.place.now)).quiet

pub returns-in-Err-Memory-clause-honest : goal.returns-in-Err-Memory-clause-honest
returns-in-Err-Memory-clause-honest g c = c.journal.ensures.effect.honest

pub returns-in-Err-Memory-clause-cause : goal.returns-in-Err-Memory-clause-cause
returns-in-Err-Memory-clause-cause g c = let is = looked_is (Option Journal) _ _ _ _ c.in-Err-Memory.field-0-is c.in-Err-Memory.ensures.effect.failures in is

pub returns-in-Err-Device-clause-any_moment : goal.returns-in-Err-Device-clause-any_moment
returns-in-Err-Device-clause-any_moment g c = quiet_finishes (g.P.Place.facts c.args.place.now) (g.P.Place.facts c.journal.new.self) (calm_look c.journal.ensures.effect (g.met.P.Place.clock c.args.place.now)).quiet

pub returns-in-Err-Device-clause-honest : goal.returns-in-Err-Device-clause-honest
returns-in-Err-Device-clause-honest g c = c.journal.ensures.effect.honest

pub returns-in-Err-Device-clause-cause : goal.returns-in-Err-Device-clause-cause
returns-in-Err-Device-clause-cause g c = let is = looked_is (Option Journal) _ _ _ _ c.in-Err-Device.field-0-is c.in-Err-Device.ensures.effect.failures in is
