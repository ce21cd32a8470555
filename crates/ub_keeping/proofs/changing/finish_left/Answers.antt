use Rattle.std.proofs.Common.{◌∙◌, ℕ, IsTrue, ap, subst, sym}
use Rattle.std.proofs.lemmas.Bool.{true≢false}
use Rattle.ub_store.specs.Facts.{raised}
use Rattle.ub_journal.specs.Image.{told}
use Rattle.ub_journal.proofs.Moments.{weaker}
use Rattle.ub_journal_page.proofs.LawFacts.{change_others}
use Rattle.ub_keeping.proofs.CalmFacts.{still}
use Rattle.ub_keeping.proofs.FoundFacts.{finish_joined, heals_finish, left_after}
use Rattle.ub_keeping.proofs.SeenFacts.{healed_found, quiet_finishes}
use Rattle.ub_keeping.proofs.changing.finish_left.Goals as goal

pub heal-requires : goal.heal-requires
heal-requires g c =
    let old = g.P.Place.facts c.args.place.now in
    let looked = g.P.Place.facts c.fits.new.place in
    let calm = c.fits.ensures.calm in
    record {
      left = λ honest.
          let first = subst (λ b. IsTrue b) calm.quiet.honest honest in
          left_after (told c.args.journal.now) old looked (calm.seen first) (c.requires.seen first) ((c.in-Ok-true.ensures.fits first).0 c.in-Ok-true.field-0-test) (change_others (told c.args.journal.now) c.requires.journal);
    }

pub returns-in-Ok-clause-any_moment : goal.returns-in-Ok-clause-any_moment
returns-in-Ok-clause-any_moment g c honest =
    let old = g.P.Place.facts c.args.place.now in
    let looked = g.P.Place.facts c.fits.new.place in
    let calm = c.fits.ensures.calm in
    let left = left_after (told c.args.journal.now) old looked (calm.seen honest) (c.requires.seen honest) ((c.in-Ok-true.ensures.fits honest).0 c.in-Ok-true.field-0-test) (change_others (told c.args.journal.now) c.requires.journal) in
    finish_joined old looked (g.P.Place.facts c.heal.new.place) honest calm (weaker (c.heal.ensures.any_moment (still old looked calm.quiet.honest honest)) (heals_finish (told c.args.journal.now) looked left))

pub returns-in-Err-heal-clause-any_moment : goal.returns-in-Err-heal-clause-any_moment
returns-in-Err-heal-clause-any_moment g c honest =
    let old = g.P.Place.facts c.args.place.now in
    let looked = g.P.Place.facts c.fits.new.place in
    let calm = c.fits.ensures.calm in
    let left = left_after (told c.args.journal.now) old looked (calm.seen honest) (c.requires.seen honest) ((c.in-Ok-true.ensures.fits honest).0 c.in-Ok-true.field-0-test) (change_others (told c.args.journal.now) c.requires.journal) in
    finish_joined old looked (g.P.Place.facts c.heal.new.place) honest calm (weaker (c.heal.ensures.any_moment (still old looked calm.quiet.honest honest)) (heals_finish (told c.args.journal.now) looked left))

pub fits-requires-clause-journal : goal.fits-requires-clause-journal
fits-requires-clause-journal g c = c.requires.journal

pub fits-requires-clause-pages : goal.fits-requires-clause-pages
fits-requires-clause-pages g c honest = c.pages-pages.ensures

pub returns-in-Ok-false-clause-foreign : goal.returns-in-Ok-false-clause-foreign
returns-in-Ok-false-clause-foreign g c is honest = (told c.args.journal.now, c.requires.seen honest, λ fits. true≢false (sym ((c.in-Ok-false.ensures.fits honest).1 fits) ∙ c.in-Ok-false.field-0-test))

pub returns-in-Ok-false-clause-any_moment : goal.returns-in-Ok-false-clause-any_moment
returns-in-Ok-false-clause-any_moment g c = quiet_finishes (g.P.Place.facts c.args.place.now) (g.P.Place.facts c.fits.new.place) c.fits.ensures.calm.quiet

pub returns-in-Ok-false-clause-honest : goal.returns-in-Ok-false-clause-honest
returns-in-Ok-false-clause-honest g c = c.fits.ensures.calm.quiet.honest

pub returns-in-Ok-false-clause-cause : goal.returns-in-Ok-false-clause-cause
returns-in-Ok-false-clause-cause g c = c.in-Ok-false.ensures.cause.failures

pub returns-in-Err-clause-any_moment : goal.returns-in-Err-clause-any_moment
returns-in-Err-clause-any_moment g c = quiet_finishes (g.P.Place.facts c.args.place.now) (g.P.Place.facts c.fits.new.place) c.fits.ensures.calm.quiet

pub returns-in-Err-clause-honest : goal.returns-in-Err-clause-honest
returns-in-Err-clause-honest g c = c.fits.ensures.calm.quiet.honest

pub returns-in-Err-clause-cause : goal.returns-in-Err-clause-cause
returns-in-Err-clause-cause g c = c.in-Err.ensures.cause.failures

pub returns-in-Ok-clause-found : goal.returns-in-Ok-clause-found
returns-in-Ok-clause-found g c =
    healed_found (told c.args.journal.now) (g.P.Place.facts c.args.place.now) (g.P.Place.facts c.fits.new.place) (g.P.Place.facts c.heal.new.place) c.fits.ensures.calm c.requires.seen (λ at. (c.in-Ok-true.ensures.fits at).0 c.in-Ok-true.field-0-test) c.in-Ok.ensures.done

pub returns-in-Ok-clause-alone : goal.returns-in-Ok-clause-alone
returns-in-Ok-clause-alone g c honest = (c.in-Ok.ensures.done (still (g.P.Place.facts c.args.place.now) (g.P.Place.facts c.fits.new.place) c.fits.ensures.calm.quiet.honest honest)).rest.no_journal

pub returns-in-Ok-clause-honest : goal.returns-in-Ok-clause-honest
returns-in-Ok-clause-honest g c = c.heal.ensures.cause.honest ∙ c.fits.ensures.calm.quiet.honest

pub returns-in-Ok-clause-cause : goal.returns-in-Ok-clause-cause
returns-in-Ok-clause-cause g c = c.in-Ok.ensures.cause.failures ∙ c.in-Ok-true.ensures.cause.failures

pub returns-in-Err-heal-clause-honest : goal.returns-in-Err-heal-clause-honest
returns-in-Err-heal-clause-honest g c = c.heal.ensures.cause.honest ∙ c.fits.ensures.calm.quiet.honest

pub returns-in-Err-heal-clause-cause : goal.returns-in-Err-heal-clause-cause
returns-in-Err-heal-clause-cause g c = c.in-Err-heal.ensures.cause.failures ∙ ap (λ (n : ℕ). raised n 1) c.in-Ok-true.ensures.cause.failures
