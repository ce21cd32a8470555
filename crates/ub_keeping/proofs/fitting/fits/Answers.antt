use Rattle.std.proofs.Common.{◌≢◌, ◌⊎◌, ◌↔◌, ◌∙◌, IsTrue, ℕ, List, arith, inl, inr, length, refl, subst, sym}
use Rattle.std.proofs.lemmas.Bool.{false≢true}
use Rattle.ub_journal.specs.Image.{AreAscending, Fits, numbers_of, told}
use Rattle.ub_journal.specs.Place.{IsHonest}
use Rattle.ub_journal.specs.declared.journal.Change.{Change}
use Rattle.ub_keeping.specs.inner.Fitting.{AreThere, LeaveFirst}
use Rattle.ub_keeping.proofs.FitFacts.{fits_there, if_ok}
use Rattle.ub_keeping.proofs.CalmFacts.{calm_step, still, calm_then, quiet_same, seen_calm}
use Rattle.ub_keeping.proofs.FitFacts.{same_there}
use Rattle.ub_keeping.proofs.ResultFacts.{each_ok, none_all, refused_counts, then_counts}
use Rattle.ub_keeping.proofs.SeenFacts.{marked_fits, unmarked_unfit}
use Rattle.ub_keeping.proofs.fitting.fits.Goals as goal
use Rattle.ub_keeping.proofs.fitting.fits.Goals.{then-pages-eq0-via-else-pages-eq0+then-not-leave_first, then-pages-eq0-via-then-pages-eq0, then-rest-ne0-via-else-rest-ne0+then-pages-from, then-rest-ne0-via-then-rest-ne0}

pub returns-clause-fits : goal.returns-clause-fits
returns-clause-fits g c =
    let old = g.P.Place.facts c.args.place.now in
    let read = g.P.Place.facts c.read_page.new.self in
    let j = told c.args.journal.now in
    let leave : LeaveFirst c.args.pages j.count c.as_slice-changes.result.now = c.leave_first.ensures.0 c.if-not-leave_first.false in
    if_ok (λ said. IsHonest read → IsTrue said ↔ AreThere c.as_slice-changes.result.now read.seen.table) (λ said. IsHonest old → IsTrue said ↔ Fits j old.seen.table old.seen.rest)
    c.are_there.result c.are_there.ensures.there
    (λ said tells honest.
    let many = c.requires.pages honest in
    let left : LeaveFirst (length old.seen.table) j.count j.changes =
    subst (λ (xs : List Change). LeaveFirst (length old.seen.table) j.count xs) c.as_slice-changes.ensures.value (subst (λ (k : ℕ). LeaveFirst k j.count c.as_slice-changes.result.now) many leave) in
    same_there read.seen old.seen c.as_slice-changes.result.now j.changes said (Fits j old.seen.table old.seen.rest) (c.read_page.ensures.seen honest) c.as_slice-changes.ensures.value
    (tells (still old read c.read_page.ensures.effect.counts.honest honest))
    (fits_there j old.seen.table c.read_page.new.page old.seen.rest c.requires.journal (sym many ∙ c.if-pages-from.false ∙ c.from.ensures)
    (sym c.rest-rest.ensures ∙ c.if-rest-ne0.false) left (c.in_ok-read_page.ensures.page honest)
    (λ marked. let wrong = c.is_marked_from.ensures.1 marked in let not = c.if-is_marked_from.false in cc)))

pub leave_first-requires-clause-some : goal.leave_first-requires-clause-some
leave_first-requires-clause-some g c = let some = c.if-pages-eq0.false in omega (arith, some)

pub leave_first-requires-clause-ascending : goal.leave_first-requires-clause-ascending
leave_first-requires-clause-ascending g c = subst (λ (cs : List Change). AreAscending 0 c.args.journal.now.count (numbers_of cs)) (sym c.as_slice-changes.ensures.value) c.requires.journal.ascending

pub returns-then-pages-eq0-clause-calm : goal.returns-then-pages-eq0-clause-calm
returns-then-pages-eq0-clause-calm g c = record { quiet = quiet_same (g.P.Place.facts c.args.place.now) (g.met.P.Place.clock c.args.place.now); seen = λ honest. refl }

pub read_page-requires : goal.read_page-requires
read_page-requires g c = record { there = λ honest. let some = c.if-pages-eq0.false in let many = c.requires.pages honest in omega (arith, some, many) }

pub returns-in_err-read_page-clause-fits : goal.returns-in_err-read_page-clause-fits
returns-in_err-read_page-clause-fits g c = none_all _ c.from_residual.result c.from_residual.ensures.0

pub returns-in_err-read_page-clause-complete : goal.returns-in_err-read_page-clause-complete
returns-in_err-read_page-clause-complete g c = none_all _ c.from_residual.result c.from_residual.ensures.0

pub returns-in_err-read_page-clause-calm : goal.returns-in_err-read_page-clause-calm
returns-in_err-read_page-clause-calm g c = calm_step c.read_page.ensures.effect c.read_page.ensures.seen (g.met.P.Place.clock c.args.place.now)

pub returns-in_err-read_page-clause-cause : goal.returns-in_err-read_page-clause-cause
returns-in_err-read_page-clause-cause g c = refused_counts c.from_residual.result c.in_err-read_page.field-0.0 (g.P.Place.facts c.args.place.now) (g.P.Place.facts c.read_page.new.self) c.from_residual.ensures.0 c.in_err-read_page.ensures.effect.counts

pub returns-then-is_marked_from-clause-calm : goal.returns-then-is_marked_from-clause-calm
returns-then-is_marked_from-clause-calm g c = calm_step c.read_page.ensures.effect c.read_page.ensures.seen (g.met.P.Place.clock c.args.place.now)

pub returns-then-is_marked_from-clause-cause : goal.returns-then-is_marked_from-clause-cause
returns-then-is_marked_from-clause-cause g c = record { honest = c.read_page.ensures.effect.counts.honest; failures = c.in_ok-read_page.ensures.effect.counts.failures }

pub returns-then-rest-ne0-clause-calm : goal.returns-then-rest-ne0-clause-calm
returns-then-rest-ne0-clause-calm g c = calm_step c.read_page.ensures.effect c.read_page.ensures.seen (g.met.P.Place.clock c.args.place.now)

pub returns-then-rest-ne0-clause-cause : goal.returns-then-rest-ne0-clause-cause
returns-then-rest-ne0-clause-cause g c = record { honest = c.read_page.ensures.effect.counts.honest; failures = c.in_ok-read_page.ensures.effect.counts.failures }

pub are_there-requires : goal.are_there-requires
are_there-requires g c =
    seen_calm (λ i. AreAscending 0 (length i.table) (numbers_of c.as_slice-changes.result.now)) (g.P.Place.facts c.args.place.now) (g.P.Place.facts c.read_page.new.self) (calm_step c.read_page.ensures.effect c.read_page.ensures.seen (g.met.P.Place.clock c.args.place.now))
    (λ honest. subst (λ (n : ℕ). AreAscending 0 n (numbers_of c.as_slice-changes.result.now)) (sym c.from.ensures ∙ sym c.if-pages-from.false ∙ c.requires.pages honest)
    (subst (λ (cs : List Change). AreAscending 0 c.args.journal.now.count (numbers_of cs)) (sym c.as_slice-changes.ensures.value) c.requires.journal.ascending))

pub returns-clause-calm : goal.returns-clause-calm
returns-clause-calm g c = calm_then (g.P.Place.facts c.args.place.now) (g.P.Place.facts c.read_page.new.self) (g.P.Place.facts c.are_there.new.place) (calm_step c.read_page.ensures.effect c.read_page.ensures.seen (g.met.P.Place.clock c.args.place.now)) c.are_there.ensures.calm

pub returns-clause-cause : goal.returns-clause-cause
returns-clause-cause g c = then_counts c.are_there.result (g.P.Place.facts c.args.place.now) (g.P.Place.facts c.read_page.new.self) (g.P.Place.facts c.are_there.new.place) c.read_page.ensures.effect.counts.honest c.in_ok-read_page.ensures.effect.counts.failures c.are_there.ensures.cause

pub returns-then-is_marked_from-clause-fits : goal.returns-then-is_marked_from-clause-fits
returns-then-is_marked_from-clause-fits g c honest =
    let old = g.P.Place.facts c.args.place.now in
    let some = c.if-pages-eq0.false in (
      (λ t. marked_fits (told c.args.journal.now) old.seen.table c.read_page.new.page old.seen.rest c.args.pages c.requires.journal some (c.requires.pages honest)
          (subst (λ (cs : List Change). LeaveFirst c.args.pages c.args.journal.now.count cs) c.as_slice-changes.ensures.value (c.leave_first.ensures.0 c.if-not-leave_first.false)) (c.in_ok-read_page.ensures.page honest) (c.is_marked_from.ensures.0 c.if-is_marked_from.true)),
      λ fits. refl,
    )

pub returns-then-is_marked_from-clause-complete : goal.returns-then-is_marked_from-clause-complete
returns-then-is_marked_from-clause-complete g c t = subst (λ (cs : List Change). LeaveFirst c.args.pages c.args.journal.now.count cs) c.as_slice-changes.ensures.value (c.leave_first.ensures.0 c.if-not-leave_first.false)

pub returns-clause-complete : goal.returns-clause-complete
returns-clause-complete g c = each_ok _ c.are_there.result (λ yes t. subst (λ (cs : List Change). LeaveFirst c.args.pages c.args.journal.now.count cs) c.as_slice-changes.ensures.value (c.leave_first.ensures.0 c.if-not-leave_first.false))

pub returns-then-pages-eq0-clause-fits : goal.returns-then-pages-eq0-clause-fits
returns-then-pages-eq0-clause-fits g c honest = (
  (λ t. absurd (false≢true t)),
  (λ fits.
      let many = c.requires.pages honest in
      let wrong : ⊥ = elim c.then-pages-eq0.branch [
        | then-pages-eq0-via-then-pages-eq0 w ↦ let none = w.if-pages-eq0.true in let some = fits.some.1 in omega (arith, none, some, many)
        | then-pages-eq0-via-else-pages-eq0+then-not-leave_first w ↦
            let leave = subst (λ (n : ℕ). LeaveFirst n c.args.journal.now.count c.args.journal.now.changes.items) (sym many) fits.complete in
            false≢true (sym w.if-not-leave_first.true ∙ w.leave_first.ensures.1 (subst (λ (cs : List Change). LeaveFirst c.args.pages c.args.journal.now.count cs) (sym c.as_slice-changes.ensures.value) leave))
      ] in
      absurd wrong),
)

pub returns-then-rest-ne0-clause-fits : goal.returns-then-rest-ne0-clause-fits
returns-then-rest-ne0-clause-fits g c honest = (
  (λ t. absurd (false≢true t)),
  (λ fits.
      let old = g.P.Place.facts c.args.place.now in
      let other : (old.seen.rest ≢ 0) ⊎ (length old.seen.table ≢ c.args.journal.now.count) = elim c.then-rest-ne0.branch [
        | then-rest-ne0-via-then-rest-ne0 w ↦ inl (λ e. w.if-rest-ne0.true (c.rest-rest.ensures ∙ e))
        | then-rest-ne0-via-else-rest-ne0+then-pages-from w ↦ inr (λ e. w.if-pages-from.true (c.requires.pages honest ∙ e ∙ sym w.from.ensures))
      ] in
      absurd (unmarked_unfit (told c.args.journal.now) old.seen.table c.read_page.new.page old.seen.rest (c.in_ok-read_page.ensures.page honest)
      (λ marked. false≢true (sym c.if-is_marked_from.false ∙ c.is_marked_from.ensures.1 marked)) other fits)),
)

pub returns-then-rest-ne0-clause-complete : goal.returns-then-rest-ne0-clause-complete
returns-then-rest-ne0-clause-complete g c t = absurd (false≢true t)

pub returns-then-pages-eq0-clause-complete : goal.returns-then-pages-eq0-clause-complete
returns-then-pages-eq0-clause-complete g c t = absurd (false≢true t)
