use Rattle.std.proofs.Common.{◌∙◌, Err, ap, arith, inl, inr, subst, sym}
use Rattle.ub_files.specs.Files.{raised_by}
use Rattle.ub_files.specs.declared.fault.OpenFault.TheVariants as opening
use Rattle.ub_journal.specs.Place.{AtAnyMoment}
use Rattle.ub_keeping.specs.Found.{MayFinish, StandsAlone}
use Rattle.ub_keeping.specs.Store.{PlaceView}
use Rattle.ub_overlay.specs.Overlay.{pages_of}
use Rattle.ub_keeping.proofs.CalmFacts.{still}
use Rattle.ub_keeping.proofs.FoundFacts.{unsized_pages}
use Rattle.ub_keeping.proofs.ResultFacts.{more_opens, not_open_size}
use Rattle.ub_keeping.proofs.SeenFacts.{finds_as, stands_alone, unsized_rest}
use Rattle.ub_keeping.proofs.changing.change.Goals as goal

pub returns-then-pages-from-clause-torn : goal.returns-then-pages-from-clause-torn
returns-then-pages-from-clause-torn g c same honest =
    let cleared = g.P.Place.facts c.clear.new.place in
    let many = c.if-pages-from.true in
    let most = c.from.ensures in
    let all = c.pages-pages.ensures in
    unsized_pages (g.P.Place.facts c.args.place).seen cleared.seen.table cleared.seen.rest (c.in_default.ensures.found honest) (omega (arith, many, most, all))

pub returns-in-Err-clause-torn : goal.returns-in-Err-clause-torn
returns-in-Err-clause-torn g c same = absurd (not_open_size c.in-Err.fault c.in-Err.ensures.faults same)

pub returns-in-Err-clause-foreign : goal.returns-in-Err-clause-foreign
returns-in-Err-clause-foreign g c same = c.in-Err.ensures.foreign (ap (λ f. Err f) same)

pub returns-in-Err-clause-faults : goal.returns-in-Err-clause-faults
returns-in-Err-clause-faults g c = more_opens c.in-Err.ensures.faults

pub returns-in-Err-clause-any_moment_refused : goal.returns-in-Err-clause-any_moment_refused
returns-in-Err-clause-any_moment_refused g c = c.clear.ensures.any_moment

pub returns-in-Err-clause-cause_refused : goal.returns-in-Err-clause-cause_refused
returns-in-Err-clause-cause_refused g c = (c.clear.ensures.honest, c.in-Err.ensures.cause)

pub returns-then-pages-from-clause-any_moment_refused : goal.returns-then-pages-from-clause-any_moment_refused
returns-then-pages-from-clause-any_moment_refused g c = c.clear.ensures.any_moment

pub returns-then-pages-from-clause-cause_refused : goal.returns-then-pages-from-clause-cause_refused
returns-then-pages-from-clause-cause_refused g c = (c.clear.ensures.honest, c.in_default.ensures.cause)

pub overflow_cast-pages : goal.overflow_cast-pages
overflow_cast-pages g c = let few = c.if-pages-from.false in let most = c.from.ensures in omega (arith, few, most)

pub read_alone-requires : goal.read_alone-requires
read_alone-requires g c = record { count = λ honest. c.pages-pages.ensures }

pub returns-in-Ok-clause-found : goal.returns-in-Ok-clause-found
returns-in-Ok-clause-found g c honest =
    let at = c.in-Ok.ensures.found (still (g.P.Place.facts c.args.place) (g.P.Place.facts c.clear.new.place) c.clear.ensures.honest honest) in
    finds_as (g.P.Place.facts c.args.place).seen (pages_of c.in-Ok.overlay) (g.P.Place.facts c.clear.new.place).seen.table 0 (g.P.Place.facts c.clear.new.place).seen.rest at.0 at.1 (c.in_default.ensures.found honest)

pub returns-in-Ok-clause-alone : goal.returns-in-Ok-clause-alone
returns-in-Ok-clause-alone g c honest =
    let at = c.in-Ok.ensures.found (still (g.P.Place.facts c.args.place) (g.P.Place.facts c.clear.new.place) c.clear.ensures.honest honest) in
    subst (λ p. StandsAlone (g.P.Place.facts p).seen (pages_of c.in-Ok.overlay)) (sym (ap (λ (s : PlaceView _). s.place) c.in-Ok.ensures.view.0)) (stands_alone (g.P.Place.facts c.clear.new.place).seen (pages_of c.in-Ok.overlay) (c.in_default.ensures.alone honest) at)

pub returns-in-Ok-clause-fresh : goal.returns-in-Ok-clause-fresh
returns-in-Ok-clause-fresh g c = (c.in-Ok.ensures.view.2, c.in-Ok.ensures.view.1, c.in-Ok.ensures.honest ∙ c.clear.ensures.honest)

pub returns-in-Ok-clause-any_moment : goal.returns-in-Ok-clause-any_moment
returns-in-Ok-clause-any_moment g c = subst (λ p. AtAnyMoment (MayFinish (g.P.Place.facts c.args.place)) (g.P.Place.facts c.args.place) (g.P.Place.facts p)) (sym (ap (λ (s : PlaceView _). s.place) c.in-Ok.ensures.view.0)) c.clear.ensures.any_moment

pub returns-in-Ok-clause-cause : goal.returns-in-Ok-clause-cause
returns-in-Ok-clause-cause g c = (ap (λ p. (g.P.Place.facts p).honest) (ap (λ (s : PlaceView _). s.place) c.in-Ok.ensures.view.0) ∙ c.clear.ensures.honest, ap (λ p. (g.P.Place.facts p).failures) (ap (λ (s : PlaceView _). s.place) c.in-Ok.ensures.view.0) ∙ c.in_default.ensures.cause)

pub returns-in-Err-read_alone-clause-torn : goal.returns-in-Err-read_alone-clause-torn
returns-in-Err-read_alone-clause-torn g c is honest = unsized_rest (g.P.Place.facts c.args.place).seen (g.P.Place.facts c.clear.new.place).seen.table (g.P.Place.facts c.clear.new.place).seen.rest (c.in_default.ensures.found honest) c.in-Err-read_alone.ensures.refused.2

pub returns-in-Err-read_alone-clause-faults : goal.returns-in-Err-read_alone-clause-faults
returns-in-Err-read_alone-clause-faults g c = inr (inr (inl (ap (λ f. opening.Store f) c.in-Err-read_alone.ensures.refused.1)))

pub returns-in-Err-read_alone-clause-any_moment_refused : goal.returns-in-Err-read_alone-clause-any_moment_refused
returns-in-Err-read_alone-clause-any_moment_refused g c = subst (λ p. AtAnyMoment (MayFinish (g.P.Place.facts c.args.place)) (g.P.Place.facts c.args.place) (g.P.Place.facts p)) (sym c.in-Err-read_alone.ensures.refused.0) c.clear.ensures.any_moment

pub returns-in-Err-read_alone-clause-cause_refused : goal.returns-in-Err-read_alone-clause-cause_refused
returns-in-Err-read_alone-clause-cause_refused g c =
    let same = c.in-Err-read_alone.ensures.refused.0 in
    (ap (λ p. (g.P.Place.facts p).honest) same ∙ c.clear.ensures.honest, ap (λ p. (g.P.Place.facts p).failures) same ∙ c.in_default.ensures.cause ∙ sym (ap (λ f. raised_by f (g.P.Place.facts c.args.place).failures) c.in-Err-read_alone.ensures.refused.1))
