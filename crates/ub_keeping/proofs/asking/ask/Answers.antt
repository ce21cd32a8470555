use Rattle.std.proofs.Common.{◌∙◌, ℕ, IfSome, ap, arith, inl, inr, subst, sym}
use Rattle.std.specs.Option.{option_map}
use Rattle.std.proofs.lemmas.Result.{IfErr-weaker, IfOk-weaker}
use Rattle.ub_files.specs.Files.{raised_by}
use Rattle.ub_journal.specs.Image.{Finds, IsJournal, told}
use Rattle.ub_journal.specs.Place.{IsHonest}
use Rattle.ub_keeping.specs.Calm.{IsCalm, IsQuiet}
use Rattle.ub_keeping.specs.Found.{IsItsJournal, IsLookedUp}
use Rattle.ub_keeping.specs.Store.{PlaceView}
use Rattle.ub_keeping.specs.inner.Fitting.{LeaveFirst}
use Rattle.ub_overlay.specs.Overlay.{pages_of}
use Rattle.ub_keeping.proofs.CalmFacts.{calm_then, pages_calm, quiet_same, quiet_then, seen_calm, told_calm}
use Rattle.ub_keeping.proofs.ResultFacts.{both_ok, more_faults, not_size}
use Rattle.ub_keeping.proofs.SeenFacts.{alone_found, alone_unsized}
use Rattle.ub_keeping.proofs.asking.ask.Goals as goal

pub returns-then-pages-from-clause-torn : goal.returns-then-pages-from-clause-torn
returns-then-pages-from-clause-torn g c same honest = let many = c.if-pages-from.true in let most = c.from.ensures in let all = c.pages-pages.ensures in inl (omega (arith, many, most, all))

pub returns-then-pages-from-clause-quiet : goal.returns-then-pages-from-clause-quiet
returns-then-pages-from-clause-quiet g c = quiet_same (g.P.Place.facts c.args.place) (g.met.P.Place.clock c.args.place)

pub look-requires : goal.look-requires
look-requires g c honest = c.pages-pages.ensures

pub overflow_cast-pages : goal.overflow_cast-pages
overflow_cast-pages g c = let few = c.if-pages-from.false in let most = c.from.ensures in omega (arith, few, most)

pub overflow_cast-pages-in-Ok-None : goal.overflow_cast-pages-in-Ok-None
overflow_cast-pages-in-Ok-None g c = let few = c.if-pages-from.false in let most = c.from.ensures in omega (arith, few, most)

pub read_through-requires-clause-count : goal.read_through-requires-clause-count
read_through-requires-clause-count g c = pages_calm (g.P.Place.facts c.args.place) (g.P.Place.facts c.look.new.place) _ c.look.ensures.calm (λ honest. c.pages-pages.ensures)

pub read_through-requires-clause-journal : goal.read_through-requires-clause-journal
read_through-requires-clause-journal g c = subst (λ f. IfSome f (λ j. IsJournal (told j))) c.in-Ok-Some.field-0-is c.in-Ok-Some.ensures.journal

pub read_through-requires-clause-complete : goal.read_through-requires-clause-complete
read_through-requires-clause-complete g c = subst (λ f. IfSome f (λ j. LeaveFirst c.pages-pages.result j.count j.changes.items)) c.in-Ok-Some.field-0-is c.in-Ok-Some.ensures.complete

pub read_through-requires-clause-seen : goal.read_through-requires-clause-seen
read_through-requires-clause-seen g c =
    seen_calm (λ i. IsItsJournal i (told c.in-Ok-Some.journal)) (g.P.Place.facts c.args.place) (g.P.Place.facts c.look.new.place) c.look.ensures.calm
    (subst (λ f. IsHonest (g.P.Place.facts c.args.place) → IsLookedUp (g.P.Place.facts c.args.place).seen (option_map told f)) c.in-Ok-Some.field-0-is c.in-Ok-Some.ensures.found)

pub returns-in-Ok-Some-clause-found : goal.returns-in-Ok-Some-clause-found
returns-in-Ok-Some-clause-found g c =
    IfOk-weaker c.read_through.result _ _ (λ o is. told_calm (λ i. Finds i (pages_of o) 0) (g.P.Place.facts c.args.place) (g.P.Place.facts c.look.new.place) c.look.ensures.calm is) c.read_through.ensures.found

pub returns-in-Ok-Some-clause-fresh : goal.returns-in-Ok-Some-clause-fresh
returns-in-Ok-Some-clause-fresh g c = IfOk-weaker c.read_through.result _ _ (λ o is. (is.0, is.1 ∙ c.look.ensures.calm.quiet.honest)) c.read_through.ensures.fresh

pub returns-in-Ok-Some-clause-torn : goal.returns-in-Ok-Some-clause-torn
returns-in-Ok-Some-clause-torn g c = IfErr-weaker c.read_through.result _ _ (λ x is same. absurd (not_size x.fault is same)) c.read_through.ensures.faults

pub returns-in-Ok-Some-clause-faults : goal.returns-in-Ok-Some-clause-faults
returns-in-Ok-Some-clause-faults g c = IfErr-weaker c.read_through.result _ _ (λ x is. more_faults x.fault is) c.read_through.ensures.faults

pub returns-in-Ok-Some-clause-calm : goal.returns-in-Ok-Some-clause-calm
returns-in-Ok-Some-clause-calm g c = IfOk-weaker c.read_through.result _ _ (λ o is. calm_then (g.P.Place.facts c.args.place) (g.P.Place.facts c.look.new.place) (g.P.Place.facts o.store.place) c.look.ensures.calm is) c.read_through.ensures.calm

pub returns-in-Ok-Some-clause-quiet : goal.returns-in-Ok-Some-clause-quiet
returns-in-Ok-Some-clause-quiet g c = IfErr-weaker c.read_through.result _ _ (λ x is. quiet_then (g.P.Place.facts c.args.place) (g.P.Place.facts c.look.new.place) (g.P.Place.facts x.store) c.look.ensures.calm is) c.read_through.ensures.quiet

pub returns-in-Ok-Some-clause-cause : goal.returns-in-Ok-Some-clause-cause
returns-in-Ok-Some-clause-cause g c = IfOk-weaker c.read_through.result _ _ (λ o is. is ∙ c.in-Ok-Some.ensures.cause) c.read_through.ensures.cause

pub returns-in-Ok-Some-clause-cause_refused : goal.returns-in-Ok-Some-clause-cause_refused
returns-in-Ok-Some-clause-cause_refused g c = IfErr-weaker c.read_through.result _ _ (λ x is. is ∙ ap (λ (n : ℕ). raised_by x.fault n) c.in-Ok-Some.ensures.cause) c.read_through.ensures.cause_refused

pub read_alone-requires : goal.read_alone-requires
read_alone-requires g c = record { count = pages_calm (g.P.Place.facts c.args.place) (g.P.Place.facts c.look.new.place) _ c.look.ensures.calm (λ honest. c.pages-pages.ensures) }

pub returns-in-Ok-None-clause-found : goal.returns-in-Ok-None-clause-found
returns-in-Ok-None-clause-found g c =
    IfOk-weaker c.read_alone.result _ _ (λ o is. alone_found (pages_of o) (g.P.Place.facts c.args.place) (g.P.Place.facts c.look.new.place) c.look.ensures.calm (subst (λ f. IsHonest (g.P.Place.facts c.args.place) → IsLookedUp (g.P.Place.facts c.args.place).seen (option_map told f)) c.in-Ok-None.field-0-is c.in-Ok-None.ensures.found) is)
    c.read_alone.ensures.found

pub returns-in-Ok-None-clause-fresh : goal.returns-in-Ok-None-clause-fresh
returns-in-Ok-None-clause-fresh g c = both_ok _ _ _ c.read_alone.result (λ o view honest. (view.2, honest ∙ c.look.ensures.calm.quiet.honest)) c.read_alone.ensures.view c.read_alone.ensures.honest

pub returns-in-Ok-None-clause-torn : goal.returns-in-Ok-None-clause-torn
returns-in-Ok-None-clause-torn g c =
    IfErr-weaker c.read_alone.result _ _ (λ x is same. alone_unsized (g.P.Place.facts c.args.place) (g.P.Place.facts c.look.new.place) c.look.ensures.calm (subst (λ f. IsHonest (g.P.Place.facts c.args.place) → IsLookedUp (g.P.Place.facts c.args.place).seen (option_map told f)) c.in-Ok-None.field-0-is c.in-Ok-None.ensures.found) is.2)
    c.read_alone.ensures.refused

pub returns-in-Ok-None-clause-faults : goal.returns-in-Ok-None-clause-faults
returns-in-Ok-None-clause-faults g c = IfErr-weaker c.read_alone.result _ _ (λ x is. inr (inl is.1)) c.read_alone.ensures.refused

pub returns-in-Ok-None-clause-calm : goal.returns-in-Ok-None-clause-calm
returns-in-Ok-None-clause-calm g c = IfOk-weaker c.read_alone.result _ _ (λ o is. subst (λ p. IsCalm (g.P.Place.facts c.args.place) (g.P.Place.facts p)) (sym (ap (λ (s : PlaceView _). s.place) is.0)) c.look.ensures.calm) c.read_alone.ensures.view

pub returns-in-Ok-None-clause-quiet : goal.returns-in-Ok-None-clause-quiet
returns-in-Ok-None-clause-quiet g c = IfErr-weaker c.read_alone.result _ _ (λ x is. subst (λ p. IsQuiet (g.P.Place.facts c.args.place) (g.P.Place.facts p)) (sym is.0) c.look.ensures.calm.quiet) c.read_alone.ensures.refused

pub returns-in-Ok-None-clause-cause : goal.returns-in-Ok-None-clause-cause
returns-in-Ok-None-clause-cause g c = IfOk-weaker c.read_alone.result _ _ (λ o is. ap (λ (s : PlaceView _). (g.P.Place.facts s.place).failures) is.0 ∙ c.in-Ok-None.ensures.cause) c.read_alone.ensures.view

pub returns-in-Ok-None-clause-cause_refused : goal.returns-in-Ok-None-clause-cause_refused
returns-in-Ok-None-clause-cause_refused g c = IfErr-weaker c.read_alone.result _ _ (λ x is. ap (λ p. (g.P.Place.facts p).failures) is.0 ∙ c.in-Ok-None.ensures.cause ∙ sym (ap (λ f. raised_by f (g.P.Place.facts c.args.place).failures) is.1)) c.read_alone.ensures.refused

pub returns-in-Err-clause-torn : goal.returns-in-Err-clause-torn
returns-in-Err-clause-torn g c same = absurd (not_size c.in-Err.fault c.in-Err.ensures.faults same)

pub returns-in-Err-clause-faults : goal.returns-in-Err-clause-faults
returns-in-Err-clause-faults g c = more_faults c.in-Err.fault c.in-Err.ensures.faults

pub returns-in-Err-clause-quiet : goal.returns-in-Err-clause-quiet
returns-in-Err-clause-quiet g c = c.look.ensures.calm.quiet

pub returns-in-Err-clause-cause_refused : goal.returns-in-Err-clause-cause_refused
returns-in-Err-clause-cause_refused g c = c.in-Err.ensures.cause
