use Rattle.std.proofs.Common.{◌∙◌, ℕ, List, ap, arith, inl, refl, subst, sym}
use Rattle.ub_journal.specs.Image.{Image, IsComplete, applied, told}
use Rattle.ub_journal_page.proofs.LawFacts.{change_others}
use Rattle.ub_store.specs.Facts.{StoreFacts}
use Rattle.ub_keeping.specs.Calm.{IsCalm, IsQuiet}
use Rattle.ub_keeping.specs.Store.{PlaceView, table_pages}
use Rattle.ub_keeping.proofs.CalmFacts.{calm_step, quiet_step, still, pages_calm}
use Rattle.ub_keeping.proofs.ResultFacts.{err_counted, ok_counted}
use Rattle.ub_overlay.proofs.OverlayFacts.{was_ok}
use Rattle.ub_keeping.proofs.StoreFacts.{pages_honest, whole_through}
use Rattle.ub_keeping.proofs.asking.read_through.Goals as goal

pub through-requires-clause-others : goal.through-requires-clause-others
through-requires-clause-others g c = change_others (told c.args.journal.now) c.requires.journal

pub returns-then-is_err-clause-quiet : goal.returns-then-is_err-clause-quiet
returns-then-is_err-clause-quiet g c = quiet_step c.sync_folder.ensures.effect (g.met.P.Place.clock c.args.place)

pub returns-then-is_err-clause-cause_refused : goal.returns-then-is_err-clause-cause_refused
returns-then-is_err-clause-cause_refused g c = c.sync_folder.ensures.effect.counts.failures ∙ err_counted c.sync_folder.result _ c.if-is_err.ensures.value

pub of-requires : goal.of-requires
of-requires g c =
    let calm = calm_step c.sync_folder.ensures.effect (λ at. (was_ok c.sync_folder.result _ c.if-is_err.ensures.value c.sync_folder.ensures.done at).seen) (g.met.P.Place.clock c.args.place) in
    pages_calm (g.P.Place.facts c.args.place) (g.P.Place.facts c.sync_folder.new.self) c.args.count calm c.requires.count

pub through-requires-clause-some : goal.through-requires-clause-some
through-requires-clause-some g c = let some = c.requires.journal.some in omega (arith, some)

pub returns-in-Ok-clause-fresh : goal.returns-in-Ok-clause-fresh
returns-in-Ok-clause-fresh g c = (c.in-Ok.ensures.fresh, ap (λ (f : StoreFacts). f.honest) c.in-Ok.ensures.below ∙ ap (λ (s : PlaceView _). (g.P.Place.facts s.place).honest) c.of.ensures ∙ c.sync_folder.ensures.effect.counts.honest)

pub returns-in-Ok-clause-calm : goal.returns-in-Ok-clause-calm
returns-in-Ok-clause-calm g c =
    let calm = calm_step c.sync_folder.ensures.effect (λ at. (was_ok c.sync_folder.result _ c.if-is_err.ensures.value c.sync_folder.ensures.done at).seen) (g.met.P.Place.clock c.args.place) in
    subst (λ p. IsCalm (g.P.Place.facts c.args.place) (g.P.Place.facts p)) (sym (ap (λ (s : PlaceView _). s.place) (c.in-Ok.ensures.store ∙ c.of.ensures))) calm

pub returns-in-Ok-clause-cause : goal.returns-in-Ok-clause-cause
returns-in-Ok-clause-cause g c = ap (λ p. (g.P.Place.facts p).failures) (ap (λ (s : PlaceView _). s.place) (c.in-Ok.ensures.store ∙ c.of.ensures)) ∙ (c.sync_folder.ensures.effect.counts.failures ∙ ok_counted c.sync_folder.result _ c.if-is_err.ensures.value)

pub returns-in-Err-clause-quiet : goal.returns-in-Err-clause-quiet
returns-in-Err-clause-quiet g c =
    let calm = calm_step c.sync_folder.ensures.effect (λ at. (was_ok c.sync_folder.result _ c.if-is_err.ensures.value c.sync_folder.ensures.done at).seen) (g.met.P.Place.clock c.args.place) in
    subst (λ p. IsQuiet (g.P.Place.facts c.args.place) (g.P.Place.facts p)) (sym (c.into_place.ensures ∙ ap (λ (s : PlaceView _). s.place) (c.in-Err.ensures.refused ∙ c.of.ensures))) calm.quiet

pub returns-in-Err-clause-cause_refused : goal.returns-in-Err-clause-cause_refused
returns-in-Err-clause-cause_refused g c = ap (λ p. (g.P.Place.facts p).failures) (c.into_place.ensures ∙ ap (λ (s : PlaceView _). s.place) (c.in-Err.ensures.refused ∙ c.of.ensures)) ∙ (c.sync_folder.ensures.effect.counts.failures ∙ ok_counted c.sync_folder.result _ c.if-is_err.ensures.value)

pub through-requires-clause-complete : goal.through-requires-clause-complete
through-requires-clause-complete g c =
    let calm = calm_step c.sync_folder.ensures.effect (λ at. (was_ok c.sync_folder.result _ c.if-is_err.ensures.value c.sync_folder.ensures.done at).seen) (g.met.P.Place.clock c.args.place) in
    subst (λ (s : PlaceView _). IsComplete (told c.args.journal.now) (table_pages (g.P.Place.facts s.place).honest s.count (g.P.Place.facts s.place).seen.table)) (sym c.of.ensures)
    (whole_through (told c.args.journal.now) (g.P.Place.facts c.sync_folder.new.self).honest c.args.count (g.P.Place.facts c.sync_folder.new.self).seen.table c.requires.complete (pages_calm (g.P.Place.facts c.args.place) (g.P.Place.facts c.sync_folder.new.self) c.args.count calm c.requires.count))

pub returns-in-Ok-clause-found : goal.returns-in-Ok-clause-found
returns-in-Ok-clause-found g c honest =
    let calm = calm_step c.sync_folder.ensures.effect (λ at. (was_ok c.sync_folder.result _ c.if-is_err.ensures.value c.sync_folder.ensures.done at).seen) (g.met.P.Place.clock c.args.place) in
    let seen = c.requires.seen honest in
    let pages = c.in-Ok.ensures.pages ∙ ap (λ (s : PlaceView _). applied (told c.args.journal.now) (table_pages (g.P.Place.facts s.place).honest s.count (g.P.Place.facts s.place).seen.table)) c.of.ensures
    ∙ ap (λ (t : List (List ℕ)). applied (told c.args.journal.now) t) (pages_honest (g.P.Place.facts c.sync_folder.new.self).honest c.args.count (g.P.Place.facts c.sync_folder.new.self).seen.table (still (g.P.Place.facts c.args.place) (g.P.Place.facts c.sync_folder.new.self) calm.quiet.honest honest) ∙ ap (λ (i : Image). i.table) (calm.seen honest)) in
    inl (told c.args.journal.now, seen.0, seen.1, pages, refl)
