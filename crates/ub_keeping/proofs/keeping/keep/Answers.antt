use Rattle.std.proofs.Common.{◌≡◌, ◌∙◌, ap, arith, inr, length, subst, sym}
use Rattle.std.proofs.lemmas.Bool.{false≢true}
use Rattle.std.proofs.lemmas.Result.{on_ok_weaker}
use Rattle.ub_journal.specs.Image.{applied, first_page}
use Rattle.ub_journal.specs.Place.{AtAnyMoment, IsHonest}
use Rattle.ub_keeping.specs.Calm.{Raises}
use Rattle.ub_keeping.specs.Kept.{MayKeep}
use Rattle.ub_keeping.specs.Store.{PlaceView}
use Rattle.ub_keeping.specs.inner.Made.{HasPage, IsMadeOf}
use Rattle.ub_keeping.proofs.KeptFacts.{made_of, made_pages, on_err, seen_at_end}
use Rattle.ub_keeping.proofs.CalmFacts.{still}
use Rattle.ub_keeping.proofs.ResultFacts.{all_ok, raises_none}
use Rattle.ub_keeping.proofs.SeenFacts.{same_keeps, seen_keeps}
use Rattle.ub_keeping.proofs.StoreFacts.{held_of}
use Rattle.ub_overlay.specs.Journal.{journal_from}
use Rattle.ub_overlay.specs.Overlay.{pages_of}
use Rattle.ub_keeping.proofs.keeping.keep.Goals as goal

pub put-kept-requires-clause-made : goal.put-kept-requires-clause-made
put-kept-requires-clause-made g c =
    let store = c.args.store.store in
    let same : c.into_place-place-in-Ok.result ≡ store.place = c.into_place-place-in-Ok.ensures ∙ ap (λ (s : PlaceView _). s.place) c.in-Ok.ensures.below in
    subst (λ p. HasPage (g.P.Place.facts p) → IsMadeOf (journal_from (first_page (g.P.Place.facts p).seen.table) c.in-Ok.parts.changed) (g.P.Place.facts p).seen.table) (sym same)
    (made_of c.args.store (g.P.Place.facts store.place) store.count store.reads store.writes c.in-Ok.parts.changed c.in-Ok.ensures.facts c.in-Ok.ensures.journal)

pub returns-in-Ok-clause-held : goal.returns-in-Ok-clause-held
returns-in-Ok-clause-held g c =
    let store = c.args.store.store in
    let same : c.into_place-place-in-Ok.result ≡ store.place = c.into_place-place-in-Ok.ensures ∙ ap (λ (s : PlaceView _). s.place) c.in-Ok.ensures.below in
    let makes = subst (λ p. HasPage (g.P.Place.facts p) → applied (journal_from (first_page (g.P.Place.facts p).seen.table) c.in-Ok.parts.changed) (g.P.Place.facts p).seen.table ≡ pages_of c.args.store) (sym same)
    (made_pages c.args.store (g.P.Place.facts store.place) store.count store.reads store.writes c.in-Ok.parts.changed c.in-Ok.ensures.facts c.in-Ok.ensures.journal) in
    on_ok_weaker c.put-kept.result (λ kept honest. let is = kept (subst (λ p. IsHonest (g.P.Place.facts p)) (sym same) honest) in (is.table, is.whole)) (c.put-kept.ensures.done (pages_of c.args.store) makes)

pub returns-in-Ok-clause-done : goal.returns-in-Ok-clause-done
returns-in-Ok-clause-done g c =
    let store = c.args.store.store in
    let same : c.into_place-place-in-Ok.result ≡ store.place = c.into_place-place-in-Ok.ensures ∙ ap (λ (s : PlaceView _). s.place) c.in-Ok.ensures.below in
    let makes = subst (λ p. HasPage (g.P.Place.facts p) → applied (journal_from (first_page (g.P.Place.facts p).seen.table) c.in-Ok.parts.changed) (g.P.Place.facts p).seen.table ≡ pages_of c.args.store) (sym same)
    (made_pages c.args.store (g.P.Place.facts store.place) store.count store.reads store.writes c.in-Ok.parts.changed c.in-Ok.ensures.facts c.in-Ok.ensures.journal) in
    on_ok_weaker c.put-kept.result (λ kept changed honest. kept (subst (λ p. IsHonest (g.P.Place.facts p)) (sym same) honest)) (c.put-kept.ensures.done (pages_of c.args.store) makes)

pub returns-in-Ok-clause-any_moment : goal.returns-in-Ok-clause-any_moment
returns-in-Ok-clause-any_moment g c =
    let store = c.args.store.store in
    let same : c.into_place-place-in-Ok.result ≡ store.place = c.into_place-place-in-Ok.ensures ∙ ap (λ (s : PlaceView _). s.place) c.in-Ok.ensures.below in
    let makes = subst (λ p. HasPage (g.P.Place.facts p) → applied (journal_from (first_page (g.P.Place.facts p).seen.table) c.in-Ok.parts.changed) (g.P.Place.facts p).seen.table ≡ pages_of c.args.store) (sym same)
    (made_pages c.args.store (g.P.Place.facts store.place) store.count store.reads store.writes c.in-Ok.parts.changed c.in-Ok.ensures.facts c.in-Ok.ensures.journal) in
    subst (λ p. AtAnyMoment (MayKeep (pages_of c.args.store) (g.P.Place.facts p)) (g.P.Place.facts p) (g.P.Place.facts c.put-kept.new.place)) same (c.put-kept.ensures.any_moment (pages_of c.args.store) makes)

pub returns-in-Ok-clause-either : goal.returns-in-Ok-clause-either
returns-in-Ok-clause-either g c =
    let store = c.args.store.store in
    let same : c.into_place-place-in-Ok.result ≡ store.place = c.into_place-place-in-Ok.ensures ∙ ap (λ (s : PlaceView _). s.place) c.in-Ok.ensures.below in
    let makes = subst (λ p. HasPage (g.P.Place.facts p) → applied (journal_from (first_page (g.P.Place.facts p).seen.table) c.in-Ok.parts.changed) (g.P.Place.facts p).seen.table ≡ pages_of c.args.store) (sym same)
    (made_pages c.args.store (g.P.Place.facts store.place) store.count store.reads store.writes c.in-Ok.parts.changed c.in-Ok.ensures.facts c.in-Ok.ensures.journal) in
    let run = subst (λ p. AtAnyMoment (MayKeep (pages_of c.args.store) (g.P.Place.facts p)) (g.P.Place.facts p) (g.P.Place.facts c.put-kept.new.place)) same
    (c.put-kept.ensures.any_moment (pages_of c.args.store) makes) in
    let last = subst (λ p. (g.P.Place.facts c.put-kept.new.place).honest ≡ (g.P.Place.facts p).honest) same c.put-kept.ensures.honest in
    on_err c.put-kept.result (λ honest. seen_at_end (MayKeep (pages_of c.args.store) (g.P.Place.facts store.place)) (g.P.Place.facts store.place) (g.P.Place.facts c.put-kept.new.place)
    (g.met.P.Place.clock c.put-kept.new.place (still (g.P.Place.facts store.place) (g.P.Place.facts c.put-kept.new.place) last honest)) (run honest))

pub returns-then-not-is_changed-clause-unchanged : goal.returns-then-not-is_changed-clause-unchanged
returns-then-not-is_changed-clause-unchanged g c none = c.into_place-place.ensures ∙ ap (λ (s : PlaceView _). s.place) c.into_store.ensures.store

pub returns-then-not-is_changed-clause-any_moment : goal.returns-then-not-is_changed-clause-any_moment
returns-then-not-is_changed-clause-any_moment g c =
    let same : c.into_place-place.result ≡ c.args.store.store.place = c.into_place-place.ensures ∙ ap (λ (s : PlaceView _). s.place) c.into_store.ensures.store in
    subst (λ p. AtAnyMoment (MayKeep (pages_of c.args.store) (g.P.Place.facts p)) (g.P.Place.facts p) (g.P.Place.facts c.into_place-place.result)) same (same_keeps (pages_of c.args.store) (g.P.Place.facts c.into_place-place.result) (g.met.P.Place.clock c.into_place-place.result))

pub returns-then-not-is_changed-clause-either : goal.returns-then-not-is_changed-clause-either
returns-then-not-is_changed-clause-either g c =
    let same : c.into_place-place.result ≡ c.args.store.store.place = c.into_place-place.ensures ∙ ap (λ (s : PlaceView _). s.place) c.into_store.ensures.store in
    on_err c.see_whole-kept.result (subst (λ p. IsHonest (g.P.Place.facts p) → MayKeep (pages_of c.args.store) (g.P.Place.facts p) (g.P.Place.facts c.into_place-place.result).seen) same (seen_keeps (pages_of c.args.store) (g.P.Place.facts c.into_place-place.result) (g.met.P.Place.clock c.into_place-place.result)))

pub returns-then-not-is_changed-clause-honest : goal.returns-then-not-is_changed-clause-honest
returns-then-not-is_changed-clause-honest g c =
    let same : c.into_place-place.result ≡ c.args.store.store.place = c.into_place-place.ensures ∙ ap (λ (s : PlaceView _). s.place) c.into_store.ensures.store in
    ap (λ p. (g.P.Place.facts p).honest) same

pub returns-then-not-is_changed-clause-cause : goal.returns-then-not-is_changed-clause-cause
returns-then-not-is_changed-clause-cause g c =
    let same : c.into_place-place.result ≡ c.args.store.store.place = c.into_place-place.ensures ∙ ap (λ (s : PlaceView _). s.place) c.into_store.ensures.store in
    raises_none c.see_whole-kept.result _ _ (ap (λ p. (g.P.Place.facts p).failures) same)

pub returns-then-count-eq0-clause-unchanged : goal.returns-then-count-eq0-clause-unchanged
returns-then-count-eq0-clause-unchanged g c none = c.into_place.ensures ∙ ap (λ (s : PlaceView _). s.place) c.into_store-then-count-eq0.ensures.store

pub returns-then-count-eq0-clause-any_moment : goal.returns-then-count-eq0-clause-any_moment
returns-then-count-eq0-clause-any_moment g c =
    let same : c.into_place.result ≡ c.args.store.store.place = c.into_place.ensures ∙ ap (λ (s : PlaceView _). s.place) c.into_store-then-count-eq0.ensures.store in
    subst (λ p. AtAnyMoment (MayKeep (pages_of c.args.store) (g.P.Place.facts p)) (g.P.Place.facts p) (g.P.Place.facts c.into_place.result)) same (same_keeps (pages_of c.args.store) (g.P.Place.facts c.into_place.result) (g.met.P.Place.clock c.into_place.result))

pub returns-then-count-eq0-clause-either : goal.returns-then-count-eq0-clause-either
returns-then-count-eq0-clause-either g c =
    let same : c.into_place.result ≡ c.args.store.store.place = c.into_place.ensures ∙ ap (λ (s : PlaceView _). s.place) c.into_store-then-count-eq0.ensures.store in
    subst (λ p. IsHonest (g.P.Place.facts p) → MayKeep (pages_of c.args.store) (g.P.Place.facts p) (g.P.Place.facts c.into_place.result).seen) same (seen_keeps (pages_of c.args.store) (g.P.Place.facts c.into_place.result) (g.met.P.Place.clock c.into_place.result))

pub returns-then-count-eq0-clause-honest : goal.returns-then-count-eq0-clause-honest
returns-then-count-eq0-clause-honest g c =
    let same : c.into_place.result ≡ c.args.store.store.place = c.into_place.ensures ∙ ap (λ (s : PlaceView _). s.place) c.into_store-then-count-eq0.ensures.store in
    ap (λ p. (g.P.Place.facts p).honest) same

pub returns-then-count-eq0-clause-cause : goal.returns-then-count-eq0-clause-cause
returns-then-count-eq0-clause-cause g c =
    let same : c.into_place.result ≡ c.args.store.store.place = c.into_place.ensures ∙ ap (λ (s : PlaceView _). s.place) c.into_store-then-count-eq0.ensures.store in
    inr (ap (λ p. (g.P.Place.facts p).failures) same)

pub returns-in-Err-clause-unchanged : goal.returns-in-Err-clause-unchanged
returns-in-Err-clause-unchanged g c none = c.into_place-in-Err.ensures ∙ ap (λ (s : PlaceView _). s.place) c.in-Err.ensures.refused

pub returns-in-Err-clause-any_moment : goal.returns-in-Err-clause-any_moment
returns-in-Err-clause-any_moment g c =
    let same : c.into_place-in-Err.result ≡ c.args.store.store.place = c.into_place-in-Err.ensures ∙ ap (λ (s : PlaceView _). s.place) c.in-Err.ensures.refused in
    subst (λ p. AtAnyMoment (MayKeep (pages_of c.args.store) (g.P.Place.facts p)) (g.P.Place.facts p) (g.P.Place.facts c.into_place-in-Err.result)) same (same_keeps (pages_of c.args.store) (g.P.Place.facts c.into_place-in-Err.result) (g.met.P.Place.clock c.into_place-in-Err.result))

pub returns-in-Err-clause-either : goal.returns-in-Err-clause-either
returns-in-Err-clause-either g c =
    let same : c.into_place-in-Err.result ≡ c.args.store.store.place = c.into_place-in-Err.ensures ∙ ap (λ (s : PlaceView _). s.place) c.in-Err.ensures.refused in
    subst (λ p. IsHonest (g.P.Place.facts p) → MayKeep (pages_of c.args.store) (g.P.Place.facts p) (g.P.Place.facts c.into_place-in-Err.result).seen) same (seen_keeps (pages_of c.args.store) (g.P.Place.facts c.into_place-in-Err.result) (g.met.P.Place.clock c.into_place-in-Err.result))

pub returns-in-Err-clause-honest : goal.returns-in-Err-clause-honest
returns-in-Err-clause-honest g c =
    let same : c.into_place-in-Err.result ≡ c.args.store.store.place = c.into_place-in-Err.ensures ∙ ap (λ (s : PlaceView _). s.place) c.in-Err.ensures.refused in
    ap (λ p. (g.P.Place.facts p).honest) same

pub returns-in-Err-clause-cause : goal.returns-in-Err-clause-cause
returns-in-Err-clause-cause g c =
    let same : c.into_place-in-Err.result ≡ c.args.store.store.place = c.into_place-in-Err.ensures ∙ ap (λ (s : PlaceView _). s.place) c.in-Err.ensures.refused in
    inr (ap (λ p. (g.P.Place.facts p).failures) same)

pub returns-then-not-is_changed-clause-faults : goal.returns-then-not-is_changed-clause-faults
returns-then-not-is_changed-clause-faults g c = c.see_whole-kept.ensures.faults

pub returns-then-not-is_changed-clause-done : goal.returns-then-not-is_changed-clause-done
returns-then-not-is_changed-clause-done g c = all_ok c.see_whole-kept.result (λ some honest. absurd (false≢true (sym c.if-not-is_changed.true ∙ c.is_changed.ensures.changed.1 some)))

pub returns-then-not-is_changed-clause-held : goal.returns-then-not-is_changed-clause-held
returns-then-not-is_changed-clause-held g c =
    let same : c.into_place-place.result ≡ c.args.store.store.place = c.into_place-place.ensures ∙ ap (λ (s : PlaceView _). s.place) c.into_store.ensures.store in
    on_ok_weaker c.see_whole-kept.result (λ whole honest.
    let at = subst (λ p. (c.pages-count.result ≡ length (g.P.Place.facts p).seen.table) × ((g.P.Place.facts p).seen.rest ≡ 0)) same whole in
    subst (λ p. ((g.P.Place.facts p).seen.table ≡ pages_of c.args.store) × ((g.P.Place.facts p).seen.rest ≡ 0)) (sym same) (
      held_of c.args.store (g.P.Place.facts c.args.store.store.place) c.args.store.store.count c.args.store.store.reads c.args.store.store.writes c.pages-count.result c.is_changed.ensures.facts (λ some. false≢true (sym c.if-not-is_changed.true ∙ c.is_changed.ensures.changed.1 some)) c.pages-count.ensures.count
          at.0 honest,
      at.1,
    )) c.see_whole-kept.ensures.whole

pub put-kept-requires-clause-journal : goal.put-kept-requires-clause-journal
put-kept-requires-clause-journal g c before = let same = c.pages-count.ensures.count in let some = c.if-count-eq0.false in c.in-Ok.ensures.is_journal before (omega (arith, same, some))

pub returns-in-Ok-clause-unchanged : goal.returns-in-Ok-clause-unchanged
returns-in-Ok-clause-unchanged g c none = absurd (c.is_changed.ensures.changed.0 c.if-not-is_changed.false none)

pub returns-in-Ok-clause-faults : goal.returns-in-Ok-clause-faults
returns-in-Ok-clause-faults g c = c.put-kept.ensures.faults

pub returns-in-Ok-clause-honest : goal.returns-in-Ok-clause-honest
returns-in-Ok-clause-honest g c =
    let same : c.into_place-place-in-Ok.result ≡ c.args.store.store.place = c.into_place-place-in-Ok.ensures ∙ ap (λ (s : PlaceView _). s.place) c.in-Ok.ensures.below in
    c.put-kept.ensures.honest ∙ ap (λ p. (g.P.Place.facts p).honest) same

pub returns-in-Ok-clause-cause : goal.returns-in-Ok-clause-cause
returns-in-Ok-clause-cause g c =
    let same : c.into_place-place-in-Ok.result ≡ c.args.store.store.place = c.into_place-place-in-Ok.ensures ∙ ap (λ (s : PlaceView _). s.place) c.in-Ok.ensures.below in
    subst (λ p. Raises c.put-kept.result (g.P.Place.facts p).failures (g.P.Place.facts c.put-kept.new.place).failures) same c.put-kept.ensures.cause
