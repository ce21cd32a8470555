use Rattle.std.proofs.Common.{◌≡◌, ◌≤◌, ◌∙◌, ℕ, None, Some, ap, arith, inl, length, slice_get}
use Rattle.ub_journal.specs.Place.{IsHonest}
use Rattle.ub_store.specs.Facts.{raised}
use Rattle.ub_keeping.proofs.CalmFacts.{calm_step, calm_then, seen_calm, some_calm, told_calm}
use Rattle.ub_keeping.proofs.ResultFacts.{err_counted, err_is, none_of, ok_counted, raises_err}
use Rattle.ub_keeping.proofs.SeenFacts.{kept_seen, made_seen, quiet_keeps, run_seen}
use Rattle.ub_overlay.proofs.OverlayFacts.{was_ok}
use Rattle.ub_keeping.proofs.keeping.put.Goals as goal

pub returns-in_err-see_none-clause-done : goal.returns-in_err-see_none-clause-done
returns-in_err-see_none-clause-done g c pages makes = none_of _ c.from_residual.result c.from_residual.ensures.0

pub returns-in_err-see_none-clause-any_moment : goal.returns-in_err-see_none-clause-any_moment
returns-in_err-see_none-clause-any_moment g c pages makes = quiet_keeps pages (g.P.Place.facts c.args.place.now) (g.P.Place.facts c.see_none.new.place) c.see_none.ensures.calm.quiet

pub returns-in_err-see_none-clause-faults : goal.returns-in_err-see_none-clause-faults
returns-in_err-see_none-clause-faults g c = err_is c.from_residual.result _ _ c.from_residual.ensures.1 c.in_err-see_none.ensures.faults

pub returns-in_err-see_none-clause-honest : goal.returns-in_err-see_none-clause-honest
returns-in_err-see_none-clause-honest g c = c.see_none.ensures.calm.quiet.honest

pub returns-in_err-see_none-clause-cause : goal.returns-in_err-see_none-clause-cause
returns-in_err-see_none-clause-cause g c = raises_err c.from_residual.result _ _ c.from_residual.ensures.0 c.in_err-see_none.ensures.cause

pub read_page-requires : goal.read_page-requires
read_page-requires g c = record {
  there = some_calm (g.P.Place.facts c.args.place.now) (g.P.Place.facts c.see_none.new.place) c.pages.result c.see_none.ensures.calm c.pages.ensures c.if-pages-eq0.false;
}

pub returns-then-is_err-clause-any_moment : goal.returns-then-is_err-clause-any_moment
returns-then-is_err-clause-any_moment g c pages makes =
    let old = g.P.Place.facts c.args.place.now in
    let mid = g.P.Place.facts c.see_none.new.place in
    let read = g.P.Place.facts c.read_page.new.self in
    let calm = calm_then old mid read c.see_none.ensures.calm (calm_step c.read_page.ensures.effect c.read_page.ensures.seen (g.met.P.Place.clock c.see_none.new.place)) in
    quiet_keeps pages old read calm.quiet

pub returns-then-is_err-clause-honest : goal.returns-then-is_err-clause-honest
returns-then-is_err-clause-honest g c = c.read_page.ensures.effect.counts.honest ∙ c.see_none.ensures.calm.quiet.honest

pub returns-then-is_err-clause-cause : goal.returns-then-is_err-clause-cause
returns-then-is_err-clause-cause g c =
    inl (c.read_page.ensures.effect.counts.failures ∙ err_counted c.read_page.result _ c.if-is_err.ensures.value ∙ ap (λ (n : ℕ). raised n 1) c.in_ok-see_none.ensures.cause)

pub commit_last-requires-clause-journal : goal.commit_last-requires-clause-journal
commit_last-requires-clause-journal g c = c.requires.journal c.read_page.new.page

pub commit_last-requires-clause-made : goal.commit_last-requires-clause-made
commit_last-requires-clause-made g c =
    let old = g.P.Place.facts c.args.place.now in
    let mid = g.P.Place.facts c.see_none.new.place in
    let read = g.P.Place.facts c.read_page.new.self in
    let calm = calm_then old mid read c.see_none.ensures.calm (calm_step c.read_page.ensures.effect c.read_page.ensures.seen (g.met.P.Place.clock c.see_none.new.place)) in
    let some : 1 ≤ length old.seen.table = let many = c.pages.ensures in let any = c.if-pages-eq0.false in omega (arith, many, any) in
    let page : IsHonest old → slice_get old.seen.table 0 ≡ Some c.read_page.new.page =
    told_calm (λ i. slice_get i.table 0 ≡ Some c.read_page.new.page) old mid c.see_none.ensures.calm (was_ok c.read_page.result _ c.if-is_err.ensures.value c.read_page.ensures.page) in
    made_seen c.args.changed old read c.read_page.new.page calm some page c.requires.made

pub commit_last-requires-clause-alone : goal.commit_last-requires-clause-alone
commit_last-requires-clause-alone g c =
    let old = g.P.Place.facts c.args.place.now in
    let mid = g.P.Place.facts c.see_none.new.place in
    let read = g.P.Place.facts c.read_page.new.self in
    let calm = calm_then old mid read c.see_none.ensures.calm (calm_step c.read_page.ensures.effect c.read_page.ensures.seen (g.met.P.Place.clock c.see_none.new.place)) in
    seen_calm (λ i. i.journal ≡ None) old read calm c.in_ok-see_none.ensures.none

pub returns-in-Ok-clause-done : goal.returns-in-Ok-clause-done
returns-in-Ok-clause-done g c pages makes =
    let old = g.P.Place.facts c.args.place.now in
    let mid = g.P.Place.facts c.see_none.new.place in
    let read = g.P.Place.facts c.read_page.new.self in
    let calm = calm_then old mid read c.see_none.ensures.calm (calm_step c.read_page.ensures.effect c.read_page.ensures.seen (g.met.P.Place.clock c.see_none.new.place)) in
    let some : 1 ≤ length old.seen.table = let many = c.pages.ensures in let any = c.if-pages-eq0.false in omega (arith, many, any) in
    let page : IsHonest old → slice_get old.seen.table 0 ≡ Some c.read_page.new.page =
    told_calm (λ i. slice_get i.table 0 ≡ Some c.read_page.new.page) old mid c.see_none.ensures.calm (was_ok c.read_page.result _ c.if-is_err.ensures.value c.read_page.ensures.page) in
    kept_seen c.args.changed old read c.read_page.new.page calm some page pages (g.P.Place.facts c.commit_last.new.place) makes c.in-Ok.ensures.done

pub returns-in-Ok-clause-any_moment : goal.returns-in-Ok-clause-any_moment
returns-in-Ok-clause-any_moment g c pages makes =
    let old = g.P.Place.facts c.args.place.now in
    let mid = g.P.Place.facts c.see_none.new.place in
    let read = g.P.Place.facts c.read_page.new.self in
    let calm = calm_then old mid read c.see_none.ensures.calm (calm_step c.read_page.ensures.effect c.read_page.ensures.seen (g.met.P.Place.clock c.see_none.new.place)) in
    let some : 1 ≤ length old.seen.table = let many = c.pages.ensures in let any = c.if-pages-eq0.false in omega (arith, many, any) in
    let page : IsHonest old → slice_get old.seen.table 0 ≡ Some c.read_page.new.page =
    told_calm (λ i. slice_get i.table 0 ≡ Some c.read_page.new.page) old mid c.see_none.ensures.calm (was_ok c.read_page.result _ c.if-is_err.ensures.value c.read_page.ensures.page) in
    run_seen c.args.changed old read c.read_page.new.page calm some page pages (g.P.Place.facts c.commit_last.new.place) makes c.commit_last.ensures.any_moment

pub returns-in-Ok-clause-honest : goal.returns-in-Ok-clause-honest
returns-in-Ok-clause-honest g c = c.commit_last.ensures.cause.honest ∙ c.read_page.ensures.effect.counts.honest ∙ c.see_none.ensures.calm.quiet.honest

pub returns-in-Ok-clause-cause : goal.returns-in-Ok-clause-cause
returns-in-Ok-clause-cause g c =
    c.in-Ok.ensures.cause.failures ∙ c.read_page.ensures.effect.counts.failures ∙ ok_counted c.read_page.result _ c.if-is_err.ensures.value ∙ c.in_ok-see_none.ensures.cause

pub returns-clause-any_moment : goal.returns-clause-any_moment
returns-clause-any_moment g c pages makes =
    let old = g.P.Place.facts c.args.place.now in
    let mid = g.P.Place.facts c.see_none.new.place in
    let read = g.P.Place.facts c.read_page.new.self in
    let calm = calm_then old mid read c.see_none.ensures.calm (calm_step c.read_page.ensures.effect c.read_page.ensures.seen (g.met.P.Place.clock c.see_none.new.place)) in
    let some : 1 ≤ length old.seen.table = let many = c.pages.ensures in let any = c.if-pages-eq0.false in omega (arith, many, any) in
    let page : IsHonest old → slice_get old.seen.table 0 ≡ Some c.read_page.new.page =
    told_calm (λ i. slice_get i.table 0 ≡ Some c.read_page.new.page) old mid c.see_none.ensures.calm (was_ok c.read_page.result _ c.if-is_err.ensures.value c.read_page.ensures.page) in
    run_seen c.args.changed old read c.read_page.new.page calm some page pages (g.P.Place.facts c.commit_last.new.place) makes c.commit_last.ensures.any_moment

pub returns-clause-honest : goal.returns-clause-honest
returns-clause-honest g c = c.commit_last.ensures.cause.honest ∙ c.read_page.ensures.effect.counts.honest ∙ c.see_none.ensures.calm.quiet.honest

pub returns-clause-cause : goal.returns-clause-cause
returns-clause-cause g c =
    inl (c.in-Err.ensures.cause.failures ∙ ap (λ (n : ℕ). raised n 1) (c.read_page.ensures.effect.counts.failures ∙ ok_counted c.read_page.result _ c.if-is_err.ensures.value ∙ c.in_ok-see_none.ensures.cause))
