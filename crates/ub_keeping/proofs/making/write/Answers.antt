use Rattle.std.proofs.Common.{◌≡◌, ◌∙◌, ◌<◌, ◌^◌, ℕ, IsTrue, List, None, slice_get, ap, arith, subst, sym}
use Rattle.std.proofs.lemmas.Result.{on_ok_weaker}
use Rattle.ub_journal.specs.Image.{Image}
use Rattle.ub_journal.specs.Place.{LeavesOnly}
use Rattle.ub_keeping.specs.Kept.{IsKept, MayKeep}
use Rattle.ub_keeping.proofs.CalmFacts.{calm_step, quiet_step, still, seen_calm}
use Rattle.ub_keeping.proofs.KeptFacts.{keep_joined}
use Rattle.ub_keeping.proofs.MadeFacts.{makes_pages, replacing_is, replacing_made}
use Rattle.ub_keeping.proofs.ResultFacts.{none_of, refused_counts, then_counts}
use Rattle.ub_keeping.proofs.SeenFacts.{quiet_keeps}
use Rattle.ub_keeping.proofs.making.write.Goals as goal

pub commit_last-requires-clause-journal : goal.commit_last-requires-clause-journal
commit_last-requires-clause-journal g c =
    replacing_is c.read_page.new.page (g.Q.Pages.pages c.args.pages.now) c.requires.some (subst (λ (n : ℕ). n < 2 ^ 32) c.count-count.ensures c.count-count.type_inv)

pub commit_last-requires-clause-made : goal.commit_last-requires-clause-made
commit_last-requires-clause-made g c honest =
    let old = g.P.Place.facts c.args.place.now in
    let read = g.P.Place.facts c.read_page.new.self in
    let first = subst (λ b. IsTrue b) c.read_page.ensures.effect.counts.honest honest in
    replacing_made c.read_page.new.page (g.Q.Pages.pages c.args.pages.now) read.seen.table c.requires.some (subst (λ (n : ℕ). n < 2 ^ 32) c.count-count.ensures c.count-count.type_inv)
    (ap (λ (i : Image). slice_get i.table 0) (c.read_page.ensures.seen first) ∙ c.in_ok-read_page.ensures.page first)

pub returns-clause-done : goal.returns-clause-done
returns-clause-done g c =
    let old = g.P.Place.facts c.args.place.now in
    let read = g.P.Place.facts c.read_page.new.self in
    on_ok_weaker c.commit_last.result (λ kept honest. subst (λ (p : List (List ℕ)). IsKept p (g.P.Place.facts c.commit_last.new.place)) (makes_pages c.read_page.new.page (g.Q.Pages.pages c.args.pages.now) read.seen.table c.requires.some)
    (kept (still old read c.read_page.ensures.effect.counts.honest honest))) c.commit_last.ensures.done

pub returns-clause-any_moment : goal.returns-clause-any_moment
returns-clause-any_moment g c some honest =
    let old = g.P.Place.facts c.args.place.now in
    let read = g.P.Place.facts c.read_page.new.self in
    let last = g.P.Place.facts c.commit_last.new.place in
    keep_joined (g.Q.Pages.pages c.args.pages.now) old read last honest (calm_step c.read_page.ensures.effect c.read_page.ensures.seen (g.met.P.Place.clock c.args.place.now))
    (subst (λ (p : List (List ℕ)). LeavesOnly (MayKeep p read) read last) (makes_pages c.read_page.new.page (g.Q.Pages.pages c.args.pages.now) read.seen.table c.requires.some)
    (c.commit_last.ensures.any_moment (still old read c.read_page.ensures.effect.counts.honest honest)))

pub begin-requires-clause-empty : goal.begin-requires-clause-empty
begin-requires-clause-empty g c honest = sym c.pages.ensures ∙ c.if-pages-eq0.true

pub begin-requires-clause-alone : goal.begin-requires-clause-alone
begin-requires-clause-alone g c = c.requires.alone

pub returns-then-pages-eq0-clause-done : goal.returns-then-pages-eq0-clause-done
returns-then-pages-eq0-clause-done g c = c.begin.ensures.done

pub returns-then-pages-eq0-clause-any_moment : goal.returns-then-pages-eq0-clause-any_moment
returns-then-pages-eq0-clause-any_moment g c some = let none = c.if-pages-eq0.true in let many = c.pages.ensures in absurd (omega (arith, some, none, many))

pub returns-then-pages-eq0-clause-any_moment_begun : goal.returns-then-pages-eq0-clause-any_moment_begun
returns-then-pages-eq0-clause-any_moment_begun g c none = c.begin.ensures.any_moment

pub returns-then-pages-eq0-clause-cause : goal.returns-then-pages-eq0-clause-cause
returns-then-pages-eq0-clause-cause g c = c.begin.ensures.cause

pub read_page-requires : goal.read_page-requires
read_page-requires g c = record { there = λ honest. let some = c.if-pages-eq0.false in let many = c.pages.ensures in omega (arith, some, many) }

pub returns-in_err-read_page-clause-done : goal.returns-in_err-read_page-clause-done
returns-in_err-read_page-clause-done g c = none_of _ c.from_residual.result c.from_residual.ensures.0

pub returns-in_err-read_page-clause-any_moment : goal.returns-in_err-read_page-clause-any_moment
returns-in_err-read_page-clause-any_moment g c some = quiet_keeps (g.Q.Pages.pages c.args.pages.now) (g.P.Place.facts c.args.place.now) (g.P.Place.facts c.read_page.new.self) (quiet_step c.read_page.ensures.effect (g.met.P.Place.clock c.args.place.now))

pub returns-in_err-read_page-clause-any_moment_begun : goal.returns-in_err-read_page-clause-any_moment_begun
returns-in_err-read_page-clause-any_moment_begun g c none = let some = c.if-pages-eq0.false in absurd (some (c.pages.ensures ∙ none))

pub returns-in_err-read_page-clause-cause : goal.returns-in_err-read_page-clause-cause
returns-in_err-read_page-clause-cause g c = refused_counts c.from_residual.result c.in_err-read_page.field-0.0 (g.P.Place.facts c.args.place.now) (g.P.Place.facts c.read_page.new.self) c.from_residual.ensures.0 c.in_err-read_page.ensures.effect.counts

pub commit_last-requires-clause-alone : goal.commit_last-requires-clause-alone
commit_last-requires-clause-alone g c = seen_calm (λ i. i.journal ≡ None) (g.P.Place.facts c.args.place.now) (g.P.Place.facts c.read_page.new.self) (calm_step c.read_page.ensures.effect c.read_page.ensures.seen (g.met.P.Place.clock c.args.place.now)) c.requires.alone

pub returns-clause-any_moment_begun : goal.returns-clause-any_moment_begun
returns-clause-any_moment_begun g c none = let some = c.if-pages-eq0.false in absurd (some (c.pages.ensures ∙ none))

pub returns-clause-cause : goal.returns-clause-cause
returns-clause-cause g c = then_counts c.commit_last.result (g.P.Place.facts c.args.place.now) (g.P.Place.facts c.read_page.new.self) (g.P.Place.facts c.commit_last.new.place) c.read_page.ensures.effect.counts.honest c.in_ok-read_page.ensures.effect.counts.failures c.commit_last.ensures.cause
