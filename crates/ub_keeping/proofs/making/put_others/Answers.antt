use Rattle.std.proofs.Common.{◌∙◌, refl, arith, subst, ℕ, ◌<◌}
use Rattle.ub_journal.proofs.Moments.{begins, steps}
use Rattle.ub_keeping.specs.inner.Made.{HasZero}
use Rattle.ub_keeping.proofs.BeginFacts.{zero_torn}
use Rattle.ub_keeping.proofs.CalmFacts.{still}
use Rattle.ub_keeping.proofs.MadeFacts.{puts_next, puts_none}
use Rattle.ub_keeping.proofs.ResultFacts.{none_of, refused_counts, then_counts}
use Rattle.ub_keeping.proofs.making.put_others.Goals as goal

pub loop-n-init : goal.loop-n-init
loop-n-init g c =
    let old = g.P.Place.facts c.args.place.now in
    record {
      honest = refl;
      failures = refl;
      put = λ honest. puts_none (g.Q.Pages.pages c.args.pages.now) old.seen (c.requires.count honest);
      at = λ honest. begins HasZero HasZero honest (g.met.P.Place.clock c.args.place.now honest) (c.requires.zero honest) (λ c is. is);
    }

pub loop-n-preserved : goal.loop-n-preserved
loop-n-preserved g c =
    let inv = c.loop-n.invariant in
    let old = g.P.Place.facts c.args.place.now in
    let mid = g.P.Place.facts c.loop-n.place in
    let up = c.loop-n.auto.n in
    record {
      honest = c.write_page.ensures.effect.counts.honest ∙ inv.honest;
      failures = c.in_ok-write_page.ensures.effect.counts.failures ∙ inv.failures;
      put = λ honest. puts_next c.loop-n.n (g.Q.Pages.pages c.args.pages.now) c.put_page.new.page old.seen mid.seen (g.P.Place.facts c.write_page.new.self).seen (inv.put honest)
          (subst (λ (k : ℕ). c.loop-n.n < k) c.count-n-end.ensures c.loop-n-test.true) c.put_page.ensures (c.in_ok-write_page.ensures.written (still old mid inv.honest honest));
      at = λ honest. steps HasZero (inv.at honest) c.write_page.ensures.effect (λ d i is torn. zero_torn c.loop-n.n d i (λ e. omega (arith, e, up)) is torn) (λ i is. is);
    }

pub returns-in_err-write_page-clause-any_moment : goal.returns-in_err-write_page-clause-any_moment
returns-in_err-write_page-clause-any_moment g c honest =
    let up = c.loop-n.auto.n in
    (steps HasZero (c.loop-n.invariant.at honest) c.write_page.ensures.effect (λ d i is torn. zero_torn c.loop-n.n d i (λ e. omega (arith, e, up)) is torn) (λ i is. is)).run

pub returns-in_err-write_page-clause-zero : goal.returns-in_err-write_page-clause-zero
returns-in_err-write_page-clause-zero g c honest =
    let up = c.loop-n.auto.n in
    (steps HasZero (c.loop-n.invariant.at honest) c.write_page.ensures.effect (λ d i is torn. zero_torn c.loop-n.n d i (λ e. omega (arith, e, up)) is torn) (λ i is. is)).now_is

pub returns-in_err-write_page-clause-seen : goal.returns-in_err-write_page-clause-seen
returns-in_err-write_page-clause-seen g c = none_of _ c.from_residual.result c.from_residual.ensures.0

pub returns-in_err-write_page-clause-cause : goal.returns-in_err-write_page-clause-cause
returns-in_err-write_page-clause-cause g c =
    then_counts c.from_residual.result (g.P.Place.facts c.args.place.now) (g.P.Place.facts c.loop-n.place) (g.P.Place.facts c.write_page.new.self) c.loop-n.invariant.honest c.loop-n.invariant.failures
    (refused_counts c.from_residual.result c.in_err-write_page.field-0.0 (g.P.Place.facts c.loop-n.place) (g.P.Place.facts c.write_page.new.self) c.from_residual.ensures.0 c.in_err-write_page.ensures.effect.counts)

pub returns-clause-zero : goal.returns-clause-zero
returns-clause-zero g c honest = (c.loop-n.invariant.at honest).now_is

pub returns-clause-any_moment : goal.returns-clause-any_moment
returns-clause-any_moment g c honest = (c.loop-n.invariant.at honest).run

pub returns-clause-cause : goal.returns-clause-cause
returns-clause-cause g c = record { honest = c.loop-n.invariant.honest; failures = c.loop-n.invariant.failures }
