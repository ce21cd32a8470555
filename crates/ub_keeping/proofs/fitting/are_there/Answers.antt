use Rattle.std.proofs.Common.{◌≡◌, ◌<◌, ◌∙◌, IsTrue, Some, get_or, slice_get, [], length, subst, sym}
use Rattle.std.proofs.lemmas.Bool.{false≢true}
use Rattle.ub_journal.specs.Image.{Image}
use Rattle.ub_journal.specs.declared.journal.Change.{Change}
use Rattle.ub_keeping.proofs.CalmFacts.{calm_step, calm_then, told_calm}
use Rattle.ub_keeping.proofs.FitFacts.{below_at}
use Rattle.ub_keeping.proofs.ResultFacts.{none_all, refused_counts, then_counts}
use Rattle.ub_keeping.proofs.SeenFacts.{there_more, there_not}
use Rattle.ub_keeping.proofs.fitting.are_there.Goals as goal

pub read_page-requires : goal.read_page-requires
read_page-requires g c =
    let none : Change = record { number = 0; page = [] } in
    let calm = c.loop-change.invariant.calm in
    record {
      there = λ honest.
          let first = subst (λ b. IsTrue b) calm.quiet.honest honest in
          subst (λ (i : Image). (get_or c.args.changes.now c.loop-change.change-index none).number < length i.table) (sym (calm.seen first))
          (below_at 0 (length (g.P.Place.facts c.args.place.now).seen.table) c.args.changes.now c.loop-change.change-index none (c.requires first) c.loop-change-test.true);
    }

pub returns-in_err-read_page-clause-there : goal.returns-in_err-read_page-clause-there
returns-in_err-read_page-clause-there g c = none_all _ c.from_residual.result c.from_residual.ensures.0

pub returns-in_err-read_page-clause-calm : goal.returns-in_err-read_page-clause-calm
returns-in_err-read_page-clause-calm g c =
    calm_then (g.P.Place.facts c.args.place.now) (g.P.Place.facts c.loop-change.place) (g.P.Place.facts c.read_page.new.self) c.loop-change.invariant.calm (calm_step c.read_page.ensures.effect c.read_page.ensures.seen (g.met.P.Place.clock c.loop-change.place))

pub returns-in_err-read_page-clause-cause : goal.returns-in_err-read_page-clause-cause
returns-in_err-read_page-clause-cause g c =
    then_counts c.from_residual.result (g.P.Place.facts c.args.place.now) (g.P.Place.facts c.loop-change.place) (g.P.Place.facts c.read_page.new.self) c.loop-change.invariant.calm.quiet.honest c.loop-change.invariant.failures
    (refused_counts c.from_residual.result c.in_err-read_page.field-0.0 (g.P.Place.facts c.loop-change.place) (g.P.Place.facts c.read_page.new.self) c.from_residual.ensures.0 c.in_err-read_page.ensures.effect.counts)

pub returns-then-not-is_same-clause-calm : goal.returns-then-not-is_same-clause-calm
returns-then-not-is_same-clause-calm g c =
    calm_then (g.P.Place.facts c.args.place.now) (g.P.Place.facts c.loop-change.place) (g.P.Place.facts c.read_page.new.self) c.loop-change.invariant.calm (calm_step c.read_page.ensures.effect c.read_page.ensures.seen (g.met.P.Place.clock c.loop-change.place))

pub returns-then-not-is_same-clause-cause : goal.returns-then-not-is_same-clause-cause
returns-then-not-is_same-clause-cause g c = record { honest = c.read_page.ensures.effect.counts.honest ∙ c.loop-change.invariant.calm.quiet.honest; failures = c.in_ok-read_page.ensures.effect.counts.failures ∙ c.loop-change.invariant.failures }

pub returns-clause-calm : goal.returns-clause-calm
returns-clause-calm g c = c.loop-change.invariant.calm

pub returns-clause-cause : goal.returns-clause-cause
returns-clause-cause g c = record { honest = c.loop-change.invariant.calm.quiet.honest; failures = c.loop-change.invariant.failures }

pub loop-change-preserved : goal.loop-change-preserved
loop-change-preserved g c =
    let none : Change = record { number = 0; page = [] } in
    record {
      calm = calm_then (g.P.Place.facts c.args.place.now) (g.P.Place.facts c.loop-change.place) (g.P.Place.facts c.read_page.new.self) c.loop-change.invariant.calm (calm_step c.read_page.ensures.effect c.read_page.ensures.seen (g.met.P.Place.clock c.loop-change.place));
      failures = ◌∙◌ {b = (g.P.Place.facts c.loop-change.place).failures} c.in_ok-read_page.ensures.effect.counts.failures c.loop-change.invariant.failures;
      there = λ honest.
          there_more c.args.changes.now c.loop-change.change-index none (g.P.Place.facts c.args.place.now).seen.table c.read_page.new.page c.loop-change-test.true
          (told_calm (λ i. slice_get i.table (get_or c.args.changes.now c.loop-change.change-index none).number ≡ Some c.read_page.new.page) (g.P.Place.facts c.args.place.now) (g.P.Place.facts c.loop-change.place) c.loop-change.invariant.calm c.in_ok-read_page.ensures.page honest)
          (c.is_same.ensures.0 c.if-not-is_same.false) (c.loop-change.invariant.there honest);
    }

pub returns-then-not-is_same-clause-there : goal.returns-then-not-is_same-clause-there
returns-then-not-is_same-clause-there g c honest =
    let none : Change = record { number = 0; page = [] } in
    there_not c.args.changes.now c.loop-change.change-index none (g.P.Place.facts c.args.place.now).seen.table c.read_page.new.page c.loop-change-test.true
    (told_calm (λ i. slice_get i.table (get_or c.args.changes.now c.loop-change.change-index none).number ≡ Some c.read_page.new.page) (g.P.Place.facts c.args.place.now) (g.P.Place.facts c.loop-change.place) c.loop-change.invariant.calm c.in_ok-read_page.ensures.page honest)
    (λ same. false≢true (sym c.if-not-is_same.true ∙ c.is_same.ensures.1 same)) (c.loop-change.invariant.there honest)
