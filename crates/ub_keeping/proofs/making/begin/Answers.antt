use Rattle.std.proofs.Common.{◌∙◌, IsTrue, inl, subst}
use Rattle.std.proofs.lemmas.Result.{on_ok_weaker}
use Rattle.ub_journal.proofs.Moments.{joined, weaker}
use Rattle.ub_keeping.proofs.BeginFacts.{one_sized, one_synced, part_joined, zero_lasts}
use Rattle.ub_keeping.proofs.CalmFacts.{still}
use Rattle.ub_keeping.proofs.ResultFacts.{none_of, refused_counts, then_counts}
use Rattle.ub_keeping.proofs.making.begin.Goals as goal

pub fill-requires-clause-zero : goal.fill-requires-clause-zero
fill-requires-clause-zero g c after =
    let old = g.P.Place.facts c.args.place.now in
    let sized = g.P.Place.facts c.resize.new.self in
    let first = g.P.Place.facts c.make_last.new.place in
    let at_sized = subst (λ b. IsTrue b) c.sync.ensures.effect.counts.honest after in
    let at_first = subst (λ b. IsTrue b) c.resize.ensures.effect.counts.honest at_sized in
    let honest = subst (λ b. IsTrue b) c.make_last.ensures.cause.honest at_first in
    let last = c.in_ok-make_last.ensures in
    zero_lasts (g.Q.Pages.pages c.args.pages.now) old first (c.requires.empty honest) (c.requires.alone honest) (last.seen honest) (last.durable honest) at_first (g.met.P.Place.clock c.make_last.new.place at_first)
    c.resize.ensures.effect c.sync.ensures.effect (c.in_ok-resize.ensures.written at_first) (c.in_ok-sync.ensures.done at_sized)

pub returns-in_err-resize-clause-any_moment : goal.returns-in_err-resize-clause-any_moment
returns-in_err-resize-clause-any_moment g c honest =
    let old = g.P.Place.facts c.args.place.now in
    let first = g.P.Place.facts c.make_last.new.place in
    let at_first = still old first c.make_last.ensures.cause.honest honest in
    let last = c.in_ok-make_last.ensures in
    let same = last.seen honest in
    let durable = last.durable honest in
    let clock = g.met.P.Place.clock c.make_last.new.place at_first in
    part_joined (g.Q.Pages.pages c.args.pages.now) old first (g.P.Place.facts c.resize.new.self) (c.make_last.ensures.any_moment honest)
    (one_sized (g.Q.Pages.pages c.args.pages.now) old first (c.requires.empty honest) (c.requires.alone honest) same durable at_first clock c.resize.ensures.effect).run

pub returns-in_err-sync-clause-any_moment : goal.returns-in_err-sync-clause-any_moment
returns-in_err-sync-clause-any_moment g c honest =
    let old = g.P.Place.facts c.args.place.now in
    let first = g.P.Place.facts c.make_last.new.place in
    let at_first = still old first c.make_last.ensures.cause.honest honest in
    let last = c.in_ok-make_last.ensures in
    let same = last.seen honest in
    let durable = last.durable honest in
    let clock = g.met.P.Place.clock c.make_last.new.place at_first in
    part_joined (g.Q.Pages.pages c.args.pages.now) old first (g.P.Place.facts c.sync.new.self) (c.make_last.ensures.any_moment honest)
    (one_synced (g.Q.Pages.pages c.args.pages.now) old first (c.requires.empty honest) (c.requires.alone honest) same durable at_first clock c.resize.ensures.effect c.sync.ensures.effect).run

pub returns-clause-any_moment : goal.returns-clause-any_moment
returns-clause-any_moment g c honest =
    let old = g.P.Place.facts c.args.place.now in
    let first = g.P.Place.facts c.make_last.new.place in
    let at_first = still old first c.make_last.ensures.cause.honest honest in
    let last = c.in_ok-make_last.ensures in
    let same = last.seen honest in
    let durable = last.durable honest in
    let clock = g.met.P.Place.clock c.make_last.new.place at_first in
    let sized = g.P.Place.facts c.resize.new.self in
    let synced = g.P.Place.facts c.sync.new.self in
    let at_sized = still first sized c.resize.ensures.effect.counts.honest at_first in
    let at_synced = still sized synced c.sync.ensures.effect.counts.honest at_sized in
    part_joined (g.Q.Pages.pages c.args.pages.now) old first (g.P.Place.facts c.fill.new.place) (c.make_last.ensures.any_moment honest)
    (joined (one_synced (g.Q.Pages.pages c.args.pages.now) old first (c.requires.empty honest) (c.requires.alone honest) same durable at_first clock c.resize.ensures.effect c.sync.ensures.effect).run
    (c.fill.ensures.any_moment at_synced) (λ i is. is) (λ i is. is))

pub returns-in_err-make_last-clause-done : goal.returns-in_err-make_last-clause-done
returns-in_err-make_last-clause-done g c = none_of _ c.from_residual.result c.from_residual.ensures.0

pub returns-in_err-make_last-clause-cause : goal.returns-in_err-make_last-clause-cause
returns-in_err-make_last-clause-cause g c = refused_counts c.from_residual.result c.in_err-make_last.field-0.0 (g.P.Place.facts c.args.place.now) (g.P.Place.facts c.make_last.new.place) c.from_residual.ensures.0 c.in_err-make_last.ensures.cause

pub returns-in_err-resize-clause-done : goal.returns-in_err-resize-clause-done
returns-in_err-resize-clause-done g c = none_of _ c.from_residual-in_err-resize.result c.from_residual-in_err-resize.ensures.0

pub returns-in_err-resize-clause-cause : goal.returns-in_err-resize-clause-cause
returns-in_err-resize-clause-cause g c =
    then_counts c.from_residual-in_err-resize.result (g.P.Place.facts c.args.place.now) (g.P.Place.facts c.make_last.new.place) (g.P.Place.facts c.resize.new.self) (c.make_last.ensures.cause.honest) (c.in_ok-make_last.ensures.cause.failures)
    (refused_counts c.from_residual-in_err-resize.result c.in_err-resize.field-0.0 (g.P.Place.facts c.make_last.new.place) (g.P.Place.facts c.resize.new.self) c.from_residual-in_err-resize.ensures.0 c.in_err-resize.ensures.effect.counts)

pub returns-in_err-sync-clause-done : goal.returns-in_err-sync-clause-done
returns-in_err-sync-clause-done g c = none_of _ c.from_residual-in_err-sync.result c.from_residual-in_err-sync.ensures.0

pub returns-in_err-sync-clause-cause : goal.returns-in_err-sync-clause-cause
returns-in_err-sync-clause-cause g c =
    then_counts c.from_residual-in_err-sync.result (g.P.Place.facts c.args.place.now) (g.P.Place.facts c.resize.new.self) (g.P.Place.facts c.sync.new.self) (c.resize.ensures.effect.counts.honest ∙ c.make_last.ensures.cause.honest) (c.in_ok-resize.ensures.effect.counts.failures ∙ c.in_ok-make_last.ensures.cause.failures)
    (refused_counts c.from_residual-in_err-sync.result c.in_err-sync.field-0.0 (g.P.Place.facts c.resize.new.self) (g.P.Place.facts c.sync.new.self) c.from_residual-in_err-sync.ensures.0 c.in_err-sync.ensures.effect.counts)

pub returns-in_err-make_last-clause-any_moment : goal.returns-in_err-make_last-clause-any_moment
returns-in_err-make_last-clause-any_moment g c honest = weaker (c.make_last.ensures.any_moment honest) (λ i is. inl is)

pub returns-clause-cause : goal.returns-clause-cause
returns-clause-cause g c =
    then_counts c.fill.result (g.P.Place.facts c.args.place.now) (g.P.Place.facts c.sync.new.self) (g.P.Place.facts c.fill.new.place) (c.sync.ensures.effect.counts.honest ∙ c.resize.ensures.effect.counts.honest ∙ c.make_last.ensures.cause.honest) (c.in_ok-sync.ensures.effect.counts.failures ∙ c.in_ok-resize.ensures.effect.counts.failures ∙ c.in_ok-make_last.ensures.cause.failures) c.fill.ensures.cause

pub returns-clause-done : goal.returns-clause-done
returns-clause-done g c =
    on_ok_weaker c.fill.result (λ done honest. done (still (g.P.Place.facts c.resize.new.self) (g.P.Place.facts c.sync.new.self) c.sync.ensures.effect.counts.honest (still (g.P.Place.facts c.make_last.new.place) (g.P.Place.facts c.resize.new.self) c.resize.ensures.effect.counts.honest (still (g.P.Place.facts c.args.place.now) (g.P.Place.facts c.make_last.new.place) c.make_last.ensures.cause.honest honest)))) c.fill.ensures.done
