use Rattle.std.proofs.Common.{subst}
use Rattle.std.proofs.lemmas.Result.{on_ok_weaker}
use Rattle.ub_answer.proofs.GatheredFacts.{all_aggregates}
use Rattle.ub_answer.specs.Gathered.{IsGathered, HasTaken}
use Rattle.ub_answer.specs.declared.gathering.Collected.{Collected}
use Rattle.ub_query.specs.Shape.{asked}
use Rattle.std.proofs.Common.{inl}
use Rattle.ub_answer.proofs.gathering.Gathering.take.Goals as goal

pub returns-in-Rows-clause-gathered : goal.returns-in-Rows-clause-gathered
unfolding IsGathered
returns-in-Rows-clause-gathered c taken held =
    let h = subst (λ (t : Collected). HasTaken c.args.schema.now (asked c.args.query.now) taken t) c.in-Rows.is held in
    on_ok_weaker c.take.result (λ rows. (h.0, rows)) (c.take.ensures.taken taken h.1)

pub returns-in-Totals-clause-gathered : goal.returns-in-Totals-clause-gathered
unfolding IsGathered
returns-in-Totals-clause-gathered c taken held =
    let h = subst (λ (t : Collected). HasTaken c.args.schema.now (asked c.args.query.now) taken t) c.in-Totals.is held in
    (h.0, h.1, c.take-in-Totals.ensures taken (all_aggregates (asked c.args.query.now) h.1 (c.requires.grouped h.0)) h.2)

pub returns-in-Groups-clause-gathered : goal.returns-in-Groups-clause-gathered
unfolding IsGathered
returns-in-Groups-clause-gathered c taken held =
    let h = subst (λ (t : Collected). HasTaken c.args.schema.now (asked c.args.query.now) taken t) c.in-Groups.is held in
    on_ok_weaker c.take-in-Groups.result (λ groups. (h.0, groups)) (c.take-in-Groups.ensures taken (c.requires.grouped (inl h.0)) h.1)
