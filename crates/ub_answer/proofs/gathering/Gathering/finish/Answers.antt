use Rattle.std.proofs.Common.{subst, inl, inr, sym, ap, ◌∙◌}
use Rattle.std.proofs.lemmas.Result.{IfOk-weaker}
use Rattle.ub_answer.proofs.GatheredFacts.{few_taken}
use Rattle.ub_answer.specs.Gathered.{IsGathered, HasTaken, groups_held_by}
use Rattle.ub_answer.specs.inner.Groups.{HoldsGroups}
use Rattle.ub_answer.specs.inner.Tally.{HoldsTotals}
use Rattle.ub_answer.specs.declared.gathering.Collected.{Collected}
use Rattle.ub_query.specs.Shape.{asked}
use Rattle.ub_table.specs.declared.schema.Schema.{Schema}
use Rattle.ub_answer.proofs.gathering.Gathering.finish.Goals as goal

pub returns-in-Rows-clause-answer : goal.returns-in-Rows-clause-answer
unfolding IsGathered
returns-in-Rows-clause-answer c table filter taken of order numbered moved held =
    let h = subst (λ (t : Collected). HasTaken c.args.schema.now (asked c.args.query.now) taken t) c.in-Rows.is held in
    inr (h.0, c.finish.ensures.answer table filter taken of order moved h.1)

pub returns-in-Totals-clause-answer : goal.returns-in-Totals-clause-answer
unfolding IsGathered
returns-in-Totals-clause-answer c table filter taken of order numbered moved held =
    let h = subst (λ (t : Collected). HasTaken c.args.schema.now (asked c.args.query.now) taken t) c.in-Totals.is held in
    IfOk-weaker c.finish-in-Totals.result _ _ (λ cells means. inl (h.0, means))
    (c.finish-in-Totals.ensures.answer table filter taken h.1 (few_taken table filter taken order numbered moved) moved
    (subst (λ (s : Schema). HoldsTotals s c.args.query.now.items taken c.in-Totals.totals.tally) (sym of) h.2))

pub returns-in-Groups-clause-answer : goal.returns-in-Groups-clause-answer
unfolding IsGathered
returns-in-Groups-clause-answer c table filter taken of order numbered moved held =
    let h = subst (λ (t : Collected). HasTaken c.args.schema.now (asked c.args.query.now) taken t) c.in-Groups.is held in
    IfOk-weaker c.finish-in-Groups.result _ _ (λ cells means. inl (inl h.0, means))
    (c.finish-in-Groups.ensures.answer table filter taken h.0 (few_taken table filter taken order numbered moved) (c.requires.selected (inl h.0)) moved
    (subst (λ (s : Schema). HoldsGroups s c.args.query.now.group c.args.query.now.items taken c.in-Groups.groups.groups.entries) (sym of) h.1))

pub returns-in-Rows-clause-groups : goal.returns-in-Rows-clause-groups
unfolding IsGathered
returns-in-Rows-clause-groups c taken groups some few held are =
    let h = subst (λ (t : Collected). HasTaken c.args.schema.now (asked c.args.query.now) taken t) c.in-Rows.is held in
    absurd (h.0 (inl some))

pub returns-in-Totals-clause-groups : goal.returns-in-Totals-clause-groups
unfolding IsGathered
returns-in-Totals-clause-groups c taken groups some few held are =
    let h = subst (λ (t : Collected). HasTaken c.args.schema.now (asked c.args.query.now) taken t) c.in-Totals.is held in
    absurd (some h.1)

pub returns-in-Groups-clause-groups : goal.returns-in-Groups-clause-groups
unfolding IsGathered
returns-in-Groups-clause-groups c taken groups some few held are =
    let h = subst (λ (t : Collected). HasTaken c.args.schema.now (asked c.args.query.now) taken t) c.in-Groups.is held in
    ap groups_held_by c.in-Groups.is ∙ c.finish-in-Groups.ensures.held c.args.schema.now taken groups some few h.1 are
