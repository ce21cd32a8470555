use Rattle.std.proofs.Common.{IsTrue, inl, subst}
use Rattle.ub_journal.proofs.Moments.{weaker}
use Rattle.ub_keeping.proofs.KeptFacts.{ready_of}
use Rattle.ub_keeping.proofs.ResultFacts.{none_of, refused_counts, then_counts}
use Rattle.ub_keeping.proofs.keeping.commit_last.Goals as goal

pub commit-requires-clause-ready : goal.commit-requires-clause-ready
commit-requires-clause-ready g c honest =
    let first = subst (λ b. IsTrue b) c.make_last.ensures.cause.honest honest in
    let last = c.in_ok-make_last.ensures in
    ready_of (g.J.Tells.told c.args.journal.now) (g.P.Place.facts c.args.place.now) (g.P.Place.facts c.make_last.new.place) (last.seen first) (last.durable first) (c.requires.made first)
    (c.requires.alone first)

pub returns-in_err-make_last-clause-done : goal.returns-in_err-make_last-clause-done
returns-in_err-make_last-clause-done g c = none_of _ c.from_residual.result c.from_residual.ensures.0

pub returns-in_err-make_last-clause-any_moment : goal.returns-in_err-make_last-clause-any_moment
returns-in_err-make_last-clause-any_moment g c honest = weaker (c.make_last.ensures.any_moment honest) (λ i is. inl is)

pub returns-in_err-make_last-clause-cause : goal.returns-in_err-make_last-clause-cause
returns-in_err-make_last-clause-cause g c = refused_counts c.from_residual.result c.in_err-make_last.field-0.0 (g.P.Place.facts c.args.place.now) (g.P.Place.facts c.make_last.new.place) c.from_residual.ensures.0 c.in_err-make_last.ensures.cause

pub commit-requires-clause-journal : goal.commit-requires-clause-journal
commit-requires-clause-journal g c = c.requires.journal

pub returns-clause-cause : goal.returns-clause-cause
returns-clause-cause g c = then_counts c.commit.result (g.P.Place.facts c.args.place.now) (g.P.Place.facts c.make_last.new.place) (g.P.Place.facts c.commit.new.place) c.make_last.ensures.cause.honest c.in_ok-make_last.ensures.cause.failures c.commit.ensures.cause
