use Rattle.std.proofs.Common.{◌∙◌, ℕ, IsTrue, ap, inl, subst}
use Rattle.ub_store.specs.Facts.{raised}
use Rattle.ub_journal.proofs.Moments.{weaker}
use Rattle.ub_keeping.proofs.BeginFacts.{begin_joined, finish_begins, found_none}
use Rattle.ub_keeping.proofs.CalmFacts.{still}
use Rattle.ub_keeping.proofs.FoundFacts.{found_some}
use Rattle.ub_keeping.proofs.KeptFacts.{make_joined}
use Rattle.ub_keeping.proofs.ResultFacts.{err_has, none_of, opened_err, same_err}
use Rattle.ub_keeping.proofs.making.make_at.Goals as goal

pub returns-in-Ok-clause-any_moment : goal.returns-in-Ok-clause-any_moment
returns-in-Ok-clause-any_moment g c some honest =
    let old = g.P.Place.facts c.args.place.now in
    let mid = g.P.Place.facts c.clear.new.place in
    let first = still old mid c.clear.ensures.honest honest in
    let found = c.in_ok-clear.ensures.found honest in
    make_joined (g.Q.Pages.pages c.args.pages.now) old mid (g.P.Place.facts c.write.new.place) (g.met.P.Place.clock c.clear.new.place first) (c.clear.ensures.any_moment honest) found
    (c.write.ensures.any_moment (found_some old.seen mid.seen.table mid.seen.rest found some) first)

pub returns-in-Err-clause-any_moment : goal.returns-in-Err-clause-any_moment
returns-in-Err-clause-any_moment g c some honest =
    let old = g.P.Place.facts c.args.place.now in
    let mid = g.P.Place.facts c.clear.new.place in
    let first = still old mid c.clear.ensures.honest honest in
    let found = c.in_ok-clear.ensures.found honest in
    make_joined (g.Q.Pages.pages c.args.pages.now) old mid (g.P.Place.facts c.write.new.place) (g.met.P.Place.clock c.clear.new.place first) (c.clear.ensures.any_moment honest) found
    (c.write.ensures.any_moment (found_some old.seen mid.seen.table mid.seen.rest found some) first)

pub returns-in_err-clear-clause-any_moment_begun : goal.returns-in_err-clear-clause-any_moment_begun
returns-in_err-clear-clause-any_moment_begun g c empty honest =
    weaker (c.clear.ensures.any_moment honest) (finish_begins (g.Q.Pages.pages c.args.pages.now) (g.P.Place.facts c.args.place.now) empty)

pub returns-in-Ok-clause-any_moment_begun : goal.returns-in-Ok-clause-any_moment_begun
returns-in-Ok-clause-any_moment_begun g c empty honest =
    let old = g.P.Place.facts c.args.place.now in
    let mid = g.P.Place.facts c.clear.new.place in
    let first = still old mid c.clear.ensures.honest honest in
    begin_joined (g.Q.Pages.pages c.args.pages.now) old mid (g.P.Place.facts c.write.new.place) (g.met.P.Place.clock c.clear.new.place first)
    (weaker (c.clear.ensures.any_moment honest) (finish_begins (g.Q.Pages.pages c.args.pages.now) old empty))
    (c.write.ensures.any_moment_begun (found_none old.seen mid.seen.table mid.seen.rest (c.in_ok-clear.ensures.found honest) empty) first)

pub returns-in-Err-clause-any_moment_begun : goal.returns-in-Err-clause-any_moment_begun
returns-in-Err-clause-any_moment_begun g c empty honest =
    let old = g.P.Place.facts c.args.place.now in
    let mid = g.P.Place.facts c.clear.new.place in
    let first = still old mid c.clear.ensures.honest honest in
    begin_joined (g.Q.Pages.pages c.args.pages.now) old mid (g.P.Place.facts c.write.new.place) (g.met.P.Place.clock c.clear.new.place first)
    (weaker (c.clear.ensures.any_moment honest) (finish_begins (g.Q.Pages.pages c.args.pages.now) old empty))
    (c.write.ensures.any_moment_begun (found_none old.seen mid.seen.table mid.seen.rest (c.in_ok-clear.ensures.found honest) empty) first)

pub returns-in_err-clear-clause-done : goal.returns-in_err-clear-clause-done
returns-in_err-clear-clause-done g c = none_of _ c.from_residual.result c.from_residual.ensures.0

pub returns-in_err-clear-clause-any_moment : goal.returns-in_err-clear-clause-any_moment
returns-in_err-clear-clause-any_moment g c some honest = weaker (c.clear.ensures.any_moment honest) (λ i is. inl is)

pub returns-in_err-clear-clause-foreign : goal.returns-in_err-clear-clause-foreign
returns-in_err-clear-clause-foreign g c is = c.in_err-clear.ensures.foreign (same_err c.from_residual.result _ _ c.from_residual.ensures.1 is)

pub returns-in_err-clear-clause-faults : goal.returns-in_err-clear-clause-faults
returns-in_err-clear-clause-faults g c = err_has _ c.from_residual.result _ c.from_residual.ensures.1 c.in_err-clear.ensures.faults

pub returns-in_err-clear-clause-honest : goal.returns-in_err-clear-clause-honest
returns-in_err-clear-clause-honest g c = c.clear.ensures.honest

pub returns-in_err-clear-clause-cause : goal.returns-in_err-clear-clause-cause
returns-in_err-clear-clause-cause g c = c.in_err-clear.ensures.cause ∙ opened_err c.from_residual.result _ _ c.from_residual.ensures.1

pub write-requires-clause-alone : goal.write-requires-clause-alone
write-requires-clause-alone g c after = c.in_ok-clear.ensures.alone (subst (λ b. IsTrue b) c.clear.ensures.honest after)

pub returns-in-Ok-clause-done : goal.returns-in-Ok-clause-done
returns-in-Ok-clause-done g c honest = c.in-Ok.ensures.done (still (g.P.Place.facts c.args.place.now) (g.P.Place.facts c.clear.new.place) c.clear.ensures.honest honest)

pub returns-in-Ok-clause-honest : goal.returns-in-Ok-clause-honest
returns-in-Ok-clause-honest g c = c.write.ensures.cause.honest ∙ c.clear.ensures.honest

pub returns-in-Ok-clause-cause : goal.returns-in-Ok-clause-cause
returns-in-Ok-clause-cause g c = c.in-Ok.ensures.cause.failures ∙ c.in_ok-clear.ensures.cause

pub returns-in-Err-clause-honest : goal.returns-in-Err-clause-honest
returns-in-Err-clause-honest g c = c.write.ensures.cause.honest ∙ c.clear.ensures.honest

pub returns-in-Err-clause-cause : goal.returns-in-Err-clause-cause
returns-in-Err-clause-cause g c = c.in-Err.ensures.cause.failures ∙ ap (λ (n : ℕ). raised n 1) c.in_ok-clear.ensures.cause
