use Rattle.ub_keeping.specs.Kept.{MayMake}
use Rattle.ub_keeping.proofs.CalmFacts.{still}
use Rattle.ub_keeping.proofs.KeptFacts.{on_err, seen_at_end}
use Rattle.ub_keeping.proofs.making.make.Goals as goal

pub returns-clause-either : goal.returns-clause-either
returns-clause-either g c =
    let old = g.P.Place.facts c.args.place in
    let last = g.P.Place.facts c.make_at-made.new.place in
    on_err c.make_at-made.result (λ honest some.
    seen_at_end (MayMake (g.Q.Pages.pages c.args.pages.now) old) old last (g.met.P.Place.clock c.make_at-made.new.place (still old last c.make_at-made.ensures.honest honest)) (c.make_at-made.ensures.any_moment some honest))
