use Rattle.std.proofs.lemmas.Result.{on_ok_weaker}
use Rattle.ub_journal.proofs.Moments.{joined, stays, still}
use Rattle.ub_journal.proofs.Runs.{others_last, others_put, puts_recover}
use Rattle.ub_journal.proofs.committing.complete.Goals as goal

pub returns-in_err-put_changes-clause-any_moment : goal.returns-in_err-put_changes-clause-any_moment
returns-in_err-put_changes-clause-any_moment g c honest =
    let begun = c.requires.begun honest in
    joined (c.mark_first.ensures.any_moment honest) (c.put_changes.ensures.any_moment (still c.mark_first.ensures.cause honest)) (λ i so. so)
    (puts_recover (g.J.Tells.told c.args.journal.now) (c.in_ok-mark_first.ensures.done honest) begun.found.left.fits begun.front)

pub returns-clause-any_moment : goal.returns-clause-any_moment
returns-clause-any_moment g c honest =
    let begun = c.requires.begun honest in
    let marked = still c.mark_first.ensures.cause honest in
    let recover = puts_recover (g.J.Tells.told c.args.journal.now) (c.in_ok-mark_first.ensures.done honest) begun.found.left.fits begun.front in
    let at = others_put (g.J.Tells.told c.args.journal.now) (c.in_ok-mark_first.ensures.done honest) begun.found.left.fits begun.front (still c.put_changes.ensures.cause marked)
    (c.mark_first.ensures.any_moment honest) (c.put_changes.ensures.any_moment marked) (c.put_changes.ensures.crash marked) in
    (stays at c.sync.ensures.effect recover).run

pub returns-clause-done : goal.returns-clause-done
returns-clause-done g c = on_ok_weaker c.sync.result (λ done honest.
    let begun = c.requires.begun honest in
    let marked = still c.mark_first.ensures.cause honest in
    let recover = puts_recover (g.J.Tells.told c.args.journal.now) (c.in_ok-mark_first.ensures.done honest) begun.found.left.fits begun.front in
    let at = others_put (g.J.Tells.told c.args.journal.now) (c.in_ok-mark_first.ensures.done honest) begun.found.left.fits begun.front (still c.put_changes.ensures.cause marked)
    (c.mark_first.ensures.any_moment honest) (c.put_changes.ensures.any_moment marked) (c.put_changes.ensures.crash marked) in
    let last = stays at c.sync.ensures.effect recover in
    others_last (g.J.Tells.told c.args.journal.now) (c.in_ok-mark_first.ensures.done honest) begun.found.left.fits begun.front last (g.met.P.Place.clock c.sync.new.self last.honest)
    (c.in_ok-put_changes.ensures.seen marked) (done at.honest)) c.sync.ensures.done
