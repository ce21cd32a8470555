use Rattle.std.proofs.lemmas.Result.{on_ok_weaker}
use Rattle.ub_journal.proofs.Moments.{stays}
use Rattle.ub_journal.proofs.Runs.{draft_begun, draft_lasts}
use Rattle.ub_journal.proofs.committing.write_draft.Goals as goal

pub returns-in_err-draft-clause-any_moment : goal.returns-in_err-draft-clause-any_moment
returns-in_err-draft-clause-any_moment g c honest =
    (draft_begun (c.requires.durable honest) honest (g.met.P.Place.clock c.args.place.now honest) c.draft.ensures.effect).run

pub returns-clause-done : goal.returns-clause-done
returns-clause-done g c = on_ok_weaker c.sync_draft.result (λ done honest.
    let drafted = draft_begun (c.requires.durable honest) honest (g.met.P.Place.clock c.args.place.now honest) c.draft.ensures.effect in
    let last = stays drafted c.sync_draft.ensures.effect (λ i same. same) in
    draft_lasts (g.J.Tells.told c.args.journal.now) last (c.in_ok-draft.ensures.written honest) (done drafted.honest)) c.sync_draft.ensures.done

pub returns-clause-any_moment : goal.returns-clause-any_moment
returns-clause-any_moment g c honest =
    (stays (draft_begun (c.requires.durable honest) honest (g.met.P.Place.clock c.args.place.now honest) c.draft.ensures.effect) c.sync_draft.ensures.effect (λ i same. same)).run
