use Rattle.std.proofs.Common.{◌∙◌, ℕ, List, ap}
use Rattle.std.proofs.lemmas.Result.{on_ok_weaker}
use Rattle.ub_journal.specs.Crash.{with_page}
use Rattle.ub_journal.proofs.Runs.{head_synced, head_written, journal_removed, settled}
use Rattle.ub_journal.proofs.Moments.{stays}
use Rattle.ub_journal.proofs.committing.settle.Goals as goal

pub returns-in_err-write_page-clause-any_moment : goal.returns-in_err-write_page-clause-any_moment
returns-in_err-write_page-clause-any_moment g c honest =
    (head_written (g.J.Tells.told c.args.journal.now) (c.requires.completed honest) honest (g.met.P.Place.clock c.args.place.now honest) c.write_page.ensures.effect).run

pub returns-in_err-sync-clause-any_moment : goal.returns-in_err-sync-clause-any_moment
returns-in_err-sync-clause-any_moment g c honest =
    (head_synced (g.J.Tells.told c.args.journal.now) (c.requires.completed honest) honest (g.met.P.Place.clock c.args.place.now honest) c.write_page.ensures.effect c.sync.ensures.effect).run

pub returns-in_err-remove-clause-any_moment : goal.returns-in_err-remove-clause-any_moment
returns-in_err-remove-clause-any_moment g c honest =
    let clock = g.met.P.Place.clock c.args.place.now honest in
    let put = head_written (g.J.Tells.told c.args.journal.now) (c.requires.completed honest) honest clock c.write_page.ensures.effect in
    (journal_removed (g.J.Tells.told c.args.journal.now) (c.requires.completed honest) honest clock c.write_page.ensures.effect c.sync.ensures.effect c.remove.ensures.effect
    (c.in_ok-write_page.ensures.written honest ∙ ap (λ (p : List ℕ). with_page 0 p (g.P.Place.facts c.args.place.now).seen) c.head.ensures) (c.in_ok-sync.ensures.done put.honest)).run

pub returns-clause-any_moment : goal.returns-clause-any_moment
returns-clause-any_moment g c honest =
    let clock = g.met.P.Place.clock c.args.place.now honest in
    let put = head_written (g.J.Tells.told c.args.journal.now) (c.requires.completed honest) honest clock c.write_page.ensures.effect in
    let gone = journal_removed (g.J.Tells.told c.args.journal.now) (c.requires.completed honest) honest clock c.write_page.ensures.effect c.sync.ensures.effect c.remove.ensures.effect
    (c.in_ok-write_page.ensures.written honest ∙ ap (λ (p : List ℕ). with_page 0 p (g.P.Place.facts c.args.place.now).seen) c.head.ensures) (c.in_ok-sync.ensures.done put.honest) in
    (stays gone c.sync_folder.ensures.effect (λ i so. so.2)).run

pub returns-clause-done : goal.returns-clause-done
returns-clause-done g c = on_ok_weaker c.sync_folder.result (λ done honest.
    let clock = g.met.P.Place.clock c.args.place.now honest in
    let put = head_written (g.J.Tells.told c.args.journal.now) (c.requires.completed honest) honest clock c.write_page.ensures.effect in
    let synced = head_synced (g.J.Tells.told c.args.journal.now) (c.requires.completed honest) honest clock c.write_page.ensures.effect c.sync.ensures.effect in
    let gone = journal_removed (g.J.Tells.told c.args.journal.now) (c.requires.completed honest) honest clock c.write_page.ensures.effect c.sync.ensures.effect c.remove.ensures.effect
    (c.in_ok-write_page.ensures.written honest ∙ ap (λ (p : List ℕ). with_page 0 p (g.P.Place.facts c.args.place.now).seen) c.head.ensures) (c.in_ok-sync.ensures.done put.honest) in
    let last = stays gone c.sync_folder.ensures.effect (λ i so. so.2) in
    settled (g.J.Tells.told c.args.journal.now) (c.requires.completed honest) honest clock (g.P.Place.facts c.sync.new.self).seen last
    (g.met.P.Place.clock c.sync_folder.new.self last.honest) (c.in_ok-remove.ensures.written synced.honest) (done gone.honest)) c.sync_folder.ensures.done
