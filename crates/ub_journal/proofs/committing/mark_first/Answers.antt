use Rattle.std.proofs.Common.{◌≢◌, ◌<◌, ◌∙◌, ℕ, List, length, get_or, ap, sym, arith, get_or-set_same, length-set}
use Rattle.std.proofs.lemmas.Option.{get_or_from_slice_get}
use Rattle.std.proofs.lemmas.Result.{on_ok_weaker}
use Rattle.ub_store.specs.Facts.{zero_page}
use Rattle.ub_journal.specs.Image.{first_page, marked}
use Rattle.ub_journal.proofs.Finishing.{both_count, both_fail}
use Rattle.ub_journal.proofs.Runs.{found_begins, mark_lasts, mark_put, mark_synced}
use Rattle.ub_journal.proofs.Moments.{still}
use Rattle.ub_journal.proofs.committing.mark_first.Goals as goal

-- a page whose byte 5 isn't 1 is none that was marked
unmarked : (page before : List ℕ) → 5 < length page → get_or page 5 0 ≢ 1 → page ≢ marked before
unmarked page before long not_one is =
    not_one (ap (λ (p : List ℕ). get_or p 5 0) is ∙ get_or-set_same before 5 1 0 (omega (arith, ap length is, length-set before 5 1)))

pub returns-in_err-mark-clause-any_moment : goal.returns-in_err-mark-clause-any_moment
returns-in_err-mark-clause-any_moment g c honest =
    let old = g.P.Place.facts c.args.place.now in
    let apart : first_page old.seen.table ≢ marked (g.J.Tells.told c.args.journal.now).before = λ marks.
    unmarked c.read_page.new.page (g.J.Tells.told c.args.journal.now).before (omega arith) c.if-first-eq1.false
    (sym (get_or_from_slice_get old.seen.table 0 c.read_page.new.page zero_page (c.in_ok-read_page.ensures.page honest)) ∙ marks) in
    (mark_put (g.J.Tells.told c.args.journal.now) (c.requires.begun honest) honest (g.met.P.Place.clock c.args.place.now honest) c.read_page.ensures.effect c.mark.ensures.effect apart).run

pub returns-clause-any_moment : goal.returns-clause-any_moment
returns-clause-any_moment g c honest =
    let old = g.P.Place.facts c.args.place.now in
    let apart : first_page old.seen.table ≢ marked (g.J.Tells.told c.args.journal.now).before = λ marks.
    unmarked c.read_page.new.page (g.J.Tells.told c.args.journal.now).before (omega arith) c.if-first-eq1.false
    (sym (get_or_from_slice_get old.seen.table 0 c.read_page.new.page zero_page (c.in_ok-read_page.ensures.page honest)) ∙ marks) in
    (mark_synced (g.J.Tells.told c.args.journal.now) (c.requires.begun honest) honest (g.met.P.Place.clock c.args.place.now honest) c.read_page.ensures.effect c.mark.ensures.effect c.sync.ensures.effect apart).run

pub returns-clause-done : goal.returns-clause-done
returns-clause-done g c =
    let old = g.P.Place.facts c.args.place.now in
    on_ok_weaker c.sync.result (λ done honest.
    let apart : first_page old.seen.table ≢ marked (g.J.Tells.told c.args.journal.now).before = λ marks.
    unmarked c.read_page.new.page (g.J.Tells.told c.args.journal.now).before (omega arith) c.if-first-eq1.false
    (sym (get_or_from_slice_get old.seen.table 0 c.read_page.new.page zero_page (c.in_ok-read_page.ensures.page honest)) ∙ marks) in
    let at = mark_synced (g.J.Tells.told c.args.journal.now) (c.requires.begun honest) honest (g.met.P.Place.clock c.args.place.now honest) c.read_page.ensures.effect c.mark.ensures.effect c.sync.ensures.effect apart in
    let before = mark_put (g.J.Tells.told c.args.journal.now) (c.requires.begun honest) honest (g.met.P.Place.clock c.args.place.now honest) c.read_page.ensures.effect c.mark.ensures.effect apart in
    mark_lasts (g.J.Tells.told c.args.journal.now) (c.requires.begun honest) honest (g.met.P.Place.clock c.args.place.now honest) (g.P.Place.facts c.read_page.new.self).seen at
    (g.met.P.Place.clock c.sync.new.self at.honest) (c.read_page.ensures.seen honest) (c.in_ok-mark.ensures.written (still c.read_page.ensures.effect.counts honest)) (done before.honest)) c.sync.ensures.done

pub returns-then-first-eq1-clause-any_moment : goal.returns-then-first-eq1-clause-any_moment
returns-then-first-eq1-clause-any_moment g c honest =
    found_begins (g.J.Tells.told c.args.journal.now) (c.requires.begun honest).found honest (g.met.P.Place.clock c.args.place.now honest) c.read_page.ensures.effect

pub returns-then-first-eq1-clause-cause : goal.returns-then-first-eq1-clause-cause
returns-then-first-eq1-clause-cause g c = c.in_ok-read_page.ensures.effect.counts

pub returns-in_err-mark-clause-cause : goal.returns-in_err-mark-clause-cause
returns-in_err-mark-clause-cause g c = both_fail c.in_ok-read_page.ensures.effect.counts c.in_err-mark.ensures.effect.counts c.from_residual-in_err-mark.ensures.0

pub returns-clause-cause : goal.returns-clause-cause
returns-clause-cause g c = both_count c.in_ok-read_page.ensures.effect.counts (both_count c.in_ok-mark.ensures.effect.counts c.sync.ensures.effect.counts)
