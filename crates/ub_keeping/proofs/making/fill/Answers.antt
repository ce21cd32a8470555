use Rattle.std.proofs.Common.{◌∙◌, IsTrue, arith, subst}
use Rattle.std.proofs.lemmas.Result.{on_ok_weaker}
use Rattle.ub_journal.proofs.Moments.{stays}
use Rattle.ub_keeping.proofs.BeginFacts.{back_part, fill_back, fill_head, fill_put, fill_sized, zero_part}
use Rattle.ub_keeping.proofs.CalmFacts.{still}
use Rattle.ub_keeping.proofs.KeptFacts.{begun_of}
use Rattle.ub_keeping.proofs.ResultFacts.{none_of, refused_counts, then_counts}
use Rattle.ub_keeping.proofs.SeenFacts.{page_there, sized_count}
use Rattle.ub_keeping.proofs.making.fill.Goals as goal

pub returns-in_err-write_page-clause-any_moment : goal.returns-in_err-write_page-clause-any_moment
returns-in_err-write_page-clause-any_moment g c honest =
    let old = g.P.Place.facts c.args.place.now in
    let sized = g.P.Place.facts c.resize.new.self in
    let filled = g.P.Place.facts c.put_others.new.place in
    let at_sized = still old sized c.resize.ensures.effect.counts.honest honest in
    let at_filled = still sized filled c.put_others.ensures.cause.honest at_sized in
    let at = fill_put (g.Q.Pages.pages c.args.pages.now) c.requires.some honest (g.met.P.Place.clock c.args.place.now honest) (c.requires.zero honest) c.count.result c.count.ensures c.resize.ensures.effect
    c.put_others.ensures.cause.honest (c.put_others.ensures.any_moment at_sized) (c.put_others.ensures.zero at_sized) in
    let back = fill_back (g.Q.Pages.pages c.args.pages.now) sized at c.sync.ensures.effect (c.in_ok-put_others.ensures.seen at_sized) (c.in_ok-sync.ensures.done at_filled) in
    let put = fill_head (g.Q.Pages.pages c.args.pages.now) c.requires.some back c.write_page.ensures.effect in
    put.run

pub returns-in_err-sync-2-clause-any_moment : goal.returns-in_err-sync-2-clause-any_moment
returns-in_err-sync-2-clause-any_moment g c honest =
    let old = g.P.Place.facts c.args.place.now in
    let sized = g.P.Place.facts c.resize.new.self in
    let filled = g.P.Place.facts c.put_others.new.place in
    let at_sized = still old sized c.resize.ensures.effect.counts.honest honest in
    let at_filled = still sized filled c.put_others.ensures.cause.honest at_sized in
    let at = fill_put (g.Q.Pages.pages c.args.pages.now) c.requires.some honest (g.met.P.Place.clock c.args.place.now honest) (c.requires.zero honest) c.count.result c.count.ensures c.resize.ensures.effect
    c.put_others.ensures.cause.honest (c.put_others.ensures.any_moment at_sized) (c.put_others.ensures.zero at_sized) in
    let back = fill_back (g.Q.Pages.pages c.args.pages.now) sized at c.sync.ensures.effect (c.in_ok-put_others.ensures.seen at_sized) (c.in_ok-sync.ensures.done at_filled) in
    let put = fill_head (g.Q.Pages.pages c.args.pages.now) c.requires.some back c.write_page.ensures.effect in
    (stays put c.sync-2.ensures.effect (back_part (g.Q.Pages.pages c.args.pages.now))).run

pub returns-clause-any_moment : goal.returns-clause-any_moment
returns-clause-any_moment g c honest =
    let old = g.P.Place.facts c.args.place.now in
    let sized = g.P.Place.facts c.resize.new.self in
    let filled = g.P.Place.facts c.put_others.new.place in
    let at_sized = still old sized c.resize.ensures.effect.counts.honest honest in
    let at_filled = still sized filled c.put_others.ensures.cause.honest at_sized in
    let at = fill_put (g.Q.Pages.pages c.args.pages.now) c.requires.some honest (g.met.P.Place.clock c.args.place.now honest) (c.requires.zero honest) c.count.result c.count.ensures c.resize.ensures.effect
    c.put_others.ensures.cause.honest (c.put_others.ensures.any_moment at_sized) (c.put_others.ensures.zero at_sized) in
    let back = fill_back (g.Q.Pages.pages c.args.pages.now) sized at c.sync.ensures.effect (c.in_ok-put_others.ensures.seen at_sized) (c.in_ok-sync.ensures.done at_filled) in
    let put = fill_head (g.Q.Pages.pages c.args.pages.now) c.requires.some back c.write_page.ensures.effect in
    (stays (stays put c.sync-2.ensures.effect (back_part (g.Q.Pages.pages c.args.pages.now))) c.sync_folder.ensures.effect (back_part (g.Q.Pages.pages c.args.pages.now))).run

pub returns-clause-done : goal.returns-clause-done
returns-clause-done g c = on_ok_weaker c.sync_folder.result (λ done honest.
    let old = g.P.Place.facts c.args.place.now in
    let sized = g.P.Place.facts c.resize.new.self in
    let filled = g.P.Place.facts c.put_others.new.place in
    let synced = g.P.Place.facts c.sync.new.self in
    let put = g.P.Place.facts c.write_page.new.self in
    let whole = g.P.Place.facts c.sync-2.new.self in
    let at_sized = still old sized c.resize.ensures.effect.counts.honest honest in
    let at_filled = still sized filled c.put_others.ensures.cause.honest at_sized in
    let at_synced = still filled synced c.sync.ensures.effect.counts.honest at_filled in
    let at_put = still synced put c.write_page.ensures.effect.counts.honest at_synced in
    let at_whole = still put whole c.sync-2.ensures.effect.counts.honest at_put in
    begun_of (g.Q.Pages.pages c.args.pages.now) c.put_page.new.page c.count.result old sized filled synced put whole (g.P.Place.facts c.sync_folder.new.self) c.put_page.ensures (c.requires.alone honest)
    (c.in_ok-resize.ensures.written honest) (c.in_ok-put_others.ensures.seen at_sized) (c.in_ok-sync.ensures.done at_filled).seen (c.in_ok-write_page.ensures.written at_synced)
    (c.in_ok-sync-2.ensures.done at_put) (done at_whole) (c.sync_folder.ensures.effect.leaves at_whole)) c.sync_folder.ensures.done

pub returns-in_err-resize-clause-done : goal.returns-in_err-resize-clause-done
returns-in_err-resize-clause-done g c = none_of _ c.from_residual.result c.from_residual.ensures.0

pub returns-in_err-resize-clause-cause : goal.returns-in_err-resize-clause-cause
returns-in_err-resize-clause-cause g c = refused_counts c.from_residual.result c.in_err-resize.field-0.0 (g.P.Place.facts c.args.place.now) (g.P.Place.facts c.resize.new.self) c.from_residual.ensures.0 c.in_err-resize.ensures.effect.counts

pub returns-in_err-put_others-clause-done : goal.returns-in_err-put_others-clause-done
returns-in_err-put_others-clause-done g c = none_of _ c.from_residual-in_err-put_others.result c.from_residual-in_err-put_others.ensures.0

pub returns-in_err-put_others-clause-cause : goal.returns-in_err-put_others-clause-cause
returns-in_err-put_others-clause-cause g c =
    then_counts c.from_residual-in_err-put_others.result (g.P.Place.facts c.args.place.now) (g.P.Place.facts c.resize.new.self) (g.P.Place.facts c.put_others.new.place) (c.resize.ensures.effect.counts.honest) (c.in_ok-resize.ensures.effect.counts.failures)
    (refused_counts c.from_residual-in_err-put_others.result c.in_err-put_others.field-0.0 (g.P.Place.facts c.resize.new.self) (g.P.Place.facts c.put_others.new.place) c.from_residual-in_err-put_others.ensures.0 c.in_err-put_others.ensures.cause)

pub returns-in_err-sync-clause-done : goal.returns-in_err-sync-clause-done
returns-in_err-sync-clause-done g c = none_of _ c.from_residual-in_err-sync.result c.from_residual-in_err-sync.ensures.0

pub returns-in_err-sync-clause-cause : goal.returns-in_err-sync-clause-cause
returns-in_err-sync-clause-cause g c =
    then_counts c.from_residual-in_err-sync.result (g.P.Place.facts c.args.place.now) (g.P.Place.facts c.put_others.new.place) (g.P.Place.facts c.sync.new.self) (c.put_others.ensures.cause.honest ∙ c.resize.ensures.effect.counts.honest) (c.in_ok-put_others.ensures.cause.failures ∙ c.in_ok-resize.ensures.effect.counts.failures)
    (refused_counts c.from_residual-in_err-sync.result c.in_err-sync.field-0.0 (g.P.Place.facts c.put_others.new.place) (g.P.Place.facts c.sync.new.self) c.from_residual-in_err-sync.ensures.0 c.in_err-sync.ensures.effect.counts)

pub returns-in_err-write_page-clause-done : goal.returns-in_err-write_page-clause-done
returns-in_err-write_page-clause-done g c = none_of _ c.from_residual-in_err-write_page.result c.from_residual-in_err-write_page.ensures.0

pub returns-in_err-write_page-clause-cause : goal.returns-in_err-write_page-clause-cause
returns-in_err-write_page-clause-cause g c =
    then_counts c.from_residual-in_err-write_page.result (g.P.Place.facts c.args.place.now) (g.P.Place.facts c.sync.new.self) (g.P.Place.facts c.write_page.new.self) (c.sync.ensures.effect.counts.honest ∙ c.put_others.ensures.cause.honest ∙ c.resize.ensures.effect.counts.honest) (c.in_ok-sync.ensures.effect.counts.failures ∙ c.in_ok-put_others.ensures.cause.failures ∙ c.in_ok-resize.ensures.effect.counts.failures)
    (refused_counts c.from_residual-in_err-write_page.result c.in_err-write_page.field-0.0 (g.P.Place.facts c.sync.new.self) (g.P.Place.facts c.write_page.new.self) c.from_residual-in_err-write_page.ensures.0 c.in_err-write_page.ensures.effect.counts)

pub returns-in_err-sync-2-clause-done : goal.returns-in_err-sync-2-clause-done
returns-in_err-sync-2-clause-done g c = none_of _ c.from_residual-in_err-sync-2.result c.from_residual-in_err-sync-2.ensures.0

pub returns-in_err-sync-2-clause-cause : goal.returns-in_err-sync-2-clause-cause
returns-in_err-sync-2-clause-cause g c =
    then_counts c.from_residual-in_err-sync-2.result (g.P.Place.facts c.args.place.now) (g.P.Place.facts c.write_page.new.self) (g.P.Place.facts c.sync-2.new.self) (c.write_page.ensures.effect.counts.honest ∙ c.sync.ensures.effect.counts.honest ∙ c.put_others.ensures.cause.honest ∙ c.resize.ensures.effect.counts.honest) (c.in_ok-write_page.ensures.effect.counts.failures ∙ c.in_ok-sync.ensures.effect.counts.failures ∙ c.in_ok-put_others.ensures.cause.failures ∙ c.in_ok-resize.ensures.effect.counts.failures)
    (refused_counts c.from_residual-in_err-sync-2.result c.in_err-sync-2.field-0.0 (g.P.Place.facts c.write_page.new.self) (g.P.Place.facts c.sync-2.new.self) c.from_residual-in_err-sync-2.ensures.0 c.in_err-sync-2.ensures.effect.counts)

pub returns-clause-cause : goal.returns-clause-cause
returns-clause-cause g c =
    then_counts c.sync_folder.result (g.P.Place.facts c.args.place.now) (g.P.Place.facts c.sync-2.new.self) (g.P.Place.facts c.sync_folder.new.self) (c.sync-2.ensures.effect.counts.honest ∙ c.write_page.ensures.effect.counts.honest ∙ c.sync.ensures.effect.counts.honest ∙ c.put_others.ensures.cause.honest ∙ c.resize.ensures.effect.counts.honest) (c.in_ok-sync-2.ensures.effect.counts.failures ∙ c.in_ok-write_page.ensures.effect.counts.failures ∙ c.in_ok-sync.ensures.effect.counts.failures ∙ c.in_ok-put_others.ensures.cause.failures ∙ c.in_ok-resize.ensures.effect.counts.failures)
    c.sync_folder.ensures.effect.counts

pub returns-in_err-resize-clause-any_moment : goal.returns-in_err-resize-clause-any_moment
returns-in_err-resize-clause-any_moment g c honest =
    (fill_sized (g.Q.Pages.pages c.args.pages.now) c.requires.some honest (g.met.P.Place.clock c.args.place.now honest) (c.requires.zero honest) c.count.result c.count.ensures c.resize.ensures.effect).run

pub returns-in_err-put_others-clause-any_moment : goal.returns-in_err-put_others-clause-any_moment
returns-in_err-put_others-clause-any_moment g c honest =
    let old = g.P.Place.facts c.args.place.now in
    let sized = g.P.Place.facts c.resize.new.self in
    let at_sized = still old sized c.resize.ensures.effect.counts.honest honest in
    let at = fill_put (g.Q.Pages.pages c.args.pages.now) c.requires.some honest (g.met.P.Place.clock c.args.place.now honest) (c.requires.zero honest) c.count.result c.count.ensures c.resize.ensures.effect
    c.put_others.ensures.cause.honest (c.put_others.ensures.any_moment at_sized) (c.put_others.ensures.zero at_sized) in
    at.run

pub returns-in_err-sync-clause-any_moment : goal.returns-in_err-sync-clause-any_moment
returns-in_err-sync-clause-any_moment g c honest =
    let old = g.P.Place.facts c.args.place.now in
    let sized = g.P.Place.facts c.resize.new.self in
    let at_sized = still old sized c.resize.ensures.effect.counts.honest honest in
    let at = fill_put (g.Q.Pages.pages c.args.pages.now) c.requires.some honest (g.met.P.Place.clock c.args.place.now honest) (c.requires.zero honest) c.count.result c.count.ensures c.resize.ensures.effect
    c.put_others.ensures.cause.honest (c.put_others.ensures.any_moment at_sized) (c.put_others.ensures.zero at_sized) in
    (stays at c.sync.ensures.effect (zero_part (g.Q.Pages.pages c.args.pages.now))).run

pub put_others-requires-clause-count : goal.put_others-requires-clause-count
put_others-requires-clause-count g c after =
    let honest = subst (λ b. IsTrue b) c.resize.ensures.effect.counts.honest after in
    sized_count c.count.result (g.Q.Pages.pages c.args.pages.now) (g.P.Place.facts c.args.place.now).seen (g.P.Place.facts c.resize.new.self).seen c.count.ensures (c.in_ok-resize.ensures.written honest)

pub put_others-requires-clause-zero : goal.put_others-requires-clause-zero
put_others-requires-clause-zero g c after =
    let honest = subst (λ b. IsTrue b) c.resize.ensures.effect.counts.honest after in
    (fill_sized (g.Q.Pages.pages c.args.pages.now) c.requires.some honest (g.met.P.Place.clock c.args.place.now honest) (c.requires.zero honest) c.count.result c.count.ensures c.resize.ensures.effect).now_is

pub put_page-requires : goal.put_page-requires
put_page-requires g c = let some = c.requires.some in record { there = omega (arith, some) }

pub write_page-requires : goal.write_page-requires
write_page-requires g c =
    let filled = g.P.Place.facts c.put_others.new.place in
    let synced = g.P.Place.facts c.sync.new.self in
    record {
      there = λ after.
          let at_filled = subst (λ b. IsTrue b) c.sync.ensures.effect.counts.honest after in
          let at_sized = subst (λ b. IsTrue b) c.put_others.ensures.cause.honest at_filled in
          page_there (g.Q.Pages.pages c.args.pages.now) filled.seen synced.seen c.requires.some (c.in_ok-sync.ensures.done at_filled).seen (c.in_ok-put_others.ensures.seen at_sized).count;
    }
