use Rattle.std.proofs.Common.{◌≡◌, ◌∙◌, ⊎_elim, ap, refl, slice_get, subst, sym}
use Rattle.std.proofs.lemmas.Bool.{false≢true}
use Rattle.std.proofs.lemmas.Option.{get_or_from_slice_get}
use Rattle.std.proofs.lemmas.Result.{on_ok_weaker}
use Rattle.ub_store.specs.Facts.{zero_page}
use Rattle.ub_journal.specs.Image.{HasBack, Image, IsMarkedFrom, Recovers, applied}
use Rattle.ub_journal.specs.Place.{AtAnyMoment, Counts, IsCommitted, IsHonest, LeavesOnly, PlaceFacts}
use Rattle.ub_journal.specs.inner.Way.{HasCompleted}
use Rattle.ub_journal.proofs.Finishing.{both_count, both_fail, found_stays, was_so}
use Rattle.ub_journal.proofs.Moments.{joined, still}
use Rattle.ub_journal.proofs.Runs.{found_begins, recovers_on}
use Rattle.ub_journal.proofs.committing.finish.Goals as goal
use Rattle.ub_journal.proofs.committing.finish.Goals.{then-is_marked_from+in_ok-complete, else-is_marked_from}

pub complete-requires : goal.complete-requires
complete-requires g c = record {
  begun = λ now.
      let honest = was_so c.read_page.ensures.effect.counts now in
      let seen = c.read_page.ensures.seen honest in
      let j = g.J.Tells.told c.args.journal.now in
      let read : PlaceFacts = g.P.Place.facts c.read_page.new.self in
      record {
        found = found_stays j (c.requires.found honest) honest c.read_page.ensures.effect seen;
        front = subst (λ p. IsMarkedFrom j.before p)
            (sym (get_or_from_slice_get read.seen.table 0 c.read_page.new.page zero_page (ap (λ (i : Image). slice_get i.table 0) seen ∙ c.in_ok-read_page.ensures.page honest)))
            (subst (λ p. IsMarkedFrom p c.read_page.new.page) c.before-2.ensures (c.if-is_marked_from.ensures.0 refl));
      };
}

pub settle-requires : goal.settle-requires
settle-requires g c = record {
  completed = λ now. elim c.if-is_marked_from.branch [
    | then-is_marked_from+in_ok-complete w ↦
        subst (λ p. HasCompleted (g.J.Tells.told c.args.journal.now) (g.P.Place.facts p)) (sym w.place-is)
        (w.in_ok-complete.ensures.done (was_so w.complete.ensures.cause (subst (λ p. IsHonest (g.P.Place.facts p)) w.place-is now))).completed
    | else-is_marked_from w ↦
        let j = g.J.Tells.told c.args.journal.now in
        let old : PlaceFacts = g.P.Place.facts c.args.place.now in
        let honest = was_so c.read_page.ensures.effect.counts (subst (λ p. IsHonest (g.P.Place.facts p)) w.place-is now) in
        let seen = c.read_page.ensures.seen honest in
        let found = c.requires.found honest in
        let back = ⊎_elim (λ front. absurd (false≢true (w.if-is_marked_from.ensures.1 (subst (λ p. IsMarkedFrom p c.read_page.new.page) (sym c.before-2.ensures)
        (subst (λ p. IsMarkedFrom j.before p) (get_or_from_slice_get old.seen.table 0 c.read_page.new.page zero_page (c.in_ok-read_page.ensures.page honest)) front)))))
        (λ back. back) found.left.fits.stands in
        subst (λ p. HasCompleted j (g.P.Place.facts p)) (sym w.place-is) record {
          found = found_stays j found honest c.read_page.ensures.effect seen;
          back = subst (λ (i : Image). HasBack j i.table) (sym seen) back.0;
          whole = ap (λ (i : Image). i.rest) seen ∙ back.1;
        }
  ];
}

pub returns-in_err-complete-clause-any_moment : goal.returns-in_err-complete-clause-any_moment
returns-in_err-complete-clause-any_moment g c honest =
    let j = g.J.Tells.told c.args.journal.now in
    let read : PlaceFacts = g.P.Place.facts c.read_page.new.self in
    let mid : PlaceFacts = g.P.Place.facts c.complete.new.place in
    joined (found_begins j (c.requires.found honest) honest (g.met.P.Place.clock c.args.place.now honest) c.read_page.ensures.effect)
    (subst (λ i. LeavesOnly (Recovers j i) read mid) (c.read_page.ensures.seen honest) (c.complete.ensures.any_moment (still c.read_page.ensures.effect.counts honest)))
    (λ i so. so) (λ i so. so)

pub returns-clause-done : goal.returns-clause-done
returns-clause-done g c = on_ok_weaker c.settle.result (λ done honest.
    let j = g.J.Tells.told c.args.journal.now in
    let last : PlaceFacts = g.P.Place.facts c.settle.new.place in
    let honest_read = still c.read_page.ensures.effect.counts honest in
    let seen = c.read_page.ensures.seen honest in
    elim c.if-is_marked_from.branch [
      | then-is_marked_from+in_ok-complete w ↦
          let mid : PlaceFacts = g.P.Place.facts w.complete.new.place in
          let made : IsCommitted j mid last = subst (λ p. IsHonest (g.P.Place.facts p) → IsCommitted j (g.P.Place.facts p) last) w.place-is done (still w.complete.ensures.cause honest_read) in
          record { rest = made.rest; table = made.table ∙ (w.in_ok-complete.ensures.done honest_read).same ∙ ap (λ (i : Image). applied j i.table) seen; whole = made.whole }
      | else-is_marked_from w ↦
          let read : PlaceFacts = g.P.Place.facts c.read_page.new.self in
          let made : IsCommitted j read last = subst (λ p. IsHonest (g.P.Place.facts p) → IsCommitted j (g.P.Place.facts p) last) w.place-is done honest_read in
          record { rest = made.rest; table = made.table ∙ ap (λ (i : Image). applied j i.table) seen; whole = made.whole }
    ]) c.settle.ensures.done

pub returns-clause-cause : goal.returns-clause-cause
returns-clause-cause g c =
    let last : PlaceFacts = g.P.Place.facts c.settle.new.place in
    let read = c.in_ok-read_page.ensures.effect.counts in
    elim c.if-is_marked_from.branch [
      | then-is_marked_from+in_ok-complete w ↦
          both_count read (both_count w.in_ok-complete.ensures.cause (subst (λ p. Counts (g.P.Place.facts p) last c.settle.result) w.place-is c.settle.ensures.cause))
      | else-is_marked_from w ↦ both_count read (subst (λ p. Counts (g.P.Place.facts p) last c.settle.result) w.place-is c.settle.ensures.cause)
    ]

pub returns-clause-any_moment : goal.returns-clause-any_moment
returns-clause-any_moment g c honest =
    let j = g.J.Tells.told c.args.journal.now in
    let old : PlaceFacts = g.P.Place.facts c.args.place.now in
    let read : PlaceFacts = g.P.Place.facts c.read_page.new.self in
    let last : PlaceFacts = g.P.Place.facts c.settle.new.place in
    let one = found_begins j (c.requires.found honest) honest (g.met.P.Place.clock c.args.place.now honest) c.read_page.ensures.effect in
    let honest_read = still c.read_page.ensures.effect.counts honest in
    let seen : read.seen ≡ old.seen = c.read_page.ensures.seen honest in
    let settles : AtAnyMoment (Recovers j (g.P.Place.facts c.if-is_marked_from.place).seen) (g.P.Place.facts c.if-is_marked_from.place) last = c.settle.ensures.any_moment in
    elim c.if-is_marked_from.branch [
      | then-is_marked_from+in_ok-complete w ↦
          let mid : PlaceFacts = g.P.Place.facts w.complete.new.place in
          let done = w.in_ok-complete.ensures.done honest_read in
          let two = joined one (subst (λ i. LeavesOnly (Recovers j i) read mid) seen (w.complete.ensures.any_moment honest_read)) (λ i so. so) (λ i so. so) in
          joined two (subst (λ p. AtAnyMoment (Recovers j (g.P.Place.facts p).seen) (g.P.Place.facts p) last) w.place-is settles (still w.complete.ensures.cause honest_read)) (λ i so. so)
          (λ i so. recovers_on j old.seen mid.seen i (done.same ∙ ap (λ (was : Image). applied j was.table) seen) done.completed.back done.completed.whole so)
      | else-is_marked_from w ↦
          joined one (subst (λ i. LeavesOnly (Recovers j i) read last) seen
          (subst (λ p. AtAnyMoment (Recovers j (g.P.Place.facts p).seen) (g.P.Place.facts p) last) w.place-is settles honest_read)) (λ i so. so) (λ i so. so)
    ]

pub returns-in_err-complete-clause-cause : goal.returns-in_err-complete-clause-cause
returns-in_err-complete-clause-cause g c =
    both_fail c.in_ok-read_page.ensures.effect.counts c.in_err-complete.ensures.cause c.from_residual-in_err-complete.ensures.0
