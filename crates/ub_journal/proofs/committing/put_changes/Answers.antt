use Rattle.std.proofs.Common.{◌≡◌, ◌∙◌, ℕ, List, IsTrue, ap, subst, length, take, refl}
use Rattle.ub_journal.specs.Crash.{with_count, with_page}
use Rattle.ub_journal.specs.declared.journal.Change.{Change}
use Rattle.ub_journal.specs.Image.{Image, resized}
use Rattle.ub_journal.specs.Place.{IsHonest}
use Rattle.ub_journal.proofs.Applied.{among, length_put_all, length_sized, put_more}
use Rattle.ub_journal.proofs.Runs.{another_put, pages_resized}
use Rattle.ub_journal.proofs.committing.put_changes.Goals as goal

pub returns-in_err-resize-clause-any_moment : goal.returns-in_err-resize-clause-any_moment
returns-in_err-resize-clause-any_moment g c honest =
    (pages_resized (g.J.Tells.told c.args.journal.now) (c.requires.begun honest) honest (g.met.P.Place.clock c.args.place.now honest) c.count.result c.count.ensures c.resize.ensures.effect).run

pub returns-in_err-resize-clause-crash : goal.returns-in_err-resize-clause-crash
returns-in_err-resize-clause-crash g c honest =
    (pages_resized (g.J.Tells.told c.args.journal.now) (c.requires.begun honest) honest (g.met.P.Place.clock c.args.place.now honest) c.count.result c.count.ensures c.resize.ensures.effect).now_is

pub loop-at-init : goal.loop-at-init
loop-at-init g c = record {
  same = refl;
  honest = c.resize.ensures.effect.counts.honest;
  failures = c.in_ok-resize.ensures.effect.counts.failures;
  seen = λ honest. c.in_ok-resize.ensures.written honest ∙ ap (λ n. with_count n (g.P.Place.facts c.args.place.now).seen) c.count.ensures;
  at = λ honest.
      pages_resized (g.J.Tells.told c.args.journal.now) (c.requires.begun honest) honest (g.met.P.Place.clock c.args.place.now honest) c.count.result c.count.ensures c.resize.ensures.effect;
}

pub write_page-requires : goal.write_page-requires
write_page-requires g c = record {
  there = λ still_honest.
      let inv = c.loop-at.invariant in
      let change : Change = record { number = c.put_change-number.result; page = c.put_change-number.new.page } in
      let j = g.J.Tells.told c.args.journal.now in
      let old = g.P.Place.facts c.args.place.now in
      let honest : IsHonest old = subst IsTrue inv.honest still_honest in
      let which = among j (c.requires.begun honest).found.left.others c.loop-at.at change c.put_change-number.ensures in
      let long : length (g.P.Place.facts c.loop-at.place).seen.table ≡ j.count =
      ap (λ (i : Image). length i.table) (inv.seen honest) ∙ length_put_all (take c.loop-at.at j.changes) (resized j.count old.seen.table) ∙ length_sized j.count old.seen.table in
      rw long which.1;
}

pub returns-in_err-write_page-clause-crash : goal.returns-in_err-write_page-clause-crash
returns-in_err-write_page-clause-crash g c honest =
    let inv = c.loop-at.invariant in
    let change : Change = record { number = c.put_change-number.result; page = c.put_change-number.new.page } in
    (another_put (g.J.Tells.told c.args.journal.now) (c.requires.begun honest) honest (g.met.P.Place.clock c.args.place.now honest) c.loop-at.at change
    c.put_change-number.ensures (inv.at honest) c.write_page.ensures.effect).now_is

pub returns-in_err-write_page-clause-any_moment : goal.returns-in_err-write_page-clause-any_moment
returns-in_err-write_page-clause-any_moment g c honest =
    let inv = c.loop-at.invariant in
    let change : Change = record { number = c.put_change-number.result; page = c.put_change-number.new.page } in
    (another_put (g.J.Tells.told c.args.journal.now) (c.requires.begun honest) honest (g.met.P.Place.clock c.args.place.now honest) c.loop-at.at change
    c.put_change-number.ensures (inv.at honest) c.write_page.ensures.effect).run

pub loop-at-preserved : goal.loop-at-preserved
loop-at-preserved g c =
    let inv = c.loop-at.invariant in
    let j = g.J.Tells.told c.args.journal.now in
    let old = g.P.Place.facts c.args.place.now in
    let change : Change = record { number = c.put_change-number.result; page = c.put_change-number.new.page } in
    record {
      same = inv.same;
      honest = c.write_page.ensures.effect.counts.honest ∙ inv.honest;
      failures = c.in_ok-write_page.ensures.effect.counts.failures ∙ inv.failures;
      seen = λ honest. c.in_ok-write_page.ensures.written (inv.at honest).honest
          ∙ ap (with_page change.number change.page) (inv.seen honest)
          ∙ ap (λ (t : List (List ℕ)). record old.seen { table = t; rest = 0 }) (put_more j.changes (resized j.count old.seen.table) c.loop-at.at change c.put_change-number.ensures);
      at = λ honest. another_put j (c.requires.begun honest) honest (g.met.P.Place.clock c.args.place.now honest) c.loop-at.at change
          c.put_change-number.ensures (inv.at honest) c.write_page.ensures.effect;
    }
