use Rattle.std.proofs.Common.{◌≡◌, ◌+◌, ◌∙◌, suc, ap, arith, length, refl, subst, sym, rules}
use Rattle.ub_tree.proofs.Common.{entry_of, IsTakenIn, leb-true, length-map, regions, RegionView, TreeView}
use Rattle.ub_tree.proofs.RoomFacts.{next_region, rows_on}
use Rattle.ub_tree.proofs.RemovalFacts.{joins_next}
use Rattle.ub_tree.proofs.HoldingFacts.{no_answer}
use Rattle.ub_tree.proofs.ShrinkFacts.{join_last, length-regions}
use Rattle.ub_tree.proofs.AloneFacts.{no_fit, none_beside, room_fits, unfound_beside, unread_beside}
use Rattle.ub_tree.proofs.tree.Tree.join_next.Goals.{then-join, else-join}
use Rattle.ub_tree.proofs.tree.Tree.join_next.Goals as goal

pub returns-in_default : goal.returns-in_default
returns-in_default g c = record {
  found = search rules;
  joined = λ i stored at.
      let a = c.args.self.now in
      let last = rw c.in_default.is at (c.in_ok-next.ensures.after i stored at) in
      let mapped = length-map a.placed entry_of in
      let long : length a.placed ≡ suc i = omega arith in
      join_last a.schema.page_rows i c.args.room.now.region.region.rows (regions a) (length-regions a.placed ∙ long);
  refused = none_beside c.args.self.now c.args.region.now.next (length c.args.room.now.region.region.rows) (λ told honest given. rw c.in_default.is at (c.in_ok-next.ensures.led told honest given));
  effect = search rules;
}

pub returns : goal.returns
returns g c =
    let a = c.args.self.now in
    let next = c.in-Some.next in
    let rows = c.args.room.now.region.region.rows in
    let more = c.read_at.new.page.region.rows in
    let one = c.in_ok-next.ensures.effect.same in
    record {
      found = let span = c.args.region.now in
          let two = c.in_ok-read_at.ensures.effect.same in
          let begins = rw c.in-Some.is at c.in_ok-next.ensures.begins in
          let told = rw c.in-Some.is at c.in_ok-next.ensures.falls in
          let count : c.page_rows.result ≡ a.schema.page_rows = c.page_rows.ensures.page_rows ∙ ap (λ (v : TreeView). v.schema.page_rows) (c.self.view_is ∙ two ∙ one) in
          let on = subst (λ (v : TreeView). IsTakenIn v next c.read_at.new.page.region) one c.in_ok-read_at.ensures.read.on in
          let made = next_region a c.requires.there.told.key span next rows more c.requires.there.told.falls begins c.requires.rows.rows (rows_on a next c.read_at.new.page.region on) in
          elim c.if-join.branch [
            | then-join w ↦
                let fit = leb-true (length rows + length more) c.page_rows.result (sym c.join.ensures.fit ∙ w.if-join.true) in
                let good = made (omega arith) in
                let joined = rw w.if-join.true at c.join.ensures.rows in
                rw w.result-is (rw joined (record {
                  pair = record { there = c.requires.there; told = told; ends = begins; begins = c.requires.rows.first; region = good };
                  stored = λ i stored at. rw c.in-Some.is at (c.in_ok-next.ensures.after i stored at);
                  taken = (c.read_at.new.page.region, on, refl);
                }))
            | else-join w ↦ rw w.result-is (rw w.if-join.false at c.join.ensures.rows)
          ];
      joined = λ i stored at.
          let stands = rw c.in-Some.is at (c.in_ok-next.ensures.after i stored at) in
          let count = c.page_rows.ensures.page_rows ∙ ap (λ (v : TreeView). v.schema.page_rows) c.self.view_is in
          let joined = joins_next a c.region_after.new.self c.read_at.new.self i next c.args.room.now.region.region.rows c.join.new.self.region.rows c.read_at.new.page.region.rows c.join.result c.page_rows.result
          c.in_ok-next.ensures.effect.same c.in_ok-read_at.ensures.effect.same stands c.in_ok-read_at.ensures.rows count c.join.ensures.fit (ap (λ (v : RegionView). v.region.rows) c.join.ensures.rows) stored.honest in
          elim c.if-join.branch [
            | then-join w ↦ rw w.result-is (rw w.if-join.true at joined)
            | else-join w ↦ rw w.result-is (rw w.if-join.false at joined)
          ];
      refused = let count : c.page_rows.result ≡ a.schema.page_rows = c.page_rows.ensures.page_rows ∙ ap (λ (v : TreeView). v.schema.page_rows) (c.self.view_is ∙ c.in_ok-read_at.ensures.effect.same ∙ one) in
          let fits = room_fits a c.args.region.now.next (length rows) c.region_after.new.self c.in-Some.next one
          (λ told honest given. rw c.in-Some.is at (c.in_ok-next.ensures.led told honest given)) c.read_at.new.page (λ honest r on. c.in_ok-read_at.ensures.taken honest r on) in
          elim c.if-join.branch [
            | then-join w ↦ rw w.result-is (record { led = λ honest can. tt; fits = λ honest room. refl })
            | else-join w ↦ rw w.result-is (record { led = λ honest can. tt; fits = λ honest room. absurd (let fit = fits honest room in no_fit _ _ count (sym c.join.ensures.fit ∙ w.if-join.false) (omega arith)) })
          ];
      effect = search rules;
    }

pub returns-in_err-next : goal.returns-in_err-next
returns-in_err-next g c = record {
  found = no_answer c.from_residual.result c.in_err-next.field-0.0 _ c.from_residual.ensures.1;
  joined = search rules;
  refused = unfound_beside c.args.self.now c.args.region.now.next (length c.args.room.now.region.region.rows) c.from_residual.result c.in_err-next.field-0.0 c.from_residual.ensures.1
      (λ told honest given. c.in_err-next.ensures.led told honest given);
  effect = search rules;
}

pub returns-in_err-read_at : goal.returns-in_err-read_at
returns-in_err-read_at g c = record {
  found = no_answer c.from_residual-in_err-read_at.result c.in_err-read_at.field-0.0 _ c.from_residual-in_err-read_at.ensures.1;
  joined = search rules;
  refused = unread_beside c.args.self.now c.args.region.now.next (length c.args.room.now.region.region.rows) c.region_after.new.self c.in-Some.next c.in_ok-next.ensures.effect.same
      (λ told honest given. rw c.in-Some.is at (c.in_ok-next.ensures.led told honest given))
      c.from_residual-in_err-read_at.result c.in_err-read_at.field-0.0 c.from_residual-in_err-read_at.ensures.1 (λ honest r on. c.in_err-read_at.ensures.taken honest r on);
  effect = search rules;
}
