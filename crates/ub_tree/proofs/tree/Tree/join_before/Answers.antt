use Rattle.std.proofs.Common.{◌≡◌, ◌+◌, ◌++◌, ◌∙◌, if◌then◌else◌, ap, arith, length, refl, subst, sym, rules}
use Rattle.ub_tree.proofs.Common.{IsRegionThere, IsTakenIn, key_before, leb-true, RegionView, TreeView}
use Rattle.ub_tree.proofs.RoomFacts.{next_region, rows_on}
use Rattle.ub_tree.proofs.RemovalFacts.{joins_one, read_there}
use Rattle.ub_tree.proofs.HoldingFacts.{no_answer}
use Rattle.ub_writing.specs.declared.room.Room.{Room}
use Rattle.ub_tree.proofs.AloneFacts.{no_fit, none_beside, room_fits, unfound_beside, unread_beside}
use Rattle.ub_tree.proofs.tree.Tree.join_before.Goals.{then-join, else-join}
use Rattle.ub_tree.proofs.tree.Tree.join_before.Goals as goal

pub returns : goal.returns
returns g c =
    let a = c.args.self.now in
    let before = c.in-Some.before in
    let rows = c.args.room.now.region.region.rows in
    let more = c.read_at.new.page.region.rows in
    let one = c.in_ok-before.ensures.effect.same in
    record {
      found = let span = c.args.region.now in
          let two = c.in_ok-read_at.ensures.effect.same in
          let ends = rw c.in-Some.is at c.in_ok-before.ensures.ends in
          let falls = rw c.in-Some.is at c.in_ok-before.ensures.falls in
          let count : c.page_rows.result ≡ a.schema.page_rows = c.page_rows.ensures.page_rows ∙ ap (λ (v : TreeView). v.schema.page_rows) (c.self.view_is ∙ two ∙ one) in
          let on = subst (λ (v : TreeView). IsTakenIn v before c.read_at.new.page.region) one c.in_ok-read_at.ensures.read.on in
          let made = next_region a falls.0 before span more rows falls.2 ends (rows_on a before c.read_at.new.page.region on) c.requires.rows.rows in
          let there = read_there a c.region_before.new.self falls.0 before c.read_at.new.page.region one falls.2 c.in_ok-read_at.ensures.there c.in_ok-read_at.ensures.read.on in
          elim c.if-join.branch [
            | then-join w ↦
                let fit = leb-true (length more + length rows) c.page_rows.result (sym c.join.ensures.fit ∙ w.if-join.true) in
                let good = made (omega arith) in
                let now = ap (λ (r : Room). r.region) w.room-is ∙ w.swap.ensures.x_after ∙ rw w.if-join.true at c.join.ensures.rows in
                rw w.result-is (rw now (record {
                  pair = record { there = subst (λ (v : TreeView). IsRegionThere v before) one there; told = c.requires.told; ends = ends; begins = c.in_ok-read_at.ensures.read.on.1.0; region = good };
                  falls = falls;
                  stored = λ i stored at. rw c.in-Some.is at (c.in_ok-before.ensures.before i stored at);
                  taken = (c.read_at.new.page.region, on, refl);
                }))
            | else-join w ↦ rw w.result-is (ap (λ (r : Room). r.region) w.room-is)
          ];
      joined = λ i stored at.
          let old = c.args.room.now.region.region.rows in
          let new = c.if-join.room.region.region.rows in
          let stands = rw c.in-Some.is at (c.in_ok-before.ensures.before i stored at) in
          let count = c.page_rows.ensures.page_rows ∙ ap (λ (v : TreeView). v.schema.page_rows) c.self.view_is in
          let joined = joins_one a c.region_before.new.self c.read_at.new.self i stands.0 c.args.region.now before old new more c.join.result c.page_rows.result
          c.in_ok-before.ensures.effect.same c.in_ok-read_at.ensures.effect.same stands.1 stands.2 at c.in_ok-read_at.ensures.rows count c.join.ensures.fit in
          elim c.if-join.branch [
            | then-join w ↦
                let rows = ap (λ (v : RegionView). v.region.rows) (ap (λ (r : Room). r.region) w.room-is ∙ w.swap.ensures.x_after ∙ c.join.ensures.rows) in
                let made : new ≡ (if c.join.result then more ++ old else old) = rw w.if-join.true (rw w.if-join.true at rows) in
                rw w.result-is (rw w.if-join.true at (joined made stored.honest))
            | else-join w ↦
                let made : new ≡ (if c.join.result then more ++ old else old) = rw w.if-join.false (ap (λ (r : Room). r.region.region.rows) w.room-is) in
                rw w.result-is (rw w.if-join.false at (joined made stored.honest))
          ];
      refused = let count : c.page_rows.result ≡ a.schema.page_rows = c.page_rows.ensures.page_rows ∙ ap (λ (v : TreeView). v.schema.page_rows) (c.self.view_is ∙ c.in_ok-read_at.ensures.effect.same ∙ one) in
          let fits = room_fits a (key_before c.args.region.now.first.z c.args.region.now.first.number) (length rows) c.region_before.new.self c.in-Some.before one
          (λ told honest given. rw c.in-Some.is at (c.in_ok-before.ensures.led told honest given)) c.read_at.new.page (λ honest r on. c.in_ok-read_at.ensures.taken honest r on) in
          elim c.if-join.branch [
            | then-join w ↦ rw w.result-is (record { led = λ honest can. tt; fits = λ honest room. refl })
            | else-join w ↦ rw w.result-is (record { led = λ honest can. tt; fits = λ honest room. absurd (let fit = fits honest room in no_fit _ _ count (sym c.join.ensures.fit ∙ w.if-join.false) (omega arith)) })
          ];
      effect = search rules;
    }

pub returns-in_err-before : goal.returns-in_err-before
returns-in_err-before g c = record {
  found = no_answer c.from_residual.result c.in_err-before.field-0.0 _ c.from_residual.ensures.1;
  joined = search rules;
  refused = unfound_beside c.args.self.now (key_before c.args.region.now.first.z c.args.region.now.first.number) (length c.args.room.now.region.region.rows) c.from_residual.result c.in_err-before.field-0.0 c.from_residual.ensures.1
      (λ told honest given. c.in_err-before.ensures.led told honest given);
  effect = search rules;
}

pub returns-in_default : goal.returns-in_default
returns-in_default g c = record {
  found = search rules;
  joined = search rules;
  refused = none_beside c.args.self.now (key_before c.args.region.now.first.z c.args.region.now.first.number) (length c.args.room.now.region.region.rows) (λ told honest given. rw c.in_default.is at (c.in_ok-before.ensures.led told honest given));
  effect = search rules;
}

pub returns-in_err-read_at : goal.returns-in_err-read_at
returns-in_err-read_at g c = record {
  found = no_answer c.from_residual-in_err-read_at.result c.in_err-read_at.field-0.0 _ c.from_residual-in_err-read_at.ensures.1;
  joined = search rules;
  refused = unread_beside c.args.self.now (key_before c.args.region.now.first.z c.args.region.now.first.number) (length c.args.room.now.region.region.rows) c.region_before.new.self c.in-Some.before c.in_ok-before.ensures.effect.same
      (λ told honest given. rw c.in-Some.is at (c.in_ok-before.ensures.led told honest given))
      c.from_residual-in_err-read_at.result c.in_err-read_at.field-0.0 c.from_residual-in_err-read_at.ensures.1 (λ honest r on. c.in_err-read_at.ensures.taken honest r on);
  effect = search rules;
}
