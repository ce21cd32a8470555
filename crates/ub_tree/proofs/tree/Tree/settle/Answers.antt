use Rattle.std.proofs.Common.{◌≡◌, ◌/◌, ◌∙◌, refl, ap, sym, subst, length, nat_lt, true, false, OnOk, rules}
use Rattle.ub_tree.proofs.Common.{CanFallInto, HasRoomAt, HasTakenBefore, HasTakenNext, IsHonest, IsPair, key_before, region_count, RegionView, Spells}
use Rattle.ub_tree.proofs.Common.{TreeView}
use Rattle.ub_tree.proofs.AloneFacts.{are_few, before_room, next_can, none_some, room_any, told_answers}
use Rattle.ub_tree.proofs.HoldingFacts.{passing_answers}
use Rattle.ub_tree.proofs.EffectFacts.{refused_none}
use Rattle.ub_tree.proofs.LessenFacts.{few_left, searched_lessens, taken_alone, taken_before, taken_next, then_lessens, wrote_lessens}
use Rattle.ub_tree.proofs.RemovalFacts.{settled_alone, settled_before, settled_large, settled_next}
use Rattle.ub_tree.proofs.tree.Tree.settle.Goals as goal

pub returns-then-not-are_few : goal.returns-then-not-are_few
returns-then-not-are_few g c = record {
  taken = taken_alone c.rewrite.result c.args.self.now c.args.self.now c.rewrite.new.self c.args.region.now c.args.room.now.region.region.rows refl c.rewrite.ensures.same c.rewrite.ensures.told
      c.rewrite.ensures.effect c.rewrite.ensures.put;
  written = λ i stored at each.
      let a = c.args.self.now in
      let count : c.page_rows.result ≡ a.schema.page_rows = c.page_rows.ensures.page_rows ∙ ap (λ (v : TreeView). v.schema.page_rows) c.self.view_is in
      let large : nat_lt (length c.args.room.now.region.region.rows) (a.schema.page_rows / 2) ≡ false = rw (← count) (sym c.are_few.ensures ∙ c.if-not-are_few.true) in
      settled_large a i c.args.region.now c.args.room.now.region.region.rows stored at c.rewrite.new.self c.rewrite.result large c.rewrite.ensures.written;
  refused = let count = c.page_rows.ensures.page_rows ∙ ap (λ (v : TreeView). v.schema.page_rows) c.self.view_is in
      record { spare = λ many. c.rewrite.ensures.faults; alone = λ honest one joined. absurd (are_few count (sym c.are_few.ensures ∙ c.if-not-are_few.true) joined.0) };
  leaves = wrote_lessens c.rewrite.result c.args.self.now c.args.self.now c.rewrite.new.self c.args.region.now refl c.requires.there.told c.rewrite.ensures.effect c.rewrite.ensures.faults c.rewrite.ensures.stays;
}

pub returns-in_err-next : goal.returns-in_err-next
returns-in_err-next g c = record {
  taken = refused_none _ c.from_residual.result c.in_err-next.field-0.0 c.from_residual.ensures.1;
  written = search rules;
  refused = let count = c.page_rows.ensures.page_rows ∙ ap (λ (v : TreeView). v.schema.page_rows) c.self.view_is in
      record {
        spare = few_left c.from_residual.result count (sym c.are_few.ensures ∙ c.if-not-are_few.false);
        alone = λ honest one joined. passing_answers c.from_residual.result c.in_err-next.field-0.0 _ c.from_residual.ensures.1
            (c.in_err-next.ensures.refused.led honest (next_can c.args.self.now c.args.region.now _ joined));
      };
  leaves = searched_lessens c.from_residual.result c.in_err-next.field-0.0 c.args.self.now c.join_next.new.self c.from_residual.ensures.1 c.in_err-next.ensures.effect;
}

pub returns-in-Some : goal.returns-in-Some
returns-in-Some g c = record {
  taken = taken_next c.join_at.result c.args.self.now c.join_next.new.self c.join_at.new.self c.args.region.now c.in-Some.next c.args.room.now.region.region.rows c.join_next.new.room.region
      c.in_ok-next.ensures.effect.same (rw c.in-Some.is at c.in_ok-next.ensures.found) c.join_at.ensures.joined;
  written = λ i stored at each.
      let a = c.args.self.now in
      let count : c.page_rows.result ≡ a.schema.page_rows = c.page_rows.ensures.page_rows ∙ ap (λ (v : TreeView). v.schema.page_rows) c.self.view_is in
      let few : nat_lt (length c.args.room.now.region.region.rows) (a.schema.page_rows / 2) ≡ true = rw (← count) (sym c.are_few.ensures ∙ c.if-not-are_few.false) in
      let found : HasTakenNext a c.args.region.now c.args.room.now.region.region.rows c.join_next.new.room.region c.in-Some.next = rw c.in-Some.is at c.in_ok-next.ensures.found in
      settled_next a i c.args.region.now c.args.room.now.region.region.rows stored at c.join_next.new.self c.join_at.new.self c.join_at.result c.in-Some.next c.join_next.new.room.region.region.rows few c.in_ok-next.ensures.effect.same
      (rw c.in-Some.is at (c.in_ok-next.ensures.joined i stored at)) (found.stored i stored at) c.join_at.ensures.written each;
  refused = let count = c.page_rows.ensures.page_rows ∙ ap (λ (v : TreeView). v.schema.page_rows) c.self.view_is in
      record {
        spare = few_left c.join_at.result count (sym c.are_few.ensures ∙ c.if-not-are_few.false);
        alone = λ honest one joined. told_answers c.join_at.result _ (c.join_at.ensures.alone (ap (λ (v : TreeView). region_count v) c.in_ok-next.ensures.effect.same ∙ one));
      };
  leaves = then_lessens c.join_at.result c.args.self.now c.join_next.new.self c.join_at.new.self c.in_ok-next.ensures.effect.same c.join_at.ensures.leaves;
}

pub returns-in_err-before : goal.returns-in_err-before
returns-in_err-before g c = record {
  taken = refused_none _ c.from_residual-in_err-before.result c.in_err-before.field-0.0 c.from_residual-in_err-before.ensures.1;
  written = search rules;
  refused = let a = c.args.self.now in
      let same = c.in_ok-next.ensures.effect.same in
      let sought = key_before c.args.region.now.first.z c.args.region.now.first.number in
      let count = c.page_rows.ensures.page_rows ∙ ap (λ (v : TreeView). v.schema.page_rows) c.self.view_is in
      record {
        spare = few_left c.from_residual-in_err-before.result count (sym c.are_few.ensures ∙ c.if-not-are_few.false);
        alone = λ honest one joined.
            let room = before_room a c.args.region.now _ joined (λ room. none_some (rw c.in_default.is at (c.in_ok-next.ensures.refused.fits honest room))) in
            let can = subst (λ (v : TreeView). CanFallInto v sought) (sym same) (room_any a sought _ room) in
            passing_answers c.from_residual-in_err-before.result c.in_err-before.field-0.0 _ c.from_residual-in_err-before.ensures.1
            (c.in_err-before.ensures.refused.led (subst (λ (v : TreeView). IsHonest v.store) (sym same) honest) can);
      };
  leaves = then_lessens c.from_residual-in_err-before.result c.args.self.now c.join_next.new.self c.join_before.new.self c.in_ok-next.ensures.effect.same
      (searched_lessens c.from_residual-in_err-before.result c.in_err-before.field-0.0 c.join_next.new.self c.join_before.new.self c.from_residual-in_err-before.ensures.1 c.in_err-before.ensures.effect);
}

pub returns-in-Some-2 : goal.returns-in-Some-2
returns-in-Some-2 g c = record {
  taken = let a = c.args.self.now in
      let span = c.args.region.now in
      let one = c.in_ok-next.ensures.effect.same in
      let left = rw c.in_default.is at c.in_ok-next.ensures.found in
      let has = subst (λ (v : TreeView). HasTakenBefore v span c.args.room.now.region.region.rows c.join_before.new.room.region c.in-Some-2.before) one
      (subst (λ (p : RegionView). HasTakenBefore c.join_next.new.self span p.region.rows c.join_before.new.room.region c.in-Some-2.before) left (rw c.in-Some-2.is at c.in_ok-before.ensures.found)) in
      taken_before c.join_at-in-Some-2.result a c.join_before.new.self c.join_at-in-Some-2.new.self span c.in-Some-2.before c.args.room.now.region.region.rows c.join_before.new.room.region
      (c.in_ok-before.ensures.effect.same ∙ one) has c.join_at-in-Some-2.ensures.joined;
  written = λ i stored at each.
      let a = c.args.self.now in
      let count : c.page_rows.result ≡ a.schema.page_rows = c.page_rows.ensures.page_rows ∙ ap (λ (v : TreeView). v.schema.page_rows) c.self.view_is in
      let few : nat_lt (length c.args.room.now.region.region.rows) (a.schema.page_rows / 2) ≡ true = rw (← count) (sym c.are_few.ensures ∙ c.if-not-are_few.false) in
      let found : HasTakenBefore c.join_next.new.self c.args.region.now c.join_next.new.room.region.region.rows c.join_before.new.room.region c.in-Some-2.before =
      rw c.in-Some-2.is at c.in_ok-before.ensures.found in
      settled_before a i c.args.region.now c.args.room.now.region.region.rows stored at c.join_next.new.self c.join_before.new.self c.join_at-in-Some-2.new.self c.join_at-in-Some-2.result c.in-Some-2.before
      c.join_next.new.room.region.region.rows c.join_before.new.room.region.region.rows few c.in_ok-next.ensures.effect.same c.in_ok-before.ensures.effect.same
      (rw c.in_default.is at (c.in_ok-next.ensures.joined i stored at)) (rw c.in-Some-2.is at c.in_ok-before.ensures.joined) found.stored
      c.join_at-in-Some-2.ensures.written each;
  refused = let count = c.page_rows.ensures.page_rows ∙ ap (λ (v : TreeView). v.schema.page_rows) c.self.view_is in
      record {
        spare = few_left c.join_at-in-Some-2.result count (sym c.are_few.ensures ∙ c.if-not-are_few.false);
        alone = λ honest one joined. told_answers c.join_at-in-Some-2.result _
            (c.join_at-in-Some-2.ensures.alone (ap (λ (v : TreeView). region_count v) (c.in_ok-before.ensures.effect.same ∙ c.in_ok-next.ensures.effect.same) ∙ one));
      };
  leaves = then_lessens c.join_at-in-Some-2.result c.args.self.now c.join_before.new.self c.join_at-in-Some-2.new.self (c.in_ok-before.ensures.effect.same ∙ c.in_ok-next.ensures.effect.same) c.join_at-in-Some-2.ensures.leaves;
}

pub returns : goal.returns
returns g c = record {
  taken = let left = (rw c.in_default-2.is at c.in_ok-before.ensures.found) ∙ (rw c.in_default.is at c.in_ok-next.ensures.found) in
      let put = subst (λ (p : RegionView). OnOk c.rewrite-2.result (IsHonest c.join_before.new.self.store → Spells c.rewrite-2.new.self c.args.region.now.page c.args.region.now.first p.region.rows)) left
      c.rewrite-2.ensures.put in
      taken_alone c.rewrite-2.result c.args.self.now c.join_before.new.self c.rewrite-2.new.self c.args.region.now c.args.room.now.region.region.rows
      (c.in_ok-before.ensures.effect.same ∙ c.in_ok-next.ensures.effect.same) c.rewrite-2.ensures.same c.rewrite-2.ensures.told c.rewrite-2.ensures.effect put;
  written = λ i stored at each.
      let a = c.args.self.now in
      let count : c.page_rows.result ≡ a.schema.page_rows = c.page_rows.ensures.page_rows ∙ ap (λ (v : TreeView). v.schema.page_rows) c.self.view_is in
      let few : nat_lt (length c.args.room.now.region.region.rows) (a.schema.page_rows / 2) ≡ true = rw (← count) (sym c.are_few.ensures ∙ c.if-not-are_few.false) in
      settled_alone a i c.args.region.now c.args.room.now.region.region.rows stored at c.join_next.new.self c.join_before.new.self c.rewrite-2.new.self c.rewrite-2.result c.join_next.new.room.region.region.rows c.join_before.new.room.region.region.rows
      few c.in_ok-next.ensures.effect.same c.in_ok-before.ensures.effect.same (rw c.in_default.is at (c.in_ok-next.ensures.joined i stored at)) (rw c.in_default-2.is at c.in_ok-before.ensures.joined)
      c.rewrite-2.ensures.written;
  refused = let a = c.args.self.now in
      let same = c.in_ok-next.ensures.effect.same in
      let sought = key_before c.args.region.now.first.z c.args.region.now.first.number in
      let count = c.page_rows.ensures.page_rows ∙ ap (λ (v : TreeView). v.schema.page_rows) c.self.view_is in
      let left = rw c.in_default.is at c.in_ok-next.ensures.found in
      record {
        spare = few_left c.rewrite-2.result count (sym c.are_few.ensures ∙ c.if-not-are_few.false);
        alone = λ honest one joined.
            let room = before_room a c.args.region.now _ joined (λ room. none_some (rw c.in_default.is at (c.in_ok-next.ensures.refused.fits honest room))) in
            let room_b = subst (λ (v : TreeView). HasRoomAt v sought (length c.join_next.new.room.region.region.rows)) (sym same)
            (subst (λ (p : RegionView). HasRoomAt a sought (length p.region.rows)) (sym left) room) in
            let some = rw c.in_default-2.is at (c.in_ok-before.ensures.refused.fits (subst (λ (v : TreeView). IsHonest v.store) (sym same) honest) room_b) in
            absurd (none_some some);
      };
  leaves = wrote_lessens c.rewrite-2.result c.args.self.now c.join_before.new.self c.rewrite-2.new.self c.args.region.now (c.in_ok-before.ensures.effect.same ∙ c.in_ok-next.ensures.effect.same) c.requires.there.told
      c.rewrite-2.ensures.effect c.rewrite-2.ensures.faults c.rewrite-2.ensures.stays;
}

pub join_at-requires : goal.join_at-requires
join_at-requires g c =
    subst (λ (v : TreeView). IsPair v c.args.region.now c.in-Some.next c.join_next.new.room.region) (sym c.in_ok-next.ensures.effect.same) (rw c.in-Some.is at c.in_ok-next.ensures.found).pair

pub join_at-requires-in-Some-2 : goal.join_at-requires-in-Some-2
join_at-requires-in-Some-2 g c =
    subst (λ (v : TreeView). IsPair v c.in-Some-2.before c.args.region.now c.join_before.new.room.region) (sym c.in_ok-before.ensures.effect.same) (rw c.in-Some-2.is at c.in_ok-before.ensures.found).pair
