use Rattle.std.proofs.Common.{◌≡◌, ◌<◌, ◌∙◌, [], ◌∷◌, List, OnOk, true, nat_le, ap, subst, sym, length, arith, false, refl, ◌+◌, rules}
use Rattle.ub_tree.proofs.Common.{CanStand, Halves, insert_row, IsHonest, IsRegion, IsStored, le-leb, length-insert_row, lt-leb, page_count, placed_with}
use Rattle.ub_tree.proofs.Common.{RegionRows, RegionView, Row, Spells, SpellsHalves, split, StoresRows, TreeView}
use Rattle.std.proofs.lemmas.List.Edits.{length-insert}
use Rattle.std.specs.List.{insert}
use Rattle.ub_tree.proofs.EffectFacts.{changed_by}
use Rattle.ub_tree.proofs.FilledFacts.{writes_grown}
use Rattle.ub_tree.proofs.GrowFacts.{one_stored, same_split, two_stored}
use Rattle.ub_tree.proofs.RoomFacts.{one_stands, two_stand}
use Rattle.ub_tree.proofs.StandFacts.{stand_alone, stand_halved}
use Rattle.ub_tree.proofs.tree.Tree.store_with.Goals as goal

pub returns : goal.returns
returns g c =
    let b = c.args.self.now in
    let row = c.args.row.now in
    let rows = c.args.room.now.region.region.rows in
    let new = insert_row b.schema.dims row rows in
    let made : insert_row b.schema.dims row rows ≡ insert rows c.args.index row = c.requires.place.1 in
    let rows_are : c.insert_at.new.self.region.rows ≡ new = ap (λ (v : RegionView). v.region.rows) c.insert_at.ensures ∙ sym made in
    record {
      same = search rules;
      written = λ i stored at all.
          let same : c.page_rows.result ≡ b.schema.page_rows = c.page_rows.ensures.page_rows ∙ ap (λ (v : TreeView). v.schema.page_rows) c.self.view_is in
          let few = c.requires.read.on.0.few in
          let less : length rows < b.schema.page_rows = (let long = c.len.ensures.len in let other = c.if-len-page_rows.false in omega arith) in
          let more = length-insert_row b.schema.dims row rows in
          let fits : nat_le (length new) b.schema.page_rows ≡ true = le-leb (length new) b.schema.page_rows (omega arith) in
          let written = subst (λ (rs : List Row). OnOk c.rewrite.result (IsStored c.rewrite.new.self × (c.rewrite.new.self.placed ≡ placed_with i (record { page = c.args.region.now.page; region = record { first = c.args.region.now.first; rows = rs } } ∷ []) b.placed)))
          rows_are (c.rewrite.ensures.written i stored at) in
          one_stored b c.rewrite.new.self i c.args.region.now new c.rewrite.result fits written
          (writes_grown b c.rewrite.new.self i c.args.region.now c.rewrite.result stored at c.rewrite.ensures.effect);
      put = let span = c.args.region.now in
          let same = c.page_rows.ensures.page_rows ∙ ap (λ (v : TreeView). v.schema.page_rows) c.self.view_is in
          stand_alone c.rewrite.result span (length rows) new b c.rewrite.new.self (λ full. c.if-len-page_rows.false (c.len.ensures.len ∙ full ∙ sym same))
          (subst (λ (rs : List Row). OnOk c.rewrite.result (IsHonest b.store → Spells c.rewrite.new.self span.page span.first rs)) rows_are c.rewrite.ensures.put);
      counted = search rules;
      effect = changed_by c.args.self.now c.rewrite.new.self c.args.region.now c.requires.there.0 c.rewrite.result c.rewrite.ensures.effect;
    }

pub split-requires-clause-right : goal.split-requires-clause-right
split-requires-clause-right g c =
    let b = c.args.self.now in
    let row = c.args.row.now in
    let before = c.args.room.now.region.region.rows in
    let made : insert_row b.schema.dims row before ≡ insert before c.args.index row = c.requires.place.1 in
    let rows = insert before c.args.index row in
    let full = sym c.len.ensures.len ∙ c.if-len-page_rows.true ∙ c.page_rows.ensures.page_rows ∙ ap (λ (v : TreeView). v.schema.page_rows) c.self.view_is in
    let stand : CanStand b c.args.region.now rows = subst (λ (rs : List Row). CanStand b c.args.region.now rs) made c.requires.rows in
    let within = c.requires.place.0 in
    let more : length rows ≡ length before + 1 = length-insert before c.args.index row within in
    let right = ap (λ (v : RegionView). v.region) c.split_with.ensures.right
    ∙ ap (λ (h : Halves). record { first = h.first; rows = h.right }) (same_split c.requires.read.dims full refl) in
    subst (λ (r : RegionRows). IsRegion b.schema r) (sym right) (two_stand b c.args.region.now rows stand (omega arith)).1

pub returns-then-len-page_rows : goal.returns-then-len-page_rows
returns-then-len-page_rows g c =
    let b = c.args.self.now in
    let row = c.args.row.now in
    let before = c.args.room.now.region.region.rows in
    let made : insert_row b.schema.dims row before ≡ insert before c.args.index row = c.requires.place.1 in
    let rows = insert before c.args.index row in
    let full = sym c.len.ensures.len ∙ c.if-len-page_rows.true ∙ c.page_rows.ensures.page_rows ∙ ap (λ (v : TreeView). v.schema.page_rows) c.self.view_is in
    record {
      same = search rules;
      written = let stand : CanStand b c.args.region.now rows = subst (λ (rs : List Row). CanStand b c.args.region.now rs) made c.requires.rows in
          let within = c.requires.place.0 in
          let more : length rows ≡ length before + 1 = length-insert before c.args.index row within in
          let over : nat_le (length rows) b.schema.page_rows ≡ false = lt-leb (length rows) b.schema.page_rows (omega arith) in
          let written = rw (c.split_with.ensures.left, c.split_with.ensures.right, c.requires.read.dims, full) at c.split.ensures.written in
          subst (λ (rs : List Row). StoresRows c.args.region.now rs b c.split.new.self c.split.result) (sym made)
          (λ i stored at all. two_stored b c.split.new.self i c.args.region.now rows c.split.result over (written i stored at));
      put = let span = c.args.region.now in
          let halves = rw (c.split_with.ensures.left, c.split_with.ensures.right, c.requires.read.dims, full) at c.split.ensures.halves in
          stand_halved c.split.result span (length before) (insert_row b.schema.dims row before) b c.split.new.self full
          (subst (λ (rs : List Row). OnOk c.split.result (IsHonest b.store → SpellsHalves c.split.new.self span.page (page_count b.store) span.first (split b.schema.dims b.schema.page_rows rs))) (sym made) halves);
      counted = search rules;
      effect = search rules;
    }

pub rewrite-requires-clause-region : goal.rewrite-requires-clause-region
rewrite-requires-clause-region g c =
    let b = c.args.self.now in
    let row = c.args.row.now in
    let rows = c.args.room.now.region.region.rows in
    let new = insert_row b.schema.dims row rows in
    let made : insert_row b.schema.dims row rows ≡ insert rows c.args.index row = c.requires.place.1 in
    let same : c.page_rows.result ≡ b.schema.page_rows = c.page_rows.ensures.page_rows ∙ ap (λ (v : TreeView). v.schema.page_rows) c.self.view_is in
    let few = c.requires.read.on.0.few in
    let long = c.len.ensures.len in
    let other = c.if-len-page_rows.false in
    let more = length-insert_row b.schema.dims row rows in
    let rows_are : c.insert_at.new.self.region.rows ≡ new = ap (λ (v : RegionView). v.region.rows) c.insert_at.ensures ∙ sym made in
    subst (λ (rs : List Row). IsRegion b.schema (record { first = c.args.region.now.first; rows = rs })) (sym rows_are) (one_stands b c.args.region.now new c.requires.rows (omega arith))
