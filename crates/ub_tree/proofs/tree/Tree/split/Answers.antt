use Rattle.std.proofs.Common.{◌≡◌, ◌≤◌, ◌+◌, ◌-◌, ◌∙◌, ℕ, Ok, ap, subst, sym, refl, ◌<◌, ◌^◌, rules}
use Rattle.ub_tree.proofs.Common.{AreIndexPages, changed, GrowsTo, is_written, IsHonest, Key, MAX_LEVEL, page_count, placed_in, region_page, Schema, Spells}
use Rattle.ub_tree.proofs.Common.{StoreFacts, tree_view, TreeView, ways_hold}
use Rattle.ub_tree.proofs.AddFacts.{parts_stored}
use Rattle.ub_tree.proofs.RoomFacts.{ready_for}
use Rattle.ub_tree.proofs.EffectFacts.{ready_by, refused_none}
use Rattle.ub_tree.proofs.PartFacts.{halves_refused, index_refused, parts_at, parts_effect, unready_answers}
use Rattle.ub_tree.proofs.CallFacts.{last_small}
use Rattle.ub_tree.proofs.StandFacts.{halves_stand}
use Rattle.ub_tree.proofs.tree.Tree.split.Goals as goal

pub returns-in_err-change : goal.returns-in_err-change
returns-in_err-change g c = record {
  same = search rules;
  written = search rules;
  halves = refused_none _ c.from_residual.result c.in_err-change.field-0.0 c.from_residual.ensures.1;
  counted =
      let few = c.if-self.false in
      let count = ap (λ (v : TreeView). v.inner.count) c.self.view_is in
      unready_answers c.args.self.now c.args.region.now c.from_residual.result c.in_err-change.field-0.0 c.from_residual.ensures.1 (λ many. few (count ∙ many)) c.in_err-change.ensures.led
      c.in_err-change.ensures.short;
  effect = ready_by c.from_residual.result c.in_err-change.field-0.0 c.args.self.now c.prepare_add.new.self c.from_residual.ensures.1 c.in_err-change.ensures.effect;
}

pub returns-in_err-put_halves : goal.returns-in_err-put_halves
returns-in_err-put_halves g c = record {
  same = search rules;
  written = search rules;
  halves = refused_none _ c.from_residual-in_err-put_halves.result c.in_err-put_halves.field-0.0 c.from_residual-in_err-put_halves.ensures.1;
  counted = search rules;
  effect =
      let change = c.in_ok-change.change in
      let grew = subst (λ (v : TreeView). GrowsTo {A = Unit {0}} (page_count v.store + (change.next - change.start)) v c.grow.new.self (Ok tt)) c.in_ok-change.ensures.effect.same c.in_ok-grow.ensures in
      halves_refused c.args.self.now c.grow.new.self c.put_halves.new.self c.args.region.now c.requires.there.told c.args.right.now.region.first change c.page.result c.requires.there.there
      (ready_for c.first.ensures c.in_ok-change.ensures.ready) c.page.ensures grew c.from_residual-in_err-put_halves.result c.in_err-put_halves.field-0.0 c.from_residual-in_err-put_halves.ensures.1 c.in_err-put_halves.ensures.effect;
}

pub returns-in_err-put_index : goal.returns-in_err-put_index
returns-in_err-put_index g c = record {
  same = search rules;
  written = search rules;
  halves = refused_none _ c.from_residual-in_err-put_index.result c.in_err-put_index.field-0.0 c.from_residual-in_err-put_index.ensures.1;
  counted = search rules;
  effect =
      let change = c.in_ok-change.change in
      let grew = subst (λ (v : TreeView). GrowsTo {A = Unit {0}} (page_count v.store + (change.next - change.start)) v c.grow.new.self (Ok tt)) c.in_ok-change.ensures.effect.same c.in_ok-grow.ensures in
      index_refused c.args.self.now c.grow.new.self c.put_halves.new.self c.args.region.now c.requires.there.told c.args.right.now.region.first change c.page.result c.requires.there.there
      (ready_for c.first.ensures c.in_ok-change.ensures.ready) c.page.ensures grew c.put_index.new.self c.in_ok-put_halves.ensures.effect c.in_ok-put_halves.ensures.same c.in_ok-put_halves.ensures.put.count
      c.in_err-put_index.ensures.kept c.from_residual-in_err-put_index.result c.in_err-put_index.field-0.0 c.from_residual-in_err-put_index.ensures.1 c.in_err-put_index.ensures.marked c.in_err-put_index.ensures.stopped;
}

pub returns : goal.returns
returns g c =
    let change = c.in_ok-change.change in
    let u = c.self-2.inside in
    let t = c.self.inside in
    let a = c.args.self.now in
    let h = c.put_halves.new.self in
    let n = c.put_index.new.self in
    let span = c.args.region.now in
    let left = c.args.left.now in
    let right = c.args.right.now.region in
    let d : TreeView = tree_view u.schema u.index (u.count + 1) u.next u.rows (is_written u.mark) u.is_failed u.pager in
    let grew = subst (λ (v : TreeView). GrowsTo {A = Unit {0}} (page_count v.store + (change.next - change.start)) v c.grow.new.self (Ok tt)) c.in_ok-change.ensures.effect.same c.in_ok-grow.ensures in
    let ready = ready_for c.first.ensures c.in_ok-change.ensures.ready in
    let wrote = c.in_ok-put_halves.ensures in
    let made = c.in_ok-put_index.ensures in
    let now = made.now in
    let same = wrote.same in
    let count_is = ap (λ (v : TreeView). v.inner.count) same ∙ ap (λ (v : TreeView). v.inner.count) grew.frame in
    let index_is = ap (λ (v : TreeView). changed v.inner.index change) same ∙ ap (λ (v : TreeView). changed v.inner.index change) grew.frame in
    let d_is = ap (λ (v : TreeView). record v { inner = record v.inner { count = v.inner.count + 1 } }) c.self-2.view_is in
    let small = subst (λ n. n < 2 ^ 128) (sym c.self.invariant.last_is) (last_small t.schema.dims t.schema.counts.few_dims) in
    let near = subst (λ (v : TreeView). v.inner.index.last < 2 ^ 128) c.self.view_is small in
    let high = subst (λ (v : TreeView). v.inner.index.levels ≤ MAX_LEVEL) c.self.view_is c.root-root.ensures.high in
    let honest_g = λ (honest : IsHonest a.store). ap (λ (v : TreeView). v.store.honest) grew.frame ∙ honest in
    let honest_h = λ (honest : IsHonest a.store). ap (λ (v : TreeView). v.store.honest) wrote.effect.frame ∙ honest_g honest in
    let schemas = ap (λ (v : TreeView). v.schema) d_is ∙ ap (λ (v : TreeView). v.schema) now ∙ ap (λ (v : TreeView). v.schema) same in
    let stand = λ (honest : IsHonest a.store).
    halves_stand a c.grow.new.self h n span c.requires.there right.first change c.page.result near ready c.page.ensures left.region right wrote.put
    made.kept honest (honest_g honest) (honest_h honest) d (ap (λ (v : TreeView). v.store) d_is) schemas c.requires.first in
    record {
      same = let spells : IsHonest a.store → Spells d (page_count a.store) right.first right.rows = λ honest. (stand honest).1 in
          parts_at a c.grow.new.self h span c.requires.there.told right.first change c.page.result c.requires.there.there ready c.page.ensures grew n wrote.effect same wrote.put.count
          made.kept d _ now count_is made.works d_is high
          (subst (λ (v : TreeView). 1 ≤ v.inner.index.levels) c.self.view_is c.root-root.ensures.low) near c.requires.there c.requires.within index_is made.stand right.rows spells;
      written = λ i stored at.
          let makes = ready.makes i stored at c.requires.within in
          let honest_n = ap (λ (s : StoreFacts). s.honest) made.works ∙ honest_h stored.honest in
          let seen : a.placed ≡ placed_in a.schema a.inner.index a.store =
          sym (ap (λ (v : TreeView). v.placed) c.self.view_is) ∙ ap (λ (v : TreeView). placed_in v.schema v.inner.index v.store) c.self.view_is in
          let schema_g : c.grow.new.self.schema ≡ a.schema = ap (λ (v : TreeView). v.schema) grew.frame in
          let both = parts_stored a seen stored i span at c.requires.there.there right.first left.region.rows right.rows _ _ change c.page.result c.grow.new.self.store h.store n.store
          makes grew.grows (honest_g stored.honest) (honest_h stored.honest) honest_n (c.page.ensures ∙ ready.start) wrote.put made.kept
          (made.stand makes.once (honest_h stored.honest))
          c.requires.left (ap (λ (s : Schema). region_page s left.region) schema_g ∙ ap (λ (k : Key). region_page a.schema (record { first = k; rows = left.region.rows })) c.requires.first)
          c.requires.right (ap (λ (s : Schema). region_page s right) schema_g)
          (ready.fills i stored at c.requires.within) d refl
          (schemas ∙ ap (λ (v : TreeView). v.schema) grew.frame)
          (ap (λ (v : TreeView). v.inner.index) d_is ∙ (ap (λ (v : TreeView). v.inner.index) now ∙ index_is))
          (ap (λ (v : TreeView). v.inner.count) d_is ∙ ap (λ (k : ℕ). k + 1) (ap (λ (v : TreeView). v.inner.count) now ∙ count_is))
          (ap (λ (v : TreeView). v.is_failed) d_is ∙ (ap (λ (v : TreeView). v.is_failed) now ∙ (ap (λ (v : TreeView). v.is_failed) same ∙ grew.done.0)))
          (ap (λ (v : TreeView). v.store) d_is) in
          (both.0, (page_count a.store, both.1), both.2);
      halves = stand;
      counted = search rules;
      effect = parts_effect a c.grow.new.self h span c.requires.there.told right.first change c.page.result c.requires.there.there ready c.page.ensures grew n wrote.effect same wrote.put.count
          made.kept d _ now count_is made.works d_is high;
    }

pub put_index-requires : goal.put_index-requires
put_index-requires g c = λ honest.
    let a = c.args.self.now in
    let grew = subst (λ (v : TreeView). GrowsTo {A = Unit {0}} (page_count v.store + (c.in_ok-change.change.next - c.in_ok-change.change.start)) v c.grow.new.self (Ok tt)) c.in_ok-change.ensures.effect.same
    c.in_ok-grow.ensures in
    let was : IsHonest a.store = sym (ap (λ (v : TreeView). v.store.honest) grew.frame) ∙ (sym (ap (λ (v : TreeView). v.store.honest) c.in_ok-put_halves.ensures.effect.frame) ∙ honest) in
    let told = c.requires.there.told in
    let holds = ways_hold a.inner.index a.store told.key c.args.region.now (told.falls.way was) in
    let last : c.put_halves.new.self.inner.index.last ≡ a.inner.index.last =
    ap (λ (v : TreeView). v.inner.index.last) c.in_ok-put_halves.ensures.same ∙ ap (λ (v : TreeView). v.inner.index.last) grew.frame in
    subst (λ (n : ℕ). AreIndexPages n c.in_ok-change.change.sheets) (sym last)
    ((ready_for c.first.ensures c.in_ok-change.ensures.ready).pages was (record { holds = holds.1; from = told.falls.from; to = told.falls.to; way = λ _. holds.2 c.args.region.now.first holds.1 }) c.requires.within)

pub returns-in_err-grow : goal.returns-in_err-grow
returns-in_err-grow g c = record {
  same = search rules;
  written = search rules;
  halves = refused_none _ c.from_residual-in_err-grow.result c.in_err-grow.field-0.0 c.from_residual-in_err-grow.ensures.1;
  counted = search rules;
  effect = search rules;
}
