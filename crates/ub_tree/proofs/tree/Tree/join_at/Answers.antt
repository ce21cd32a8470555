use Rattle.std.proofs.Common.{◌≡◌, ◌+◌, ◌-◌, ◌≤◌, ◌∙◌, true, Ok, sym, ap, subst, refl, Err, ◌<◌, ◌^◌, rules}
use Rattle.ub_tree.proofs.Common.{is_written, IsDropReady, IsHonest, IsRegion, IsRegionIn, IsRegionOf, IsRegionThere, IsRemovalFault, IsStored, JoinsAt}
use Rattle.ub_tree.proofs.Common.{placed_in, put_rows, region_count, regions, Spells, Store, tree_view, TreeFault, TreeView}
use Rattle.ub_tree.proofs.CallFacts.{last_small}
use Rattle.ub_tree.proofs.EffectFacts.{changes_by, ready_by}
use Rattle.ub_tree.proofs.JoinFacts.{alone_not_sound, index_failed, joined_at, joined_effect, joined_written}
use Rattle.ub_tree.proofs.LessenFacts.{alone_lessens, device_removal, fault_by, put_removal, then_lessens}
use Rattle.ub_tree.proofs.StandFacts.{joined_stand}
use Rattle.ub_store.specs.declared.fault.StoreFault.TheVariants as store
use Rattle.ub_tree.proofs.tree.Tree.join_at.Goals as goal

pub returns-then-self-eq1 : goal.returns-then-self-eq1
returns-then-self-eq1 g c = record {
  joined = search rules;
  written = search rules;
  alone = λ one. ap (λ (fault : TreeFault). Err fault) c.uncounted.ensures.fault;
  leaves = let a = c.args.self.now in
      let one : region_count a ≡ 1 = sym (ap (λ (v : TreeView). region_count v) c.self.view_is) ∙ c.if-self-eq1.true in
      rw c.uncounted.ensures.fault
      (alone_lessens a (alone_not_sound a c.args.region.now c.args.next.now one c.requires.there.told c.requires.ends) one);
}

pub returns-in_err-change : goal.returns-in_err-change
returns-in_err-change g c = record {
  joined = search rules;
  written = search rules;
  alone = λ one. absurd (c.if-self-eq1.false (ap (λ (v : TreeView). region_count v) c.self.view_is ∙ one));
  leaves = record {
    changes = ready_by c.from_residual.result c.in_err-change.field-0.0 c.args.self.now c.prepare_drop.new.self c.from_residual.ensures.1 c.in_err-change.ensures.effect;
    faults = fault_by c.from_residual.result c.in_err-change.field-0.0 (IsRemovalFault c.args.self.now) c.from_residual.ensures.1 c.in_err-change.ensures.faults;
    stays = λ was. ap (λ (v : TreeView). v.is_changed) c.in_err-change.ensures.effect.same ∙ was;
  };
}

pub returns-in_err-rewrite : goal.returns-in_err-rewrite
returns-in_err-rewrite g c = record {
  joined = search rules;
  written = search rules;
  alone = λ one. absurd (c.if-self-eq1.false (ap (λ (v : TreeView). region_count v) c.self.view_is ∙ one));
  leaves = let b = c.prepare_drop.new.self in
      let r = c.from_residual-in_err-rewrite.result in
      let same = c.in_ok-change.ensures.effect.same in
      let of = subst (λ (v : TreeView). IsRegionOf v c.args.region.now) (sym same) c.requires.there.told in
      then_lessens r c.args.self.now b c.rewrite.new.self same (record {
        changes = changes_by b c.rewrite.new.self c.args.region.now of r c.in_err-rewrite.field-0.0 c.from_residual-in_err-rewrite.ensures.1 c.in_err-rewrite.ensures.effect;
        faults = device_removal r b (fault_by r c.in_err-rewrite.field-0.0 (λ e. e ≡ Store store.Device) c.from_residual-in_err-rewrite.ensures.1 c.in_err-rewrite.ensures.faults);
        stays = c.rewrite.ensures.stays;
      });
}

pub returns-in_err-put_index : goal.returns-in_err-put_index
returns-in_err-put_index g c = record {
  joined = search rules;
  written = search rules;
  alone = λ one. absurd (c.if-self-eq1.false (ap (λ (v : TreeView). region_count v) c.self.view_is ∙ one));
  leaves = let b = c.prepare_drop.new.self in
      let span = c.args.region.now in
      let next = c.args.next.now in
      let change = c.in_ok-change.change in
      let same = c.in_ok-change.ensures.effect.same in
      let there = subst (λ (v : TreeView). IsRegionThere v span) (sym same) c.requires.there in
      let ready = subst (λ (v : TreeView). IsDropReady v next change) (sym same) c.in_ok-change.ensures.ready in
      then_lessens c.from_residual-in_err-put_index.result c.args.self.now b c.put_index.new.self same (record {
        changes = index_failed b c.rewrite.new.self c.put_index.new.self span next change there c.requires.ends ready c.in_ok-rewrite.ensures.same c.in_ok-rewrite.ensures.effect c.put_index.ensures.kept
            c.from_residual-in_err-put_index.result c.in_err-put_index.field-0.0 c.from_residual-in_err-put_index.ensures.1 c.put_index.ensures.marked c.in_err-put_index.ensures.stopped.0 c.in_err-put_index.ensures.stopped.1;
        faults = fault_by c.from_residual-in_err-put_index.result c.in_err-put_index.field-0.0 (IsRemovalFault b) c.from_residual-in_err-put_index.ensures.1
            (put_removal b change c.rewrite.new.self.store c.in_err-put_index.field-0.0 c.in_err-put_index.ensures.stopped.1);
        stays = λ _. c.put_index.ensures.marked ∙ ap (λ (v : TreeView). v.is_changed) c.in_ok-rewrite.ensures.same;
      });
}

pub returns : goal.returns
returns g c =
    let b = c.prepare_drop.new.self in
    let span = c.args.region.now in
    let next = c.args.next.now in
    let change = c.in_ok-change.change in
    let same = c.in_ok-change.ensures.effect.same in
    let there = subst (λ (v : TreeView). IsRegionThere v span) (sym same) c.requires.there in
    let ready = subst (λ (v : TreeView). IsDropReady v next change) (sym same) c.in_ok-change.ensures.ready in
    let u = c.self-2.inside in
    let d : TreeView = tree_view u.schema u.index (u.count - 1) u.next u.rows (is_written u.mark) u.is_failed u.pager in
    let is = ap (λ (v : TreeView). record v { inner = record v.inner { count = v.inner.count - 1 } }) c.self-2.view_is in
    let rows = c.args.page.now.region.rows in
    let good = subst (λ (v : TreeView). IsRegion v.schema (record { first = span.first; rows = rows })) (sym same) c.requires.region in
    record {
      joined = let some : 1 ≤ region_count b = subst (λ (v : TreeView). 1 ≤ region_count v) (c.self.view_is ∙ sym same) c.self.invariant.some in
          let small = subst (λ n. n < 2 ^ 128) (sym c.self.invariant.last_is) (last_small c.self.inside.schema.dims c.self.inside.schema.counts.few_dims) in
          let near = subst (λ (v : TreeView). v.inner.index.last < 2 ^ 128) (c.self.view_is ∙ sym same) small in
          let told = subst (λ (v : TreeView). IsRegionOf v next) (sym same) c.requires.told in
          let put : IsHonest b.store → Spells d span.page span.first rows = joined_stand b c.rewrite.new.self c.put_index.new.self d span change rows there near ready.spelled
          (λ honest. ap (λ (v : TreeView). v.store.honest) c.in_ok-rewrite.ensures.effect.frame ∙ honest) c.put_index.ensures.kept c.in_ok-rewrite.ensures.put
          (ap (λ (v : TreeView). v.store) is) (ap (λ (v : TreeView). v.schema) is ∙ ap (λ (v : TreeView). v.schema) c.in_ok-put_index.ensures.now) in
          subst (λ (v : TreeView). JoinsAt span rows v d) same
          (joined_at b c.rewrite.new.self c.put_index.new.self span next change there c.requires.ends ready c.in_ok-rewrite.ensures.same c.in_ok-rewrite.ensures.effect c.put_index.ensures.kept
          d c.in_ok-put_index.ensures.now is rows near good told c.in_ok-put_index.ensures.stand put some);
      written = λ i stored at at_next each.
          let a = c.args.self.now in
          let viewed : b.placed ≡ placed_in b.schema b.inner.index b.store = subst (λ (v : TreeView). v.placed ≡ placed_in v.schema v.inner.index v.store) (c.self.view_is ∙ sym same) refl in
          let stored_b = subst IsStored (sym same) stored in
          let at_b = subst (λ (v : TreeView). IsRegionIn v i span) (sym same) at in
          let at_next_b = subst (λ (v : TreeView). IsRegionIn v (i + 1) next) (sym same) at_next in
          subst (λ (v : TreeView). IsStored d × (regions d ≡ put_rows i true rows (regions v))) same
          (joined_written b c.rewrite.new.self c.put_index.new.self span next change there c.requires.ends ready c.in_ok-rewrite.ensures.same c.in_ok-rewrite.ensures.effect c.put_index.ensures.kept
          d c.in_ok-put_index.ensures.now is i rows viewed refl c.in_ok-put_index.ensures.works stored_b at_b at_next_b good (c.in_ok-rewrite.ensures.written i stored_b at_b) c.in_ok-put_index.ensures.stand);
      alone = λ one. absurd (c.if-self-eq1.false (ap (λ (v : TreeView). region_count v) c.self.view_is ∙ one));
      leaves = then_lessens (Ok tt) c.args.self.now b d same (record {
        changes = joined_effect b c.rewrite.new.self c.put_index.new.self span next change there c.requires.ends ready c.in_ok-rewrite.ensures.same c.in_ok-rewrite.ensures.effect c.put_index.ensures.kept
            d c.in_ok-put_index.ensures.now is tt c.in_ok-put_index.ensures.works;
        faults = tt;
        stays = λ _. ap (λ (v : TreeView). v.is_changed) is ∙ c.put_index.ensures.marked ∙ ap (λ (v : TreeView). v.is_changed) c.in_ok-rewrite.ensures.same;
      });
    }
