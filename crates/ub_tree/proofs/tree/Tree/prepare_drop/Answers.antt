use Rattle.std.proofs.Common.{◌≢◌, ◌<◌, ◌^◌, List, map, subst, sym, arith}
use Rattle.ub_tree.proofs.Common.{Entry, entry_of, first_keys, index_holding, is_written, IsDropFault, IsRegionAt, IsRegionOf, page_count, region_count}
use Rattle.ub_tree.proofs.Common.{roots_taken, tree_view, TreeView}
use Rattle.ub_tree.proofs.CallFacts.{last_small, stored_on}
use Rattle.ub_tree.proofs.IndexedFacts.{reached_once, at_of_key, sound_index}
use Rattle.ub_tree.proofs.JoinFacts.{drop_removal}
use Rattle.ub_tree.proofs.ReadyFacts.{drop_fault, drop_spelled, not_ready}
use Rattle.ub_tree.proofs.tree.Tree.prepare_drop.Goals as goal

pub returns-clause-ready : goal.returns-clause-ready
returns-clause-ready g c =
    let t = c.self.inside in
    let old : TreeView = tree_view t.schema t.index t.count t.next t.rows (is_written t.mark) t.is_failed t.pager in
    rw (← c.self.view_is) (record {
      bounds = (c.root-root.ensures.some, c.root-root.ensures.low, (let fits = c.pages-pages.type_inv in let same = c.pages-pages.ensures in omega arith));
      made = λ honest. c.in_ok-change.ensures.made honest;
      spelled = λ honest. drop_spelled old c.args.region.now.first c.in_ok-change.change c.root-root.ensures.some (c.in_ok-change.ensures.made honest);
      next = c.in_ok-change.ensures.next;
      pages = λ honest. c.in_ok-change.ensures.pages honest;
      makes = λ i stored at behind. c.in_ok-change.ensures.ready i (stored_on old stored) (reached_once t.index t.pager.store _ stored.placed_are.own)
          (subst (λ (es : List Entry). IsRegionAt es i c.args.region.now) (sym stored.indexed.entries_are) at) behind;
    })

pub returns-in_err-change-clause-effect : goal.returns-in_err-change-clause-effect
returns-in_err-change-clause-effect g c =
    let t = c.self.inside in
    let span = c.args.region.now in
    let small = subst (λ n. n < 2 ^ 128) (sym c.self.invariant.last_is) (last_small t.schema.dims t.schema.counts.few_dims) in
    let few : page_count t.pager.store < 2 ^ 32 = (let fits = c.pages-pages.type_inv in let same = c.pages-pages.ensures in omega arith) in
    let old : TreeView = tree_view t.schema t.index t.count t.next t.rows (is_written t.mark) t.is_failed t.pager in
    let told : IsRegionOf old span = subst (λ (v : TreeView). IsRegionOf v span) (sym c.self.view_is) c.requires.told in
    let more : region_count old ≢ 1 = subst (λ (v : TreeView). region_count v ≢ 1) (sym c.self.view_is) c.requires.more in
    let i = index_holding told.key (first_keys (map entry_of old.placed)) in
    rw (← c.self.view_is)
    (not_ready t.schema t.index t.count t.next t.rows (is_written t.mark) t.is_failed t.pager c.prepare_drop.new.pager (Unit {0}) c.from_residual.result c.in_err-change.field-0.0
    c.from_residual.ensures.1 c.in_err-change.ensures.effect.same
    (drop_fault old span.first small more
    (λ sound first n fault prepared. roots_taken t.index t.pager.store i span first n fault small c.root-root.ensures.high few (sound_index old sound) (reached_once t.index t.pager.store _ sound.placed_are.own)
    (subst (λ (es : List Entry). IsRegionAt es i span) (sym sound.indexed.entries_are) (at_of_key old sound told.key span told.falls)) c.requires.behind prepared)
    c.in_err-change.field-0.0 c.in_err-change.ensures.effect.faults))

pub returns-in_err-change-clause-faults : goal.returns-in_err-change-clause-faults
returns-in_err-change-clause-faults g c =
    let e = c.in_err-change.field-0.0 in
    drop_removal c.args.self.now c.args.region.now.first c.from_residual.result e c.from_residual.ensures.1
    (subst (λ (v : TreeView). IsDropFault v.inner.index v.store c.args.region.now.first e) c.self.view_is c.in_err-change.ensures.effect.faults)
