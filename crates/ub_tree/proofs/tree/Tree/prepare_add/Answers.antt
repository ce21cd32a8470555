use Rattle.std.proofs.Common.{◌<◌, ◌+◌, ◌^◌, List, Some, inr, subst, sym, arith}
use Rattle.ub_tree.proofs.Common.{added_at, Entry, if_err, index_fault, is_written, IsRegionAt, IsRoomFault, page_count, top, tree_view, TreeView}
use Rattle.ub_tree.proofs.CallFacts.{last_small, stored_on}
use Rattle.ub_tree.proofs.IndexedFacts.{reached_once}
use Rattle.ub_tree.proofs.ReadyFacts.{add_fault, all_spelled, change_room, not_ready, room_err, room_fault}
use Rattle.ub_tree.proofs.WayFacts.{spells}
use Rattle.ub_tree.proofs.tree.Tree.prepare_add.Goals as goal

pub returns-in_err-change-clause-led : goal.returns-in_err-change-clause-led
returns-in_err-change-clause-led g c =
    let t = c.self.inside in
    let small = subst (λ n. n < 2 ^ 128) (sym c.self.invariant.last_is) (last_small t.schema.dims t.schema.counts.few_dims) in
    rw (← c.self.view_is) (λ honest falls.
    room_err c.from_residual.result c.in_err-change.field-0.0 c.from_residual.ensures.1
    (change_room t.index t.pager.store c.args.region.now.first c.args.region.now small honest falls (added_at c.args.first.now t.pager.store) _ c.in_err-change.field-0.0 c.in_err-change.ensures.effect.faults))

pub returns-in_err-change-clause-effect : goal.returns-in_err-change-clause-effect
returns-in_err-change-clause-effect g c =
    let t = c.self.inside in
    let small = subst (λ n. n < 2 ^ 128) (sym c.self.invariant.last_is) (last_small t.schema.dims t.schema.counts.few_dims) in
    let old : TreeView = tree_view t.schema t.index t.count t.next t.rows (is_written t.mark) t.is_failed t.pager in
    rw (← c.self.view_is) (not_ready t.schema t.index t.count t.next t.rows (is_written t.mark) t.is_failed t.pager c.prepare_add.new.pager (Unit {0}) c.from_residual.result c.in_err-change.field-0.0 c.from_residual.ensures.1 c.in_err-change.ensures.effect.same
    (add_fault old c.args.region.now.first (added_at c.args.first.now t.pager.store) small c.root-root.ensures.high c.in_err-change.field-0.0 c.in_err-change.ensures.effect.faults))

pub returns-in_err-change-clause-short : goal.returns-in_err-change-clause-short
returns-in_err-change-clause-short g c =
    let t = c.self.inside in
    let old : TreeView = tree_view t.schema t.index t.count t.next t.rows (is_written t.mark) t.is_failed t.pager in
    rw (← c.self.view_is) (λ honest.
    if_err (IsRoomFault (Unit {0}) old c.args.region.now.first) c.from_residual.result (index_fault c.in_err-change.field-0.0) c.from_residual.ensures.1
    (room_fault old c.args.region.now.first (added_at c.args.first.now t.pager.store) c.in_err-change.field-0.0 honest c.in_err-change.ensures.effect.faults))

pub returns-clause-ready : goal.returns-clause-ready
returns-clause-ready g c =
    let t = c.self.inside in
    let old : TreeView = tree_view t.schema t.index t.count t.next t.rows (is_written t.mark) t.is_failed t.pager in
    rw (← c.self.view_is) (record {
      root = c.root-root.ensures.some;
      start = c.in_ok-change.ensures.few.start_is;
      some = c.in_ok-change.ensures.few.more;
      few = c.in_ok-change.ensures.few.few;
      needed = c.in_ok-change.ensures.takes;
      made = c.in_ok-change.ensures.made;
      spelled = λ honest.
          let (middle, told, turns, settles) = c.in_ok-change.ensures.made honest in
          all_spelled old (page_count t.pager.store + 1) (omega arith) (page_count t.pager.store) t.index.root t.index.levels middle c.in_ok-change.change
          (spells t.index.last t.pager.store.pages c.args.region.now.first (Some (added_at c.args.first.now t.pager.store)) t.index.levels (top t.index.root) _ _ middle told (omega arith) c.root-root.ensures.some turns) told (inr (omega arith)) settles;
      pages = λ honest falls within. c.in_ok-change.ensures.pages honest (falls.way honest) within;
      makes = λ i stored at within. c.in_ok-change.ensures.ready i (stored_on old stored) (reached_once t.index t.pager.store _ stored.placed_are.own)
          (subst (λ (es : List Entry). IsRegionAt es i c.args.region.now) (sym stored.indexed.entries_are) at) within;
      fills = λ i stored at within. c.in_ok-change.ensures.fills i (stored_on old stored) (reached_once t.index t.pager.store _ stored.placed_are.own)
          (subst (λ (es : List Entry). IsRegionAt es i c.args.region.now) (sym stored.indexed.entries_are) at) within;
    })
