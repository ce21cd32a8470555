use Rattle.std.proofs.Common.{◌≡◌, ◌≢◌, ◌∙◌, [], inl, inr, List, None, Some, Ok, Err, length, ap, refl, subst, sym}
use Rattle.std.proofs.lemmas.Bool.{MatchBool-at_false, MatchBool-at_true}
use Rattle.ub_exec.proofs.AskFacts.{begun_err, begun_ok, broke, came}
use Rattle.ub_exec.proofs.BreakFacts.{ready_begun}
use Rattle.ub_exec.proofs.ComeFacts.{HasComeOn-more, HasComeOn-none, swept_broken, swept_first, swept_full, swept_whole}
use Rattle.ub_exec.proofs.ExecFacts.{answers_err}
use Rattle.ub_exec.proofs.FirstFacts.{none_fetched}
use Rattle.ub_exec.proofs.GroupTurnFacts.{HasSweptGroups, HasSweptGroups-none, HaveSwept-more, broken_after_rows, broken_before_rows, ended_groups, filled_groups, one_width, shaped_joined, value_steps}
use Rattle.ub_exec.proofs.KeptFacts.{begins_reads}
use Rattle.ub_exec.proofs.NotedFacts.{notes_err, notes_none, notes_ok, notes_then, swept_err, traced_begun}
use Rattle.ub_exec.proofs.RefusedFacts.{memory_reads, no_answer}
use Rattle.ub_exec.proofs.SweptFacts.{begun_fetches, filled_is, left_is, noted_more, shaped_none}
use Rattle.ub_query.specs.Posed.{IsPosed}
use Rattle.ub_query.specs.Shape.{Asked, asked}
use Rattle.ub_query.specs.declared.cell.Cell.{Cell}
use Rattle.ub_table.specs.declared.schema.Schema.{Schema}
use Rattle.ub_tree.proofs.Laws.{Keeps-by, Keeps-more, begun_traced, reads_by, unchanged_trace}
use Rattle.ub_tree.specs.View.{TreeView}
use Rattle.ub_exec.specs.Answers.{begun}
use Rattle.ub_exec.specs.Calls.{ExecutesSwept}
use Rattle.ub_exec.proofs.grouping.first_groups.Goals as goal

pub loop-query-init : goal.loop-query-init
loop-query-init g c =
    let start = c.args.tree.now in
    let mid = c.new.new.tree in
    let sweep = c.in_ok-sweep.sweep in
    let is = begun_ok sweep start mid c.in_ok-sweep.ensures.effect in
    record {
      kept = Keeps-by start mid (begun_traced start mid is);
      works = (c.in_ok-sweep.ensures.started.working, c.in_ok-sweep.ensures.started.stretches);
      notes = notes_none (Ok tt) (begun start) mid (unchanged_trace (begun start) mid is);
      fetches = begun_fetches start mid is;
      shaped = shaped_none c.args.plan.now.asked c.none-groups.result c.none-groups.ensures;
      come_on = HasComeOn-none c.args.plan.now start mid sweep is c.in_ok-sweep.ensures.met;
      come = λ ready dim is_descending is some.
          subst (λ (cells : List (List Cell)). HasSweptGroups c.args.plan.now start mid dim is_descending sweep cells) (sym c.none-groups.ensures)
          (HasSweptGroups-none c.args.plan.now start mid dim is_descending sweep some
          (c.in_ok-sweep.ensures.begun dim is_descending (record { sound = ready.sound; planned = ready.planned; kind = is })));
    }

pub loop-query-smaller : goal.loop-query-smaller
loop-query-smaller g c =
    let turn = came _ _ c.args.plan.now _ c.loop-query.sweep c.next_value.new.self c.loop-query.tree c.next_value.new.tree c.loop-query.invariant.works
    c.in_ok-rows.ensures.gives c.in_ok-rows.ensures.once in
    let comes = rw c.in-Some.is at turn.comes in comes.fewer

pub loop-query-preserved : goal.loop-query-preserved
loop-query-preserved g c =
    let inv = c.loop-query.invariant in
    let start = c.args.tree.now in
    let t = c.loop-query.tree in
    let new = c.next_value.new.tree in
    let query = asked c.query-query.result.now in
    let plan = c.args.plan.now in
    let same : query ≡ plan.asked = c.query-query.ensures in
    let turn = came _ _ plan _ c.loop-query.sweep c.next_value.new.self t new inv.works c.in_ok-rows.ensures.gives c.in_ok-rows.ensures.once in
    let kept = Keeps-more _ _ _ inv.kept (Keeps-by t new turn.effect.same) in
    let traced = traced_begun start t inv.kept.traced in
    record {
      kept = kept;
      works = turn.works;
      notes = notes_then {A = Unit {0}} tt (Ok tt) (begun start) t new traced inv.notes (notes_ok _ tt t new turn.notes);
      fetches = noted_more (Ok _) start t new inv.fetches turn.notes;
      shaped = shaped_joined plan.asked query c.loop-query.groups c.in_ok-more.more c.extend.new.self same inv.shaped c.in_ok-more.ensures.shaped c.in_ok-extend.ensures;
      come_on = HasComeOn-more plan (begun start) t c.loop-query.sweep traced inv.come_on new _ c.next_value.new.self turn.comes;
      come = HaveSwept-more plan start t (length start.schema.columns) c.requires c.loop-query.sweep c.loop-query.groups inv.kept inv.come new c.next_value.new.self c.in-Some.rows.items kept
          (left_is query plan.asked c.len.result c.loop-query.groups same c.len.ensures (MatchBool-at_false _ _ c.loop-query-test.true c.is_filled.ensures))
          (value_steps _ plan c.loop-query.sweep c.next_value.new.self t new _ (Some c.in-Some.rows) c.in-Some.is c.in_ok-rows.ensures.gives)
          c.schema.result.now query c.as_slice.result.now c.schema.ensures same c.as_slice.ensures.value c.in_ok-more.more c.extend.new.self c.in_ok-more.ensures.meaning c.in_ok-extend.ensures;
    }

pub extend-requires : goal.extend-requires
extend-requires g c = record {
  wide = one_width (length c.args.tree.now.schema.columns) c.args.plan.now.asked (asked c.query-query.result.now) c.loop-query.groups c.in_ok-more.more c.requires c.query-query.ensures
      c.loop-query.invariant.shaped c.in_ok-more.ensures.shaped;
}

pub next_value-requires : goal.next_value-requires
next_value-requires g c =
    subst (λ (s : Schema). IsPosed (length s.columns) c.args.plan.now.asked) (sym c.loop-query.invariant.kept.regions.schema) c.requires

pub groups_of-requires : goal.groups_of-requires
groups_of-requires g c =
    let turn = came _ _ c.args.plan.now _ c.loop-query.sweep c.next_value.new.self c.loop-query.tree c.next_value.new.tree c.loop-query.invariant.works
    c.in_ok-rows.ensures.gives c.in_ok-rows.ensures.once in
    let kept = Keeps-more _ _ _ c.loop-query.invariant.kept (Keeps-by c.loop-query.tree c.next_value.new.tree turn.effect.same) in
    subst (λ (q : Asked). IsPosed (length c.schema.result.now.columns) q) (sym c.query-query.ensures)
    (subst (λ (s : Schema). IsPosed (length s.columns) c.args.plan.now.asked) (sym (c.schema.ensures ∙ kept.regions.schema)) c.requires)

-- the limit is filled
pub returns : goal.returns
returns g c =
    let inv = c.loop-query.invariant in
    let plan = c.args.plan.now in
    let start = c.args.tree.now in
    let full = filled_is (asked c.query-query.result.now) plan.asked c.len.result c.loop-query.groups c.query-query.ensures c.len.ensures (MatchBool-at_true _ _ c.loop-query-test.false c.is_filled.ensures) in
    subst (λ (cells : List (List Cell)). ExecutesSwept (plan.asked.group ≢ []) plan start c.loop-query.tree (Ok cells)) (sym c.of_cells-2.ensures) (
    record {
      done = λ ready kind of.
          let both = filled_groups plan start c.loop-query.tree (length start.schema.columns) c.requires c.loop-query.sweep c.loop-query.groups inv.kept inv.come ready kind of full inv.fetches in
          record { rows = both.1; fetches = record { pages = both.0; broken = tt } };
      shaped = inv.shaped;
      swept = λ dim is_descending of. swept_full plan (begun start) c.loop-query.tree c.loop-query.sweep inv.come_on dim is_descending of plan.asked.limit (length c.loop-query.groups) full;
      notes = notes_ok tt _ (begun start) c.loop-query.tree inv.notes;
      effect = record { same = inv.kept.traced; faults = tt };
    }
    )

-- no row is left
pub returns-in_default : goal.returns-in_default
returns-in_default g c =
    let inv = c.loop-query.invariant in
    let plan = c.args.plan.now in
    let start = c.args.tree.now in
    let t = c.loop-query.tree in
    let new = c.next_value.new.tree in
    let turn = came _ _ plan _ c.loop-query.sweep c.next_value.new.self t new inv.works c.in_ok-rows.ensures.gives c.in_ok-rows.ensures.once in
    let comes = turn.comes in
    let traced = traced_begun start t inv.kept.traced in
    let kept = Keeps-more _ _ _ inv.kept (Keeps-by t new turn.effect.same) in
    let left = left_is (asked c.query-query.result.now) plan.asked c.len.result c.loop-query.groups c.query-query.ensures c.len.ensures (MatchBool-at_false _ _ c.loop-query-test.true c.is_filled.ensures) in
    subst (λ (cells : List (List Cell)). ExecutesSwept (plan.asked.group ≢ []) plan start new (Ok cells)) (sym c.of_cells.ensures) (
    record {
      done = λ ready kind of.
          let both = ended_groups plan start t (length start.schema.columns) c.requires c.loop-query.sweep c.loop-query.groups inv.kept inv.come ready kind of left
          new c.next_value.new.self (noted_more (Ok _) start t new inv.fetches turn.notes) kept (value_steps _ plan c.loop-query.sweep c.next_value.new.self t new _ None c.in_default.is c.in_ok-rows.ensures.gives) in
          record { rows = both.1; fetches = record { pages = both.0; broken = tt } };
      shaped = inv.shaped;
      swept = λ dim is_descending of.
          swept_whole plan (begun start) new c.next_value.new.self (HasComeOn-more plan (begun start) t c.loop-query.sweep traced inv.come_on new _ c.next_value.new.self comes)
          dim is_descending of plan.asked.limit (length c.loop-query.groups) (comes.ended c.in_default.is);
      notes = notes_then {A = Unit {0}} tt (Ok _) (begun start) t new traced inv.notes (notes_ok _ _ t new turn.notes);
      effect = record { same = kept.traced; faults = tt };
    }
    )

pub returns-in_err-sweep : goal.returns-in_err-sweep
returns-in_err-sweep g c =
    let plan = c.args.plan.now in
    let start = c.args.tree.now in
    let new = c.new.new.tree in
    let is = c.from_residual.ensures.1 in
    let kept = begun_err _ start new c.in_err-sweep.ensures.effect in
    record {
      done = λ ready kind of. answers_err c.from_residual.result _ plan start (begun start) new (λ cells. cells) is (none_fetched plan (begun start) new (ready_begun start plan ready) kept);
      shaped = no_answer c.from_residual.result _ _ is;
      swept = swept_err (λ (rows : List (List Cell)). length rows) c.from_residual.result _ plan (begun start) new is (λ dim is_descending of. inl kept);
      notes = notes_none c.from_residual.result (begun start) new kept;
      effect = begins_reads c.from_residual.result _ start new is c.in_err-sweep.ensures.effect;
    }

-- asking for the next value was ended by a fault
pub returns-in_err-rows : goal.returns-in_err-rows
returns-in_err-rows g c =
    let inv = c.loop-query.invariant in
    let plan = c.args.plan.now in
    let start = c.args.tree.now in
    let t = c.loop-query.tree in
    let new = c.next_value.new.tree in
    let is = c.from_residual-in_err-rows.ensures.1 in
    let stop = broke _ plan _ _ c.loop-query.sweep c.next_value.new.self t new refl inv.works c.in_err-rows.ensures.gives.effect in
    let left = left_is (asked c.query-query.result.now) plan.asked c.len.result c.loop-query.groups c.query-query.ensures c.len.ensures (MatchBool-at_false _ _ c.loop-query-test.true c.is_filled.ensures) in
    record {
      done = λ ready kind of. answers_err c.from_residual-in_err-rows.result _ plan start (begun start) new (λ cells. cells) is
          (broken_before_rows plan start t (length start.schema.columns) c.requires c.loop-query.sweep c.loop-query.groups inv.kept inv.come ready kind of left
          new c.next_value.new.self (noted_more (Err _) start t new inv.fetches stop.notes) (ap (λ (t : TreeView). t.placed) stop.effect.same) c.in_err-rows.ensures.gives.broken);
      shaped = no_answer c.from_residual-in_err-rows.result _ _ is;
      swept = swept_err (λ (rows : List (List Cell)). length rows) c.from_residual-in_err-rows.result _ plan (begun start) new is
          (λ dim is_descending of.
          inr (swept_broken plan (begun start) t c.loop-query.sweep (traced_begun start t inv.kept.traced) inv.come_on new stop.breaks dim is_descending of));
      notes = notes_err c.from_residual-in_err-rows.result _ (Err _) (begun start) new is
          (notes_then {A = Unit {0}} tt (Err _) (begun start) t new (traced_begun start t inv.kept.traced) inv.notes stop.notes);
      effect = reads_by c.from_residual-in_err-rows.result _ start t new is inv.kept.traced stop.effect;
    }

-- memory was refused for the groups of a value
pub returns-in_err-more : goal.returns-in_err-more
returns-in_err-more g c =
    let inv = c.loop-query.invariant in
    let plan = c.args.plan.now in
    let start = c.args.tree.now in
    let t = c.loop-query.tree in
    let new = c.next_value.new.tree in
    let is = c.from_residual-in_err-more.ensures.1 in
    let turn = came _ _ plan _ c.loop-query.sweep c.next_value.new.self t new inv.works c.in_ok-rows.ensures.gives c.in_ok-rows.ensures.once in
    let traced = traced_begun start t inv.kept.traced in
    let kept = Keeps-more _ _ _ inv.kept (Keeps-by t new turn.effect.same) in
    let left = left_is (asked c.query-query.result.now) plan.asked c.len.result c.loop-query.groups c.query-query.ensures c.len.ensures (MatchBool-at_false _ _ c.loop-query-test.true c.is_filled.ensures) in
    record {
      done = λ ready kind of. answers_err c.from_residual-in_err-more.result _ plan start (begun start) new (λ cells. cells) is
          (broken_after_rows plan start t (length start.schema.columns) c.requires c.loop-query.sweep c.loop-query.groups inv.kept inv.come ready kind of left
          new c.next_value.new.self (noted_more (Ok _) start t new inv.fetches turn.notes) c.in-Some.rows.items kept
          (value_steps _ plan c.loop-query.sweep c.next_value.new.self t new _ (Some c.in-Some.rows) c.in-Some.is c.in_ok-rows.ensures.gives));
      shaped = no_answer c.from_residual-in_err-more.result _ _ is;
      swept = swept_err (λ (rows : List (List Cell)). length rows) c.from_residual-in_err-more.result _ plan (begun start) new is
          (λ dim is_descending of. inr (swept_first plan (begun start) new c.next_value.new.self
          (HasComeOn-more plan (begun start) t c.loop-query.sweep traced inv.come_on new _ c.next_value.new.self turn.comes) dim is_descending of));
      notes = notes_err {B = Unit {0}} c.from_residual-in_err-more.result _ (Ok tt) (begun start) new is
          (notes_then {A = Unit {0}} tt (Ok tt) (begun start) t new traced inv.notes (notes_ok _ tt t new turn.notes));
      effect = memory_reads c.from_residual-in_err-more.result start new is kept.traced;
    }

-- or for putting them in
pub returns-in_err-extend : goal.returns-in_err-extend
returns-in_err-extend g c =
    let inv = c.loop-query.invariant in
    let plan = c.args.plan.now in
    let start = c.args.tree.now in
    let t = c.loop-query.tree in
    let new = c.next_value.new.tree in
    let is = c.from_residual-in_err-extend.ensures.1 in
    let turn = came _ _ plan _ c.loop-query.sweep c.next_value.new.self t new inv.works c.in_ok-rows.ensures.gives c.in_ok-rows.ensures.once in
    let traced = traced_begun start t inv.kept.traced in
    let kept = Keeps-more _ _ _ inv.kept (Keeps-by t new turn.effect.same) in
    let left = left_is (asked c.query-query.result.now) plan.asked c.len.result c.loop-query.groups c.query-query.ensures c.len.ensures (MatchBool-at_false _ _ c.loop-query-test.true c.is_filled.ensures) in
    record {
      done = λ ready kind of. answers_err c.from_residual-in_err-extend.result _ plan start (begun start) new (λ cells. cells) is
          (broken_after_rows plan start t (length start.schema.columns) c.requires c.loop-query.sweep c.loop-query.groups inv.kept inv.come ready kind of left
          new c.next_value.new.self (noted_more (Ok _) start t new inv.fetches turn.notes) c.in-Some.rows.items kept
          (value_steps _ plan c.loop-query.sweep c.next_value.new.self t new _ (Some c.in-Some.rows) c.in-Some.is c.in_ok-rows.ensures.gives));
      shaped = no_answer c.from_residual-in_err-extend.result _ _ is;
      swept = swept_err (λ (rows : List (List Cell)). length rows) c.from_residual-in_err-extend.result _ plan (begun start) new is
          (λ dim is_descending of. inr (swept_first plan (begun start) new c.next_value.new.self
          (HasComeOn-more plan (begun start) t c.loop-query.sweep traced inv.come_on new _ c.next_value.new.self turn.comes) dim is_descending of));
      notes = notes_err {B = Unit {0}} c.from_residual-in_err-extend.result _ (Ok tt) (begun start) new is
          (notes_then {A = Unit {0}} tt (Ok tt) (begun start) t new traced inv.notes (notes_ok _ tt t new turn.notes));
      effect = memory_reads c.from_residual-in_err-extend.result start new is kept.traced;
    }
