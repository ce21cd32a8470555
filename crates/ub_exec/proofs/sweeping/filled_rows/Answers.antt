use Rattle.std.proofs.Common.{◌∙◌, List, Ok, Err, length, refl, ap, arith, subst, sym}
use Rattle.std.proofs.lemmas.Bool.{MatchBool-at_false, MatchBool-at_true}
use Rattle.ub_exec.proofs.AskFacts.{broke, came}
use Rattle.ub_exec.proofs.FillFacts.{HasFilled-none, HasFilled-more, broken_asking, broken_putting, comes_down, filled_by, fills_ended, fills_full, held, left_by, lines_more, notes_after, notes_broken, posed_as, reads_after, result_is, swept_asking, swept_ended, swept_filled, swept_putting}
use Rattle.ub_exec.proofs.FirstFacts.{on_err}
use Rattle.ub_exec.proofs.NotedFacts.{notes_err, notes_ok}
use Rattle.ub_exec.proofs.RefusedFacts.{memory_reads, no_answer}
use Rattle.ub_exec.specs.Reading.{ReadsSwept}
use Rattle.ub_exec.specs.Sweeping.{Fills}
use Rattle.ub_query.specs.Posed.{IsPosed}
use Rattle.ub_query.specs.Shape.{asked}
use Rattle.ub_query.specs.declared.cell.Cell.{Cell}
use Rattle.ub_table.specs.declared.schema.Schema.{Schema}
use Rattle.ub_tree.proofs.Laws.{Keeps-by, Keeps-more, reads_by}
use Rattle.ub_exec.proofs.sweeping.filled_rows.Goals as goal

pub loop-sweep-init : goal.loop-sweep-init
loop-sweep-init g c = record {
  filled = HasFilled-none c.args.plan.now c.args.tree.now c.args.sweep.now _ c.requires.begun (ap (held c.args.plan.now c.args.tree.now) c.new-rows.ensures.items);
}

pub next-requires : goal.next-requires
next-requires g c =
    subst (λ (schema : Schema). IsPosed (length schema.columns) c.args.plan.now.asked) (sym c.loop-sweep.invariant.filled.kept.regions.schema) c.requires.posed

pub loop-sweep-preserved : goal.loop-sweep-preserved
loop-sweep-preserved g c =
    let turn = came _ _ c.args.plan.now c.in-Ok-Some.field-0 c.loop-sweep.sweep c.next.new.self c.loop-sweep.tree c.next.new.tree c.loop-sweep.invariant.filled.works
    c.in-Ok-Some.ensures.gives c.in-Ok-Some.ensures.once in
    let kept = Keeps-more _ _ _ c.loop-sweep.invariant.filled.kept (Keeps-by c.loop-sweep.tree c.next.new.tree turn.effect.same) in
    record {
      filled = HasFilled-more c.args.plan.now c.args.tree.now c.loop-sweep.tree c.args.sweep.now c.loop-sweep.sweep (held c.args.plan.now c.args.tree.now c.loop-sweep.rows.items) c.requires.begun.fresh c.loop-sweep.invariant.filled
          (left_by (asked c.query-query.result.now) c.args.plan.now c.args.tree.now c.len.result c.loop-sweep.rows.items c.query-query.ensures (omega (arith, c.len.ensures, c.loop-sweep.rows.ok.0)) (MatchBool-at_false _ _ c.loop-sweep-test.true c.is_filled.ensures))
          c.next.new.tree c.next.new.self c.in-Ok-Some.field-0 turn.notes turn.effect
          c.in-Ok-Some.ensures.gives.next turn.comes c.in-Ok-Some.row c.in-Ok-Some.field-0-is _
          (lines_more c.args.tree.now.schema c.next.new.tree.schema c.args.plan.now.asked.items c.loop-sweep.rows.items c.hold_row.new.rows.items c.in-Ok-Some.row c.in_ok-hold_row-in-Ok-Some.ensures kept.regions.schema)
          turn.works;
    }

pub loop-sweep-smaller : goal.loop-sweep-smaller
loop-sweep-smaller g c =
    let turn = came _ _ c.args.plan.now c.in-Ok-Some.field-0 c.loop-sweep.sweep c.next.new.self c.loop-sweep.tree c.next.new.tree c.loop-sweep.invariant.filled.works
    c.in-Ok-Some.ensures.gives c.in-Ok-Some.ensures.once in
    comes_down c.args.plan.now c.args.tree.now c.loop-sweep.tree c.args.sweep.now c.loop-sweep.sweep (held c.args.plan.now c.args.tree.now c.loop-sweep.rows.items) c.requires.begun.fresh c.loop-sweep.invariant.filled
    (left_by (asked c.query-query.result.now) c.args.plan.now c.args.tree.now c.len.result c.loop-sweep.rows.items c.query-query.ensures (omega (arith, c.len.ensures, c.loop-sweep.rows.ok.0)) (MatchBool-at_false _ _ c.loop-sweep-test.true c.is_filled.ensures))
    c.next.new.tree c.next.new.self c.in-Ok-Some.field-0 turn.notes turn.effect c.in-Ok-Some.ensures.gives.next turn.comes c.in-Ok-Some.row c.in-Ok-Some.field-0-is

pub returns-in_err-hold_row-in-Ok-Some-clause-broken : goal.returns-in_err-hold_row-in-Ok-Some-clause-broken
returns-in_err-hold_row-in-Ok-Some-clause-broken g c begins plain =
    let turn = came _ _ c.args.plan.now c.in-Ok-Some.field-0 c.loop-sweep.sweep c.next.new.self c.loop-sweep.tree c.next.new.tree c.loop-sweep.invariant.filled.works
    c.in-Ok-Some.ensures.gives c.in-Ok-Some.ensures.once in
    on_err c.from_residual.result _
    (broken_putting c.args.plan.now c.args.tree.now c.loop-sweep.tree c.args.sweep.now c.loop-sweep.sweep (held c.args.plan.now c.args.tree.now c.loop-sweep.rows.items) c.requires.begun.fresh c.loop-sweep.invariant.filled
    (left_by (asked c.query-query.result.now) c.args.plan.now c.args.tree.now c.len.result c.loop-sweep.rows.items c.query-query.ensures (omega (arith, c.len.ensures, c.loop-sweep.rows.ok.0)) (MatchBool-at_false _ _ c.loop-sweep-test.true c.is_filled.ensures))
    c.next.new.tree c.next.new.self c.in-Ok-Some.field-0 turn.notes turn.effect c.in-Ok-Some.ensures.gives.next turn.comes c.in-Ok-Some.row c.in-Ok-Some.field-0-is begins plain)

pub returns-in_err-hold_row-in-Ok-Some-clause-effect : goal.returns-in_err-hold_row-in-Ok-Some-clause-effect
returns-in_err-hold_row-in-Ok-Some-clause-effect g c =
    let turn = came _ _ c.args.plan.now c.in-Ok-Some.field-0 c.loop-sweep.sweep c.next.new.self c.loop-sweep.tree c.next.new.tree c.loop-sweep.invariant.filled.works
    c.in-Ok-Some.ensures.gives c.in-Ok-Some.ensures.once in
    record {
      notes =
          notes_err {B = Unit {0}} c.from_residual.result _ (Ok tt) c.args.tree.now c.next.new.tree c.from_residual.ensures.1
          (notes_after c.args.plan.now c.args.tree.now c.loop-sweep.tree c.args.sweep.now c.loop-sweep.sweep (held c.args.plan.now c.args.tree.now c.loop-sweep.rows.items) c.requires.begun.fresh c.loop-sweep.invariant.filled
          (left_by (asked c.query-query.result.now) c.args.plan.now c.args.tree.now c.len.result c.loop-sweep.rows.items c.query-query.ensures (omega (arith, c.len.ensures, c.loop-sweep.rows.ok.0)) (MatchBool-at_false _ _ c.loop-sweep-test.true c.is_filled.ensures))
          c.next.new.tree c.next.new.self c.in-Ok-Some.field-0 turn.notes turn.effect tt);
      reads =
          memory_reads c.from_residual.result c.args.tree.now c.next.new.tree c.from_residual.ensures.1
          (Keeps-more _ _ _ c.loop-sweep.invariant.filled.kept (Keeps-by c.loop-sweep.tree c.next.new.tree turn.effect.same)).traced;
    }

pub returns-in-Ok-None-clause-fills : goal.returns-in-Ok-None-clause-fills
returns-in-Ok-None-clause-fills g c =
    let turn = came _ _ c.args.plan.now c.in-Ok-None.field-0 c.loop-sweep.sweep c.next.new.self c.loop-sweep.tree c.next.new.tree c.loop-sweep.invariant.filled.works
    c.in-Ok-None.ensures.gives c.in-Ok-None.ensures.once in
    let kept = Keeps-more _ _ _ c.loop-sweep.invariant.filled.kept (Keeps-by c.loop-sweep.tree c.next.new.tree turn.effect.same) in
    let is = result_is c.result_of.result c.args.tree.now.schema c.schema.result.now c.args.plan.now.asked (asked c.query-query.result.now) c.loop-sweep.rows.items c.result_of.ensures
    (c.schema.ensures ∙ kept.regions.schema) c.query-query.ensures in
    subst (λ (cells : List (List Cell)). Fills c.args.plan.now c.args.tree.now c.next.new.tree c.args.sweep.now cells) (sym is)
    (fills_ended c.args.plan.now c.args.tree.now c.loop-sweep.tree c.args.sweep.now c.loop-sweep.sweep (held c.args.plan.now c.args.tree.now c.loop-sweep.rows.items) c.requires.begun.fresh c.loop-sweep.invariant.filled
    (left_by (asked c.query-query.result.now) c.args.plan.now c.args.tree.now c.len.result c.loop-sweep.rows.items c.query-query.ensures (omega (arith, c.len.ensures, c.loop-sweep.rows.ok.0)) (MatchBool-at_false _ _ c.loop-sweep-test.true c.is_filled.ensures))
    c.next.new.tree c.next.new.self c.in-Ok-None.field-0 turn.notes turn.effect c.in-Ok-None.ensures.gives.next turn.comes c.in-Ok-None.field-0-is)

pub returns-in-Ok-None-clause-effect : goal.returns-in-Ok-None-clause-effect
returns-in-Ok-None-clause-effect g c =
    let turn = came _ _ c.args.plan.now c.in-Ok-None.field-0 c.loop-sweep.sweep c.next.new.self c.loop-sweep.tree c.next.new.tree c.loop-sweep.invariant.filled.works
    c.in-Ok-None.ensures.gives c.in-Ok-None.ensures.once in
    record {
      notes =
          notes_after c.args.plan.now c.args.tree.now c.loop-sweep.tree c.args.sweep.now c.loop-sweep.sweep (held c.args.plan.now c.args.tree.now c.loop-sweep.rows.items) c.requires.begun.fresh c.loop-sweep.invariant.filled
          (left_by (asked c.query-query.result.now) c.args.plan.now c.args.tree.now c.len.result c.loop-sweep.rows.items c.query-query.ensures (omega (arith, c.len.ensures, c.loop-sweep.rows.ok.0)) (MatchBool-at_false _ _ c.loop-sweep-test.true c.is_filled.ensures))
          c.next.new.tree c.next.new.self c.in-Ok-None.field-0 turn.notes turn.effect _;
      reads =
          reads_after c.args.plan.now c.args.tree.now c.loop-sweep.tree c.args.sweep.now c.loop-sweep.sweep (held c.args.plan.now c.args.tree.now c.loop-sweep.rows.items) c.requires.begun.fresh c.loop-sweep.invariant.filled
          (left_by (asked c.query-query.result.now) c.args.plan.now c.args.tree.now c.len.result c.loop-sweep.rows.items c.query-query.ensures (omega (arith, c.len.ensures, c.loop-sweep.rows.ok.0)) (MatchBool-at_false _ _ c.loop-sweep-test.true c.is_filled.ensures))
          c.next.new.tree c.next.new.self c.in-Ok-None.field-0 turn.notes turn.effect _;
    }

pub returns-in-Err-clause-broken : goal.returns-in-Err-clause-broken
returns-in-Err-clause-broken g c =
    let stop = broke _ c.args.plan.now c.in-Err.fault c.from.result c.loop-sweep.sweep c.next.new.self c.loop-sweep.tree c.next.new.tree c.from.ensures c.loop-sweep.invariant.filled.works c.in-Err.ensures.gives.effect in
    broken_asking c.args.plan.now c.args.tree.now c.loop-sweep.tree c.args.sweep.now c.loop-sweep.sweep (held c.args.plan.now c.args.tree.now c.loop-sweep.rows.items) c.requires.begun.fresh c.loop-sweep.invariant.filled
    (left_by (asked c.query-query.result.now) c.args.plan.now c.args.tree.now c.len.result c.loop-sweep.rows.items c.query-query.ensures (omega (arith, c.len.ensures, c.loop-sweep.rows.ok.0)) (MatchBool-at_false _ _ c.loop-sweep-test.true c.is_filled.ensures))
    c.next.new.tree c.next.new.self c.from.result stop.notes stop.effect c.in-Err.ensures.gives.broken

pub returns-in-Err-clause-effect : goal.returns-in-Err-clause-effect
returns-in-Err-clause-effect g c =
    let stop = broke _ c.args.plan.now c.in-Err.fault c.from.result c.loop-sweep.sweep c.next.new.self c.loop-sweep.tree c.next.new.tree c.from.ensures c.loop-sweep.invariant.filled.works c.in-Err.ensures.gives.effect in
    record {
      notes =
          notes_broken c.args.plan.now c.args.tree.now c.loop-sweep.tree c.args.sweep.now c.loop-sweep.sweep (held c.args.plan.now c.args.tree.now c.loop-sweep.rows.items) c.requires.begun.fresh c.loop-sweep.invariant.filled
          (left_by (asked c.query-query.result.now) c.args.plan.now c.args.tree.now c.len.result c.loop-sweep.rows.items c.query-query.ensures (omega (arith, c.len.ensures, c.loop-sweep.rows.ok.0)) (MatchBool-at_false _ _ c.loop-sweep-test.true c.is_filled.ensures))
          c.next.new.tree c.next.new.self c.from.result stop.notes;
      reads = reads_by (Err c.from.result) c.from.result c.args.tree.now c.loop-sweep.tree c.next.new.tree refl c.loop-sweep.invariant.filled.kept.traced stop.effect;
    }

pub returns-clause-fills : goal.returns-clause-fills
returns-clause-fills g c =
    let is = result_is c.result_of-2.result c.args.tree.now.schema c.schema-2.result.now c.args.plan.now.asked (asked c.query-query.result.now) c.loop-sweep.rows.items c.result_of-2.ensures
    (c.schema-2.ensures ∙ c.loop-sweep.invariant.filled.kept.regions.schema) c.query-query.ensures in
    subst (λ (cells : List (List Cell)). Fills c.args.plan.now c.args.tree.now c.loop-sweep.tree c.args.sweep.now cells) (sym is)
    (fills_full c.args.plan.now c.args.tree.now c.loop-sweep.tree c.args.sweep.now c.loop-sweep.sweep (held c.args.plan.now c.args.tree.now c.loop-sweep.rows.items) c.requires.begun.fresh c.loop-sweep.invariant.filled
    (filled_by (asked c.query-query.result.now) c.args.plan.now c.args.tree.now c.len.result c.loop-sweep.rows.items c.query-query.ensures (omega (arith, c.len.ensures, c.loop-sweep.rows.ok.0)) (MatchBool-at_true _ _ c.loop-sweep-test.false c.is_filled.ensures)))

pub returns-clause-effect : goal.returns-clause-effect
returns-clause-effect g c = record {
  notes = notes_ok tt _ c.args.tree.now c.loop-sweep.tree c.loop-sweep.invariant.filled.notes;
  reads = record { same = c.loop-sweep.invariant.filled.kept.traced; faults = tt };
}

pub returns-in_err-hold_row-in-Ok-Some-clause-fills : goal.returns-in_err-hold_row-in-Ok-Some-clause-fills
returns-in_err-hold_row-in-Ok-Some-clause-fills g c = no_answer c.from_residual.result _ _ c.from_residual.ensures.1

pub returns-in_err-hold_row-in-Ok-Some-clause-swept : goal.returns-in_err-hold_row-in-Ok-Some-clause-swept
returns-in_err-hold_row-in-Ok-Some-clause-swept g c =
    let turn = came _ _ c.args.plan.now c.in-Ok-Some.field-0 c.loop-sweep.sweep c.next.new.self c.loop-sweep.tree c.next.new.tree c.loop-sweep.invariant.filled.works
    c.in-Ok-Some.ensures.gives c.in-Ok-Some.ensures.once in
    swept_putting c.args.plan.now c.args.tree.now c.loop-sweep.tree c.args.sweep.now c.loop-sweep.sweep (held c.args.plan.now c.args.tree.now c.loop-sweep.rows.items) c.requires.begun.fresh c.loop-sweep.invariant.filled
    (left_by (asked c.query-query.result.now) c.args.plan.now c.args.tree.now c.len.result c.loop-sweep.rows.items c.query-query.ensures (omega (arith, c.len.ensures, c.loop-sweep.rows.ok.0)) (MatchBool-at_false _ _ c.loop-sweep-test.true c.is_filled.ensures))
    c.next.new.tree c.next.new.self c.in-Ok-Some.field-0 turn.notes turn.effect c.in-Ok-Some.ensures.gives.next turn.comes c.from_residual.result _ c.from_residual.ensures.1

pub returns-in-Ok-None-clause-swept : goal.returns-in-Ok-None-clause-swept
returns-in-Ok-None-clause-swept g c =
    let turn = came _ _ c.args.plan.now c.in-Ok-None.field-0 c.loop-sweep.sweep c.next.new.self c.loop-sweep.tree c.next.new.tree c.loop-sweep.invariant.filled.works
    c.in-Ok-None.ensures.gives c.in-Ok-None.ensures.once in
    let kept = Keeps-more _ _ _ c.loop-sweep.invariant.filled.kept (Keeps-by c.loop-sweep.tree c.next.new.tree turn.effect.same) in
    let is = result_is c.result_of.result c.args.tree.now.schema c.schema.result.now c.args.plan.now.asked (asked c.query-query.result.now) c.loop-sweep.rows.items c.result_of.ensures
    (c.schema.ensures ∙ kept.regions.schema) c.query-query.ensures in
    subst (λ (cells : List (List Cell)). ReadsSwept c.args.plan.now c.args.tree.now c.next.new.tree (λ (rows : List (List Cell)). length rows) (Ok cells)) (sym is)
    (swept_ended c.args.plan.now c.args.tree.now c.loop-sweep.tree c.args.sweep.now c.loop-sweep.sweep (held c.args.plan.now c.args.tree.now c.loop-sweep.rows.items) c.requires.begun.fresh c.loop-sweep.invariant.filled
    (left_by (asked c.query-query.result.now) c.args.plan.now c.args.tree.now c.len.result c.loop-sweep.rows.items c.query-query.ensures (omega (arith, c.len.ensures, c.loop-sweep.rows.ok.0)) (MatchBool-at_false _ _ c.loop-sweep-test.true c.is_filled.ensures))
    c.next.new.tree c.next.new.self c.in-Ok-None.field-0 turn.notes turn.effect c.in-Ok-None.ensures.gives.next turn.comes c.in-Ok-None.field-0-is)

pub returns-in-Err-clause-swept : goal.returns-in-Err-clause-swept
returns-in-Err-clause-swept g c =
    let stop = broke _ c.args.plan.now c.in-Err.fault c.from.result c.loop-sweep.sweep c.next.new.self c.loop-sweep.tree c.next.new.tree c.from.ensures c.loop-sweep.invariant.filled.works c.in-Err.ensures.gives.effect in
    swept_asking c.args.plan.now c.args.tree.now c.loop-sweep.tree c.args.sweep.now c.loop-sweep.sweep (held c.args.plan.now c.args.tree.now c.loop-sweep.rows.items) c.requires.begun.fresh c.loop-sweep.invariant.filled
    (left_by (asked c.query-query.result.now) c.args.plan.now c.args.tree.now c.len.result c.loop-sweep.rows.items c.query-query.ensures (omega (arith, c.len.ensures, c.loop-sweep.rows.ok.0)) (MatchBool-at_false _ _ c.loop-sweep-test.true c.is_filled.ensures))
    c.next.new.tree c.next.new.self c.from.result stop.breaks

pub returns-clause-swept : goal.returns-clause-swept
returns-clause-swept g c =
    let is = result_is c.result_of-2.result c.args.tree.now.schema c.schema-2.result.now c.args.plan.now.asked (asked c.query-query.result.now) c.loop-sweep.rows.items c.result_of-2.ensures
    (c.schema-2.ensures ∙ c.loop-sweep.invariant.filled.kept.regions.schema) c.query-query.ensures in
    subst (λ (cells : List (List Cell)). ReadsSwept c.args.plan.now c.args.tree.now c.loop-sweep.tree (λ (rows : List (List Cell)). length rows) (Ok cells)) (sym is)
    (swept_filled c.args.plan.now c.args.tree.now c.loop-sweep.tree c.args.sweep.now c.loop-sweep.sweep (held c.args.plan.now c.args.tree.now c.loop-sweep.rows.items) c.requires.begun.fresh c.loop-sweep.invariant.filled
    (filled_by (asked c.query-query.result.now) c.args.plan.now c.args.tree.now c.len.result c.loop-sweep.rows.items c.query-query.ensures (omega (arith, c.len.ensures, c.loop-sweep.rows.ok.0)) (MatchBool-at_true _ _ c.loop-sweep-test.false c.is_filled.ensures)))

pub result_of-requires : goal.result_of-requires
result_of-requires g c =
    let turn = came _ _ c.args.plan.now c.in-Ok-None.field-0 c.loop-sweep.sweep c.next.new.self c.loop-sweep.tree c.next.new.tree c.loop-sweep.invariant.filled.works
    c.in-Ok-None.ensures.gives c.in-Ok-None.ensures.once in
    let kept = Keeps-more _ _ _ c.loop-sweep.invariant.filled.kept (Keeps-by c.loop-sweep.tree c.next.new.tree turn.effect.same) in
    posed_as c.args.tree.now.schema c.schema.result.now c.args.plan.now.asked (asked c.query-query.result.now) (c.schema.ensures ∙ kept.regions.schema) c.query-query.ensures c.requires.posed

pub result_of-requires-2 : goal.result_of-requires-2
result_of-requires-2 g c =
    posed_as c.args.tree.now.schema c.schema-2.result.now c.args.plan.now.asked (asked c.query-query.result.now) (c.schema-2.ensures ∙ c.loop-sweep.invariant.filled.kept.regions.schema)
    c.query-query.ensures c.requires.posed

pub returns-in-Ok-None-clause-broken : goal.returns-in-Ok-None-clause-broken
returns-in-Ok-None-clause-broken g c begins plain =
    tt

pub returns-in-Err-clause-fills : goal.returns-in-Err-clause-fills
returns-in-Err-clause-fills g c =
    tt

pub returns-clause-broken : goal.returns-clause-broken
returns-clause-broken g c begins plain =
    tt
