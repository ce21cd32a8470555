use Rattle.std.proofs.Common.{◌++◌, List, [], None, Ok, Err, Some, length, refl, sym, subst}
use Rattle.std.proofs.lemmas.List.{append-nil}
use Rattle.std.specs.List.{filter}
use Rattle.ub_exec.proofs.AheadFacts.{ahead_before, ahead_still, told_still}
use Rattle.ub_exec.proofs.FirstFacts.{on_err, turned_first}
use Rattle.ub_tree.proofs.Laws.{Keeps-by, Keeps-more, Keeps-none, next_is_later, reads_by, reads_then, traced_told}
use Rattle.ub_exec.proofs.NotedFacts.{HasReadUpTo-none, come_down, come_notes, come_on, notes_err, notes_ok, notes_then, whole_by}
use Rattle.ub_exec.proofs.RefusedFacts.{no_result}
use Rattle.ub_exec.proofs.RowsReadFacts.{HasRowsUpTo-none, rows_on, rows_whole}
use Rattle.ub_exec.proofs.WalkFacts.{HasCome-none, ended_by, turned_to, handed_more}
use Rattle.ub_filter.specs.Choice.{IsFit, is_chosen}
use Rattle.ub_query.specs.Posed.{IsPosed}
use Rattle.ub_table.specs.declared.row.Row.{Row}
use Rattle.ub_table.specs.declared.schema.Schema.{Schema}
use Rattle.ub_exec.proofs.walking.walk.Goals as goal

pub loop-ahead-init : goal.loop-ahead-init
loop-ahead-init g c = record {
  kept = Keeps-none c.args.tree.now;
  read = HasReadUpTo-none c.args.plan.now.covering.boxes c.args.tree.now;
  told = tt;
  ahead = rw c.new-ahead.ensures.items (None, refl);
  come = λ before taken has. (
    [],
    subst (λ (rows : List Row). g.K.RowSink.HasTaken c.args.tree.now.schema c.args.plan.now.asked before rows c.args.sink.now) (sym (append-nil taken)) has,
    (HasRowsUpTo-none c.args.plan.now.covering.boxes c.args.tree.now, λ sound. HasCome-none c.args.plan.now.covering.boxes c.args.tree.now),
  );
}

pub returns-clause-rows : goal.returns-clause-rows
returns-clause-rows g c before taken has =
    let inv = c.loop-ahead.invariant in
    let (rows, held, come) = inv.come before taken has in
    let schema = inv.kept.regions.schema in
    let asked = c.args.plan.now.asked in
    let (more, then, turn) = c.in_ok-region.ensures.rows before (taken ++ filter (is_chosen c.args.choice c.args.tree.now.schema c.args.plan.now) rows)
    (subst (λ (s : Schema). g.K.RowSink.HasTaken s asked before (taken ++ filter (is_chosen c.args.choice c.args.tree.now.schema c.args.plan.now) rows) c.loop-ahead.sink) (sym schema) held) in (
      rows ++ more,
      subst (λ (rs : List Row). g.K.RowSink.HasTaken c.args.tree.now.schema asked before rs c.visit_next.new.sink) (handed_more (is_chosen c.args.choice c.args.tree.now.schema c.args.plan.now) taken rows more)
          (subst (λ (s : Schema). g.K.RowSink.HasTaken s asked before ((taken ++ filter (is_chosen c.args.choice c.args.tree.now.schema c.args.plan.now) rows) ++ filter (is_chosen c.args.choice s c.args.plan.now) more) c.visit_next.new.sink) schema then),
      (
        rows_whole c.args.plan.now.covering.boxes c.args.tree.now c.loop-ahead.tree c.visit_next.new.tree inv.kept.traced c.loop-ahead.after rows more come.0
            c.in_ok-region.field-0 _ c.as_ref.ensures.value c.in_default.not-Some c.in_ok-region.ensures.next.0 turn.0,
        λ sound. ended_by c.args.plan.now.covering.boxes c.args.tree.now c.loop-ahead.tree c.visit_next.new.tree sound inv.kept c.loop-ahead.after rows more (come.1 sound)
            c.in_ok-region.field-0 _ c.as_ref.ensures.value c.in_default.not-Some (turn.1 (inv.kept.sound sound)),
      ),
    )

pub loop-ahead-preserved : goal.loop-ahead-preserved
loop-ahead-preserved g c =
    let inv = c.loop-ahead.invariant in
    let schema = inv.kept.regions.schema in
    let asked = c.args.plan.now.asked in
    record {
      kept = Keeps-more _ _ _ inv.kept (Keeps-by _ _ c.in_ok-region.ensures.effect.reads.same);
      read = come_on c.args.plan.now.covering.boxes c.args.tree.now c.loop-ahead.tree c.visit_next.new.tree inv.kept.traced c.loop-ahead.after inv.read
          c.in-Some.region _ c.as_ref.ensures.value (rw c.in-Some.is at c.in_ok-region.ensures.next.0);
      told = traced_told c.args.tree.now c.loop-ahead.tree inv.kept.traced c.in-Some.region
          (next_is_later c.loop-ahead.tree c.args.plan.now.covering.boxes _ c.in-Some.region ((rw c.in-Some.is at c.in_ok-region.ensures.next.0).0)).0;
      ahead = ahead_before c.args.tree.now c.loop-ahead.tree inv.kept.traced c.args.plan.now.covering.boxes (Some c.in-Some.region) c.visit_next.new.ahead.items
          (rw c.in-Some.is at c.in_ok-region.ensures.next.1);
      come = λ before taken has.
          let (rows, held, come) = inv.come before taken has in
          let (more, then, turn) = c.in_ok-region.ensures.rows before (taken ++ filter (is_chosen c.args.choice c.args.tree.now.schema c.args.plan.now) rows)
          (subst (λ (s : Schema). g.K.RowSink.HasTaken s asked before (taken ++ filter (is_chosen c.args.choice c.args.tree.now.schema c.args.plan.now) rows) c.loop-ahead.sink) (sym schema) held) in (
            rows ++ more,
            subst (λ (rs : List Row). g.K.RowSink.HasTaken c.args.tree.now.schema asked before rs c.visit_next.new.sink) (handed_more (is_chosen c.args.choice c.args.tree.now.schema c.args.plan.now) taken rows more)
                (subst (λ (s : Schema). g.K.RowSink.HasTaken s asked before ((taken ++ filter (is_chosen c.args.choice c.args.tree.now.schema c.args.plan.now) rows) ++ filter (is_chosen c.args.choice s c.args.plan.now) more) c.visit_next.new.sink) schema then),
            (
              rows_on c.args.plan.now.covering.boxes c.args.tree.now c.loop-ahead.tree c.visit_next.new.tree inv.kept.traced c.loop-ahead.after rows more come.0
                  c.in-Some.region _ c.as_ref.ensures.value (rw c.in-Some.is at c.in_ok-region.ensures.next.0) (rw c.in-Some.is at turn.0),
              λ sound. turned_to c.args.plan.now.covering.boxes c.args.tree.now c.loop-ahead.tree c.visit_next.new.tree sound inv.kept c.loop-ahead.after rows more (come.1 sound)
                  c.in-Some.region _ c.as_ref.ensures.value (rw c.in-Some.is at (turn.1 (inv.kept.sound sound))),
            ),
          );
    }

pub loop-ahead-smaller : goal.loop-ahead-smaller
loop-ahead-smaller g c =
    let inv = c.loop-ahead.invariant in
    come_down c.args.plan.now.covering.boxes c.args.tree.now c.loop-ahead.tree c.visit_next.new.tree inv.kept.traced c.loop-ahead.after inv.read
    c.in-Some.region _ c.as_ref.ensures.value (rw c.in-Some.is at c.in_ok-region.ensures.next.0)

pub returns-in_err-region-clause-broken : goal.returns-in_err-region-clause-broken
returns-in_err-region-clause-broken g c before taken has sound =
    let inv = c.loop-ahead.invariant in
    let (rows, held, come) = inv.come before taken has in
    on_err c.from_residual.result _
    (turned_first c.args.plan.now.covering.boxes c.args.tree.now c.loop-ahead.tree c.visit_next.new.tree sound inv.kept c.loop-ahead.after _ rows (come.1 sound) c.as_ref.ensures.value
    (c.in_err-region.ensures.broken (inv.kept.sound sound)))

pub returns-clause-all : goal.returns-clause-all
returns-clause-all g c =
    let inv = c.loop-ahead.invariant in
    whole_by c.args.plan.now.covering.boxes c.args.tree.now c.loop-ahead.tree c.visit_next.new.tree inv.kept.traced c.loop-ahead.after inv.read c.in_ok-region.field-0 _
    c.as_ref.ensures.value c.in_default.not-Some c.in_ok-region.ensures.next.0

pub returns-clause-effect : goal.returns-clause-effect
returns-clause-effect g c =
    let inv = c.loop-ahead.invariant in
    record {
      notes =
          notes_then {A = Unit {0}} tt (Ok tt) c.args.tree.now c.loop-ahead.tree c.visit_next.new.tree inv.kept.traced
          (come_notes c.args.plan.now.covering.boxes c.args.tree.now c.loop-ahead.tree c.loop-ahead.tree inv.kept.traced c.loop-ahead.after inv.read tt)
          (notes_ok _ tt c.loop-ahead.tree c.visit_next.new.tree c.in_ok-region.ensures.effect.notes);
      reads = reads_then (Ok tt) c.args.tree.now c.loop-ahead.tree c.visit_next.new.tree inv.kept.traced (record { same = c.in_ok-region.ensures.effect.reads.same; faults = tt });
    }

pub returns-in_err-region-clause-effect : goal.returns-in_err-region-clause-effect
returns-in_err-region-clause-effect g c =
    let inv = c.loop-ahead.invariant in
    record {
      notes =
          notes_err c.from_residual.result _ (Err _) c.args.tree.now c.visit_next.new.tree c.from_residual.ensures.1
          (notes_then {A = Unit {0}} tt (Err _) c.args.tree.now c.loop-ahead.tree c.visit_next.new.tree inv.kept.traced
          (come_notes c.args.plan.now.covering.boxes c.args.tree.now c.loop-ahead.tree c.loop-ahead.tree inv.kept.traced c.loop-ahead.after inv.read tt)
          c.in_err-region.ensures.effect.notes);
      reads = reads_by c.from_residual.result _ c.args.tree.now c.loop-ahead.tree c.visit_next.new.tree c.from_residual.ensures.1 inv.kept.traced c.in_err-region.ensures.effect.reads;
    }

pub returns-in_err-region-clause-rows : goal.returns-in_err-region-clause-rows
returns-in_err-region-clause-rows g c = no_result c.from_residual.result _ _ c.from_residual.ensures.1

pub returns-in_err-region-clause-all : goal.returns-in_err-region-clause-all
returns-in_err-region-clause-all g c = no_result c.from_residual.result _ _ c.from_residual.ensures.1

pub visit_next-requires-clause-fit : goal.visit_next-requires-clause-fit
visit_next-requires-clause-fit g c = (
  subst (λ (s : Schema). IsPosed (length s.columns) c.args.plan.now.asked) (sym c.loop-ahead.invariant.kept.regions.schema) c.requires.posed,
  subst (λ (s : Schema). IsFit s c.args.plan.now c.args.choice) (sym c.loop-ahead.invariant.kept.regions.schema) c.requires.fit,
)

pub visit_next-requires-clause-ahead : goal.visit_next-requires-clause-ahead
visit_next-requires-clause-ahead g c = (
  told_still c.args.tree.now c.loop-ahead.tree c.loop-ahead.invariant.kept.traced c.loop-ahead.after _ c.as_ref.ensures.value c.loop-ahead.invariant.told,
  ahead_still c.args.tree.now c.loop-ahead.tree c.loop-ahead.invariant.kept.traced c.args.plan.now.covering.boxes c.loop-ahead.after _ c.loop-ahead.ahead.items c.as_ref.ensures.value
      c.loop-ahead.invariant.ahead,
)

pub returns-clause-broken : goal.returns-clause-broken
returns-clause-broken g c before taken has sound =
    tt
