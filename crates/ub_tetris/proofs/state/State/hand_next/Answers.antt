use Rattle.std.proofs.Common.{arith, ◌∙◌, length, sym, ◌++◌, ap, refl, subst}
use Rattle.std.specs.List.{filter}
use Rattle.ub_filter.specs.Choice.{IsFit, is_chosen}
use Rattle.ub_table.specs.declared.schema.Schema.{Schema}
use Rattle.ub_tetris.proofs.DueFacts.{region_come}
use Rattle.ub_tetris.proofs.FetchFacts.{schema_read}
use Rattle.ub_tetris.proofs.OpenFacts.{asks_by, asks_short}
use Rattle.ub_tetris.proofs.TurnFacts.{refused_none}
use Rattle.ub_tetris.specs.Sweep.{SweepView}
use Rattle.ub_tetris.specs.inner.Events.{seen}
use Rattle.ub_tetris.specs.inner.Turns.{HasComeTo, view_of}
use Rattle.ub_query.specs.Posed.{IsPosed}
use Rattle.ub_tetris.proofs.OpenedFacts.{opened_hands}
use Rattle.ub_tetris.proofs.state.State.hand_next.Goals as goal

pub returns-in_err-read : goal.returns-in_err-read
returns-in_err-read g c = record {
  next = asks_by c.args.plan.now c.from_residual.result _ (view_of c.args.self.now) (view_of c.read.new.self) (view_of c.read.new.self) (seen c.args.next.now) c.args.tree.now c.read.new.tree c.from_residual.ensures.1
      (c.in_err-read.ensures.next c.args.plan.now);
  held = ap (λ (v : SweepView). v.held) c.in_err-read.ensures.same;
  rows = refused_none _ c.from_residual.result _ c.from_residual.ensures.1;
}

pub returns-in_err-push_chosen : goal.returns-in_err-push_chosen
returns-in_err-push_chosen g c = record {
  next = asks_short c.args.plan.now c.from_residual-in_err-push_chosen.result (view_of c.args.self.now) (view_of c.read.new.self) (view_of c.read.new.self) (seen c.args.next.now)
      c.args.tree.now c.read.new.tree c.from_residual-in_err-push_chosen.ensures.1 (refl, refl, refl) (c.in_ok-read.ensures.next c.args.plan.now);
  held = ap (λ (v : SweepView). v.held) c.in_ok-read.ensures.same;
  rows = refused_none _ c.from_residual-in_err-push_chosen.result _ c.from_residual-in_err-push_chosen.ensures.1;
}

pub returns : goal.returns
returns g c =
    let read = c.in_ok-read.ensures.read in
    let same = c.in_ok-read.ensures.same in
    let plan = c.args.plan.now in
    let choice = c.of-choice.result in
    let t = c.args.tree.now in
    let region = c.read.new.self.page.region in
    let now = c.read.new.self in
    let schema_is = schema_read t c.read.new.tree (seen c.args.next.now) region c.schema-2.result.now read c.schema-2.ensures in
    record {
      next = c.in_ok-read.ensures.next plan;
      held = ap (λ (v : SweepView). v.held) same;
      rows = (
        filter (is_chosen choice t.schema plan) region.rows,
        λ before taken. subst (λ (s : Schema). g.K.RowSink.HasTaken s plan.asked before taken c.args.sink.now
            → g.K.RowSink.HasTaken s plan.asked before (taken ++ filter (is_chosen choice s plan) region.rows) c.push_chosen.new.sink) schema_is (c.in_ok-push_chosen.ensures before taken),
        region_come plan t c.read.new.tree (view_of c.args.self.now) (view_of now) (seen c.args.next.now) (filter (is_chosen choice t.schema plan) region.rows)
            (ap (λ (v : SweepView). record v { held = now.held; awaited = now.ahead.stretches }) same) (ap (λ (v : SweepView). v.awaited) same)
            (record { region = region; read = read; choice = choice; rows_are = refl }),
      );
    }

pub open-requires : goal.open-requires
open-requires g c =
    omega (arith, c.if-next-gt0.true)

pub returns-then-next-gt0 : goal.returns-then-next-gt0
returns-then-next-gt0 g c =
    record {
      next = c.open.ensures.next;
      held = c.open.ensures.held;
      rows = opened_hands (g.K.RowSink.HasTaken c.args.tree.now.schema c.args.plan.now.asked) c.args.sink.now
          (HasComeTo c.args.plan.now c.args.tree.now c.open.new.tree (view_of c.args.self.now) (view_of c.open.new.self) (seen c.args.next.now)) c.open.result c.open.ensures.came;
    }

pub read-requires : goal.read-requires
read-requires g c =
    omega (arith, c.if-next-gt0.false)

pub of-choice-requires : goal.of-choice-requires
of-choice-requires g c =
    subst (λ (s : Schema). IsPosed (length s.columns) c.args.plan.now.asked)
    (sym (schema_read c.args.tree.now c.read.new.tree (seen c.args.next.now) c.read.new.self.page.region c.schema.result.now c.in_ok-read.ensures.read c.schema.ensures)) c.requires

pub push_chosen-requires-clause-posed : goal.push_chosen-requires-clause-posed
push_chosen-requires-clause-posed g c =
    subst (λ (s : Schema). IsPosed (length s.columns) c.args.plan.now.asked)
    (sym (schema_read c.args.tree.now c.read.new.tree (seen c.args.next.now) c.read.new.self.page.region c.schema-2.result.now c.in_ok-read.ensures.read c.schema-2.ensures)) c.requires

pub push_chosen-requires-clause-fit : goal.push_chosen-requires-clause-fit
push_chosen-requires-clause-fit g c =
    subst (λ (s : Schema). IsFit s c.args.plan.now c.of-choice.result) (c.schema.ensures ∙ sym c.schema-2.ensures) c.of-choice.ensures

pub push_chosen-requires-clause-dims : goal.push_chosen-requires-clause-dims
push_chosen-requires-clause-dims g c =
    c.in_ok-read.ensures.dims
    ∙ sym (ap (λ (s : Schema). s.dims) (schema_read c.args.tree.now c.read.new.tree (seen c.args.next.now) c.read.new.self.page.region c.schema-2.result.now c.in_ok-read.ensures.read c.schema-2.ensures))
