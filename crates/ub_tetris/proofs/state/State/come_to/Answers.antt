use Rattle.std.proofs.Common.{arith, ◌∙◌, length, [], List, ap, refl, subst, sym}
use Rattle.std.specs.List.{filter}
use Rattle.ub_filter.specs.Choice.{IsFit, is_chosen}
use Rattle.ub_table.specs.declared.schema.Schema.{Schema}
use Rattle.ub_tetris.proofs.AlongFacts.{keys_of}
use Rattle.ub_tetris.proofs.DueFacts.{region_come}
use Rattle.ub_tetris.proofs.FetchFacts.{schema_read}
use Rattle.ub_tetris.proofs.HeldFacts.{HoldsAlso-none}
use Rattle.ub_tetris.proofs.OpenFacts.{asks_by, asks_short, asks_with}
use Rattle.ub_tetris.proofs.TurnFacts.{refused_none}
use Rattle.ub_tetris.specs.Held.{HeldRow}
use Rattle.ub_tetris.specs.Sweep.{SweepView}
use Rattle.ub_tetris.specs.inner.Events.{seen}
use Rattle.ub_tetris.specs.inner.Kept.{HoldsAlso}
use Rattle.ub_tetris.specs.inner.Turns.{view_of}
use Rattle.ub_query.specs.Posed.{IsPosed}
use Rattle.ub_tetris.proofs.OpenedFacts.{opened_holds}
use Rattle.ub_tetris.proofs.state.State.come_to.Goals as goal

pub returns-in_err-read : goal.returns-in_err-read
returns-in_err-read g c = record {
  next = asks_by c.args.plan.now c.from_residual.result _ (view_of c.args.self.now) (view_of c.read.new.self) (view_of c.read.new.self) (seen c.args.next.now) c.args.tree.now c.read.new.tree c.from_residual.ensures.1
      (c.in_err-read.ensures.next c.args.plan.now);
  rows = refused_none _ c.from_residual.result _ c.from_residual.ensures.1;
}

pub returns-in_err-push_chosen : goal.returns-in_err-push_chosen
returns-in_err-push_chosen g c = record {
  next = asks_short c.args.plan.now c.from_residual-in_err-push_chosen.result (view_of c.args.self.now) (view_of c.read.new.self) (view_of (record c.read.new.self { held = c.push_chosen.new.sink })) (seen c.args.next.now)
      c.args.tree.now c.read.new.tree c.from_residual-in_err-push_chosen.ensures.1 (refl, refl, refl) (c.in_ok-read.ensures.next c.args.plan.now);
  rows = refused_none _ c.from_residual-in_err-push_chosen.result _ c.from_residual-in_err-push_chosen.ensures.1;
}

pub returns : goal.returns
returns g c =
    let read = c.in_ok-read.ensures.read in
    let same = c.in_ok-read.ensures.same in
    let plan = c.args.plan.now in
    let choice = c.of-choice.result in
    let t = c.args.tree.now in
    let region = c.read.new.self.page.region in
    let schema = c.schema-2.result.now in
    let held = c.args.self.now.held in
    let now = record c.read.new.self { held = c.push_chosen.new.sink } in
    let holds = c.in_ok-push_chosen.ensures held []
    (subst (λ (hs : List HeldRow). HoldsAlso schema (keys_of plan.asked) [] held hs) (sym (ap (λ (v : SweepView). v.held) same)) (HoldsAlso-none schema (keys_of plan.asked) held)) in
    record {
      next = asks_with c.args.plan.now (view_of c.args.self.now) (view_of c.read.new.self) (view_of (record c.read.new.self { held = c.push_chosen.new.sink })) (seen c.args.next.now) c.args.tree.now c.read.new.tree
          (refl, refl, refl) (c.in_ok-read.ensures.next c.args.plan.now);
      rows = (
        filter (is_chosen choice t.schema plan) region.rows,
        region_come plan t c.read.new.tree (view_of c.args.self.now) (view_of now) (seen c.args.next.now) (filter (is_chosen choice t.schema plan) region.rows)
            (ap (λ (v : SweepView). record v { held = now.held; awaited = now.ahead.stretches }) same) (ap (λ (v : SweepView). v.awaited) same)
            (record { region = region; read = read; choice = choice; rows_are = refl }),
        subst (λ (x : Schema). HoldsAlso x (keys_of plan.asked) (filter (is_chosen choice x plan) region.rows) held c.push_chosen.new.sink)
            (schema_read t c.read.new.tree (seen c.args.next.now) region schema read c.schema-2.ensures) holds,
      );
    }

pub open-requires : goal.open-requires
open-requires g c =
    omega (arith, c.if-next-gt0.true)

pub returns-then-next-gt0 : goal.returns-then-next-gt0
returns-then-next-gt0 g c =
    record {
      next = c.open.ensures.next;
      rows = opened_holds c.args.plan.now c.args.tree.now c.open.new.tree (view_of c.args.self.now) (view_of c.open.new.self) (seen c.args.next.now) c.args.tree.now.schema (keys_of c.args.plan.now.asked)
          c.open.result c.open.ensures.held c.open.ensures.came;
    }

pub read-requires : goal.read-requires
read-requires g c =
    omega (arith, c.if-next-gt0.false)

pub of-choice-requires : goal.of-choice-requires
of-choice-requires g c =
    subst (λ (s : Schema). IsPosed (length s.columns) c.args.plan.now.asked)
    (sym (schema_read c.args.tree.now c.read.new.tree (seen c.args.next.now) c.read.new.self.page.region c.schema.result.now c.in_ok-read.ensures.read c.schema.ensures)) c.requires

pub push_chosen-requires-clause-posed : goal.push_chosen-requires-clause-posed
push_chosen-requires-clause-posed g c =
    subst (λ (s : Schema). IsPosed (length s.columns) c.args.plan.now.asked)
    (sym (schema_read c.args.tree.now c.read.new.tree (seen c.args.next.now) c.read.new.self.page.region c.schema-2.result.now c.in_ok-read.ensures.read c.schema-2.ensures)) c.requires

pub push_chosen-requires-clause-fit : goal.push_chosen-requires-clause-fit
push_chosen-requires-clause-fit g c =
    subst (λ (s : Schema). IsFit s c.args.plan.now c.of-choice.result) (c.schema.ensures ∙ sym c.schema-2.ensures) c.of-choice.ensures

pub push_chosen-requires-clause-dims : goal.push_chosen-requires-clause-dims
push_chosen-requires-clause-dims g c =
    c.in_ok-read.ensures.dims
    ∙ sym (ap (λ (s : Schema). s.dims) (schema_read c.args.tree.now c.read.new.tree (seen c.args.next.now) c.read.new.self.page.region c.schema-2.result.now c.in_ok-read.ensures.read c.schema-2.ensures))
