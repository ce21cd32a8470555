use Rattle.std.proofs.Common.{length, sym, ap, subst}
use Rattle.ub_tetris.proofs.EffectFacts.{swept_as, swept_with}
use Rattle.ub_tetris.proofs.FetchFacts.{fewer_left}
use Rattle.ub_tetris.proofs.StepsFacts.{Fetches-more, Fetches-none, awaits_still, end_unbroken, first_then, placed_asked, step_answers, step_broken, step_effect, step_ends, step_rests}
use Rattle.ub_tetris.proofs.TurnFacts.{as_err}
use Rattle.ub_tetris.specs.Calls.{GivesRow}
use Rattle.ub_tetris.specs.Sweep.{SweepView}
use Rattle.ub_tetris.specs.inner.Events.{seen}
use Rattle.ub_tetris.specs.inner.Kept.{TakesFirst}
use Rattle.ub_tetris.specs.inner.Turns.{view_of}
use Rattle.ub_query.specs.Posed.{IsPosed}
use Rattle.ub_table.specs.declared.schema.Schema.{Schema}
use Rattle.ub_tree.specs.View.{TreeView}
use Rattle.ub_tetris.proofs.state.State.step.Goals as goal

pub loop-next-init : goal.loop-next-init
loop-next-init g c = Fetches-none c.args.plan.now c.args.tree.now c.args.self.now

pub loop-next-smaller : goal.loop-next-smaller
loop-next-smaller g c =
    let (rows, come, holds) = c.in_ok-come_to.ensures.rows in
    fewer_left c.args.plan.now c.loop-next.tree c.come_to.new.tree (view_of c.loop-next.self) (view_of c.take_due.new.self) (view_of c.come_to.new.self) (seen c.in-Some.next) rows c.in-Some.ensures.0 come

pub loop-next-preserved : goal.loop-next-preserved
loop-next-preserved g c =
    let (rows, come, holds) = c.in_ok-come_to.ensures.rows in
    Fetches-more c.args.plan.now c.args.tree.now c.loop-next.tree c.args.self.now c.loop-next.self c.loop-next.invariant c.take_due.new.self (seen c.in-Some.next) c.in-Some.ensures.0 c.in-Some.ensures.1
    c.come_to.new.tree c.come_to.new.self rows come holds c.in_ok-come_to.ensures.next

pub returns-in_err-come_to : goal.returns-in_err-come_to
returns-in_err-come_to g c =
    let plan = c.args.plan.now in
    let t = c.args.tree.now in
    let inv = c.loop-next.invariant in
    let asks = c.in_err-come_to.ensures.next in
    as_err c.from_residual.result _ c.from_residual.ensures.1 (λ q. GivesRow plan (view_of c.args.self.now) (view_of c.come_to.new.self) t c.come_to.new.tree q) (record {
      next = λ given rest fetched unread of. tt;
      broken = step_broken plan t c.loop-next.tree c.args.self.now c.loop-next.self inv c.take_due.new.self (seen c.in-Some.next) c.in-Some.ensures.0 c.in-Some.ensures.1 c.come_to.new.tree asks.asked
          (placed_asked c.loop-next.tree c.come_to.new.tree plan (view_of c.take_due.new.self) (view_of c.come_to.new.self) (seen c.in-Some.next) _ (first_then (view_of c.loop-next.self) (view_of c.take_due.new.self) (seen c.in-Some.next) c.in-Some.ensures.0) asks);
      rests = λ working none empty. end_unbroken plan t c.loop-next.tree c.args.self.now c.loop-next.self inv c.take_due.new.self (seen c.in-Some.next) c.in-Some.ensures.0 c.in-Some.ensures.1 none;
      answers = tt;
      effect = swept_as plan _ (view_of c.args.self.now) (view_of c.come_to.new.self) (view_of c.come_to.new.self) t c.come_to.new.tree
          (step_effect plan t c.loop-next.tree c.args.self.now c.loop-next.self inv c.take_due.new.self (seen c.in-Some.next) c.in-Some.ensures.0 c.in-Some.ensures.1 c.come_to.new.tree c.come_to.new.self _ asks);
    })

pub returns : goal.returns
returns g c =
    let plan = c.args.plan.now in
    let t = c.args.tree.now in
    let inv = c.loop-next.invariant in
    let (same, none) = c.in_default.ensures in
    let now = record c.take_due.new.self { held = c.take_first.new.self } in
    let kept = ap (λ (v : SweepView). record v { held = c.take_first.new.self }) same in
    let takes = subst (λ (v : SweepView). TakesFirst v.held c.take_first.new.self c.take_first.result) same c.take_first.ensures in
    record {
      next = step_ends plan t c.loop-next.tree c.args.self.now c.loop-next.self inv now c.take_first.result none takes kept;
      broken = λ given rest fetched unread of. tt;
      rests = λ working nothing empty. step_rests plan t c.loop-next.tree c.args.self.now c.loop-next.self inv now c.take_first.result takes kept nothing empty;
      answers = step_answers plan t c.loop-next.tree c.args.self.now c.loop-next.self inv now c.take_first.result none takes kept;
      effect = swept_with plan tt (view_of c.args.self.now) (view_of c.loop-next.self) (view_of now) t c.loop-next.tree (awaits_still (view_of c.loop-next.self) (view_of now) kept) inv.effect c.take_first.result;
    }

pub come_to-requires : goal.come_to-requires
come_to-requires g c =
    subst (λ (s : Schema). IsPosed (length s.columns) c.args.plan.now.asked) (sym (ap (λ (t : TreeView). t.schema) c.loop-next.invariant.effect.same)) c.requires
