use Rattle.std.proofs.Common.{length, Ok, subst, sym}
use Rattle.ub_table.specs.declared.schema.Schema.{Schema}
use Rattle.ub_tetris.proofs.DueFacts.{takes_any}
use Rattle.ub_tetris.proofs.FetchFacts.{fewer_left}
use Rattle.ub_tetris.proofs.HandFacts.{Hands-more, Hands-none, hands_broken, hands_effect, hands_end, hands_left, schema_so_far}
use Rattle.ub_tetris.proofs.StepsFacts.{first_then, placed_asked}
use Rattle.ub_tetris.proofs.TurnFacts.{as_err}
use Rattle.ub_tetris.specs.Calls.{HandsAll}
use Rattle.ub_tetris.specs.Sweep.{HandsOver}
use Rattle.ub_tetris.specs.inner.Events.{Ahead, seen}
use Rattle.ub_tetris.specs.inner.Turns.{HasComeTo, view_of}
use Rattle.ub_query.specs.Posed.{IsPosed}
use Rattle.ub_tetris.proofs.state.State.hand_over.Goals as goal

pub loop-next-init : goal.loop-next-init
loop-next-init g c = Hands-none (g.K.RowSink.HasTaken c.args.tree.now.schema c.args.plan.now.asked) c.args.plan.now c.args.tree.now c.args.self.now c.args.sink.now

pub loop-next-smaller : goal.loop-next-smaller
loop-next-smaller g c =
    let then = record c.loop-next.self { ahead = c.take_first.new.self } in
    let (rows, takes, come) = c.in_ok-hand_next.ensures.rows in
    fewer_left c.args.plan.now c.loop-next.tree c.hand_next.new.tree (view_of c.loop-next.self) (view_of then) (view_of c.hand_next.new.self) (seen c.in-Some.next) rows
    (takes_any c.loop-next.self c.take_first.new.self c.in-Some.next c.in-Some.ensures) come

pub loop-next-preserved : goal.loop-next-preserved
loop-next-preserved g c =
    let inv = c.loop-next.invariant in
    let next = c.in_ok-hand_next.ensures in
    let plan = c.args.plan.now in
    let takes = g.K.RowSink.HasTaken c.args.tree.now.schema plan.asked in
    let then = record c.loop-next.self { ahead = c.take_first.new.self } in
    Hands-more takes plan c.args.tree.now c.loop-next.tree c.args.self.now c.loop-next.self c.args.sink.now c.loop-next.sink inv then (seen c.in-Some.next)
    (takes_any c.loop-next.self c.take_first.new.self c.in-Some.next c.in-Some.ensures) c.hand_next.new.tree c.hand_next.new.self c.hand_next.new.sink next.held
    (subst (λ (s : Schema). HandsOver (g.K.RowSink.HasTaken s plan.asked) c.loop-next.sink c.hand_next.new.sink (HasComeTo plan c.loop-next.tree c.hand_next.new.tree (view_of then) (view_of c.hand_next.new.self) (seen c.in-Some.next)))
    (schema_so_far takes plan c.args.tree.now c.loop-next.tree c.args.self.now c.loop-next.self c.args.sink.now c.loop-next.sink inv) next.rows)
    next.next

pub returns-in_err-hand_next : goal.returns-in_err-hand_next
returns-in_err-hand_next g c =
    let plan = c.args.plan.now in
    let t = c.args.tree.now in
    let inv = c.loop-next.invariant in
    let takes = g.K.RowSink.HasTaken t.schema plan.asked in
    let then = record c.loop-next.self { ahead = c.take_first.new.self } in
    let taken = takes_any c.loop-next.self c.take_first.new.self c.in-Some.next c.in-Some.ensures in
    let asks = c.in_err-hand_next.ensures.next in
    as_err c.from_residual.result _ c.from_residual.ensures.1
    (λ q. HandsAll takes plan (view_of c.args.self.now) (view_of c.hand_next.new.self) t c.hand_next.new.tree c.args.sink.now c.hand_next.new.sink q) (record {
      rows = tt;
      broken = hands_broken takes plan t c.loop-next.tree c.args.self.now c.loop-next.self c.args.sink.now c.loop-next.sink inv then (seen c.in-Some.next) taken c.hand_next.new.tree asks.asked
          (placed_asked c.loop-next.tree c.hand_next.new.tree plan (view_of then) (view_of c.hand_next.new.self) (seen c.in-Some.next) _ (first_then (view_of c.loop-next.self) (view_of then) (seen c.in-Some.next) taken) asks);
      left = tt;
      effect = hands_effect takes plan t c.loop-next.tree c.args.self.now c.loop-next.self c.args.sink.now c.loop-next.sink inv then (seen c.in-Some.next) taken c.hand_next.new.tree c.hand_next.new.self _ asks;
    })

pub returns : goal.returns
returns g c =
    let plan = c.args.plan.now in
    let t = c.args.tree.now in
    let inv = c.loop-next.invariant in
    let takes = g.K.RowSink.HasTaken t.schema plan.asked in
    let (past, same) = c.in_default.ensures in
    subst (λ (a : Ahead). HandsAll takes plan (view_of c.args.self.now) (view_of (record c.loop-next.self { ahead = a })) t c.loop-next.tree c.args.sink.now c.loop-next.sink (Ok tt)) (sym same) (record {
      rows = hands_end takes plan t c.loop-next.tree c.args.self.now c.loop-next.self c.args.sink.now c.loop-next.sink inv past;
      broken = λ given rest fetched unread of. tt;
      left = hands_left takes plan t c.loop-next.tree c.args.self.now c.loop-next.self c.args.sink.now c.loop-next.sink inv past;
      effect = inv.effect;
    })

pub hand_next-requires : goal.hand_next-requires
hand_next-requires g c =
    subst (λ (s : Schema). IsPosed (length s.columns) c.args.plan.now.asked)
    (sym (schema_so_far (g.K.RowSink.HasTaken c.args.tree.now.schema c.args.plan.now.asked) c.args.plan.now c.args.tree.now c.loop-next.tree c.args.self.now c.loop-next.self c.args.sink.now c.loop-next.sink
    c.loop-next.invariant)) c.requires
