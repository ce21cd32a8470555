use Rattle.std.proofs.Common.{◌∙◌, ap, sym}
use Rattle.ub_tetris.proofs.BrokenFacts.{same_view}
use Rattle.ub_tetris.proofs.SeenFacts.{HandsAll-failed, hands_seen}
use Rattle.ub_tetris.specs.Sweep.{SweepView}
use Rattle.ub_tetris.proofs.TurnFacts.{FailsOnce-failed, once_seen}
use Rattle.ub_tetris.proofs.sweep.Sweep.hand_over.Goals as goal

pub returns-then-self-clause-hands : goal.returns-then-self-clause-hands
returns-then-self-clause-hands g c = HandsAll-failed _ c.args.plan.now c.args.self.now c.args.tree.now c.args.sink.now (ap (λ (v : SweepView). v.is_failed) (sym c.self.view_is) ∙ c.if-self.true)

pub returns-then-self-clause-once : goal.returns-then-self-clause-once
returns-then-self-clause-once g c = FailsOnce-failed c.args.self.now c.args.tree.now (ap (λ (v : SweepView). v.is_failed) (sym c.self.view_is) ∙ c.if-self.true)

pub returns-clause-hands : goal.returns-clause-hands
returns-clause-hands g c =
    hands_seen c.self.inside.state c.hand_over-handed.new.self c.args.self.now c.settled.new.is_failed (same_view c.self.inside.state c.self.inside.is_failed c.args.self.now c.self.view_is c.if-self.false) c.args.plan.now c.args.tree.now c.hand_over-handed.new.tree
    (g.K.RowSink.HasTaken c.args.tree.now.schema c.args.plan.now.asked) c.args.sink.now c.hand_over-handed.new.sink
    c.settled.result c.hand_over-handed.result c.settled.ensures.answer c.settled.ensures.failed c.hand_over-handed.ensures

pub returns-clause-once : goal.returns-clause-once
returns-clause-once g c =
    once_seen c.settled.result c.self.inside.state c.hand_over-handed.new.self c.args.self.now c.settled.new.is_failed (same_view c.self.inside.state c.self.inside.is_failed c.args.self.now c.self.view_is c.if-self.false) c.settled.ensures.failed
    c.args.tree.now c.hand_over-handed.new.tree
