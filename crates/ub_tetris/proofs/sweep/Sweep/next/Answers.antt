use Rattle.std.proofs.Common.{◌∙◌, ap, sym}
use Rattle.ub_tetris.proofs.BrokenFacts.{same_view}
use Rattle.ub_tetris.proofs.SeenFacts.{Gives-failed, row_seen}
use Rattle.ub_tetris.specs.Sweep.{SweepView}
use Rattle.ub_tetris.proofs.TurnFacts.{FailsOnce-failed, once_seen}
use Rattle.ub_tetris.proofs.sweep.Sweep.next.Goals as goal

pub returns-then-self-clause-gives : goal.returns-then-self-clause-gives
returns-then-self-clause-gives g c = Gives-failed _ _ c.args.plan.now c.args.self.now c.args.tree.now (ap (λ (v : SweepView). v.is_failed) (sym c.self.view_is) ∙ c.if-self.true)

pub returns-then-self-clause-once : goal.returns-then-self-clause-once
returns-then-self-clause-once g c = FailsOnce-failed c.args.self.now c.args.tree.now (ap (λ (v : SweepView). v.is_failed) (sym c.self.view_is) ∙ c.if-self.true)

pub returns-clause-gives : goal.returns-clause-gives
returns-clause-gives g c =
    row_seen c.self.inside.state c.step-found.new.self c.args.self.now c.settled.new.is_failed (same_view c.self.inside.state c.self.inside.is_failed c.args.self.now c.self.view_is c.if-self.false) c.args.plan.now c.args.tree.now c.step-found.new.tree
    c.settled.result c.step-found.result c.settled.ensures.answer c.settled.ensures.failed c.step-found.ensures

pub returns-clause-once : goal.returns-clause-once
returns-clause-once g c =
    once_seen c.settled.result c.self.inside.state c.step-found.new.self c.args.self.now c.settled.new.is_failed (same_view c.self.inside.state c.self.inside.is_failed c.args.self.now c.self.view_is c.if-self.false) c.settled.ensures.failed
    c.args.tree.now c.step-found.new.tree
