use Rattle.std.proofs.Common.{Bool, subst, sym}
use Rattle.ub_tetris.proofs.DueFacts.{none_ahead_due, past_due, takes_due}
use Rattle.ub_tetris.specs.inner.Turns.{IsDueAs, TakesDue, view_of}
use Rattle.ub_tetris.proofs.state.State.take_due.Goals as goal

pub returns-in_err-value : goal.returns-in_err-value
returns-in_err-value c = subst (TakesDue (view_of c.args.self.now) (view_of c.args.self.now)) (sym c.from_residual.ensures) (none_ahead_due c.args.self.now c.in_err-value.ensures)

pub returns-then-not-is_due : goal.returns-then-not-is_due
returns-then-not-is_due c =
    past_due c.args.self.now c.in_ok-value.value c.in_ok-value.ensures (subst (λ (due : Bool). IsDueAs (view_of c.args.self.now) c.in_ok-value.value due) c.if-not-is_due.true c.is_due.ensures)

pub returns : goal.returns
returns c =
    takes_due c.args.self.now c.take_first.new.self c.in_ok-value.value c.take_first.result c.in_ok-value.ensures
    (subst (λ (due : Bool). IsDueAs (view_of c.args.self.now) c.in_ok-value.value due) c.if-not-is_due.false c.is_due.ensures) c.take_first.ensures
