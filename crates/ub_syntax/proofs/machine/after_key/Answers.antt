-- A symbol that is no direction is what may come after a key without one.
use Rattle.std.proofs.Common.{◌∙◌, sym}
use Rattle.ub_syntax.proofs.Turns.{directed_key, other_after_key}
use Rattle.ub_syntax.proofs.machine.after_key.Goals as goal

pub returns-in-Ascending : goal.returns-in-Ascending
returns-in-Ascending c = sym (directed_key c.args.symbol c.in-Ascending.is)

pub returns-in_default : goal.returns-in_default
returns-in_default c = c.after_direction.ensures ∙ sym (other_after_key c.args.symbol c.in_default.not-Ascending c.in_default.not-Descending)
