-- A symbol that is neither AND nor OR is left to GROUP BY and what may come after it.
use Rattle.std.proofs.Common.{◌∙◌, rules, sym}
use Rattle.ub_syntax.proofs.Turns.{other_after_operand}
use Rattle.ub_syntax.proofs.machine.after_operand.Goals as goal

pub returns-in-And : goal.returns-in-And
returns-in-And c = search rules

pub returns-in_default : goal.returns-in_default
returns-in_default c = c.group.ensures ∙ sym (other_after_operand 64 c.args.symbol c.in_default.not-And c.in_default.not-Or)
