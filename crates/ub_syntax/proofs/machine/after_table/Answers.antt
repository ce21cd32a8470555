-- A symbol that isn't WHERE is left to GROUP BY and what may come after it.
use Rattle.std.proofs.Common.{◌∙◌, rules, sym}
use Rattle.ub_syntax.proofs.Turns.{other_after_table}
use Rattle.ub_syntax.proofs.machine.after_table.Goals as goal

pub returns-in-Where : goal.returns-in-Where
returns-in-Where c = search rules

pub returns-in_default : goal.returns-in_default
returns-in_default c = c.group.ensures ∙ sym (other_after_table 64 c.args.symbol c.in_default.not-Where)
