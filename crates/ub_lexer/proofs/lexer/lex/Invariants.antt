use Rattle.std.proofs.Common.{◌-◌, length}
use Rattle.ub_lexer.proofs.Rows.{IsCutUpTo}
use Rattle.ub_lexer.proofs.lexer.lex.Given as goal

abbrev pub invariant-loop-at : goal.invariant-loop-at
invariant-loop-at l = IsCutUpTo l.source l.at l.tokens.items

abbrev pub decreases-loop-at : goal.decreases-loop-at
decreases-loop-at l = length l.source - l.at
