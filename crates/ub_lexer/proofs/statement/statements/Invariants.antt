use Rattle.ub_lexer.proofs.Ranges.{AreStatementsBefore, IsGap}
use Rattle.ub_lexer.proofs.statement.statements.Given as goal

abbrev pub invariant-loop-i : goal.invariant-loop-i
invariant-loop-i l = record {
  gap : IsGap l.tokens l.from l.i;
  before : AreStatementsBefore l.tokens l.from l.ranges.items;
}
