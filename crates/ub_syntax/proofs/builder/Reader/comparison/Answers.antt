use Rattle.ub_syntax.proofs.Parts.{compares_read, between_read}
use Rattle.ub_syntax.proofs.builder.Reader.comparison.Goals as goal

pub returns-in-Some-clause-reads : goal.returns-in-Some-clause-reads
returns-in-Some-clause-reads c =
    compares_read _ _ _ _ _ _ _ _ c.advance-column.ensures ((c.operator.ensures c.in-Some.operator).0 c.in-Some.is) c.advance.ensures c.literal-value.ensures.reads

pub returns-in-None-clause-reads : goal.returns-in-None-clause-reads
returns-in-None-clause-reads c =
    between_read _ _ _ _ _ _ _ _ _ _ _ c.advance-column.ensures (λ o h. let s = (c.operator.ensures o).1 h in let n = c.in-None.is in let never : ⊥ = cc in never)
    c.advance-in-None.ensures c.literal-low.ensures.reads c.advance-in-None-2.ensures c.literal-high.ensures.reads
