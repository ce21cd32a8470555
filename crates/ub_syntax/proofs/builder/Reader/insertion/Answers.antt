use Rattle.ub_syntax.proofs.Changes.{insert_reads}
use Rattle.ub_syntax.proofs.builder.Reader.insertion.Goals as goal

pub returns : goal.returns
returns c i is =
    rw c.new.ensures
    (insert_reads _ _ _ _ _ _ _ _ _ _ _ _ _ _ _ c.advance.ensures c.advance-2.ensures c.advance-table.ensures c.advance-3.ensures c.advance-4.ensures
    c.in_ok-values.ensures c.advance-close.ensures i is)
