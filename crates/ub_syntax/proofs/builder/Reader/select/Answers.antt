use Rattle.ub_syntax.proofs.Statements.{select_reads}
use Rattle.ub_syntax.proofs.builder.Reader.select.Goals as goal

pub returns : goal.returns
returns c s is =
    rw (c.new.ensures, c.new-2.ensures)
    (select_reads 64 _ _ _ _ _ _ _ _ _ _ _ _ _ _ _ _ _ _ _ c.accept-is_explained.ensures c.advance.ensures c.in_ok-selection.ensures c.advance-2.ensures
    c.advance-table.ensures c.in_ok-filter.ensures c.in_ok-group.ensures c.in_ok-order.ensures c.limit-limit.ensures s is)
