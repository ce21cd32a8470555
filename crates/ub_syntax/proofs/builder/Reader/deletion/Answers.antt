use Rattle.ub_syntax.proofs.Changes.{delete_reads}
use Rattle.ub_syntax.proofs.builder.Reader.deletion.Goals as goal

pub returns : goal.returns
returns c s is =
    rw (c.new-2.ensures, c.new.ensures.items, c.new-4.ensures, c.new-3.ensures.items)
    (delete_reads 64 _ _ _ _ _ _ _ _ _ c.advance-word.ensures c.advance.ensures c.advance-table.ensures c.in_ok-filter.ensures s is)
