use Rattle.ub_syntax.proofs.Clauses.{filter_reads}
use Rattle.ub_syntax.proofs.builder.Reader.filter.Goals as goal

pub returns : goal.returns
returns c =
    let taken = rw c.if-not-accept.false at c.accept.ensures in
    filter_reads 64 _ _ _ _ taken c.in_ok-condition.ensures.reads
