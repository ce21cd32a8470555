use Rattle.ub_syntax.proofs.Changes.{value_reads}
use Rattle.ub_syntax.proofs.builder.Reader.value.Goals as goal

pub returns-clause-reads : goal.returns-clause-reads
returns-clause-reads c = value_reads _ _ _ _ c.peek-first.ensures c.literal-literal.ensures.reads
