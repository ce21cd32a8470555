use Rattle.ub_syntax.proofs.Parts.{literal_reads}
use Rattle.ub_syntax.proofs.builder.Reader.literal.Goals as goal

pub returns-clause-reads : goal.returns-clause-reads
returns-clause-reads c = literal_reads _ _ _ _ _ c.accept-is_negative.ensures c.advance-digits.ensures
