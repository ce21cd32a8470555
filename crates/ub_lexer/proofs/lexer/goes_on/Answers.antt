use Rattle.std.proofs.Common.{rules}
use Rattle.ub_lexer.proofs.lexer.goes_on.Goals as goal

pub returns-in-OfComment : goal.returns-in-OfComment
returns-in-OfComment c = search rules
