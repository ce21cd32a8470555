use Rattle.std.proofs.Common.{rules}
use Rattle.ub_lexer.proofs.lexer.pair_kind.Goals as goal

pub returns-in-60-eq61 : goal.returns-in-60-eq61
returns-in-60-eq61 c = search rules
