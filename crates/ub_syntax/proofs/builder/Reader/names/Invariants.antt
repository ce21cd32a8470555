use Rattle.std.proofs.Common.{[], ◌∷◌, length}
use Rattle.ub_syntax.specs.Grammar.{IsToken}
use Rattle.ub_syntax.specs.declared.symbol.Symbol.TheVariants as symbol
use Rattle.ub_syntax.proofs.Chains.{Joins}
use Rattle.ub_syntax.proofs.builder.Reader.names.Given as goal

abbrev pub invariant-joined : goal.invariant-joined
invariant-joined l = Joins symbol.Comma (IsToken symbol.Name) (symbol.Comma ∷ []) l.fn.self l.names.items l.self

abbrev pub decreases-joined : goal.decreases-joined
decreases-joined l = length l.self
