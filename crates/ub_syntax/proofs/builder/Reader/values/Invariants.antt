use Rattle.std.proofs.Common.{[], ◌∷◌, length}
use Rattle.ub_syntax.specs.Grammar.{IsValue}
use Rattle.ub_syntax.specs.declared.symbol.Symbol.TheVariants as symbol
use Rattle.ub_syntax.proofs.Chains.{Joins}
use Rattle.ub_syntax.proofs.builder.Reader.values.Given as goal

abbrev pub invariant-joined : goal.invariant-joined
invariant-joined l = Joins symbol.Comma (IsValue) (symbol.Comma ∷ []) l.fn.self l.values.items l.self

abbrev pub decreases-joined : goal.decreases-joined
decreases-joined l = length l.self
