use Rattle.std.proofs.Common.{◌+◌, ◌*◌, ◌≤◌, [], ◌∷◌, length}
use Rattle.ub_syntax.specs.Grammar.{IsOperand, IsChain}
use Rattle.ub_syntax.specs.Tree.{shape, both, either}
use Rattle.ub_syntax.specs.declared.symbol.Symbol.TheVariants as symbol
use Rattle.ub_syntax.proofs.Chains.{Folds}
use Rattle.ub_syntax.proofs.builder.Reader.+condition.Given as goal

abbrev pub decreases-condition : goal.decreases-condition
decreases-condition l = 3 * l.depth + 2

abbrev pub decreases-conjunction : goal.decreases-conjunction
decreases-conjunction l = 3 * l.depth + 1

abbrev pub decreases-operand : goal.decreases-operand
decreases-operand l = 3 * l.depth

abbrev pub invariant-condition-joined : goal.invariant-condition-joined
invariant-condition-joined l = record {
  folds : Folds symbol.Or either (IsChain symbol.And both (IsOperand l.depth)) (symbol.Or ∷ symbol.And ∷ []) l.fn.self (shape l.all) l.self;
  shorter : length l.self ≤ length l.fn.self;
}

abbrev pub decreases-condition-joined : goal.decreases-condition-joined
decreases-condition-joined l = length l.self

abbrev pub invariant-conjunction-joined : goal.invariant-conjunction-joined
invariant-conjunction-joined l = record {
  folds : Folds symbol.And both (IsOperand l.depth) (symbol.And ∷ []) l.fn.self (shape l.all) l.self;
  shorter : length l.self ≤ length l.fn.self;
}

abbrev pub decreases-conjunction-joined : goal.decreases-conjunction-joined
decreases-conjunction-joined l = length l.self
