use Rattle.ub_syntax.proofs.Counting.{Counted}
use Rattle.ub_syntax.proofs.limits.too_many.Given as goal

abbrev pub invariant-loop-token : goal.invariant-loop-token
invariant-loop-token l =
    Counted l.source l.tokens l.others l.token-index l.counter.previous l.counter.symbol l.counter.parts l.counter.comparisons
