use Rattle.ub_check.proofs.Common.{IsPutTo}
use Rattle.ub_check.proofs.checking.put_numbers.Given as goal

abbrev pub invariant-loop-number : goal.invariant-loop-number
invariant-loop-number l = IsPutTo l.given l.initial.numbers l.numbers l.number-index
