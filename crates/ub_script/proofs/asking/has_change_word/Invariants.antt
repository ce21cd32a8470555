-- None of the tokens so far is such a word.
use Rattle.std.proofs.Common.{take}
use Rattle.std.specs.List.{All}
use Rattle.ub_script.specs.Script.{IsChangeWord}
use Rattle.ub_script.proofs.asking.has_change_word.Given as goal

abbrev pub invariant-loop-token : goal.invariant-loop-token
invariant-loop-token l = All (λ t. ¬ IsChangeWord l.source t) (take l.token-index l.tokens)
