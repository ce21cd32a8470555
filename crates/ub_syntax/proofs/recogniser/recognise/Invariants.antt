use Rattle.ub_syntax.specs.Grammar.{lexemes}
use Rattle.ub_syntax.proofs.Verdicts.{Ran}
use Rattle.ub_syntax.proofs.recogniser.recognise.Given as goal

abbrev pub invariant-loop-token : goal.invariant-loop-token
invariant-loop-token l = Ran 64 (lexemes l.source l.tokens) l.token-index l.machine
