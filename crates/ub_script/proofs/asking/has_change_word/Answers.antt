use Rattle.std.proofs.Common.{arith}
use Rattle.ub_lexer.specs.declared.token.Token.{Token}
use Rattle.ub_script.proofs.AskingFacts.{none_is, none_of_all}
use Rattle.ub_script.specs.Script.{IsChangeWord}
use Rattle.ub_script.proofs.asking.has_change_word.Goals as goal

pub loop-token-preserved : goal.loop-token-preserved
loop-token-preserved c =
    none_is (λ (t : Token). IsChangeWord c.args.source.now t) c.is_change_word.result c.args.tokens.now c.loop-token.token-index _ c.if-is_change_word.false
    c.is_change_word.ensures c.loop-token-test.true c.loop-token.invariant

pub returns-clause-none : goal.returns-clause-none
returns-clause-none c is =
    none_of_all (λ (t : Token). IsChangeWord c.args.source.now t) c.args.tokens.now c.loop-token.token-index (omega arith) c.loop-token.invariant
