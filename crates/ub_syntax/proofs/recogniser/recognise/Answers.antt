use Rattle.std.proofs.Common.{◌∙◌, sym}
use Rattle.ub_syntax.specs.Grammar.{lexemes}
use Rattle.ub_syntax.proofs.OneVerdict.{one_verdict}
use Rattle.ub_syntax.proofs.Verdicts.{refused_token, read_token, accepted_tokens, cut_tokens}
use Rattle.ub_syntax.proofs.recogniser.recognise.Goals as goal

pub returns-in-Err-clause-verdict : goal.returns-in-Err-clause-verdict
returns-in-Err-clause-verdict c =
    rw c.refused.ensures
    (refused_token 64 c.args.source.now c.args.tokens.now c.loop-token.token-index _ c.loop-token.machine c.symbol_of.result c.in-Err.refusal c.loop-token-test.true
    c.loop-token.invariant c.symbol_of.ensures.symbol (rw c.in-Err.is at c.in_ok-refusal.ensures))

pub loop-token-preserved : goal.loop-token-preserved
loop-token-preserved c =
    read_token 64 c.args.source.now c.args.tokens.now c.loop-token.token-index _ c.loop-token.machine c.read.new.self c.symbol_of.result c.loop-token-test.true
    c.loop-token.invariant c.symbol_of.ensures.symbol (rw c.in_default.is at c.in_ok-refusal.ensures)

pub returns-then-can_end-clause-verdict : goal.returns-then-can_end-clause-verdict
returns-then-can_end-clause-verdict c =
    accepted_tokens 64 c.args.source.now c.args.tokens.now c.loop-token.token-index c.loop-token.machine c.loop-token-test.false c.loop-token.invariant
    (sym c.can_end.ensures ∙ c.if-can_end.true)

pub returns-clause-verdict : goal.returns-clause-verdict
returns-clause-verdict c =
    cut_tokens 64 c.args.source.now c.args.tokens.now c.loop-token.token-index _ c.loop-token.machine c.loop-token-test.false c.requires.some c.loop-token.invariant
    (sym c.can_end.ensures ∙ c.if-can_end.false)

pub returns-in-Err-clause-only : goal.returns-in-Err-clause-only
returns-in-Err-clause-only c = λ v is. one_verdict 64 (lexemes c.args.source.now c.args.tokens.now) _ v (returns-in-Err-clause-verdict c) is

pub returns-then-can_end-clause-only : goal.returns-then-can_end-clause-only
returns-then-can_end-clause-only c = λ v is. one_verdict 64 (lexemes c.args.source.now c.args.tokens.now) _ v (returns-then-can_end-clause-verdict c) is

pub returns-clause-only : goal.returns-clause-only
returns-clause-only c = λ v is. one_verdict 64 (lexemes c.args.source.now c.args.tokens.now) _ v (returns-clause-verdict c) is
