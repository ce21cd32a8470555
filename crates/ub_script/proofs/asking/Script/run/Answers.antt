use Rattle.std.proofs.Common.{◌∙◌, sym, ap, Err}
use Rattle.std.proofs.lemmas.Result.{err_from_is_err_and}
use Rattle.ub_lexer.proofs.Spans.{AreSpelled-tokens}
use Rattle.ub_lexer.specs.Statements.{AreStatements}
use Rattle.ub_lexer.specs.Tokens.{AreTokens}
use Rattle.ub_script.proofs.RunFacts.{All-ranges, run_over, run_unbegun, same_statements}
use Rattle.ub_script.specs.declared.fault.RunFault.{RunFault}
use Rattle.ub_script.proofs.asking.Script.run.Goals as goal

pub run_statements-requires-clause-spelled : goal.run_statements-requires-clause-spelled
run_statements-requires-clause-spelled g c = rw c.deref-2.ensures.value (AreSpelled-tokens c.self.inside.source.now c.self.inside.tokens.items c.self.invariant)

pub run_statements-requires-clause-ranges : goal.run_statements-requires-clause-ranges
run_statements-requires-clause-ranges g c =
    let ranges : AreStatements c.deref-2.result.now c.deref-3.result.now = same_statements _ _ _ _ (c.deref-2.ensures.value ∙ sym c.deref.ensures.value) c.deref-3.ensures.value c.in_ok-ranges.ensures.statements in
    All-ranges _ _ ranges

pub returns : goal.returns
returns g c =
    let tokens : AreTokens c.self.inside.source.now c.deref-2.result.now = rw c.deref-2.ensures.value c.self.invariant in
    let ranges : AreStatements c.deref-2.result.now c.deref-3.result.now = same_statements _ _ _ _ (c.deref-2.ensures.value ∙ sym c.deref.ensures.value) c.deref-3.ensures.value c.in_ok-ranges.ensures.statements in
    rw (← c.self.view_is)
    (run_over _ _ _ _ _ _ _ _ tokens ranges c.run_statements.ensures.runs.done c.run_statements.ensures.runs.write c.run_statements.ensures.begun c.run_statements.ensures.runs.failures c.run_statements.ensures.runs.effect c.run_statements.ensures.runs.asked)

pub returns-in_err-ranges : goal.returns-in_err-ranges
returns-in_err-ranges g c =
    let p = err_from_is_err_and c.from_residual.result c.from_residual.ensures.1 in
    run_unbegun _ _ _ _ (p.1 ∙ ap (λ (e : RunFault). Err e) p.2)
