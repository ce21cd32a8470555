use Rattle.std.proofs.Common.{Err, ap, refl}
use Rattle.ub_script.proofs.ChangeFacts.{if_err}
use Rattle.ub_script.proofs.EndFacts.{failures_kept, failures_raised, no_answer, no_write_by, no_write_ok, only_write}
use Rattle.ub_script.proofs.KeptFacts.{reads_err, reads_ok, reads_write, runs_err, runs_ok, runs_write}
use Rattle.ub_script.proofs.RunFacts.{answer_front, other_err, some_in, spelled_in}
use Rattle.ub_script.specs.declared.fault.RunFault.{RunFault}
use Rattle.ub_script.proofs.script.run_statement.Goals as goal

pub returns-clause-runs : goal.returns-clause-runs
returns-clause-runs g c = record {
  done = λ basis is.
      let (pages, changed, now, answer, left, fetched) = c.in_ok-answer.ensures.answer basis is in
      (now, _, pages, (changed, answer), left, rw c.deref.ensures.value at c.in_ok-put_all.ensures.whole, fetched);
  write = λ basis is same. absurd (no_write_ok _ same);
  failures = c.in_ok-put_all.ensures.whole.failures;
  effect = runs_ok _ _ _ _ c.in_ok-answer.ensures.effect;
  asked = λ asks. reads_ok _ _ _ _ (c.in_ok-answer.ensures.asked asks);
}

pub returns-in_err-put_all-clause-runs : goal.returns-in_err-put_all-clause-runs
returns-in_err-put_all-clause-runs g c = record {
  done = λ basis is. no_answer c.from_residual-in_err-put_all.result _ _ c.from_residual-in_err-put_all.ensures.1;
  write = λ basis is same.
      let (pages, changed, now, answer, left, fetched) = c.in_ok-answer.ensures.answer basis is in
      answer_front basis now c.args.source.now c.args.tokens.now c.args.range _ _ _ changed _ _ _ _ _ pages answer left fetched c.deref.ensures.value c.in_err-put_all.ensures.front;
  failures = failures_raised c.from_residual-in_err-put_all.result _ _ _ c.from_residual-in_err-put_all.ensures.1 c.in_err-put_all.ensures.front;
  effect = runs_write _ c.from_residual-in_err-put_all.result _ _ c.from_residual-in_err-put_all.ensures.1 c.in_ok-answer.ensures.effect;
  asked = λ asks. reads_write _ c.from_residual-in_err-put_all.result _ _ c.from_residual-in_err-put_all.ensures.1 (c.in_ok-answer.ensures.asked asks);
}

pub returns-in_err-answer-clause-stopped : goal.returns-in_err-answer-clause-stopped
returns-in_err-answer-clause-stopped g c basis is = other_err c.from_residual.result _ _ c.from_residual.ensures.1 (λ differs. c.in_err-answer.ensures.stopped basis is)

pub returns-in_err-answer-clause-runs : goal.returns-in_err-answer-clause-runs
returns-in_err-answer-clause-runs g c = record {
  done = λ basis is. no_answer c.from_residual.result _ _ c.from_residual.ensures.1;
  write = λ basis is same. absurd (no_write_by c.from_residual.result _ c.from_residual.ensures.1 (λ same. c.in_err-answer.ensures.no_write (ap (λ (e : RunFault). Err e) same)) same);
  failures = failures_kept c.from_residual.result _ _ c.from_residual.ensures.1 (λ same. c.in_err-answer.ensures.no_write (ap (λ (e : RunFault). Err e) same));
  effect = runs_err _ c.from_residual.result _ _ _ c.from_residual.ensures.1 c.in_err-answer.ensures.effect;
  asked = λ asks. reads_err _ c.from_residual.result _ _ _ c.from_residual.ensures.1 (c.in_err-answer.ensures.asked asks);
}

pub returns-in_err-answer-clause-begun : goal.returns-in_err-answer-clause-begun
returns-in_err-answer-clause-begun g c = if_err c.from_residual.result _ _ c.from_residual.ensures.1 (λ differs. refl)

pub returns-in_err-put_all-clause-begun : goal.returns-in_err-put_all-clause-begun
returns-in_err-put_all-clause-begun g c = only_write c.from_residual-in_err-put_all.result _ c.from_residual-in_err-put_all.ensures.1

pub returns-in_err-put_all-clause-stopped : goal.returns-in_err-put_all-clause-stopped
returns-in_err-put_all-clause-stopped g c basis is = only_write c.from_residual-in_err-put_all.result _ c.from_residual-in_err-put_all.ensures.1

pub returns-clause-begun : goal.returns-clause-begun
returns-clause-begun g c = tt

pub returns-clause-stopped : goal.returns-clause-stopped
returns-clause-stopped g c basis is = tt

pub answer_to-requires-clause-some : goal.answer_to-requires-clause-some
answer_to-requires-clause-some g c = some_in c.args.tokens.now c.args.range c.requires.range

pub answer_to-requires-clause-spelled : goal.answer_to-requires-clause-spelled
answer_to-requires-clause-spelled g c = spelled_in c.args.source.now c.args.tokens.now c.args.range c.requires.spelled
