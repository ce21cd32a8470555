use Rattle.std.proofs.Common.{true, ap}
use Rattle.ub_script.proofs.FormedFacts.{explained_on}
use Rattle.ub_script.proofs.StartFacts.{on_err, starts_none}
use Rattle.ub_tree.specs.View.{TreeView}
use Rattle.ub_script.proofs.EndFacts.{no_answer, no_write_by, no_write_ok, read_no_write, reads_done, reads_refused}
use Rattle.ub_tree.proofs.Laws.{searched_read}
use Rattle.ub_script.proofs.script.explain_query.Goals as goal

pub returns : goal.returns
returns g c = record {
  answer = λ basis is.
      explained_on basis c.args.tree.now _ _ c.args.plan.now c.args.plan.now.asked _ _ is c.requires
      (ap (λ (t : TreeView). t.trace.fetches) c.in_ok-explain.ensures.effect.same) c.in_ok-explain.ensures.lines c.in_ok-explain.ensures.text c.in_ok-explain.ensures.failed;
  stopped = λ basis is. tt;
  no_write = no_write_ok _;
  effect = reads_done _ _ _ _ (searched_read _ _ _ c.in_ok-explain.ensures.effect);
}

pub returns-in_err-explain : goal.returns-in_err-explain
returns-in_err-explain g c = record {
  answer = λ basis is. no_answer c.from_residual.result _ _ c.from_residual.ensures.1;
  stopped = λ basis is. on_err c.from_residual.result _ (starts_none true basis _ _ _ (ap (λ (t : TreeView). t.trace.fetches) c.in_err-explain.ensures.effect.same));
  no_write = no_write_by c.from_residual.result _ c.from_residual.ensures.1 (read_no_write _);
  effect = reads_refused c.from_residual.result _ _ _ c.from_residual.ensures.1 (searched_read _ _ _ c.in_err-explain.ensures.effect) c.in_err-explain.ensures.failed;
}
