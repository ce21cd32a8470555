use Rattle.std.proofs.Common.{ap, ℕ, Err, List, length, refl}
use Rattle.ub_exec.proofs.ExecFacts.{answers_err, same_err}
use Rattle.ub_exec.proofs.NotedFacts.{carries_ok, carries_on}
use Rattle.ub_exec.proofs.RefusedFacts.{no_answer}
use Rattle.ub_exec.specs.Answers.{begun}
use Rattle.ub_query.specs.declared.cell.Cell.{Cell}
use Rattle.ub_tree.proofs.Laws.{reads_by}
use Rattle.ub_exec.proofs.executing.execute.Goals as goal

pub returns-clause-executes : goal.returns-clause-executes
returns-clause-executes g c =
    let rows = c.in_ok-rows.ensures in
    record {
      done = λ ready.
          let done = rows.done ready in
          record { rows = done.rows; fetches = record { pages = done.fetches.pages; broken = tt } };
      shaped = rows.shaped;
      scanned = rows.scanned;
      failed = λ failed. let bad = rows.failed failed in cc;
      reads = carries_ok (λ (cells : List (List Cell)). length cells) _ _ _ c.args.plan.now (begun c.args.tree.now) c.result_rows.new.tree refl rows.reads;
      effect = record { same = rows.effect.same; faults = tt };
    }

pub returns-in_err-rows-clause-executes : goal.returns-in_err-rows-clause-executes
returns-in_err-rows-clause-executes g c =
    let rows = c.in_err-rows.ensures in
    let plan = c.args.plan.now in
    let old = c.args.tree.now in
    let new = c.result_rows.new.tree in
    let is = c.from_residual.ensures.1 in
    record {
      done = λ ready. answers_err c.from_residual.result _ plan old (begun old) new _ is (let done = rows.done ready in done.fetches.broken);
      shaped = no_answer c.from_residual.result _ _ is;
      scanned = λ scan. no_answer c.from_residual.result _ _ is;
      failed = λ failed. same_err c.from_residual.result _ _ is (Err _) refl (rows.failed failed);
      reads = carries_on (λ (cells : List (List Cell)). length cells) _ c.from_residual.result _ _ plan (begun old) new is rows.reads;
      effect = reads_by c.from_residual.result _ old old new is refl rows.effect;
    }

pub returns-in_err-rows-clause-fetched : goal.returns-in_err-rows-clause-fetched
returns-in_err-rows-clause-fetched g c =
    no_answer c.from_residual.result _ _ c.from_residual.ensures.1

pub returns-clause-fetched : goal.returns-clause-fetched
returns-clause-fetched g c =
    ap (λ (pages : List ℕ). length pages) c.trace.ensures
