use Rattle.std.proofs.Common.{◌≡◌, ◌≤◌, ◌+◌, ◌∙◌, Bool, Ok, Err, cond, length, arith, refl, rules, sym}
use Rattle.ub_script.proofs.EndFacts.{no_answer, no_write_ok}
use Rattle.ub_script.proofs.KeptFacts.{reads_by, runs_err, runs_more, runs_none, runs_ok}
use Rattle.ub_tree.proofs.Laws.{Keeps-none, Keeps-by, Keeps-more}
use Rattle.ub_script.proofs.RunFacts.{asks_at, come_none, come_more, come_broken, come_stopped, come_whole, other_err, same_failures}
use Rattle.ub_script.proofs.script.run_statements.Goals as goal
use Rattle.ub_script.proofs.script.run_statements.Goals.{then-branch, else-branch}

pub loop-range-init : goal.loop-range-init
loop-range-init g c = record {
  run = λ basis is. come_none basis _ _ _ _ _ _ is;
  few = omega arith;
  runs = runs_none _ _;
  asked = λ asks. Keeps-none _;
  failures = refl;
}

pub loop-range-preserved : goal.loop-range-preserved
loop-range-preserved g c =
    let inv = c.loop-range.invariant in
    let done = c.in_ok-run_statement.ensures.runs.done in
    let next : c.if-branch.refused ≡ c.loop-range.refused + cond c.in_ok-run_statement.field-0 1 0 =
    elim c.if-branch.branch [
      | then-branch w ↦ rw w.if-branch.true w.refused-is
      | else-branch w ↦ rw w.if-branch.false (omega (arith, w.refused-is))
    ] in
    let few : c.if-branch.refused ≤ c.loop-range.range-index + 1 =
    elim c.if-branch.branch [
      | then-branch w ↦ omega (arith, w.refused-is, inv.few)
      | else-branch w ↦ omega (arith, w.refused-is, inv.few)
    ] in
    record {
      run = λ basis is.
          let come = inv.run basis is in
          come_more c.args.source.now c.args.tokens.now basis c.args.ranges.now c.loop-range.range-index c.loop-range.refused _ _ _ _ _ _ (0, 0) c.loop-range-test.true
          come _ c.in_ok-run_statement.field-0 _ _ (done come.now come.left) next;
      few = few;
      runs = runs_ok _ _ _ _ (runs_more _ (Ok c.in_ok-run_statement.field-0) _ _ _ inv.runs c.in_ok-run_statement.ensures.runs.effect);
      asked = λ asks.
          Keeps-more _ _ _ (inv.asked asks)
          (Keeps-by _ _
          (c.in_ok-run_statement.ensures.runs.asked
          (asks_at _ _ c.args.source.now c.args.tokens.now c.args.ranges.now c.loop-range.range-index (0, 0) inv.runs.schema asks c.loop-range-test.true)).same);
      failures = c.in_ok-run_statement.ensures.runs.failures ∙ inv.failures;
    }

pub returns-in_err-run_statement-clause-begun : goal.returns-in_err-run_statement-clause-begun
returns-in_err-run_statement-clause-begun g c basis is =
    let come = c.loop-range.invariant.run basis is in
    other_err _ _ _ c.from_residual.ensures.1
    (λ differs.
    let (more, now, ended, rest, fetched) = c.in_err-run_statement.ensures.stopped come.now come.left differs in
    come_stopped c.args.source.now c.args.tokens.now basis c.args.ranges.now c.loop-range.range-index c.loop-range.refused _ _ _ _ _ _ (0, 0) c.loop-range-test.true
    come _ _ _ more now (c.in_err-run_statement.ensures.begun differs) ended rest fetched)

pub returns-in_err-run_statement-clause-runs : goal.returns-in_err-run_statement-clause-runs
returns-in_err-run_statement-clause-runs g c = record {
  done = λ basis is. no_answer c.from_residual.result _ _ c.from_residual.ensures.1;
  write = λ basis is same.
      let come = c.loop-range.invariant.run basis is in
      let write = c.in_err-run_statement.ensures.runs.write come.now come.left (search rules) in
      come_broken c.args.source.now c.args.tokens.now basis c.args.ranges.now c.loop-range.range-index c.loop-range.refused _ _ _ _ _ _ (0, 0) c.loop-range-test.true
      come _ _ write;
  failures =
      let raised = c.in_err-run_statement.ensures.runs.failures in
      let same = same_failures Bool _ _ _ c.from_residual.ensures.1 in
      rw (raised, c.loop-range.invariant.failures) (sym same);
  effect = runs_err Bool _ _ _ _ c.from_residual.ensures.1 (runs_more _ (Err _) _ _ _ c.loop-range.invariant.runs c.in_err-run_statement.ensures.runs.effect);
  asked = λ asks.
      let inv = c.loop-range.invariant in
      reads_by _ _ _ _ _ c.from_residual.ensures.1 (inv.asked asks).traced
      (c.in_err-run_statement.ensures.runs.asked
      (asks_at _ _ c.args.source.now c.args.tokens.now c.args.ranges.now c.loop-range.range-index (0, 0) inv.runs.schema asks c.loop-range-test.true));
}

pub returns-clause-runs : goal.returns-clause-runs
returns-clause-runs g c = record {
  done = λ basis is.
      let all : c.loop-range.range-index ≡ length c.args.ranges.now = omega (arith, c.loop-range-test.false, c.loop-range.auto.range-index-end) in
      come_whole c.args.source.now c.args.tokens.now basis c.args.ranges.now c.loop-range.range-index c.loop-range.refused _ _ _ _ _ all (c.loop-range.invariant.run basis is);
  write = λ basis is same. absurd (no_write_ok _ same);
  failures = c.loop-range.invariant.failures;
  effect = runs_ok _ _ _ _ c.loop-range.invariant.runs;
  asked = λ asks. record { same = (c.loop-range.invariant.asked asks).traced; faults = tt };
}

pub run_statement-requires-clause-range : goal.run_statement-requires-clause-range
run_statement-requires-clause-range g c = c.requires.ranges c.loop-range.range-index (0, 0) c.loop-range-test.true

pub returns-clause-begun : goal.returns-clause-begun
returns-clause-begun g c basis is = tt
