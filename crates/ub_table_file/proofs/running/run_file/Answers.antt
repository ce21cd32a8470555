use Rattle.std.proofs.Common.{inl, inr}
use Rattle.ub_table_file.proofs.LastFacts.{never_done, store_says}
use Rattle.ub_table_file.proofs.CrashFacts.{ran_safely, run_same}
use Rattle.ub_table_file.proofs.FileFacts.{has_read, not_read}
use Rattle.ub_table_file.proofs.running.run_file.Goals as goal

pub returns-in-Ok-clause-runs : goal.returns-in-Ok-clause-runs
returns-in-Ok-clause-runs g c = inl (record {
  asked = c.as_slice.result.now;
  mid = g.F.Files.facts c.read.new.self;
  read = has_read _ c.as_slice.result.now _ _ _ (rw c.as_slice.ensures.value c.in-Ok.ensures.text) c.in-Ok.ensures.effect;
  ran = c.run_script.ensures.runs;
})

pub returns-in-Err-clause-runs : goal.returns-in-Err-clause-runs
returns-in-Err-clause-runs g c = inr (not_read _ _ _ c.in-Err.fault _ _ _ c.in-Err.ensures.faults c.in-Err.ensures.effect c.tell_store_fault.ensures)

pub returns-in-Ok-clause-crash : goal.returns-in-Ok-clause-crash
returns-in-Ok-clause-crash g c =
    ran_safely c.args.asked.table.now c.args.asked.script.now c.as_slice.result.now (g.F.Files.facts c.args.files.now) (g.F.Files.facts c.read.new.self) _ _ _ (g.W.Out.facts c.args.out.now) (g.W.Out.facts c.run_script.new.out) c.run_script.result
    (has_read _ c.as_slice.result.now _ _ _ (rw c.as_slice.ensures.value c.in-Ok.ensures.text) c.in-Ok.ensures.effect)
    c.in-Ok.ensures.crash c.run_script.ensures.crash

pub returns-in-Err-clause-crash : goal.returns-in-Err-clause-crash
returns-in-Err-clause-crash g c = run_same c.args.asked.table.now c.args.asked.script.now (g.F.Files.facts c.args.files.now) _ _ (g.W.Out.facts c.args.out.now) (g.W.Out.facts c.tell_store_fault.new.out) c.tell_store_fault.result c.in-Err.ensures.crash

pub returns-in-Ok-clause-lasts : goal.returns-in-Ok-clause-lasts
returns-in-Ok-clause-lasts g c = λ done. record {
  asked = c.as_slice.result.now;
  mid = g.F.Files.facts c.read.new.self;
  read = has_read _ c.as_slice.result.now _ _ _ (rw c.as_slice.ensures.value c.in-Ok.ensures.text) c.in-Ok.ensures.effect;
  lasts = λ has. c.run_script.ensures.lasts has done;
}

pub returns-in-Err-clause-lasts : goal.returns-in-Err-clause-lasts
returns-in-Err-clause-lasts g c = λ done. absurd (never_done _ _ _ _ c.tell_store_fault.result c.tell_store_fault.ensures (store_says c.in-Err.fault) done)
