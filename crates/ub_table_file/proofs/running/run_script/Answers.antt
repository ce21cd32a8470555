use Rattle.std.proofs.Common.{inl, inr, refl, subst, sym}
use Rattle.ub_script.specs.Script.{HasChangeWord}
use Rattle.ub_table_file.proofs.FileFacts.{weighed_as}
use Rattle.ub_table_file.proofs.LastFacts.{never_done}
use Rattle.ub_table_file.proofs.CrashFacts.{asked_same}
use Rattle.ub_table_file.proofs.GoesFacts.{runs_none}
use Rattle.ub_table_file.proofs.running.run_script.Goals as goal

pub returns-clause-runs : goal.returns-clause-runs
returns-clause-runs g c = rw (← c.in-Ok.ensures)
    (inr (c.may_change.result, weighed_as _ c.may_change.result c.may_change.result refl c.may_change.ensures.exact c.may_change.ensures.asks, c.run_on.ensures.runs))

pub returns-in_default-clause-runs : goal.returns-in_default-clause-runs
returns-in_default-clause-runs g c = inl (record { files = refl; tells = c.tell_memory.ensures })

pub returns-clause-crash : goal.returns-clause-crash
returns-clause-crash g c = rw (← c.in-Ok.ensures) c.run_on.ensures.crash

pub returns-in_default-clause-crash : goal.returns-in_default-clause-crash
returns-in_default-clause-crash g c = asked_same c.args.path.now c.args.script.now (g.F.Files.facts c.args.files.now) _ _ (g.W.Out.facts c.args.out.now) (g.W.Out.facts c.tell_memory.new.out) c.tell_memory.result (runs_none (g.F.Files.facts c.args.files.now) _)

pub returns-clause-lasts : goal.returns-clause-lasts
returns-clause-lasts g c = λ has. rw (← c.in-Ok.ensures) (c.run_on.ensures.lasts (c.may_change.ensures.exact.1 (subst HasChangeWord (sym c.in-Ok.ensures) has)))

pub returns-in_default-clause-lasts : goal.returns-in_default-clause-lasts
returns-in_default-clause-lasts g c = λ has done. absurd (never_done _ _ _ _ c.tell_memory.result c.tell_memory.ensures refl done)
