use Rattle.std.proofs.Common.{inl, subst}
use Rattle.ub_script.specs.Output.{OutFacts}
use Rattle.ub_table_file.proofs.CrashFacts.{asked_same}
use Rattle.ub_table_file.proofs.OpenFacts.{not_asked, not_opened_says, tree_asked, tree_asked_lasts, tree_asked_safely}
use Rattle.ub_table_file.specs.inner.Running.{RunsTree}
use Rattle.ub_table_file.proofs.running.run_on.Goals as goal

pub returns-in-Ok-clause-runs : goal.returns-in-Ok-clause-runs
returns-in-Ok-clause-runs g c =
    let ran = subst (λ (o : OutFacts). RunsTree c.args.changes c.args.path.now c.args.script.now c.in-Ok.tree (g.F.Files.facts c.open_table.new.files) (g.F.Files.facts c.run_tree.new.files)
    (g.F.Files.clock c.open_table.new.files) (g.F.Files.clock c.run_tree.new.files) o (g.W.Out.facts c.run_tree.new.out) c.run_tree.result) c.in-Ok.ensures.quiet c.run_tree.ensures in
    inl (tree_asked c.args.changes c.args.path.now c.args.script.now c.in-Ok.tree (g.F.Files.facts c.args.files.now) (g.F.Files.facts c.open_table.new.files) (g.F.Files.facts c.run_tree.new.files)
    (g.F.Files.clock c.open_table.new.files) (g.F.Files.clock c.run_tree.new.files) (g.W.Out.facts c.args.out.now) (g.W.Out.facts c.run_tree.new.out) c.run_tree.result c.in-Ok.ensures.opened ran)

pub returns-in-Ok-clause-crash : goal.returns-in-Ok-clause-crash
returns-in-Ok-clause-crash g c =
    let ran = subst (λ (o : OutFacts). RunsTree c.args.changes c.args.path.now c.args.script.now c.in-Ok.tree (g.F.Files.facts c.open_table.new.files) (g.F.Files.facts c.run_tree.new.files)
    (g.F.Files.clock c.open_table.new.files) (g.F.Files.clock c.run_tree.new.files) o (g.W.Out.facts c.run_tree.new.out) c.run_tree.result) c.in-Ok.ensures.quiet c.run_tree.ensures in
    tree_asked_safely c.args.changes c.args.path.now c.args.script.now c.in-Ok.tree (g.F.Files.facts c.args.files.now) (g.F.Files.facts c.open_table.new.files) (g.F.Files.facts c.run_tree.new.files)
    (g.F.Files.clock c.open_table.new.files) (g.F.Files.clock c.run_tree.new.files) (g.W.Out.facts c.args.out.now) (g.W.Out.facts c.run_tree.new.out) c.run_tree.result c.in-Ok.ensures.opened ran
    (g.F.Files.clock c.args.files.now) c.in-Ok.ensures.crash

pub returns-in-Ok-clause-lasts : goal.returns-in-Ok-clause-lasts
returns-in-Ok-clause-lasts g c =
    let ran = subst (λ (o : OutFacts). RunsTree c.args.changes c.args.path.now c.args.script.now c.in-Ok.tree (g.F.Files.facts c.open_table.new.files) (g.F.Files.facts c.run_tree.new.files)
    (g.F.Files.clock c.open_table.new.files) (g.F.Files.clock c.run_tree.new.files) o (g.W.Out.facts c.run_tree.new.out) c.run_tree.result) c.in-Ok.ensures.quiet c.run_tree.ensures in
    λ change done.
    tree_asked_lasts c.args.changes c.args.path.now c.args.script.now c.in-Ok.tree (g.F.Files.facts c.args.files.now) (g.F.Files.facts c.open_table.new.files) (g.F.Files.facts c.run_tree.new.files)
    (g.F.Files.clock c.open_table.new.files) (g.F.Files.clock c.run_tree.new.files) (g.W.Out.facts c.args.out.now) (g.W.Out.facts c.run_tree.new.out) c.run_tree.result c.in-Ok.ensures.opened ran
    change done

pub returns-in-Err-clause-runs : goal.returns-in-Err-clause-runs
returns-in-Err-clause-runs g c = not_asked c.args.changes c.args.path.now c.args.script.now (g.F.Files.facts c.args.files.now) (g.F.Files.facts c.open_table.new.files) (g.W.Out.facts c.args.out.now) (g.W.Out.facts c.open_table.new.out) c.in-Err.status
    c.in-Err.ensures.refused

pub returns-in-Err-clause-crash : goal.returns-in-Err-clause-crash
returns-in-Err-clause-crash g c =
    asked_same c.args.path.now c.args.script.now (g.F.Files.facts c.args.files.now) _ _ (g.W.Out.facts c.args.out.now) (g.W.Out.facts c.open_table.new.out) c.in-Err.status c.in-Err.ensures.crash

pub returns-in-Err-clause-lasts : goal.returns-in-Err-clause-lasts
returns-in-Err-clause-lasts g c = λ change done.
    absurd (not_opened_says c.args.changes c.args.path.now (g.F.Files.facts c.args.files.now) (g.F.Files.facts c.open_table.new.files) (g.W.Out.facts c.args.out.now) (g.W.Out.facts c.open_table.new.out)
    c.in-Err.status c.in-Err.ensures.refused done)
