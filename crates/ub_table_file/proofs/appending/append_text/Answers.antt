use Rattle.std.proofs.Common.{subst, true}
use Rattle.ub_files.specs.Clock.{Endures, IsSameBut, Runs}
use Rattle.ub_script.specs.Output.{OutFacts}
use Rattle.ub_table_file.proofs.AppendFacts.{text_same}
use Rattle.ub_table_file.proofs.OpenFacts.{not_appended, not_opened_says, tree_appended, tree_appended_lasts, tree_appended_safely}
use Rattle.ub_table_file.specs.inner.Appending.{AppendsTree, HoldsRows}
use Rattle.ub_table_file.proofs.appending.append_text.Goals as goal

pub returns-in-Ok-clause-appends : goal.returns-in-Ok-clause-appends
returns-in-Ok-clause-appends g c =
    tree_appended c.args.path.now c.args.text.now c.in-Ok.tree (g.F.Files.facts c.args.files.now) (g.F.Files.facts c.open_table.new.files) (g.W.Out.facts c.args.out.now) (g.W.Out.facts c.append_tree.new.out) c.append_tree.result c.in-Ok.ensures.opened (g.F.Files.facts c.append_tree.new.files)
    (subst (λ (o : OutFacts). AppendsTree c.args.path.now c.args.text.now c.in-Ok.tree (g.F.Files.facts c.open_table.new.files) (g.F.Files.facts c.append_tree.new.files) o (g.W.Out.facts c.append_tree.new.out) c.append_tree.result)
    c.in-Ok.ensures.quiet c.append_tree.ensures.appends)

pub returns-in-Ok-clause-crash : goal.returns-in-Ok-clause-crash
returns-in-Ok-clause-crash g c =
    tree_appended_safely c.args.path.now c.args.text.now c.in-Ok.tree (g.F.Files.facts c.args.files.now) (g.F.Files.facts c.open_table.new.files) (g.W.Out.facts c.args.out.now) (g.W.Out.facts c.append_tree.new.out) c.append_tree.result c.in-Ok.ensures.opened (g.F.Files.clock c.args.files.now) (g.F.Files.clock c.open_table.new.files) (g.F.Files.clock c.append_tree.new.files) c.in-Ok.ensures.crash
    (subst (λ (o : OutFacts). Runs (IsSameBut c.args.path.now (HoldsRows c.in-Ok.tree c.args.text.now o (g.W.Out.facts c.append_tree.new.out) c.append_tree.result))
    (g.F.Files.facts c.open_table.new.files) (g.F.Files.clock c.open_table.new.files) (g.F.Files.clock c.append_tree.new.files))
    c.in-Ok.ensures.quiet c.append_tree.ensures.crash)

pub returns-in-Ok-clause-lasts : goal.returns-in-Ok-clause-lasts
returns-in-Ok-clause-lasts g c = λ some done.
    tree_appended_lasts c.args.path.now c.args.text.now c.in-Ok.tree (g.F.Files.facts c.args.files.now) (g.F.Files.facts c.open_table.new.files) (g.W.Out.facts c.args.out.now) (g.W.Out.facts c.append_tree.new.out) c.append_tree.result c.in-Ok.ensures.opened (g.F.Files.clock c.append_tree.new.files)
    (subst (λ (o : OutFacts). Endures c.args.path.now (HoldsRows c.in-Ok.tree c.args.text.now o (g.W.Out.facts c.append_tree.new.out) c.append_tree.result)
    (g.F.Files.facts c.open_table.new.files) (g.F.Files.clock c.append_tree.new.files))
    c.in-Ok.ensures.quiet (c.append_tree.ensures.lasts some done))

pub returns-in-Err-clause-appends : goal.returns-in-Err-clause-appends
returns-in-Err-clause-appends g c = not_appended c.args.path.now c.args.text.now (g.F.Files.facts c.args.files.now) (g.F.Files.facts c.open_table.new.files) (g.W.Out.facts c.args.out.now) (g.W.Out.facts c.open_table.new.out) c.in-Err.status
    c.in-Err.ensures.refused

pub returns-in-Err-clause-crash : goal.returns-in-Err-clause-crash
returns-in-Err-clause-crash g c =
    text_same c.args.path.now c.args.text.now (g.W.Out.facts c.args.out.now) (g.W.Out.facts c.open_table.new.out) c.in-Err.status (g.F.Files.facts c.args.files.now) _ _ c.in-Err.ensures.crash

pub returns-in-Err-clause-lasts : goal.returns-in-Err-clause-lasts
returns-in-Err-clause-lasts g c = λ some done.
    absurd (not_opened_says true c.args.path.now (g.F.Files.facts c.args.files.now) (g.F.Files.facts c.open_table.new.files) (g.W.Out.facts c.args.out.now) (g.W.Out.facts c.open_table.new.out)
    c.in-Err.status c.in-Err.ensures.refused done)
