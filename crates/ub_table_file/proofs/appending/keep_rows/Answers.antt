use Rattle.std.proofs.Common.{Err, Ok, refl}
use Rattle.ub_table_file.proofs.AppendFacts.{count_kept, count_lasts, count_safely, told_rows}
use Rattle.ub_table_file.proofs.LastFacts.{never_done, tree_says}
use Rattle.ub_table_file.proofs.appending.keep_rows.Goals as goal

pub returns-in-Ok-clause-keeps : goal.returns-in-Ok-clause-keeps
returns-in-Ok-clause-keeps g c =
    count_kept c.args.path.now c.args.count c.args.tree (Ok tt) (g.F.Files.facts c.args.files.now) _ _ _ (g.W.Out.facts c.args.out.now) (g.W.Out.facts c.tell_line.new.out) c.tell_line.result
    c.in-Ok.ensures (told_rows c.args.count c.rows-rows.result c.args.tree.rows _ _ _ c.tell_line.result c.rows-rows.ensures c.appended_line.ensures c.tell_line.ensures)

pub returns-in-Err-clause-keeps : goal.returns-in-Err-clause-keeps
returns-in-Err-clause-keeps g c =
    count_kept c.args.path.now c.args.count c.args.tree (Err c.in-Err.fault) (g.F.Files.facts c.args.files.now) _ _ _ (g.W.Out.facts c.args.out.now) (g.W.Out.facts c.tell_tree_fault.new.out) c.tell_tree_fault.result
    c.in-Err.ensures c.tell_tree_fault.ensures

pub returns-in-Ok-clause-crash : goal.returns-in-Ok-clause-crash
returns-in-Ok-clause-crash g c =
    count_safely c.args.path.now c.args.count c.args.tree (Ok tt) (g.F.Files.facts c.args.files.now) _ _ _ (g.W.Out.facts c.args.out.now) (g.W.Out.facts c.tell_line.new.out) c.tell_line.result
    c.in-Ok.ensures (told_rows c.args.count c.rows-rows.result c.args.tree.rows _ _ _ c.tell_line.result c.rows-rows.ensures c.appended_line.ensures c.tell_line.ensures)

pub returns-in-Err-clause-crash : goal.returns-in-Err-clause-crash
returns-in-Err-clause-crash g c =
    count_safely c.args.path.now c.args.count c.args.tree (Err c.in-Err.fault) (g.F.Files.facts c.args.files.now) _ _ _ (g.W.Out.facts c.args.out.now) (g.W.Out.facts c.tell_tree_fault.new.out) c.tell_tree_fault.result
    c.in-Err.ensures c.tell_tree_fault.ensures

pub returns-in-Ok-clause-lasts : goal.returns-in-Ok-clause-lasts
returns-in-Ok-clause-lasts g c = λ some done.
    count_lasts c.args.path.now c.args.count c.args.tree (Ok tt) (g.F.Files.facts c.args.files.now) _ _ _ (g.W.Out.facts c.args.out.now) (g.W.Out.facts c.tell_line.new.out) c.tell_line.result
    c.in-Ok.ensures (told_rows c.args.count c.rows-rows.result c.args.tree.rows _ _ _ c.tell_line.result c.rows-rows.ensures c.appended_line.ensures c.tell_line.ensures) refl some

pub returns-in-Err-clause-lasts : goal.returns-in-Err-clause-lasts
returns-in-Err-clause-lasts g c = λ some done. absurd (never_done _ _ _ _ c.tell_tree_fault.result c.tell_tree_fault.ensures (tree_says c.in-Err.fault) done)
