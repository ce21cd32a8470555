use Rattle.std.proofs.Common.{inl, inr, length}
use Rattle.ub_table_file.proofs.AppendFacts.{count_is, no_fewer, put_same, rows_kept, rows_lasts, rows_safely}
use Rattle.ub_table_file.proofs.LastFacts.{never_done, tree_says}
use Rattle.ub_table_file.proofs.appending.append_rows.Goals as goal

pub put_rows-requires : goal.put_rows-requires
put_rows-requires g c = c.requires.suit

pub overflow_sub-count : goal.overflow_sub-count
overflow_sub-count g c =
    no_fewer c.args.tree.next c.put_rows.new.tree.next c.next-next.result c.next.result (length c.args.rows.now) c.next-next.ensures.next c.next.ensures.next
    c.in-Ok.ensures.next

pub returns-in-Ok-clause-appends : goal.returns-in-Ok-clause-appends
returns-in-Ok-clause-appends g c = inl (
    rows_kept c.args.path.now c.args.rows.now c.args.tree c.put_rows.new.tree _ (g.W.Out.facts c.args.out.now) (g.W.Out.facts c.keep_rows.new.out) c.keep_rows.result
    c.in-Ok.ensures
    (count_is c.args.tree.next c.put_rows.new.tree.next c.next-next.result c.next.result _ c.next-next.ensures.next c.next.ensures.next c.in-Ok.ensures.next)
    _ _ c.keep_rows.ensures.keeps
    )

pub returns-in-Err-clause-appends : goal.returns-in-Err-clause-appends
returns-in-Err-clause-appends g c = inr (
  record {
    now = c.put_rows.new.tree;
    fault = c.in-Err.fault;
    puts = c.in-Err.ensures;
    tells = c.tell_tree_fault.ensures;
  },
  c.leave_table.ensures.kept,
)

pub returns-in-Ok-clause-crash : goal.returns-in-Ok-clause-crash
returns-in-Ok-clause-crash g c =
    rows_safely c.args.path.now c.args.rows.now c.args.tree c.put_rows.new.tree _ (g.W.Out.facts c.args.out.now) (g.W.Out.facts c.keep_rows.new.out) c.keep_rows.result
    c.in-Ok.ensures
    (count_is c.args.tree.next c.put_rows.new.tree.next c.next-next.result c.next.result _ c.next-next.ensures.next c.next.ensures.next c.in-Ok.ensures.next)
    (g.F.Files.facts c.args.files.now) _ _ c.keep_rows.ensures.crash

pub returns-in-Err-clause-crash : goal.returns-in-Err-clause-crash
returns-in-Err-clause-crash g c =
    put_same c.args.path.now c.args.rows.now c.args.tree (g.F.Files.facts c.args.files.now) _ _ (g.W.Out.facts c.args.out.now) (g.W.Out.facts c.tell_tree_fault.new.out) c.tell_tree_fault.result c.leave_table.ensures.crash

pub returns-in-Ok-clause-lasts : goal.returns-in-Ok-clause-lasts
returns-in-Ok-clause-lasts g c = λ some done.
    rows_lasts c.args.path.now c.args.rows.now c.args.tree c.put_rows.new.tree _ (g.W.Out.facts c.args.out.now) (g.W.Out.facts c.keep_rows.new.out) c.keep_rows.result
    c.in-Ok.ensures
    (count_is c.args.tree.next c.put_rows.new.tree.next c.next-next.result c.next.result _ c.next-next.ensures.next c.next.ensures.next c.in-Ok.ensures.next)
    (g.F.Files.facts c.args.files.now) (g.F.Files.clock c.keep_rows.new.files) some (λ more. c.keep_rows.ensures.lasts more done)

pub returns-in-Err-clause-lasts : goal.returns-in-Err-clause-lasts
returns-in-Err-clause-lasts g c = λ some done. absurd (never_done _ _ _ _ c.tell_tree_fault.result c.tell_tree_fault.ensures (tree_says c.in-Err.fault) done)
