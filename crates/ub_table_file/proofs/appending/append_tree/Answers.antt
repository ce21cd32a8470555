use Rattle.std.proofs.Common.{inl, inr}
use Rattle.ub_table_file.proofs.AppendFacts.{fault_for, rows_for, suit_for, tree_appends, tree_lasts, tree_safely, tree_same}
use Rattle.ub_table_file.proofs.LastFacts.{load_says, never_done}
use Rattle.ub_table_file.proofs.appending.append_tree.Goals as goal

pub append_rows-requires : goal.append_rows-requires
append_rows-requires g c = record {
  suit = suit_for c.schema.result.now c.args.tree.schema _ c.as_slice.result.now c.schema.ensures c.as_slice.ensures.value c.in-Ok.ensures.suit;
}

pub returns-in-Ok-clause-appends : goal.returns-in-Ok-clause-appends
returns-in-Ok-clause-appends g c =
    tree_appends c.args.path.now c.args.text.now c.args.tree (g.W.Out.facts c.args.out.now) (g.W.Out.facts c.append_rows.new.out) c.append_rows.result
    c.as_slice.result.now _ _ (rows_for c.args.text.now c.schema.result.now c.args.tree.schema c.next.result c.args.tree.next _ c.as_slice.result.now c.schema.ensures c.next.ensures.next c.as_slice.ensures.value c.in-Ok.ensures.rows)
    c.append_rows.ensures.appends

pub returns-in-Err-clause-appends : goal.returns-in-Err-clause-appends
returns-in-Err-clause-appends g c = inr (
  inl (record {
    fault = c.in-Err.fault;
    is = fault_for c.args.text.now c.schema.result.now c.args.tree.schema c.next.result c.args.tree.next c.in-Err.fault c.schema.ensures c.next.ensures.next c.in-Err.ensures.refused;
    tells = c.tell_load_fault.ensures;
  }),
  c.leave_table.ensures.kept,
)

pub returns-in-Ok-clause-crash : goal.returns-in-Ok-clause-crash
returns-in-Ok-clause-crash g c =
    tree_safely c.args.path.now c.args.text.now c.args.tree (g.W.Out.facts c.args.out.now) (g.W.Out.facts c.append_rows.new.out) c.append_rows.result
    c.as_slice.result.now (g.F.Files.facts c.args.files.now) _ _ (rows_for c.args.text.now c.schema.result.now c.args.tree.schema c.next.result c.args.tree.next _ c.as_slice.result.now c.schema.ensures c.next.ensures.next c.as_slice.ensures.value c.in-Ok.ensures.rows)
    c.append_rows.ensures.crash

pub returns-in-Err-clause-crash : goal.returns-in-Err-clause-crash
returns-in-Err-clause-crash g c =
    tree_same c.args.path.now c.args.text.now c.args.tree (g.W.Out.facts c.args.out.now) (g.W.Out.facts c.tell_load_fault.new.out) c.tell_load_fault.result (g.F.Files.facts c.args.files.now) _ _ c.leave_table.ensures.crash

pub returns-in-Ok-clause-lasts : goal.returns-in-Ok-clause-lasts
returns-in-Ok-clause-lasts g c = λ some done.
    tree_lasts c.args.path.now c.args.text.now c.args.tree (g.W.Out.facts c.args.out.now) (g.W.Out.facts c.append_rows.new.out) c.append_rows.result
    c.as_slice.result.now (g.F.Files.facts c.args.files.now) (g.F.Files.clock c.append_rows.new.files) (rows_for c.args.text.now c.schema.result.now c.args.tree.schema c.next.result c.args.tree.next _ c.as_slice.result.now c.schema.ensures c.next.ensures.next c.as_slice.ensures.value c.in-Ok.ensures.rows)
    some (λ more. c.append_rows.ensures.lasts more done)

pub returns-in-Err-clause-lasts : goal.returns-in-Err-clause-lasts
returns-in-Err-clause-lasts g c = λ some done. absurd (never_done _ _ _ _ c.tell_load_fault.result c.tell_load_fault.ensures (load_says c.in-Err.fault) done)
