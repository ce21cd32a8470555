use Rattle.std.proofs.Common.{◌≡◌}
use Rattle.ub_load.specs.declared.fault.LoadFault.{LoadFault}
use Rattle.ub_load.specs.declared.fault.LoadFault.TheVariants.{Memory}
use Rattle.ub_shell.proofs.FileFacts.{refused_by}
use Rattle.ub_table_file.proofs.Laws.{none_kept}
use Rattle.ub_shell.proofs.loading.close_table.Goals as goal

pub lay_table-requires : goal.lay_table-requires
lay_table-requires c = c.requires

pub returns-in_err-tree-clause-closed : goal.returns-in_err-tree-clause-closed
returns-in_err-tree-clause-closed c = λ text name axes page_rows is. none_kept _ c.from_residual.result c.in_err-tree.field-0.0 c.from_residual.ensures.1

pub returns-in_err-tree-clause-refused : goal.returns-in_err-tree-clause-refused
returns-in_err-tree-clause-refused c =
    refused_by (λ (fault : LoadFault). fault ≡ Memory) c.from_residual.result c.in_err-tree.field-0.0 c.from_residual.ensures.1 c.in_err-tree.ensures.refused

pub returns-in-Ok-clause-closed : goal.returns-in-Ok-clause-closed
returns-in-Ok-clause-closed c = λ text name axes page_rows is.
    let loaded = c.in_ok-tree.ensures.laid text axes page_rows name is in
    record {
      tree = c.in_ok-tree.tree;
      loaded = loaded;
      closed = (c.in-Ok.ensures.closed loaded.sound).1;
      rows_are = c.rows.ensures;
      regions_are = c.regions.ensures.count;
    }
