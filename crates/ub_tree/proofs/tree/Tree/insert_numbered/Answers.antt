use Rattle.std.proofs.Common.{sym, subst}
use Rattle.ub_tree.proofs.Common.{InsertsAs, is_written, tree_view, TreeView}
use Rattle.ub_tree.proofs.tree.Tree.insert_numbered.Goals as goal

pub returns : goal.returns
returns g c =
    let u = c.self.inside in
    let w = c.self-2.inside in
    let old : TreeView = tree_view u.schema u.index u.count u.next u.rows (is_written u.mark) u.is_failed u.pager in
    let new : TreeView = tree_view w.schema w.index w.count w.next w.rows (is_written w.mark) w.is_failed w.pager in
    let r = c.insert_within-inserted.result in
    subst (λ (v : TreeView). InsertsAs c.args.row.now v new r) c.self.view_is
    (subst (λ (v : TreeView). InsertsAs c.args.row.now old v r) (sym c.self-2.view_is) c.insert_within-inserted.ensures)
