use Rattle.std.proofs.Common.{subst, sym}
use Rattle.ub_tree.proofs.Common.{is_written, Removes, tree_view, TreeView}
use Rattle.ub_tree.proofs.tree.Tree.remove.Goals as goal

pub returns : goal.returns
returns g c =
    let t = c.self.inside in
    let u = c.self-2.inside in
    let a : TreeView = tree_view t.schema t.index t.count t.next t.rows (is_written t.mark) t.is_failed t.pager in
    let d : TreeView = tree_view u.schema u.index u.count u.next u.rows (is_written u.mark) u.is_failed u.pager in
    subst (λ (v : TreeView). Removes c.args.key v d c.remove_within-removed.result) c.self.view_is
    (subst (λ (v : TreeView). Removes c.args.key a v c.remove_within-removed.result) (sym c.self-2.view_is) c.remove_within-removed.ensures)
