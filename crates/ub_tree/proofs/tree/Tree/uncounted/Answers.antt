use Rattle.std.proofs.Common.{◌<◌, ◌^◌, arith, subst}
use Rattle.ub_tree.proofs.Common.{page_count, TreeView}
use Rattle.ub_tree.proofs.HoldingFacts.{never_full}
use Rattle.ub_tree.proofs.tree.Tree.uncounted.Goals as goal

pub returns-clause-many : goal.returns-clause-many
returns-clause-many g c =
    let small : page_count c.self.inside.pager.store < 2 ^ 32 = (let fits = c.pages-pages.type_inv in let same = c.pages-pages.ensures in omega arith) in
    never_full c.args.self.now (subst (λ (v : TreeView). page_count v.store < 2 ^ 32) c.self.view_is small)
