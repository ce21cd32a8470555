use Rattle.std.proofs.Common.{◌≡◌, ◌<◌, ◌^◌, Option, Some, option_copied, subst, sym}
use Rattle.ub_tree.proofs.Common.{GivesAfter, is_written, Region, TreeView}
use Rattle.ub_tree.proofs.CallFacts.{last_small, seek_told}
use Rattle.ub_tree.proofs.SearchFacts.{sought_refused}
use Rattle.ub_tree.proofs.tree.Tree.seek.Goals as goal

pub returns-clause-later : goal.returns-clause-later
returns-clause-later g c =
    let given = subst (λ (v : TreeView). GivesAfter v.inner.index v.store (λ _ to. to ≡ Some c.args.z) (option_copied c.args.after) c.in_ok-found.found) c.self.view_is (c.in_ok-found.ensures.given c.self.invariant.checked) in
    seek_told c.args.self.now c.args.z (option_copied c.args.after) c.in_ok-found.found given (c.in_ok-found.ensures.later c.self.invariant.checked)

pub returns-clause-gives : goal.returns-clause-gives
returns-clause-gives g c =
    subst (λ (v : TreeView). GivesAfter v.inner.index v.store (λ _ to. to ≡ Some c.args.z) (option_copied c.args.after) c.in_ok-found.found) c.self.view_is (c.in_ok-found.ensures.given c.self.invariant.checked)

pub returns-in_err-found-clause-effect : goal.returns-in_err-found-clause-effect
returns-in_err-found-clause-effect g c =
    let t = c.self.inside in
    let small = subst (λ n. n < 2 ^ 128) (sym c.self.invariant.last_is) (last_small t.schema.dims t.schema.counts.few_dims) in
    rw (← c.self.view_is) (sought_refused t.schema t.index t.count t.next t.rows (is_written t.mark) t.is_failed t.pager c.seek.new.pager _ (Option Region) c.from_residual.result c.in_err-found.field-0.0 small c.self.invariant.checked
    c.from_residual.ensures.1 c.in_err-found.ensures.effect)
