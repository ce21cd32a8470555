use Rattle.std.proofs.Common.{◌≡◌, ◌<◌, ◌^◌, ℕ, ap, false, subst, sym, rules}
use Rattle.ub_tree.proofs.Common.{is_written}
use Rattle.ub_check.specs.declared.checking.Told.{Told}
use Rattle.ub_tree.proofs.CallFacts.{last_small}
use Rattle.ub_tree.proofs.CheckFacts.{checked_done, checked_refused}
use Rattle.ub_tree.proofs.tree.Tree.check.Goals as goal

pub returns-in_err-check_pages : goal.returns-in_err-check_pages
returns-in_err-check_pages g c =
    let t = c.self.inside in
    let working : t.is_failed ≡ false = search rules in
    let told : Told = record { root = c.root-root.result.0; levels = c.root-root.result.1; regions = t.count; rows = t.rows; next = t.next } in
    let told_is = ap (λ (r : ℕ × ℕ). record { root = r.0; levels = r.1; regions = t.count; rows = t.rows; next = t.next }) c.root-root.ensures.root in
    let small : t.index.last < 2 ^ 128 = subst (λ n. n < 2 ^ 128) (sym c.self.invariant.last_is) (last_small t.schema.dims t.schema.counts.few_dims) in
    rw (← c.self.view_is) (checked_refused t.schema t.index t.count t.next t.rows (is_written t.mark) t.is_failed t.pager c.check_pages.new.pager c.self.invariant.last_is small working told told_is
    c.from_residual.result c.in_err-check_pages.field-0.0 c.from_residual.ensures.1 c.in_err-check_pages.ensures)

pub returns : goal.returns
returns g c =
    let t = c.self.inside in
    let working : t.is_failed ≡ false = search rules in
    let told : Told = record { root = c.root-root.result.0; levels = c.root-root.result.1; regions = t.count; rows = t.rows; next = t.next } in
    let told_is = ap (λ (r : ℕ × ℕ). record { root = r.0; levels = r.1; regions = t.count; rows = t.rows; next = t.next }) c.root-root.ensures.root in
    let small : t.index.last < 2 ^ 128 = subst (λ n. n < 2 ^ 128) (sym c.self.invariant.last_is) (last_small t.schema.dims t.schema.counts.few_dims) in
    rw (← c.self.view_is) (checked_done t.schema t.index t.count t.next t.rows (is_written t.mark) t.is_failed t.pager c.check_pages.new.pager c.self.invariant.last_is small working told told_is
    {T = Unit {0}} {U = Unit {0}} tt tt c.in_ok-check_pages.ensures)
