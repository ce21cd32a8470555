use Rattle.std.proofs.Common.{◌≡◌, ◌<◌, ◌^◌, subst, sym}
use Rattle.ub_tree.proofs.Common.{Gives, is_written, IsWayFault, Region, TreeView}
use Rattle.ub_tree.proofs.CallFacts.{holding_refused, last_small, one_falls}
use Rattle.ub_tree.proofs.SearchFacts.{search_refused}
use Rattle.ub_tree.proofs.tree.Tree.region_holding.Goals as goal

pub returns-clause-led : goal.returns-clause-led
returns-clause-led g c = λ span honest falls.
    let t = c.args.self.now in
    let given = subst (λ (v : TreeView). Gives v.inner.index v.store c.args.key.now c.in_ok-region.region) c.self.view_is (c.in_ok-region.ensures.given c.self.invariant.checked) in
    one_falls t c.args.key.now c.in_ok-region.region span honest given falls

pub returns-in_err-region-clause-led : goal.returns-in_err-region-clause-led
returns-in_err-region-clause-led g c = λ span honest falls.
    let t = c.args.self.now in
    let i = c.self.inside in
    let small = subst (λ n. n < 2 ^ 128) (sym c.self.invariant.last_is) (last_small i.schema.dims i.schema.counts.few_dims) in
    let near = subst (λ (v : TreeView). v.inner.index.last < 2 ^ 128) c.self.view_is small in
    let fault = subst (λ (v : TreeView). IsWayFault v.inner.index v.store (λ k. k ≡ c.args.key.now) c.in_err-region.field-0.0) c.self.view_is (c.in_err-region.ensures.effect.faults c.self.invariant.checked) in
    holding_refused t.inner.index t.store c.args.key.now span c.from_residual.result c.in_err-region.field-0.0 near honest falls c.from_residual.ensures.1 fault

pub returns-in_err-region-clause-effect : goal.returns-in_err-region-clause-effect
returns-in_err-region-clause-effect g c =
    let t = c.self.inside in
    let small = subst (λ n. n < 2 ^ 128) (sym c.self.invariant.last_is) (last_small t.schema.dims t.schema.counts.few_dims) in
    rw (← c.self.view_is) (search_refused t.schema t.index t.count t.next t.rows (is_written t.mark) t.is_failed t.pager c.region_holding.new.pager _ Region c.from_residual.result c.in_err-region.field-0.0 small c.self.invariant.checked
    c.from_residual.ensures.1 c.in_err-region.ensures.effect)
