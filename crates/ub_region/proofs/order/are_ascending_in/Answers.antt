use Rattle.std.proofs.Common.{◌≡◌, ◌-◌, ◌↔◌, ℕ, IsTrue, arith, refl, subst}
use Rattle.ub_region.proofs.KeysFacts.{AreBefore, before_all, before_more, before_none}
use Rattle.ub_region.proofs.order.are_ascending_in.Goals as goal
use Rattle.ub_region.specs.Columns.{key_in}

pub loop-i-init : goal.loop-i-init
loop-i-init g c = (λ yes. before_none (key_in g.row.D c.args.numbers.now c.args.dims.now), λ all. refl)

pub loop-i-preserved : goal.loop-i-preserved
loop-i-preserved g c =
    before_more (key_in g.row.D c.args.numbers.now c.args.dims.now) c.loop-i.i c.loop-i.ascending c.is_before_next-ascending.result c.loop-i.invariant c.is_before_next-ascending.ensures

pub returns : goal.returns
returns g c =
    let end : c.loop-i.i ≡ c.args.count - 1 = omega (arith, c.loop-i-test.false, c.loop-i.auto.i-end) in
    let so = subst (λ (n : ℕ). IsTrue c.loop-i.ascending ↔ AreBefore (key_in g.row.D c.args.numbers.now c.args.dims.now) n) end c.loop-i.invariant in
    let all = before_all (key_in g.row.D c.args.numbers.now c.args.dims.now) c.args.count in (
      λ yes. all.0 (so.0 yes),
      λ up. so.1 (all.1 up),
    )
