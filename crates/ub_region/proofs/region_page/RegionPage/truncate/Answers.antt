use Rattle.std.proofs.Common.{ap, arith}
use Rattle.ub_region.proofs.HeldFacts.{held_first, held_now, view_held}
use Rattle.ub_region.proofs.region_page.RegionPage.truncate.Goals as goal
use Rattle.ub_region.specs.RegionPage.{RegionView}

pub invariant_of-self : goal.invariant_of-self
invariant_of-self c =
    let long = (held_now c.self.inside c.args.self.now c.self.view_is).long in
    let within = c.requires in
    let most = c.self.invariant.few in
    record { few = omega arith; numbers_long = c.self.invariant.numbers_long; dims_long = c.self.invariant.dims_long }

pub returns : goal.returns
returns c =
    let now = held_now c.self.inside c.args.self.now c.self.view_is in
    let long = now.long in
    let within = c.requires in
    view_held _ c.args.self.now _ (held_first c.self.inside.len c.args.count c.self.inside.numbers c.self.inside.dims c.self.inside.measures c.args.self.now.region.rows now (omega arith))
    (ap (λ (v : RegionView). v.dims) c.self.view_is) (ap (λ (v : RegionView). v.region.first) c.self.view_is)
