use Rattle.std.proofs.Common.{ap, arith}
use Rattle.ub_region.proofs.HeldFacts.{held_out, held_now, view_held, view_long}
use Rattle.ub_region.proofs.region_page.RegionPage.remove_at.Goals as goal
use Rattle.ub_region.specs.RegionPage.{RegionView}

pub invariant_of-self : goal.invariant_of-self
invariant_of-self c =
    let most = c.self.invariant.few in
    record { few = omega arith; numbers_long = c.take_out.ensures.long; dims_long = c.take_point_out.ensures.long }

pub returns : goal.returns
returns c =
    let now = held_now c.self.inside c.args.self.now c.self.view_is in
    let long = now.long in
    let within = c.requires in
    view_held _ c.args.self.now _ (held_out c.self.inside.len c.args.index c.self.inside.numbers c.take_out.new.column c.self.inside.dims c.take_point_out.new.columns c.self.inside.measures c.take_values_out.new.columns c.args.self.now.region.rows now (omega arith)
    (λ j lt. c.take_out.ensures.below j 0 lt) (λ j from lt. c.take_out.ensures.above j 0 from lt)
    c.take_point_out.ensures.below c.take_point_out.ensures.above c.take_values_out.ensures.below c.take_values_out.ensures.above)
    (ap (λ (v : RegionView). v.dims) c.self.view_is) (ap (λ (v : RegionView). v.region.first) c.self.view_is)

pub take_out-requires : goal.take_out-requires
take_out-requires c = let long = view_long c.self.inside c.args.self.now c.self.view_is in let few = c.self.invariant.few in let within = c.requires in (omega arith, (omega arith, omega arith))

pub take_point_out-requires-clause-within : goal.take_point_out-requires-clause-within
take_point_out-requires-clause-within c = let long = view_long c.self.inside c.args.self.now c.self.view_is in let within = c.requires in omega arith

pub take_values_out-requires-clause-within : goal.take_values_out-requires-clause-within
take_values_out-requires-clause-within c = let long = view_long c.self.inside c.args.self.now c.self.view_is in let within = c.requires in omega arith
