use Rattle.std.proofs.Common.{ap, arith}
use Rattle.ub_region.proofs.HeldFacts.{held_put, held_now, view_held, view_long}
use Rattle.ub_region.proofs.region_page.RegionPage.insert_at.Goals as goal
use Rattle.ub_region.specs.RegionPage.{RegionView}

pub invariant_of-self : goal.invariant_of-self
invariant_of-self c =
    let long = (held_now c.self.inside c.args.self.now c.self.view_is).long in
    let room = c.requires.room in
    record { few = omega arith; numbers_long = c.put_in.ensures.long; dims_long = c.put_point.ensures.long }

pub returns : goal.returns
returns c =
    let now = held_now c.self.inside c.args.self.now c.self.view_is in
    let long = now.long in
    let within = c.requires.within in
    view_held _ c.args.self.now _ (held_put c.self.inside.len c.args.index c.args.row.now c.self.inside.numbers c.put_in.new.column c.self.inside.dims c.put_point.new.columns c.self.inside.measures c.put_values.new.columns c.args.self.now.region.rows now (omega arith)
    (λ j lt. c.put_in.ensures.below j 0 lt) (c.put_in.ensures.at 0) (λ j from lt. c.put_in.ensures.above j 0 from lt)
    c.put_point.ensures.below c.put_point.ensures.at c.put_point.ensures.above c.put_values.ensures.below c.put_values.ensures.at c.put_values.ensures.above)
    (ap (λ (v : RegionView). v.dims) c.self.view_is) (ap (λ (v : RegionView). v.region.first) c.self.view_is)

pub put_in-requires : goal.put_in-requires
put_in-requires c = let long = view_long c.self.inside c.args.self.now c.self.view_is in let few = c.self.invariant.few in let room = c.requires.room in let within = c.requires.within in (omega arith, (omega arith, omega arith))

pub put_point-requires-clause-within : goal.put_point-requires-clause-within
put_point-requires-clause-within c = let long = view_long c.self.inside c.args.self.now c.self.view_is in let within = c.requires.within in omega arith

pub put_values-requires-clause-within : goal.put_values-requires-clause-within
put_values-requires-clause-within c = let long = view_long c.self.inside c.args.self.now c.self.view_is in let within = c.requires.within in omega arith
