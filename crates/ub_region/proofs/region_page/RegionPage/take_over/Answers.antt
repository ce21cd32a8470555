use Rattle.std.proofs.Common.{ap, arith}
use Rattle.ub_region.proofs.HeldFacts.{held_now, held_over, view_held, view_long}
use Rattle.ub_region.proofs.region_page.RegionPage.take_over.Goals as goal
use Rattle.ub_region.specs.RegionPage.{RegionView}

pub invariant_of-self : goal.invariant_of-self
invariant_of-self c =
    record { few = c.requires.room; numbers_long = c.copy_in.ensures.long; dims_long = c.copy_points.ensures.long }

pub returns : goal.returns
returns c =
    let now = held_now c.self.inside c.args.self.now c.self.view_is in
    let other = held_now c.other.inside c.args.other.now c.other.view_is in
    let long = now.long in
    let long_other = other.long in
    let within = c.requires.within in
    let there = c.requires.there in
    let room = c.requires.room in
    view_held _ c.args.self.now _ (held_over c.self.inside.len c.other.inside.len c.args.at c.args.from c.args.count c.self.inside.numbers c.other.inside.numbers c.copy_in.new.column c.self.inside.dims c.other.inside.dims c.copy_points.new.columns c.self.inside.measures c.other.inside.measures c.copy_values.new.columns
    c.args.self.now.region.rows c.args.other.now.region.rows now other (omega arith) (omega arith)
    (λ j lt. c.copy_in.ensures.below j 0 lt) (λ j lt. c.copy_in.ensures.copied j 0 lt)
    c.copy_points.ensures.below c.copy_points.ensures.copied c.copy_values.ensures.below c.copy_values.ensures.copied)
    (ap (λ (v : RegionView). v.dims) c.self.view_is) (ap (λ (v : RegionView). v.region.first) c.self.view_is)

pub copy_in-requires : goal.copy_in-requires
copy_in-requires c =
    let long = view_long c.other.inside c.args.other.now c.other.view_is in let few = c.other.invariant.few in let there = c.requires.there in (omega arith, (c.requires.room, omega arith))

pub copy_points-requires-clause-there : goal.copy_points-requires-clause-there
copy_points-requires-clause-there c = let long = view_long c.other.inside c.args.other.now c.other.view_is in let few = c.other.invariant.few in let there = c.requires.there in omega arith

pub copy_values-requires-clause-there : goal.copy_values-requires-clause-there
copy_values-requires-clause-there c = let long = view_long c.other.inside c.args.other.now c.other.view_is in let few = c.other.invariant.few in let there = c.requires.there in omega arith
