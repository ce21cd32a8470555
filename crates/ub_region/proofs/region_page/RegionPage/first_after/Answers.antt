use Rattle.std.proofs.Common.{◌≡◌, ◌<◌, ◌+◌, ◌-◌, ◌/◌, ℕ, Some, true, false, get_or, length, slice_get, sym, ◌∙◌, arith}
use Rattle.std.proofs.lemmas.Option.{slice_get-get_or}
use Rattle.ub_region.proofs.BlankRow.{blank_row}
use Rattle.ub_region.proofs.IndexFacts.{after_from, key_there, not_after_upto}
use Rattle.ub_region.proofs.region_page.RegionPage.first_after.Goals as goal
use Rattle.ub_table.specs.Keys.{precedes}
use Rattle.ub_table.specs.Region.{key_of, keys_of}
use Rattle.ub_table.specs.declared.row.Key.{Key}

pub loop-low-preserved-then-is_after : goal.loop-low-preserved-then-is_after
loop-low-preserved-then-is_after c =
    let h = c.loop-low.invariant in
    let v = c.args.self.now in
    let middle : ℕ = c.loop-low.low + (c.loop-low.high - c.loop-low.low) / 2 in
    let less = c.loop-low-test.true in
    let within = h.within in
    let there : middle < length v.region.rows = omega arith in
    let own : Key = key_of v.dims (get_or v.region.rows middle blank_row) in
    let at : slice_get (keys_of v.dims v.region.rows) middle ≡ Some own = key_there v.dims v.region.rows middle _ (slice_get-get_or v.region.rows middle blank_row there) in
    let after : precedes (key_of v.dims c.args.row.now) own ≡ true = sym (c.is_after.ensures own at) ∙ c.if-is_after.true in
    record {
      order = omega arith;
      within = omega arith;
      below = h.below;
      above = after_from (key_of v.dims c.args.row.now) own (keys_of v.dims v.region.rows) middle c.requires at after;
    }

pub loop-low-preserved : goal.loop-low-preserved
loop-low-preserved c =
    let h = c.loop-low.invariant in
    let v = c.args.self.now in
    let middle : ℕ = c.loop-low.low + (c.loop-low.high - c.loop-low.low) / 2 in
    let less = c.loop-low-test.true in
    let within = h.within in
    let there : middle < length v.region.rows = omega arith in
    let own : Key = key_of v.dims (get_or v.region.rows middle blank_row) in
    let at : slice_get (keys_of v.dims v.region.rows) middle ≡ Some own = key_there v.dims v.region.rows middle _ (slice_get-get_or v.region.rows middle blank_row there) in
    let not_after : precedes (key_of v.dims c.args.row.now) own ≡ false = sym (c.is_after.ensures own at) ∙ c.if-is_after.false in
    record {
      order = omega arith;
      within = h.within;
      below = not_after_upto (key_of v.dims c.args.row.now) own (keys_of v.dims v.region.rows) middle c.requires at not_after;
      above = h.above;
    }

pub returns-clause-below : goal.returns-clause-below
returns-clause-below c = c.loop-low.invariant.below

pub returns-clause-above : goal.returns-clause-above
returns-clause-above c = let order = c.loop-low.invariant.order in let end = c.loop-low-test.false in
    λ i key from at. c.loop-low.invariant.above i key (omega arith) at
