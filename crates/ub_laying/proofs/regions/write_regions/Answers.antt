use Rattle.std.proofs.Common.{arith, ap, ◌∙◌, ◌++◌, ◌∷◌, [], List, ℕ}
use Rattle.ub_laying.proofs.AddFacts.{adds_trans, honest_after, not_after}
use Rattle.ub_laying.proofs.LayFacts.{one_of, pages_next, region_at}
use Rattle.ub_laying.proofs.regions.write_regions.Goals as goal
use Rattle.ub_table.specs.Region.{IsRegion, RegionRows}

pub write_region-requires : goal.write_region-requires
write_region-requires g c =
    one_of (IsRegion c.args.schema.now) c.args.grown.now c.loop-i.i (record { first = c.first.result; rows = c.rows.result.now }) c.requires
    (region_at c.args.grown.now c.loop-i.i c.first.result c.rows.result.now c.first.ensures c.rows.ensures)

pub loop-i-preserved : goal.loop-i-preserved
loop-i-preserved g c =
    let inv = c.loop-i.invariant in
    let start = c.args.pager.now in
    let now = c.loop-i.pager in
    let then = c.add_page.new.pager in
    let region : RegionRows = record { first = c.first.result; rows = c.rows.result.now } in
    record {
      count = (let more = c.in_ok-add_page.ensures.added.0 in let was = inv.count in omega arith);
      adds = adds_trans start now then inv.adds c.in_ok-add_page.ensures.effect.adds;
      counts = not_after start.store now.store then.store inv.counts c.in_ok-add_page.ensures.effect.counts;
      pages = λ honest.
          let still = honest_after start now inv.adds honest in
          pages_next c.args.schema.now start.store.pages now.store.pages then.store.pages c.args.grown.now c.loop-i.i region
          (region_at c.args.grown.now c.loop-i.i c.first.result c.rows.result.now c.first.ensures c.rows.ensures) (inv.pages honest)
          (c.in_ok-add_page.ensures.added.1 still ∙ ap (λ (page : List ℕ). now.store.pages ++ page ∷ []) (c.page.ensures ∙ c.write_region.ensures.page));
    }
