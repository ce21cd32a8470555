use Rattle.std.proofs.Common.{arith, rules, take}
use Rattle.std.proofs.lemmas.List.{length-take-le}
use Rattle.ub_laying.proofs.AddFacts.{adds_trans, honest_after, not_after}
use Rattle.ub_laying.proofs.LayFacts.{leaf_more, length-firsts}
use Rattle.ub_laying.proofs.leaves.write_leaves.Goals as goal
use Rattle.ub_region.specs.Regions.{firsts_of}

pub loop-named-preserved : goal.loop-named-preserved
loop-named-preserved g c =
    let inv = c.loop-named.invariant in
    let start = c.args.pager.now in
    let now = c.loop-named.pager in
    let then = c.add_index_page.new.pager in
    let grown = c.args.grown.now in
    let more = c.in_ok-add_index_page.ensures.added.0 in
    let one = c.size_at-count.ensures.some in
    let most = c.size_at-count.ensures.few in
    let left = c.size_at-count.ensures.within in
    let half = c.size_at-count.ensures.full in
    let len = c.len.ensures in
    let len_again = c.len-in-loop-named.ensures in
    let test = c.loop-named-test.true in
    let full = inv.full (omega arith) in
    let less = inv.more in
    record {
      within = omega arith;
      long = search rules;
      start = inv.start;
      more = omega arith;
      few = omega arith;
      some = omega arith;
      full = λ on. (let least = half (omega arith) in omega arith);
      adds = adds_trans start now then inv.adds c.in_ok-add_index_page.ensures.effect.adds;
      counts = not_after start.store now.store then.store inv.counts c.in_ok-add_index_page.ensures.effect.counts;
      cut = λ honest.
          let still = honest_after start now inv.adds honest in
          let long = length-firsts grown in
          let part = length-take-le c.size_at-count.result c.name_regions.new.entries (omega arith) in
          leaf_more now.store.pages then.store.pages c.pages-first.result c.args.from c.loop-named.named c.size_at-count.result (firsts_of grown) (take c.size_at-count.result c.name_regions.new.entries)
          (c.in_ok-add_index_page.ensures.added.1 still) c.name_regions.ensures (omega arith) less (omega arith) (omega arith) (inv.cut honest);
    }
