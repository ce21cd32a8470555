use Rattle.std.proofs.Common.{arith}
use Rattle.ub_laying.proofs.AddFacts.{adds_trans, not_after, honest_after}
use Rattle.ub_laying.proofs.LevelFacts.{level_more}
use Rattle.ub_laying.proofs.levels.write_level.Goals as goal

pub loop-named-preserved : goal.loop-named-preserved
loop-named-preserved g c =
    let inv = c.loop-named.invariant in
    let start = c.args.pager.now in
    let now = c.loop-named.pager in
    let then = c.add_names.new.pager in
    let more = c.in_ok-add_names.ensures.count in
    let count = c.min-count.ensures in
    let full = inv.full c.loop-named-test.true in
    let last = c.requires.last in
    record {
      within = omega arith;
      start = inv.start;
      more = (let less = inv.more in omega arith);
      few = (let less = inv.more in omega arith);
      some = (let less = inv.more in omega arith);
      full = λ left. let less = inv.more in omega arith;
      adds = adds_trans start now then inv.adds c.in_ok-add_names.ensures.effect.adds;
      counts = not_after start.store now.store then.store inv.counts c.in_ok-add_names.ensures.effect.counts;
      cut = λ honest.
          let still = honest_after start now inv.adds honest in
          level_more start.store.pages now.store.pages then.store.pages c.args.level c.args.low.first c.pages-first.result c.loop-named.named c.min-count.result c.args.low.count
          (inv.adds.grows.kept honest) ((c.in_ok-add_names.ensures.added still).1 still) (omega arith) (omega arith) (omega arith) (omega arith) inv.more (inv.cut honest);
    }
