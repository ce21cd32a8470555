use Rattle.std.proofs.Common.{ℕ, arith, length, subst}
use Rattle.ub_laying.proofs.AddFacts.{adds_trans, can_fail_before, counts_after, honest_after, not_after}
use Rattle.ub_laying.proofs.LayFacts.{count_on, grow_on, laid, on_root, some_regions}
use Rattle.ub_laying.proofs.SizeFacts.{leaves_few}
use Rattle.ub_laying.proofs.laying.lay_regions.Goals as goal
use Rattle.ub_laying.specs.Laying.{AreLaid, entries_from, most_laid}
use Rattle.ub_region.specs.Regions.{firsts_of}
use Rattle.ub_laying.specs.Levels.{Cut, IsRaised, pages_above}

pub returns : goal.returns
returns g c =
    let schema = c.args.schema.now in
    let grown = c.args.grown.now in
    let start = c.args.pager.now in
    let first = c.write_regions.new.pager in
    let middle = c.write_leaves.new.pager in
    let end = c.write_levels.new.pager in
    let low = c.in_ok-leaves.leaves in
    let one = c.in_ok-write_regions.ensures in
    let two = c.in_ok-leaves.ensures in
    let three = c.write_levels.ensures in
    let both = adds_trans start first middle one.effect.adds two.effect.adds in
    let more = one.count in
    let begins = two.level.first in
    let ends = two.level.last in
    let few = leaves_few (length grown) low.count (some_regions schema grown c.requires.regions) two.level.fewest two.level.most in
    record {
      laid = λ honest.
          let there = honest_after start first one.effect.adds honest in
          let still = honest_after start middle both honest in
          on_root (IsRaised middle.store.pages end.store.pages low) (AreLaid schema grown start.store.pages end.store.pages) c.write_levels.result
          (λ root raised. laid schema grown start.store.pages first.store.pages middle.store.pages end.store.pages low root c.requires.regions schema.counts.few_dims c.requires.first
          (one.pages honest) begins ends two.level.small (two.effect.adds.grows.kept there) (three.effect.adds.grows.kept still) (subst (λ (n : ℕ). Cut middle.store.pages 1 low.first low.count (entries_from n (firsts_of grown))) c.pages-from.ensures (two.cut there)) raised)
          (three.raised still);
      root = three.rooted.root;
      count = count_on (pages_above 4 low.count) (most_laid (length grown)) start.store middle.store end.store c.write_levels.result (omega arith) three.rooted;
      effect = record {
        adds = adds_trans start middle end both three.effect.adds;
        counts = counts_after start.store middle.store end.store c.write_levels.result (not_after start.store first.store middle.store one.effect.counts two.effect.counts) three.effect.counts;
        refused = grow_on (pages_above 4 low.count) (most_laid (length grown)) start.store middle.store c.write_levels.result (omega arith) (can_fail_before start middle both) three.effect.refused;
      };
    }
