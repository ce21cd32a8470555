use Rattle.std.proofs.Common.{◌≡◌, ◌≤◌, ◌+◌, ◌-◌, ap, arith, refl, ℕ, rules}
use Rattle.ub_laying.specs.Levels.{pages_above, pages_for}
use Rattle.ub_laying.proofs.AddFacts.{adds_trans, can_fail_before, grow_by, not_after, honest_after}
use Rattle.ub_laying.proofs.LevelFacts.{level_next, root_at}
use Rattle.ub_laying.proofs.SizeFacts.{above_next, above_none, fewer_pages, low_level}
use Rattle.ub_laying.proofs.levels.write_levels.Goals as goal

pub loop-low-preserved : goal.loop-low-preserved
loop-low-preserved g c =
    let inv = c.loop-low.invariant in
    let start = c.args.pager.now in
    let now = c.loop-low.pager in
    let then = c.write_level.new.pager in
    let level = c.loop-low.level in
    let low = c.loop-low.low in
    let up = c.in_ok-low.low in
    let made = c.in_ok-low.ensures in
    let some : 2 ≤ low.count = c.loop-low-test.true in
    let count : up.count ≡ pages_for low.count = made.level.count in
    let first = made.level.first in
    let end = made.level.last in
    let last = inv.last in
    let from = inv.from in
    let lowest = low_level level low.count some inv.few in
    let fewer = fewer_pages level low.count some inv.few in
    record {
      last = made.level.last;
      some = omega arith;
      first = (let x = inv.first in let y = inv.some in omega arith);
      from = omega arith;
      low = omega arith;
      high = omega arith;
      few = omega arith;
      count = (
          let next = above_next level low.count lowest some in
          let same = ap (λ (n : ℕ). pages_above (5 - (level + 1)) n) count in
          let was = inv.count in
          omega arith);
      adds = adds_trans start now then inv.adds made.effect.adds;
      counts = not_after start.store now.store then.store inv.counts made.effect.counts;
      raised = λ honest last from entries small le is.
          let still = honest_after start now inv.adds honest in
          let x = inv.from in
          let y = inv.first in
          let fits = made.level.small in
          level_next last now.store.pages then.store.pages from level (level + 1) up.first up.count _ entries small refl (omega arith) (made.effect.adds.grows.kept still) first (omega arith) (omega arith) end (omega arith)
          (inv.raised honest last from entries small le is) (made.cut still);
    }

pub returns-clause-raised : goal.returns-clause-raised
returns-clause-raised g c = λ honest last from entries small le is.
    let inv = c.loop-low.invariant in
    let some = inv.some in
    let now = c.loop-low.pager in
    root_at last now.store.pages from _ c.loop-low.level c.loop-low.low.first c.loop-low.low.count entries (inv.raised honest last from entries small le is) (omega arith)

pub returns-clause-rooted : goal.returns-clause-rooted
returns-clause-rooted g c = record {
  root = search rules;
  count =
      let inv = c.loop-low.invariant in
      let none = above_none (5 - c.loop-low.level) c.loop-low.low.count c.loop-low-test.false in
      let count = inv.count in
      omega arith;
}

pub returns-in_err-low-clause-effect : goal.returns-in_err-low-clause-effect
returns-in_err-low-clause-effect g c = record {
  adds = search rules;
  counts = search rules;
  refused =
      let inv = c.loop-low.invariant in
      let start = c.args.pager.now in
      let now = c.loop-low.pager in
      let low = c.loop-low.low in
      let some : 2 ≤ low.count = c.loop-low-test.true in
      let lowest = low_level c.loop-low.level low.count some inv.few in
      let next = above_next c.loop-low.level low.count lowest some in
      let count = inv.count in
      grow_by (pages_for low.count) (pages_above 4 c.args.leaves.count) start.store now.store c.from_residual.result c.in_err-low.field-0.0 c.from_residual.ensures.1 (omega arith)
      (can_fail_before start now inv.adds) c.in_err-low.ensures.effect.refused;
}
