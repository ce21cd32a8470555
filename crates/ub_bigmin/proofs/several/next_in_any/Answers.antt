-- One box after the other.
use Rattle.std.proofs.Common.{◌≡◌, ℕ, min, rules}
use Rattle.std.specs.Option.{option_map_or}
use Rattle.ub_bigmin.proofs.SeveralFacts.{next_skips, no_boxes, take_whole, next_more}
use Rattle.ub_bigmin.proofs.several.next_in_any.Goals as goal
use Rattle.ub_bigmin.proofs.several.next_in_any.Goals.{in-Some, in_default}

pub loop-zbox-init : goal.loop-zbox-init
loop-zbox-init c = λ m h. absurd (no_boxes h.1)

pub loop-zbox-preserved : goal.loop-zbox-preserved
loop-zbox-preserved c = elim c.match-next_in_box.branch [
  | in-Some w ↦
      let is : w.map_or.result ≡ option_map_or (λ (other : ℕ). min other w.in-Some.found) c.loop-zbox.least w.in-Some.found = search rules in
      rw (w.least-is, is) (next_more _ _ _ c.loop-zbox-test.true c.zbox-item.is _ _ w.in-Some.found c.loop-zbox.invariant w.in-Some.ensures)
  | in_default w ↦ rw w.least-is (next_skips _ _ _ c.loop-zbox-test.true c.zbox-item.is _ _ c.loop-zbox.invariant w.in_default.ensures)
]

pub returns : goal.returns
returns c = let whole = take_whole _ _ c.loop-zbox-test.false in rw whole at c.loop-zbox.invariant
