use Rattle.std.proofs.Common.{arith, ap, ◌∙◌, ◌≡◌, ◌<◌, ℕ, List, length}
use Rattle.ub_zaddr.specs.Address.{IsPoint}
use Rattle.ub_bigmin.proofs.NeedFacts.{floor_is, best_next}
use Rattle.ub_bigmin.proofs.words.lowest_jump.Goals as goal

pub loop-i-preserved : goal.loop-i-preserved
loop-i-preserved c =
    let e_lo : c.values-lo.result.now ≡ c.args.zbox.now.lo = c.values-lo.ensures.values ∙ c.lo.ensures.lo in
    let e_hi : c.values-hi.result.now ≡ c.args.zbox.now.hi = c.values-hi.ensures.values ∙ c.hi.ensures.hi in
    let e_at : c.values-at.result.now ≡ c.args.point.now = c.values-at.ensures.values in
    let box = c.shape-shape.ensures.corners in
    let long : length c.args.point.now ≡ c.shape-shape.result = c.requires.shape ∙ box.lo.0 in
    let is_point : IsPoint c.shape-shape.result c.args.point.now = (long, c.values-at.ensures.words) in
    let in_d : c.loop-i.i < c.shape-shape.result = let e = ap (λ (p : List ℕ). length p) e_at in omega (arith, c.loop-i-test.true) in
    let within = box.within in
    let floor = floor_is c.shape-shape.result c.args.zbox.now c.args.point.now box is_point c.loop-i.i _ _ _ c.floor_of-floor.result in_d c.requires.needs c.floor_of-floor.ensures.own c.floor_of-floor.ensures.other in
    let found = rw (e_lo, e_hi, e_at) at c.lowest_turn.ensures in
    (best_next c.args.zbox.now c.args.point.now c.args.to c.loop-i.i _ floor (omega arith) c.loop-i.best _ _ found c.lower_jump-best.ensures c.loop-i.invariant.0, omega (arith, c.loop-i.invariant.1))

pub returns-clause-jump : goal.returns-clause-jump
returns-clause-jump c =
    let e_at : c.values-at.result.now ≡ c.args.point.now = c.values-at.ensures.values in
    let end : c.loop-i.i ≡ length c.args.point.now = let e = ap (λ (p : List ℕ). length p) e_at in omega (arith, c.loop-i-test.false, c.loop-i.auto.i-end) in
    rw end at c.loop-i.invariant.0
