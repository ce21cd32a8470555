use Rattle.std.proofs.Common.{◌≡◌, ◌≤◌, ℕ, List, ap, sym, subst, ◌∙◌, arith, length}
use Rattle.ub_region.proofs.MaskFacts.{IsMaskBelow-all}
use Rattle.ub_region.specs.Lanes.{IsMaskBelow}
use Rattle.ub_region.specs.RegionPage.{RegionView}
use Rattle.ub_region.proofs.region_page.RegionPage.mask.Goals as goal

pub returns : goal.returns
returns c =
    let p = c.self.inside in
    let zbox = c.args.zbox.now in
    let mask = c.mask_between.result in
    let corners = c.lo.ensures.corners in
    let lo_is = c.values.ensures.values ∙ c.lo.ensures.lo in
    let hi_is = c.values-2.ensures.values ∙ c.hi.ensures.hi in
    let lo_long : length zbox.lo ≡ p.shape = c.requires ∙ sym (ap (λ (v : RegionView). v.dims) c.self.view_is) in
    let hi_long : length zbox.hi ≡ p.shape = sym corners.ordered.0 ∙ lo_long in
    let some : 1 ≤ p.shape = omega (arith, corners.some) in
    let within : p.shape ≤ 4 = omega (arith, corners.within) in
    let in_lo = subst (λ (lo : List ℕ). IsMaskBelow p.len p.dims lo c.values-2.result.now (length lo) mask) lo_is c.mask_between.ensures in
    let in_hi = subst (λ (hi : List ℕ). IsMaskBelow p.len p.dims zbox.lo hi (length zbox.lo) mask) hi_is in_lo in
    let in_box = subst (λ (n : ℕ). IsMaskBelow p.len p.dims zbox.lo zbox.hi n mask) lo_long in_hi in
    rw (← c.self.view_is)
    (IsMaskBelow-all p.shape p.len p.first p.numbers p.dims p.measures zbox mask some within c.self.invariant.few lo_long hi_long c.self.invariant.dims_long in_box)
