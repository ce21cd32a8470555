use Rattle.std.proofs.Common.{◌≡◌, ◌∙◌, ℕ, true, false, slice_index, arith, subst, sym}
use Rattle.ub_zaddr.proofs.BelowFacts.{AreCompared, compared_kept, compared_led, compared_places}
use Rattle.ub_zaddr.proofs.below.is_below_first.Goals as goal
use Rattle.ub_zaddr.proofs.below.is_below_first.Goals.{then-is_higher, else-is_higher}

pub loop-i-preserved : goal.loop-i-preserved
loop-i-preserved g c =
    let l = c.loop-i in
    elim c.if-is_higher.branch [
      | then-is_higher w ↦
          rw (w.highest-is, w.below-is)
          (compared_led l.i (λ j. slice_index c.args.point.now j) (λ j. slice_index c.args.other.now j) c.args.same l.highest l.below
          (c.fits-point l.i) (c.fits-other l.i) l.invariant (c.is_higher.ensures.0 w.if-is_higher.true))
      | else-is_higher w ↦
          rw (w.highest-is, w.below-is)
          (compared_kept l.i (λ j. slice_index c.args.point.now j) (λ j. slice_index c.args.other.now j) c.args.same l.highest l.below
          (c.fits-point l.i) (c.fits-other l.i) l.invariant (λ higher. let yes : false ≡ true = sym w.if-is_higher.false ∙ c.is_higher.ensures.1 higher in cc))
    ]

pub returns : goal.returns
returns g c =
    let end : c.loop-i.i ≡ g.row.D = omega (arith, c.loop-i-test.false, c.loop-i.auto.i-end) in
    compared_places g.row.D c.args.point.now c.args.other.now c.args.same c.loop-i.highest c.loop-i.below c.requires.within c.told-point c.told-other c.fits-point c.fits-other
    (subst (λ (n : ℕ). AreCompared n (λ j. slice_index c.args.point.now j) (λ j. slice_index c.args.other.now j) c.args.same c.loop-i.highest c.loop-i.below) end c.loop-i.invariant)
