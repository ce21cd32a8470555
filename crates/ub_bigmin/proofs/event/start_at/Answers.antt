-- The join with the point of the least address that agrees.
use Rattle.std.proofs.Common.{◌∙◌, subst, ℕ}
use Rattle.std.proofs.Math.Facts.{Fits-lt-pow}
use Rattle.ub_zaddr.specs.Address.{IsPoint}
use Rattle.ub_bigmin.proofs.PartFacts.{lowest-shifted, join-length}
use Rattle.ub_bigmin.proofs.event.start_at.Goals as goal

pub returns-clause-length : goal.returns-clause-length
returns-clause-length c = join-length _ _ _ (rw c.lo.ensures.lo at c.join.ensures)

pub returns-clause-start : goal.returns-clause-start
returns-clause-start c = (
  _,
  subst (λ (n : ℕ). IsPoint n c.point_at.result) c.shape-shape.ensures.shape c.point_at.ensures.point,
  c.point_at.ensures.address ∙ lowest-shifted c.args.z c.args.free (Fits-lt-pow c.ranges.z),
  rw c.lo.ensures.lo at c.join.ensures,
)
