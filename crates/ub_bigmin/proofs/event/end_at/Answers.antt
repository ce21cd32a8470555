-- The meet with the point of the greatest address that agrees.
use Rattle.std.proofs.Common.{◌<◌, ◌*◌, ◌^◌, ◌∙◌, ℕ, length, subst, arith}
use Rattle.std.proofs.Math.Facts.{Fits-of_lt, Fits-lt-pow}
use Rattle.std.proofs.lemmas.Nat.{pow_pos}
use Rattle.ub_zaddr.specs.Address.{IsPoint}
use Rattle.ub_bigmin.proofs.PartFacts.{highest-lt, highest-shifted, meet-length}
use Rattle.ub_bigmin.proofs.event.end_at.Goals as goal

pub overflow_add-highest : goal.overflow_add-highest
overflow_add-highest c =
    let z = Fits-lt-pow c.ranges.z in
    rw (highest-shifted c.args.z c.args.free z c.requires.shift) (Fits-of_lt (highest-lt c.args.z c.args.free 128 (let k = c.requires.shift in omega arith) z))

pub point_at-requires : goal.point_at-requires
point_at-requires c =
    let same = c.shape-shape.ensures.shape in
    let small : c.args.z < 2 ^ (32 * c.shape-shape.result) = rw same (let pos = pow_pos (32 * length c.args.zbox.now.lo) in let le = c.requires.z in omega arith) in
    let room = highest-lt c.args.z c.args.free (32 * c.shape-shape.result) (let k = c.requires.free in omega arith) small in
    rw (highest-shifted c.args.z c.args.free (Fits-lt-pow c.ranges.z) c.requires.shift) (omega arith)

pub returns-clause-length : goal.returns-clause-length
returns-clause-length c = meet-length _ _ _ (rw c.hi.ensures.hi at c.meet.ensures) ∙ c.shape-shape.ensures.corners.hi.0 ∙ c.shape-shape.ensures.shape

pub returns-clause-end : goal.returns-clause-end
returns-clause-end c = (
  _,
  subst (λ (n : ℕ). IsPoint n c.point_at.result) c.shape-shape.ensures.shape c.point_at.ensures.point,
  c.point_at.ensures.address ∙ highest-shifted c.args.z c.args.free (Fits-lt-pow c.ranges.z) c.requires.shift,
  rw c.hi.ensures.hi at c.meet.ensures,
)
