-- A box is given back by its corners.
use Rattle.std.specs.Prelude.{◌≡◌, ℕ, length}
use Rattle.std.proofs.Common.{ap}
use Rattle.ub_bigmin.specs.Box.{IsBox}
use Rattle.ub_bigmin.specs.declared.zbox.ZBox.TheInside.{Inside}

pub corners_back : (b : Inside) → IsBox b.shape (record { lo = b.lo; hi = b.hi }) → record { shape = length b.lo; lo = b.lo; hi = b.hi } ≡ b
corners_back b h = let with_shape : ℕ → Inside = λ d. record { shape = d; lo = b.lo; hi = b.hi } in ap with_shape h.lo.0
