use Rattle.std.proofs.Common.{◌≡◌, ◌-◌, ◌*◌, ◌^◌, ℕ, arith, ap, ◌∙◌}
use Rattle.std.proofs.lemmas.Nat.Bits.{ones_shr}
use Rattle.ub_zaddr.proofs.address.last.Goals as goal

pub returns : goal.returns
returns c =
    let bits : 128 - (128 - 32 * c.dims.result) ≡ 32 * c.args.shape = omega arith in
    ones_shr 128 (128 - 32 * c.dims.result) (omega arith) ∙ ap (λ (k : ℕ). 2 ^ k - 1) bits
