-- How many bytes an address takes.
use Rattle.std.proofs.Common.{◌≤◌, ◌<◌, ◌^◌, ℕ, zero, suc, arith}
use Rattle.ub_zaddr.specs.Address.{last_address}

-- an address of a space of at most four dimensions takes 16 bytes
pub small_address : (d z : ℕ) → d ≤ 4 → z ≤ last_address d → z < 256 ^ 16
small_address zero z few le = omega arith
small_address (suc zero) z few le = omega arith
small_address (suc (suc zero)) z few le = omega arith
small_address (suc (suc (suc zero))) z few le = omega arith
small_address (suc (suc (suc (suc zero)))) z few le = omega arith
small_address (suc (suc (suc (suc (suc d))))) z few le = absurd (omega arith)
