use Rattle.std.proofs.Common.{◌≡◌, ◌/◌, ◌%◌, ◌^◌, ◌<◌, ℕ, bit_and, slice_index, refl, arith, ◌∙◌}
use Rattle.std.proofs.lemmas.Nat.{and_mask}
use Rattle.ub_zaddr.specs.Moved.{moved, spaced}
use Rattle.ub_zaddr.specs.declared.tables.TheConstants.{BY_FOUR}
use Rattle.ub_zaddr.proofs.TurnFacts.{entries, bytes_joined}
use Rattle.ub_zaddr.proofs.spacing.spaced_by_four.Goals as goal

is_spaced : (n : ℕ) → n < 256 → slice_index BY_FOUR n ≡ spaced 4 8 n
unfolding moved
is_spaced = entries BY_FOUR 4 256 refl

pub returns : goal.returns
returns c =
    let high : c.entry-high.result ≡ spaced 4 8 (c.args.x / 2 ^ 8) = c.entry-high.ensures ∙ is_spaced (c.args.x / 2 ^ 8) (omega arith) in
    let byte : bit_and c.args.x 255 ≡ c.args.x % 2 ^ 8 = and_mask c.args.x 8 in
    let low : c.entry-low.result ≡ spaced 4 8 (c.args.x % 2 ^ 8) = c.entry-low.ensures ∙ rw byte (is_spaced (c.args.x % 2 ^ 8) (omega arith)) in
    bytes_joined 4 c.args.x c.entry-high.result c.entry-low.result (omega arith) (omega arith) high low
