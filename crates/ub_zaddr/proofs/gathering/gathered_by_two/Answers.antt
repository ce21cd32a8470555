use Rattle.std.proofs.Common.{◌≡◌, ◌%◌, ◌^◌, ℕ, List, [], ◌∷◌, bit_and, refl, arith}
use Rattle.std.proofs.Math.Nat.{mod-eq_of_lt}
use Rattle.ub_zaddr.specs.Moved.{moved, gathered}
use Rattle.ub_zaddr.specs.Steps.{closed}
use Rattle.ub_zaddr.specs.declared.masks.TheConstants.{SINGLES_BY_TWO, PAIRS_BY_TWO, FOURS_BY_TWO, EIGHTS_BY_TWO, SIXTEENS_BY_TWO, WORD}
use Rattle.ub_zaddr.proofs.Linear.{closing, masked_closing-joins, moves, same_joins}
use Rattle.ub_zaddr.proofs.gathering.gathered_by_two.Goals as goal

abbrev steps : List (ℕ × ℕ)
steps = (1, PAIRS_BY_TWO) ∷ (2, FOURS_BY_TWO) ∷ (4, EIGHTS_BY_TWO) ∷ (8, SIXTEENS_BY_TWO) ∷ (16, WORD) ∷ []

is_gathered : (x : ℕ) → x % 2 ^ 64 ≡ x → closing steps (bit_and x SINGLES_BY_TWO) ≡ gathered 2 32 x
unfolding closed moved
is_gathered =
    same_joins (λ x. closing steps (bit_and x SINGLES_BY_TWO)) (gathered 2 32) (masked_closing-joins SINGLES_BY_TWO steps) (moves 2 1 32 (omega arith)) refl 64 refl

pub returns : goal.returns
returns c =
    rw (c.close_by.ensures.value, c.close_by-x-4.ensures.value, c.close_by-x-3.ensures.value, c.close_by-x-2.ensures.value, c.close_by-x.ensures.value) (is_gathered c.args.x (mod-eq_of_lt (omega arith)))
