use Rattle.std.proofs.Common.{◌≡◌, ◌%◌, ◌^◌, ℕ, List, [], ◌∷◌, bit_and, refl, arith}
use Rattle.std.proofs.Math.Nat.{mod-eq_of_lt}
use Rattle.ub_zaddr.specs.Moved.{moved, gathered}
use Rattle.ub_zaddr.specs.Steps.{closed}
use Rattle.ub_zaddr.specs.declared.masks.TheConstants.{SINGLES_BY_FOUR, PAIRS_BY_FOUR, FOURS_BY_FOUR, EIGHTS_BY_FOUR, HALF_WORD}
use Rattle.ub_zaddr.proofs.Linear.{closing, masked_closing-joins, moves, same_joins}
use Rattle.ub_zaddr.proofs.gathering.gathered_by_four.Goals as goal

abbrev steps : List (ℕ × ℕ)
steps = (3, PAIRS_BY_FOUR) ∷ (6, FOURS_BY_FOUR) ∷ (12, EIGHTS_BY_FOUR) ∷ (24, HALF_WORD) ∷ []

is_gathered : (x : ℕ) → x % 2 ^ 64 ≡ x → closing steps (bit_and x SINGLES_BY_FOUR) ≡ gathered 4 16 x
unfolding closed moved
is_gathered =
    same_joins (λ x. closing steps (bit_and x SINGLES_BY_FOUR)) (gathered 4 16) (masked_closing-joins SINGLES_BY_FOUR steps) (moves 4 1 16 (omega arith)) refl 64 refl

pub returns-clause-value : goal.returns-clause-value
returns-clause-value c =
    rw (c.close_by.ensures.value, c.close_by-x-3.ensures.value, c.close_by-x-2.ensures.value, c.close_by-x.ensures.value) (is_gathered c.args.x (mod-eq_of_lt (omega arith)))
