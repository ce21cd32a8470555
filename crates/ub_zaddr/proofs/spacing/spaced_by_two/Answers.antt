use Rattle.std.proofs.Common.{◌≡◌, ◌%◌, ◌^◌, ℕ, List, [], ◌∷◌, refl, arith}
use Rattle.std.proofs.Math.Nat.{mod-eq_of_lt}
use Rattle.ub_zaddr.specs.Moved.{moved, spaced}
use Rattle.ub_zaddr.specs.Steps.{opened}
use Rattle.ub_zaddr.specs.declared.masks.TheConstants.{SINGLES_BY_TWO, PAIRS_BY_TWO, FOURS_BY_TWO, EIGHTS_BY_TWO, SIXTEENS_BY_TWO}
use Rattle.ub_zaddr.proofs.Linear.{opening, opening-joins, moves, same_joins}
use Rattle.ub_zaddr.proofs.spacing.spaced_by_two.Goals as goal

abbrev steps : List (ℕ × ℕ)
steps = (16, SIXTEENS_BY_TWO) ∷ (8, EIGHTS_BY_TWO) ∷ (4, FOURS_BY_TWO) ∷ (2, PAIRS_BY_TWO) ∷ (1, SINGLES_BY_TWO) ∷ []

is_spaced : (x : ℕ) → x % 2 ^ 32 ≡ x → opening steps x ≡ spaced 2 32 x
unfolding opened moved
is_spaced = same_joins (opening steps) (spaced 2 32) (opening-joins steps) (moves 1 2 32 (omega arith)) refl 32 refl

pub returns : goal.returns
returns c =
    rw (c.open_by.ensures, c.open_by-x-4.ensures, c.open_by-x-3.ensures, c.open_by-x-2.ensures, c.open_by-x.ensures, c.from.ensures) (is_spaced c.args.x (mod-eq_of_lt (omega arith)))
