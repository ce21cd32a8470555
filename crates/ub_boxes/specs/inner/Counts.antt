-- A count of cells that stops growing where there are too many.
use Rattle.std.specs.Prelude.{◌≡◌, ◌<◌, ◌*◌, ℕ, ◌⊎◌}
use Rattle.ub_boxes.specs.declared.cover.TheConstants.{MAX_CELLS}

-- the cells so far, with the rest of them, are all; or those so far are too many, and all are
abbrev pub IsCountOf : ℕ → ℕ → ℕ → Type 0
IsCountOf cells rest all = (cells * rest ≡ all) ⊎ ((MAX_CELLS < cells) × (MAX_CELLS < all))
