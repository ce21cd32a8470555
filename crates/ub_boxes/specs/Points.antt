-- How many points some boxes have.
use Rattle.std.specs.Prelude.{ℕ, ◌+◌, ◌-◌, ◌*◌, List, [], ◌∷◌}
use Rattle.ub_bigmin.specs.Box.{Corners}

-- how many lists of numbers lie between two, place by place
abbrev pub lists_between : List ℕ → List ℕ → ℕ
lists_between [] hi = 1
lists_between (l ∷ lo) [] = 1
lists_between (l ∷ lo) (h ∷ hi) = (h + 1 - l) * lists_between lo hi

-- how many points a box has
abbrev pub size : Corners → ℕ
size b = lists_between b.lo b.hi

-- how many points the boxes have together, a point counted in each box that has it
abbrev pub total : List Corners → ℕ
total [] = 0
total (b ∷ boxes) = size b + total boxes
