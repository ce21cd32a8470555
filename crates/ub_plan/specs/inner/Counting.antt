-- What the counting of regions keeps of those that it was handed.
use Rattle.std.specs.Prelude.{List, [], ◌∷◌, Option, Some}
use Rattle.ub_tree.specs.Spans.{Region}

-- the last of these regions, or else this one
abbrev pub last_or : Option Region → List Region → Option Region
last_or first [] = first
last_or first (region ∷ more) = last_or (Some region) more
