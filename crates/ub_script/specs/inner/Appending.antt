-- What rows must be that are put in one after the other.
use Rattle.std.specs.Prelude.{◌≤◌, ℕ, List, map}
use Rattle.std.specs.Bool.{nat_eq}
use Rattle.std.specs.List.{AllByRecursion, IsDistinct}
use Rattle.ub_table.specs.declared.row.Row.{Row}

-- rows of which each has a number of its own, that comes no sooner than this one
abbrev pub AreLater : ℕ → List Row → Type 0
AreLater n rows = AllByRecursion (λ row. n ≤ row.number) rows × IsDistinct nat_eq (map (λ row. row.number) rows)
