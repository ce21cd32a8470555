-- What one place of the search leaves.
use Rattle.std.specs.Prelude.{ℕ}
use Rattle.ub_bigmin.specs.Box.{Corners}
use Rattle.ub_bigmin.specs.Around.{IsAround, AreNeighbours}
use Rattle.ub_bigmin.specs.declared.search.Step.{Step}
use Rattle.ub_bigmin.specs.declared.search.Step.TheVariants.{Onward, Done}

-- the search goes on below place k, or it ends with the neighbours of z
abbrev pub IsStep : Corners → ℕ → ℕ → Step → Type 0
IsStep b z k (Onward s) = IsAround b z k s.low s.high s.below s.above
IsStep b z k (Done s) = AreNeighbours b z s.below s.above
