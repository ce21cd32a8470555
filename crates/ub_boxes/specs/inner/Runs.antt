-- The boxes of a front, interval by interval of the last dimension.
use Rattle.std.specs.Prelude.{◌≡◌, ◌≤◌, ℕ, suc, Bool, List, ◌++◌, map, Option, Some, None}
use Rattle.ub_bigmin.specs.Box.{Corners}
use Rattle.ub_boxes.specs.Boxes.{join, runs}
use Rattle.ub_boxes.specs.declared.interval.Interval.{Interval}
use Rattle.ub_boxes.specs.inner.Sides.{AreFrom}

-- the runs after one that may still grow, and it
abbrev pub join_some : Option Interval → List Interval → List Interval
join_some None runs = runs
join_some (Some run) runs = join run runs

-- the intervals that are left follow on the run that may still grow
abbrev pub IsFollowed : Option Interval → List Interval → Type 0
IsFollowed None rest = (low : ℕ) × AreFrom low rest
IsFollowed (Some run) rest = (run.low ≤ run.high) × AreFrom (suc run.high) rest

-- the boxes so far, the run that may still grow and the intervals that are left make all boxes of the front
pub record AreUpTo (f : Interval → Corners) (test : ℕ → Bool) (run : Option Interval) (rest : List Interval)
    (some all : List Corners) : Type 0 where
  pub left : some ++ map f (join_some run (runs test rest)) ≡ all
  pub followed : IsFollowed run rest
