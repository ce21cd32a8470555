-- How many regions of any tree meet some boxes, also of one that isn't sound.
use Rattle.std.specs.Prelude.{◌≡◌, ℕ, List, length, min}
use Rattle.ub_bigmin.specs.Box.{Corners}
use Rattle.ub_tree.specs.Handing.{AreMetBy}
use Rattle.ub_tree.specs.View.{TreeView}
use Rattle.ub_tree.specs.Spans.{Region}

-- so many as the tree gives, asked for one after the other until there is none, as far as 64 bits count
abbrev pub AreCounted : List Corners → TreeView → ℕ → Type 0
AreCounted boxes t count = (met : List Region) × AreMetBy boxes t met × (count ≡ min (length met) 18446744073709551615)
