-- What a walk over the regions of a tree that meet some boxes hands to a sink.
use Rattle.std.specs.Prelude.{◌≡◌, [], List, Option, None}
use Rattle.ub_tree.specs.Common.{Corners, Region, TreeView}
use Rattle.ub_tree.specs.Told.{AreAnswers, AreFirst, GivesNext}
pub use Rattle.ub_index.specs.Sinks.{Began, TakesThese}

-- the regions that the tree gives, asked for those that meet the boxes until there is none: of a sound tree all that do, each once and in order
abbrev pub AreMetBy : List Corners → TreeView → List Region → Type 0
AreMetBy boxes t met = AreAnswers boxes t None met

-- the next regions that the tree gives so, after one or from the beginning on: some of them, and none only where there is none
abbrev pub AreNext : List Corners → TreeView → Option Region → List Region → Type 0
AreNext boxes t after met = ((last : Option Region) × AreFirst boxes t after met last) × (met ≡ [] → GivesNext boxes t after None)
