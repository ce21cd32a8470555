-- What searches tell of the regions of any tree, also of one that isn't sound; crates above know of that what the laws say, and no more.
use Rattle.std.specs.Prelude.{◌≤◌, ◌<◌, ◌^◌, ℕ, List, [], ◌∷◌, Option, Some, None, IfSome, ◌↔◌, ◌≡◌}
use Rattle.ub_tree.specs.Common.{Corners, Gives, GivesAfter, HoldsAny, IsLater, IsSought, Key, LeastFrom, Region, region_count, TreeView}

-- a region to which a key falls: it holds the key, has its span, and over an honest store the way to the key leads there, on which each page fits
abbrev pub FallsTo : TreeView → Key → Region → Type 0
FallsTo t key region = Gives t.inner.index t.store key region

-- a region that the tree tells of: one to which some key falls; of a sound tree each of its regions, with its span, and no other
pub record IsRegionOf (t : TreeView) (region : Region) : Type 0 where
  pub key : Key
  pub falls : FallsTo t key region

-- a region that is found after another one begins later, if one is given, and with a key of the space
pub record IsFoundAfter (last : ℕ) (after : Option Region) (region : Region) : Type 0 where
  pub later : IsLater after region
  pub z : region.first.z ≤ last
  pub number : region.first.number < 2 ^ 32

-- what the tree gives as the next region that ends at this address or later, after one or from the beginning on: of a sound one the first, or none
abbrev pub GivesAt : ℕ → TreeView → Option Region → Option Region → Type 0
GivesAt z t after found = GivesAfter t.inner.index t.store (λ _ to. to ≡ Some z) after found

-- what the tree gives as the next region that meets the boxes, after one or from the beginning on: of a sound tree the first that does, or none
pub record GivesNext (boxes : List Corners) (t : TreeView) (after found : Option Region) : Type 0 where
  pub given : GivesAfter t.inner.index t.store (λ from. LeastFrom (HoldsAny boxes) from.z) after found
  pub found_after : IfSome found (IsFoundAfter t.inner.index.last after)

-- the keys to which a search goes down for what `GivesAt`, or `GivesNext`, says: the first key of the region given, then that from which it goes on
abbrev pub SeeksAt : ℕ → TreeView → Option Region → Key → Type 0
SeeksAt z t after = IsSought t.inner.index t.store (λ _ to. to ≡ Some z) after

abbrev pub SeeksNext : List Corners → TreeView → Option Region → Key → Type 0
SeeksNext boxes t after = IsSought t.inner.index t.store (λ from. LeastFrom (HoldsAny boxes) from.z) after

-- what it gives, asked for the next one after each, until there is none
abbrev pub AreAnswers : List Corners → TreeView → Option Region → List Region → Type 0
AreAnswers boxes t after [] = GivesNext boxes t after None
AreAnswers boxes t after (found ∷ more) = GivesNext boxes t after (Some found) × AreAnswers boxes t (Some found) more

-- these are the first that it gives, asked so after one or from the beginning on, and this one the last of them
abbrev pub AreFirst : List Corners → TreeView → Option Region → List Region → Option Region → Type 0
AreFirst boxes t after [] last = after ≡ last
AreFirst boxes t after (found ∷ more) last = GivesNext boxes t after (Some found) × AreFirst boxes t (Some found) more last

-- the new tree tells of each region of which the old one tells, and counts as many
pub record TellsStill (old new : TreeView) : Type 0 where
  pub count : region_count new ≡ region_count old
  pub told : (region : Region) → IsRegionOf old region → IsRegionOf new region

-- two trees tell of the same regions, and count as many
pub record KeepsTold (old new : TreeView) : Type 0 where
  pub count : region_count new ≡ region_count old
  pub told : (region : Region) → IsRegionOf old region ↔ IsRegionOf new region
