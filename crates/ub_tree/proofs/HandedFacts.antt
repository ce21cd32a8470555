-- A walk over the index of a tree, as one of the tree.
use Rattle.std.proofs.Common.{◌≡◌, ◌<◌, ◌^◌, ◌∙◌, List, [], ◌∷◌, Option, Some, None, IfSome}
use Rattle.ub_tree.proofs.Common.{AreFirst, AreGivenFirst, AreGivenNext, AreNext, Corners, IsGivenAny, IsRegionOf, Meeting, Region, TreeView}
use Rattle.ub_tree.proofs.CallFacts.{gives_next}

module _ (boxes : List Corners) (t : TreeView) where
  -- what the index gives one after the other, the tree does
  are_first : (after : Option Region) (found : List Region) (last : Option Region) → AreGivenFirst t.inner.index t.store (Meeting boxes) after found last → AreFirst boxes t after found last
  are_first after [] last h = h
  are_first after (x ∷ found) last (next, rest) = (gives_next boxes t after (Some x) next.given next.later next.small, are_first (Some x) found last rest)

  -- the next ones that the index gives are the tree's
  pub are_next : (after : Option Region) (met : List Region) → AreGivenNext t.inner.index t.store (Meeting boxes) after met → AreNext boxes t after met
  are_next after met ((last, first), none) = ((last, are_first after met last first), λ e. gives_next boxes t after None (none e) tt tt)

-- a region that the tree tells of is given
pub told_given : (t : TreeView) (after : Option Region) → IfSome after (IsRegionOf t) → IsGivenAny t.inner.index t.store after
told_given t None told = tt
told_given t (Some region) told = (told.key, told.falls)
