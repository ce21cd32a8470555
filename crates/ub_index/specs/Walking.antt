-- A walk over the regions of an index that meet some boxes, over any store and any pages.
use Rattle.std.specs.Prelude.{◌≡◌, ◌<◌, ◌^◌, ℕ, List, [], ◌∷◌, Option, Some, None, Result, IfErr, IfSome, OnOk}
use Rattle.ub_index.specs.Common.{Corners, IndexFault, Key, origin, PagerView, Region, StoreFacts, TakesThese}
use Rattle.ub_index.specs.Along.{Meeting}
use Rattle.ub_index.specs.Descending.{IsForgotten}
use Rattle.ub_index.specs.Held.{AreChecked}
use Rattle.ub_index.specs.Searching.{Gives, GivesAfter, GoesDown, IsSought}
use Rattle.ub_index.specs.Spans.{IsLater}
use Rattle.ub_index.specs.View.{IndexView}

-- this region is given after another one, if one is given, and is later
pub record IsGivenNext (index : IndexView) (store : StoreFacts) (To : Key → Option ℕ → Type 0) (after : Option Region) (found : Region) : Type 0 where
  pub given : GivesAfter index store To after (Some found)
  pub later : IsLater after found
  pub small : found.first.number < 2 ^ 32

-- these are given first, each after the one before it, and this is the last of them
abbrev pub AreGivenFirst : IndexView → StoreFacts → (Key → Option ℕ → Type 0) → Option Region → List Region → Option Region → Type 0
AreGivenFirst index store To after [] last = after ≡ last
AreGivenFirst index store To after (found ∷ more) last = IsGivenNext index store To after found × AreGivenFirst index store To (Some found) more last

-- where the first region later than another one begins, if there is one, or the first of all
abbrev pub begins_at : Option Region → Option Key
begins_at None = Some origin
begins_at (Some region) = region.next

-- this region, if there is one, is one that is given for some key
abbrev pub IsGivenAny : IndexView → StoreFacts → Option Region → Type 0
IsGivenAny index store after = IfSome after (λ region. (key : Key) × Gives index store key region)

-- these are given next after a region, or from the beginning on, each after the one before it: some of them, unless none is given
abbrev pub AreGivenNext : IndexView → StoreFacts → (Key → Option ℕ → Type 0) → Option Region → List Region → Type 0
AreGivenNext index store To after met =
    ((last : Option Region) × AreGivenFirst index store To after met last) × (met ≡ [] → GivesAfter index store To after None)

-- some of the next regions after another, if one is given, that meet the boxes were to be handed over, and this was answered: the sink has taken them
pub record HandsNext {S A : Type 0} (Takes : S → List Region → S → Type 0) (index : IndexView) (boxes : List Corners) (after : Option Region)
    (before now : S) (old new : PagerView) (result : Result A IndexFault) : Type 0 where
  pub met : OnOk result ((met : List Region) × TakesThese Takes before now met
      × (AreChecked index.last old → AreGivenNext index old.store (Meeting boxes) after met))
  pub forgotten : IfErr result (IsForgotten new)
  pub effect : GoesDown (IsSought index old.store (Meeting boxes) after) index old new result
