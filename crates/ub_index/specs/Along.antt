-- How a walk over the regions that meet some boxes goes along a leaf.
use Rattle.std.specs.Prelude.{◌≡◌, ◌<◌, ◌^◌, ℕ, List, [], ◌∷◌, Option, Some, None, Result, IfErr, IfOk, IfSome}
use Rattle.ub_index.specs.Common.{Corners, Entry, FallsTo, HoldsAny, IndexFault, IsBefore, Key, Leaf, LeastFrom, node_on, PagerView, Region}
use Rattle.ub_index.specs.Common.{StoreFacts, TakesThese}
use Rattle.ub_index.specs.Descending.{HoldsLeaf, IsForgotten}
use Rattle.ub_index.specs.Held.{AreChecked}
use Rattle.ub_index.specs.Searching.{Gives, GivesFrom, GoesDown, IsAim}
use Rattle.ub_index.specs.Spans.{region_of}
use Rattle.ub_index.specs.View.{IndexView, entry_at}
use Rattle.ub_page.specs.Slots.{IsSlot, first_in}

-- the address that a search for a region that meets the boxes is after, which goes on from a key: the least one in them, if there is one
abbrev pub Meeting : List Corners → Key → Option ℕ → Type 0
Meeting boxes from to = LeastFrom (HoldsAny boxes) from.z to

-- to this leaf a search goes down that goes on from a key
abbrev pub ComesToLeaf : ℕ → (Key → Option ℕ → Type 0) → Key → Leaf → Type 0
ComesToLeaf last To from leaf = (aim : Key) × IsAim last To from aim × HoldsLeaf aim leaf

-- in this slot of the leaf's page stands the next region from a key on; none where the search goes down elsewhere, or to what begins before the key
abbrev pub IsSlotNext : ℕ → (Key → Option ℕ → Type 0) → Leaf → List ℕ → ℕ → Key → Option ℕ → Type 0
IsSlotNext last To leaf page count from None =
    (aim : Key) → IsAim last To from aim → IfSome leaf.until (IsBefore aim)
    → (slot : ℕ) × IsSlot aim count page slot × IsBefore (first_in slot page) from
IsSlotNext last To leaf page count from (Some slot) =
    (aim : Key) × IsAim last To from aim × IfSome leaf.until (IsBefore aim)
    × IsSlot aim count page slot × (¬ (IsBefore (first_in slot page) from))

-- among the entries of the leaf this region is the next one from a key on
pub record StandsNext (last : ℕ) (To : Key → Option ℕ → Type 0) (leaf : Leaf) (entries : List Entry) (from : Key) (region : Region) : Type 0 where
  pub aim : Key
  pub is : IsAim last To from aim
  pub near : IfSome leaf.until (IsBefore aim)
  pub falls : FallsTo aim entries leaf.place.next (entry_at region) region.next
  pub span : region ≡ region_of last (entry_at region) region.next
  pub begins : ¬ (IsBefore region.first from)
  pub small : region.first.number < 2 ^ 32

-- from a key on, if there is one, these are the next ones, each from where the one before it ends; the last of them ends here
abbrev pub FollowOn : ℕ → (Key → Option ℕ → Type 0) → Leaf → List Entry → Option Key → List Region → Option Key → Type 0
FollowOn last To leaf entries from [] on = from ≡ on
FollowOn last To leaf entries from (region ∷ more) on =
    (key : Key) × (from ≡ Some key) × StandsNext last To leaf entries key region × FollowOn last To leaf entries region.next more on

-- the regions of a leaf's page that follow one another from the key `from` on were handed over; the walk goes on at `on`, where they end. It stays where it
-- was only if none of the leaf's regions is next
pub record HandsAlong {S : Type 0} (Takes : S → List Region → S → Type 0) (last : ℕ) (To : Key → Option ℕ → Type 0) (leaf : Leaf)
    (page : List ℕ) (count : ℕ) (from : Key) (before after : S) (on : Option Key) : Type 0 where
  pub regions : List Region
  pub takes : TakesThese Takes before after regions
  pub follow : FollowOn last To leaf (node_on page).entries (Some from) regions on
  pub stays : IfSome on (λ key. ¬ (IsBefore from key) → IsSlotNext last To leaf page count from None)

-- a region is given where the search goes on from a key, which it doesn't begin before
pub record GivesOn (index : IndexView) (store : StoreFacts) (To : Key → Option ℕ → Type 0) (from : Option Key) (region : Region) : Type 0 where
  pub given : GivesFrom index store To from (Some region)
  pub begins : IfSome from (λ key. ¬ (IsBefore region.first key))
  pub small : region.first.number < 2 ^ 32

-- from a key on, if there is one, these are given, each from where the one before it ends; the search goes on from here, or gives none from there
abbrev pub GivesAlong : IndexView → StoreFacts → (Key → Option ℕ → Type 0) → Option Key → List Region → Option Key → Type 0
GivesAlong index store To from [] None = GivesFrom index store To from None
GivesAlong index store To from [] (Some on) = from ≡ Some on
GivesAlong index store To from (region ∷ more) on = GivesOn index store To from region × GivesAlong index store To region.next more on

-- what is given where the search goes on from a key begins before it
abbrev pub Crosses : IndexView → StoreFacts → (Key → Option ℕ → Type 0) → Key → Type 0
Crosses index store To from =
    (aim : Key) × IsAim index.last To from aim × (region : Region) × Gives index store aim region × IsBefore region.first from

-- regions of a leaf from a key on were to be handed over, and the answer is where the walk goes on: later, unless what is given begins before the key
pub record HandsLeaf {S : Type 0} (Takes : S → List Region → S → Type 0) (index : IndexView) (To : Key → Option ℕ → Type 0) (from : Key)
    (before after : S) (old new : PagerView) (result : Result (Option Key) IndexFault) : Type 0 where
  pub taken : IfOk result (λ on. (regions : List Region) × TakesThese Takes before after regions
      × (AreChecked index.last old → GivesAlong index old.store To (Some from) regions on))
  pub stays : AreChecked index.last old → IfOk result (λ on. IfSome on (λ key. ¬ (IsBefore from key) → Crosses index old.store To from))
  pub forgotten : IfErr result (IsForgotten new)
  pub effect : GoesDown (IsAim index.last To from) index old new result
