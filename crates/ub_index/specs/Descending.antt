-- The steps of the way down, and what a search for a later region promises.
use Rattle.std.specs.Prelude.{◌≡◌, ◌≤◌, ◌<◌, ◌^◌, ℕ, IsTrue, List, Option, Some, None, Result, IfErr, IfOk, IfSome}
use Rattle.ub_index.specs.Common.{entries_of, Entry, FallsTo, FitsAtEnds, Full, IndexFault, IsBefore, IsHonest, IsNotTaken, Key, Leaf, NamesFitting}
use Rattle.ub_index.specs.Common.{node_on, Page, page_at, page_count, page_in, PageFault, PagerView, Region, Store, StoreFacts, top}
use Rattle.ub_index.specs.Held.{AreChecked, KeepsChecked, NoneMoreButIndex}
use Rattle.ub_index.specs.Searching.{store_after, Gives, GivesAfter, GoesDown, IsAim, IsAimless, IsFrom, IsSought, ReadsIndex}
use Rattle.ub_index.specs.Spans.{First, IsLater, regions_of}
use Rattle.ub_index.specs.View.{IndexView, IsIndexOn, Stops, entries_in}
use Rattle.ub_index.specs.Way.{HoldsKey, LeadsTo, StopsAt}
use Rattle.ub_index.specs.declared.descent.Found.{Found}
use Rattle.ub_index.specs.declared.descent.Found.TheVariants.{Nothing, Here, Beyond}
use Rattle.ub_store.specs.declared.fault.StoreFault.TheVariants as fault

-- why a step from this entry is refused
abbrev pub IsStepFault : ℕ → StoreFacts → ℕ → Entry → Option Key → IndexFault → Type 0
IsStepFault last old level entry end (Store fault.Memory) = Unit {0}
IsStepFault last old level entry end (Store fault.Device) = IsTrue old.can_fail
IsStepFault last old level entry end (Store fault.NoPage) = page_count old ≤ entry.page
IsStepFault last old level entry end (Store fault.BadSize) = ⊥
IsStepFault last old level entry end Full = ⊥
IsStepFault last old level entry end (Page n why) = (n ≡ entry.page) × (IsHonest old → IsNotTaken last old.pages level entry end (Some why))

-- a step with this result
abbrev pub Steps : {A : Type 0} → ℕ → ℕ → Entry → Option Key → PagerView → PagerView → Result A IndexFault → Type 0
Steps last level entry end old new result = ReadsIndex last (IsStepFault last old.store level entry end) old new result

-- the same of a search, which looks at the ends of a page that is held: it is refused so where each page that was held was checked
pub record StepsDown {A : Type 0} (last level : ℕ) (entry : Entry) (end : Option Key) (old new : PagerView)
    (result : Result A IndexFault) : Type 0 where
  pub same : new ≡ record old { store = store_after result old.store; cached = new.cached }
  pub checked : KeepsChecked last old new
  pub more : NoneMoreButIndex last old.cached new.cached
  pub faults : AreChecked last old → IfErr result (IsStepFault last old.store level entry end)

-- the step that is made: the page fits, and the key falls to this entry of it
pub record StepsTo (last : ℕ) (store : StoreFacts) (key : Key) (level : ℕ) (entry : Entry) (end : Option Key)
    (below : Entry) (next : Option Key) : Type 0 where
  pub named : NamesFitting last store.pages level entry end
  pub falls : FallsTo key (entries_of store.pages entry.page) end below next

-- a page that was refused isn't held any more: where it is asked for again, it is read and checked in full
abbrev pub IsForgotten : PagerView → IndexFault → Type 0
IsForgotten new (Page n _) = page_at new.cached n ≡ None
IsForgotten new (Store _) = Unit {0}
IsForgotten new Full = Unit {0}

-- a leaf that is named from here holds the key, and so does all up to `until`; what is before `until` is before the leaf's end
pub record HoldsLeaf (key : Key) (leaf : Leaf) : Type 0 where
  pub place : HoldsKey key leaf.place.entry.first leaf.place.next
  pub until : IfSome leaf.until (IsBefore key)
  pub within : (k : Key) → IfSome leaf.until (IsBefore k) → IfSome leaf.place.next (IsBefore k)

-- the way from the root to this place: to each key from this one on that is before `until` it leads as from there, and to this key it stops as there
pub record LeadsDown (index : IndexView) (store : StoreFacts) (key : Key) (level : ℕ) (leaf : Leaf) : Type 0 where
  pub leads : (k : Key) → ¬ (IsBefore k key) → IfSome leaf.until (IsBefore k) → (found : Entry) (next : Option Key)
      → LeadsTo index.last store.pages k level leaf.place.entry leaf.place.next found next
      → LeadsTo index.last store.pages k index.levels (top index.root) None found next
  pub stops : (n : ℕ) (fault : Option PageFault)
      → StopsAt index.last store.pages key level leaf.place.entry leaf.place.next n fault
      → Stops index store key n fault

-- what is found on a leaf behind the entry of a key: where the next region begins, and the key sought from there, or its place if it is on this leaf
abbrev pub Looks : ℕ → (Key → Option ℕ → Type 0) → List Entry → Key → Leaf → Found → Type 0
Looks last To entries key leaf Nothing =
    (below : Entry) × (next : Option Key) × FallsTo key entries leaf.place.next below next × IsAimless last To next
Looks last To entries key leaf (Here from place) =
    (below : Entry) × FallsTo key entries leaf.place.next below (Some from)
    × (aim : Key) × IsAim last To from aim × IfSome leaf.until (IsBefore aim) × FallsTo aim entries leaf.place.next place.entry place.next
Looks last To entries key leaf (Beyond from aim) =
    (below : Entry) × FallsTo key entries leaf.place.next below (Some from)
    × IsAim last To from aim × (¬ (IfSome leaf.until (IsBefore aim)))

-- what is looked at on the page of a leaf, the ends of which fit; over an honest store it is the one that is named, and fits
pub record LooksAt (last : ℕ) (store : StoreFacts) (To : Key → Option ℕ → Type 0) (key : Key) (leaf : Leaf) (found : Found) : Type 0 where
  pub page : List ℕ
  pub ends : FitsAtEnds page 1 leaf.place.entry leaf.place.next
  pub looks : Looks last To (node_on page).entries key leaf found
  pub named : IsHonest store → NamesFitting last store.pages 1 leaf.place.entry leaf.place.next
  pub there : IsHonest store → page ≡ page_in store.pages leaf.place.entry.page

-- the key from which a search goes on, with the region given for the key to which it goes down from there; none where it is after no address
abbrev pub FindsFrom : IndexView → StoreFacts → (Key → Option ℕ → Type 0) → Option Key → Option (Key × Region) → Type 0
FindsFrom index store To from None = IsAimless index.last To from
FindsFrom index store To from (Some found) = (from ≡ Some found.0) × (aim : Key) × IsAim index.last To found.0 aim × Gives index store aim found.1

-- the same after a region, if one is given
abbrev pub FindsAfter : IndexView → StoreFacts → (Key → Option ℕ → Type 0) → Option Region → Option (Key × Region) → Type 0
FindsAfter index store To after found = (from : Option Key) × IsFrom index store after from × FindsFrom index store To from found

-- a step of a search after a region, if one is given, for the address that `To` tells, and this was answered, with where the search goes on from
pub record FindsBehind (To : Key → Option ℕ → Type 0) (index : IndexView) (after : Option Region) (old new : PagerView)
    (result : Result (Option (Key × Region)) IndexFault) : Type 0 where
  pub found : AreChecked index.last old → IfOk result (FindsAfter index old.store To after)
  pub small : IfOk result (λ step. IfSome step (λ some. some.1.first.number < 2 ^ 32))
  pub forgotten : IfErr result (IsForgotten new)
  pub effect : GoesDown (IsSought index old.store To after) index old new result

-- the whole search, and this was answered: where each page that is held was checked, which region is given; on an index the first later one with `P`
pub record Seeks (To : Key → Option ℕ → Type 0) (P : Region → Type 0) (index : IndexView) (after : Option Region) (old new : PagerView)
    (result : Result (Option Region) IndexFault) : Type 0 where
  pub given : AreChecked index.last old → IfOk result (GivesAfter index old.store To after)
  pub later : AreChecked index.last old → IfOk result (λ found. IfSome found (IsLater after))
  pub small : IfOk result (λ found. IfSome found (λ r. r.first.number < 2 ^ 32))
  pub found : AreChecked index.last old → IsIndexOn index old.store
      → IfOk result (First (λ r. IsLater after r × P r) (regions_of index.last (entries_in index old.store)))
  pub forgotten : IfErr result (IsForgotten new)
  pub effect : GoesDown (IsSought index old.store To after) index old new result
