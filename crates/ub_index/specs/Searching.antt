-- What a search in an index answers, and what it leaves, over any store and any pages.
use Rattle.std.specs.Prelude.{◌≡◌, ◌≤◌, ◌<◌, ◌⊎◌, if◌then◌else◌, ℕ, zero, suc, IsTrue, Option, Some, None, Result, Err, IfErr}
use Rattle.ub_index.specs.Common.{end_before, Full, HoldsAny, IndexFault, IsHonest, Key, LeastFrom, origin, Page, page_count, PagerView, precedes}
use Rattle.ub_index.specs.Common.{raised, Region, Store, StoreFacts}
use Rattle.ub_index.specs.Held.{AreChecked, KeepsChecked, NoneMoreButIndex}
use Rattle.ub_index.specs.Spans.{Meets}
use Rattle.ub_index.specs.View.{IndexView, Leads, Stops}
use Rattle.ub_index.specs.Way.{HoldsKey}
use Rattle.ub_index.specs.declared.goal.Goal.{Goal}
use Rattle.ub_index.specs.declared.goal.Goal.TheVariants.{Address, Boxes}
use Rattle.ub_store.specs.declared.fault.StoreFault.TheVariants as fault

-- the region given for a key: it holds the key, its span goes from its first key to the next one's, and over an honest store the way leads to it
pub record Gives (index : IndexView) (store : StoreFacts) (key : Key) (region : Region) : Type 0 where
  pub holds : HoldsKey key region.first region.next
  pub from : region.from ≡ region.first.z
  pub to : region.to ≡ end_before index.last region.next
  pub way : IsHonest store → Leads index store key region

-- the same for a key that there may be; none for none
abbrev pub GivesAny : IndexView → StoreFacts → Option Key → Option Region → Type 0
GivesAny index store None given = given ≡ None
GivesAny index store (Some key) None = ⊥
GivesAny index store (Some key) (Some region) = Gives index store key region

-- the greatest key before this one, if there is any
abbrev pub key_before : ℕ → ℕ → Option Key
key_before z (suc n) = Some (record { z = z; number = n })
key_before (suc z) zero = Some (record { z = z; number = 4294967295 })
key_before zero zero = None

-- where the first region later than another one begins, if there is one; the first of all where none is given
abbrev pub IsFrom : IndexView → StoreFacts → Option Region → Option Key → Type 0
IsFrom index store None from = from ≡ Some origin
IsFrom index store (Some region) from = (found : Region) × Gives index store region.first found × (from ≡ found.next)

-- the least key of an address, or this one if it is later
abbrev pub at_least : Key → ℕ → Key
at_least from z = if precedes (record { z = z; number = 0 }) from then from else record { z = z; number = 0 }

-- the address that a search is after which goes on from a key, if there is one: the one given, or the least in the boxes from the key's address on
abbrev pub Aims : Goal → Key → Option ℕ → Type 0
Aims (Address z) from to = to ≡ Some z
Aims (Boxes boxes) from to = LeastFrom (HoldsAny boxes.now) from.z to

-- what it is after in a region: a span that ends at the address or later, or that meets one of the boxes
abbrev pub IsMet : Goal → Region → Type 0
IsMet (Address z) region = z ≤ region.to
IsMet (Boxes boxes) region = Meets boxes.now region

-- there is no such address in the space, or the search doesn't go on
abbrev pub IsAimless : ℕ → (Key → Option ℕ → Type 0) → Option Key → Type 0
IsAimless last To None = Unit {0}
IsAimless last To (Some from) = To from None ⊎ ((z : ℕ) × To from (Some z) × (last < z))

-- the key to which a search goes down that goes on from a key: this one, or the least key of the address that `To` tells for it, if this is later
abbrev pub IsAim : ℕ → (Key → Option ℕ → Type 0) → Key → Key → Type 0
IsAim last To from key = (z : ℕ) × To from (Some z) × (z ≤ last) × (key ≡ at_least from z)

-- the region given where a search goes on from a key: the one given for the key to which it goes down; none where it is after no address
abbrev pub GivesFrom : IndexView → StoreFacts → (Key → Option ℕ → Type 0) → Option Key → Option Region → Type 0
GivesFrom index store To from None = IsAimless index.last To from
GivesFrom index store To None (Some region) = ⊥
GivesFrom index store To (Some from) (Some region) = (key : Key) × IsAim index.last To from key × Gives index store key region

abbrev pub IsFirstKeyOf : Option Region → Key → Type 0
IsFirstKeyOf after key = (region : Region) × (after ≡ Some region) × (key ≡ region.first)

-- the region that is given after another one, if one is given
abbrev pub GivesAfter : IndexView → StoreFacts → (Key → Option ℕ → Type 0) → Option Region → Option Region → Type 0
GivesAfter index store To after found = (from : Option Key) × IsFrom index store after from × GivesFrom index store To from found

-- the keys to which a search after a region goes down: that region's, and then the one from which it goes on
abbrev pub IsSought : IndexView → StoreFacts → (Key → Option ℕ → Type 0) → Option Region → Key → Type 0
IsSought index store To after key = IsFirstKeyOf after key ⊎ ((from : Key) × IsFrom index store after (Some from) × IsAim index.last To from key)

-- why a search that goes down to these keys alone is refused: over an honest store for a page only where the way to one of them stops there
abbrev pub IsWayFault : IndexView → StoreFacts → (Key → Type 0) → IndexFault → Type 0
IsWayFault index store Sought (Store fault.Memory) = Unit {0}
IsWayFault index store Sought (Store fault.Device) = IsTrue store.can_fail
IsWayFault index store Sought (Store fault.NoPage) =
    (n : ℕ) × (page_count store ≤ n) × (IsHonest store → (key : Key) × Sought key × Stops index store key n None)
IsWayFault index store Sought (Store fault.BadSize) = ⊥
IsWayFault index store Sought Full = ⊥
IsWayFault index store Sought (Page n why) = IsHonest store → (key : Key) × Sought key × Stops index store key n (Some why)

-- a count of failures after a call with this result: the device's fault raises it by one
abbrev pub count_with : {A : Type 0} → Result A IndexFault → ℕ → ℕ
count_with (Err (Store fault.Device)) n = raised n 1
count_with _ n = n

-- a store after a call with this result that only reads
abbrev pub store_after : {A : Type 0} → Result A IndexFault → StoreFacts → StoreFacts
store_after result old = record old { failed_reads = count_with result old.failed_reads }

-- a call with this result that reads pages of an index: nothing changes but failed reads and the pages held, of which only those of an index are new
pub record ReadsIndex {A : Type 0} (last : ℕ) (IsFault : IndexFault → Type 0) (old new : PagerView) (result : Result A IndexFault) : Type 0 where
  pub same : new ≡ record old { store = store_after result old.store; cached = new.cached }
  pub checked : KeepsChecked last old new
  pub more : NoneMoreButIndex last old.cached new.cached
  pub faults : IfErr result IsFault

-- the same of a search that goes down to these keys: it is refused so where each page that was held was checked
pub record GoesDown {A : Type 0} (Sought : Key → Type 0) (index : IndexView) (old new : PagerView) (result : Result A IndexFault) : Type 0 where
  pub same : new ≡ record old { store = store_after result old.store; cached = new.cached }
  pub checked : KeepsChecked index.last old new
  pub more : NoneMoreButIndex index.last old.cached new.cached
  pub faults : AreChecked index.last old → IfErr result (IsWayFault index old.store Sought)
