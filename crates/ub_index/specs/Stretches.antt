-- The stretches of an index, named by entries of any level: which a page tells, to which a way comes, and what a sink is handed where one is opened.
use Rattle.std.specs.Prelude.{◌≡◌, ◌≤◌, ◌<◌, ◌-◌, ◌⊎◌, ◌++◌, ◌&&◌, ◌∷◌, [], ℕ, zero, suc, Bool, true, not, List, Option, None, Some, Result, IfErr, OnOk, filter, slice_get}
use Rattle.ub_index.specs.Common.{AreThose, Corners, end_before, entries_of, Entry, first_or, Fits, IndexFault, IsHonest, Key, NamesFitting, node_on}
use Rattle.ub_index.specs.Common.{NoneMoreBut, page_in, PagerView, precedes, Region, StoreFacts, TakesThese, top}
use Rattle.ub_index.specs.Descending.{IsForgotten, Steps}
use Rattle.ub_index.specs.Spans.{Meets, region_of}
use Rattle.ub_index.specs.View.{IndexView, entry_at}
use Rattle.ub_index.specs.Way.{HoldsKey}
use Rattle.ub_index.specs.declared.stretch.Stretch.{Stretch}

-- the stretch of an entry of this level, up to where the next one begins, in a space that ends with this address
abbrev pub stretch_of : ℕ → ℕ → Entry → Option Key → Stretch
stretch_of last level entry next = record { span = region_of last entry next; level = level }

-- those of entries of this level, the last of which ends before the end
abbrev pub stretches_to : ℕ → ℕ → List Entry → Option Key → List Stretch
stretches_to last level [] end = []
stretches_to last level (entry ∷ entries) end = stretch_of last level entry (first_or entries end) ∷ stretches_to last level entries end

-- the whole index, as one stretch: that of its root
abbrev pub whole_stretch : IndexView → Stretch
whole_stretch index = stretch_of index.last index.levels (top index.root) None

-- ---- the page of a stretch of level 1 or more, and its parts

abbrev pub FitsStretch : ℕ → List ℕ → Stretch → Type 0
FitsStretch last page stretch = Fits last page stretch.level (entry_at stretch.span) stretch.span.next

-- among these pages there is the one that the stretch names, and it fits
abbrev pub HasPage : ℕ → List (List ℕ) → Stretch → Type 0
HasPage last pages stretch = NamesFitting last pages stretch.level (entry_at stretch.span) stretch.span.next

-- the parts of a stretch that this page tells: the stretches of its entries, of the level below
abbrev pub parts_on : ℕ → Stretch → List ℕ → List Stretch
parts_on last stretch page = stretches_to last (stretch.level - 1) (node_on page).entries stretch.span.next

abbrev pub MeetsAny : List Corners → Stretch → Type 0
MeetsAny boxes stretch = Meets boxes stretch.span

-- the parts of a stretch that meet the boxes, in order, as a page tells them that fits it: over an honest store the one that it names
pub record ArePartsOn (index : IndexView) (store : StoreFacts) (boxes : List Corners) (stretch : Stretch) (parts : List Stretch) : Type 0 where
  pub page : List ℕ
  pub fits : FitsStretch index.last page stretch
  pub named : IsHonest store → HasPage index.last store.pages stretch
  pub there : IsHonest store → page ≡ page_in store.pages stretch.span.page
  pub those : AreThose (MeetsAny boxes) (parts_on index.last stretch page) parts

-- ---- the way to a stretch

-- this is one of the entries, which end before `end`, and the next one begins there
pub record IsOneOf (entries : List Entry) (end : Option Key) (below : Entry) (next : Option Key) : Type 0 where
  pub before : List Entry
  pub after : List Entry
  pub parts : entries ≡ before ++ below ∷ after
  pub next_is : next ≡ first_or after end

-- from an entry of this level the way comes to a stretch, its own or that of an entry below it: each page on the way fits
abbrev pub ComesTo : ℕ → List (List ℕ) → ℕ → Entry → Option Key → Stretch → Type 0
ComesTo last pages zero entry end stretch = stretch ≡ stretch_of last zero entry end
ComesTo last pages (suc level) entry end stretch =
    (stretch ≡ stretch_of last (suc level) entry end)
    ⊎ (NamesFitting last pages (suc level) entry end
    × (below : Entry) × (next : Option Key) × IsOneOf (entries_of pages entry.page) end below next
    × ComesTo last pages level below next stretch)

-- a stretch of an index, over any store: it holds its first key, its span goes up to the next one's, and over an honest store a way comes to it
pub record IsStretchOn (index : IndexView) (store : StoreFacts) (stretch : Stretch) : Type 0 where
  pub low : stretch.level ≤ index.levels
  pub holds : HoldsKey stretch.span.first stretch.span.first stretch.span.next
  pub from : stretch.span.from ≡ stretch.span.first.z
  pub to : stretch.span.to ≡ end_before index.last stretch.span.next
  pub way : IsHonest store → ComesTo index.last store.pages index.levels (top index.root) None stretch

-- ---- the regions within a stretch

abbrev pub is_before_end : Key → Option Key → Bool
is_before_end key None = true
is_before_end key (Some end) = precedes key end

abbrev pub holds_key : Stretch → Key → Bool
holds_key stretch key = not (precedes key stretch.span.first) && is_before_end key stretch.span.next

abbrev pub within : Stretch → List Region → List Region
within stretch regions = filter (λ region. holds_key stretch region.first) regions

-- ---- what is handed to a sink

-- it has taken the parts of a stretch that meet the boxes, of those that this page tells
abbrev pub TakesParts : {S : Type 0} → (S → List Stretch → S → Type 0) → List Corners → ℕ → Stretch → List ℕ → S → S → Type 0
TakesParts Takes boxes last stretch page old new =
    (parts : List Stretch) × AreThose (MeetsAny boxes) (parts_on last stretch page) parts × TakesThese Takes old new parts

-- of these parts the first one, from this index on, that meets the boxes, or none does
abbrev pub IsNextMeeting : List Corners → List Stretch → ℕ → Option ℕ → Type 0
IsNextMeeting boxes parts from None = (m : ℕ) (part : Stretch) → from ≤ m → slice_get parts m ≡ Some part → ¬ (MeetsAny boxes part)
IsNextMeeting boxes parts from (Some slot) =
    (from ≤ slot) × (part : Stretch) × (slice_get parts slot ≡ Some part) × MeetsAny boxes part
    × ((m : ℕ) (other : Stretch) → from ≤ m → m < slot → slice_get parts m ≡ Some other → ¬ (MeetsAny boxes other))

-- a stretch was to be opened, and this was answered: the sink has taken its parts that meet the boxes, or else the page that it names isn't taken
pub record OpensStretch {S A : Type 0} (Takes : S → List Stretch → S → Type 0) (index : IndexView) (boxes : List Corners) (stretch : Stretch)
    (before after : S) (old new : PagerView) (result : Result A IndexFault) : Type 0 where
  pub parts : OnOk result ((parts : List Stretch) × ArePartsOn index old.store boxes stretch parts × TakesThese Takes before after parts)
  pub forgotten : IfErr result (IsForgotten new)
  pub others : NoneMoreBut stretch.span.page old.cached new.cached
  pub steps : Steps index.last stretch.level (entry_at stretch.span) stretch.span.next old new result
