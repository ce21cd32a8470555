-- Where the regions of a table stand: entries in the order of their first keys; and the span of each.
use Rattle.std.specs.Prelude.{◌≡◌, ◌≤◌, ℕ, List, [], ◌∷◌, map, Option, Some, IfSome, All, IsTrue, slice_get}
use Rattle.ub_index.specs.Common.{are_ascending, Corners, end_before, Entry, FirstBy, HoldsAny, IsBefore, Key, origin, Region}

abbrev pub first_keys : List Entry → List Key
first_keys entries = map (λ entry. entry.first) entries

-- the entries are those of a table's regions in order, in a space that ends with this address
abbrev pub ArePlaces : ℕ → List Entry → Type 0
ArePlaces last entries =
    (slice_get (first_keys entries) 0 ≡ Some origin) × All (λ entry. entry.first.z ≤ last) entries × IsTrue (are_ascending (first_keys entries))

-- the region of an entry, up to where the next one begins, in a space that ends with this address
abbrev pub region_of : ℕ → Entry → Option Key → Region
region_of last entry next = record {
  first = entry.first;
  next = next;
  from = entry.first.z;
  to = end_before last next;
  page = entry.page;
}

abbrev pub regions_of : ℕ → List Entry → List Region
regions_of last [] = []
regions_of last (entry ∷ entries) = region_of last entry (slice_get (first_keys entries) 0) ∷ regions_of last entries

-- some address of the region's span lies in one of the boxes
abbrev pub Meets : List Corners → Region → Type 0
Meets boxes region = (z : ℕ) × HoldsAny boxes z × (region.from ≤ z) × (z ≤ region.to)

-- the region begins after another one, where one is given
abbrev pub IsLater : Option Region → Region → Type 0
IsLater after region = IfSome after (λ other. IsBefore other.first region.first)

-- r is the first of the regions that have a property, in the order of their first keys; or none has it
abbrev pub First : (Region → Type 0) → List Region → Option Region → Type 0
First P regions found = FirstBy (λ region. region.first) P regions found
