-- The way down to a key, page by page, over any pages, as far as they fit.
use Rattle.std.specs.Prelude.{◌≡◌, ◌⊎◌, ℕ, zero, suc, List, Option, IfSome}
use Rattle.ub_index.specs.Common.{entries_of, Entry, FallsTo, IsBefore, IsNotTaken, Key, NamesFitting, PageFault}

-- what begins with `first`, and ends before `next`, holds the key
pub record HoldsKey (key first : Key) (next : Option Key) : Type 0 where
  pub from : ¬ (IsBefore key first)
  pub to : IfSome next (IsBefore key)

-- from an entry of this level the way to the key ends at the region's entry `found`, after which the next one begins: each page on the way fits
abbrev pub LeadsTo : ℕ → List (List ℕ) → Key → ℕ → Entry → Option Key → Entry → Option Key → Type 0
LeadsTo last pages key zero entry end found next = (found ≡ entry) × (next ≡ end)
LeadsTo last pages key (suc level) entry end found next =
    NamesFitting last pages (suc level) entry end
    × (below : Entry) × (after : Option Key) × FallsTo key (entries_of pages entry.page) end below after
    × LeadsTo last pages key level below after found next

-- from an entry of this level the way to the key stops at the page n, which isn't there or is refused: each page before it fits
abbrev pub StopsAt : ℕ → List (List ℕ) → Key → ℕ → Entry → Option Key → ℕ → Option PageFault → Type 0
StopsAt last pages key zero entry end n fault = ⊥
StopsAt last pages key (suc level) entry end n fault =
    ((n ≡ entry.page) × IsNotTaken last pages (suc level) entry end fault)
    ⊎ (NamesFitting last pages (suc level) entry end
    × (below : Entry) × (after : Option Key) × FallsTo key (entries_of pages entry.page) end below after
    × StopsAt last pages key level below after n fault)
