-- An index of several levels over numbered pages: each entry leads to an index page of its level, and at level 0 is itself the entry of a region.
use Rattle.std.specs.Prelude.{◌≡◌, ℕ, zero, suc, List, [], ◌∷◌, Option, Some, None, IfSome, slice_get, slice_index_or}
use Rattle.std.specs.List.{flat_map}
use Rattle.ub_page.specs.Index.{IsNode, index_page, node_on}
use Rattle.ub_region.specs.declared.entry.Entry.{Entry}
use Rattle.ub_table.specs.Keys.{IsBefore, origin}
use Rattle.ub_table.specs.declared.row.Key.{Key}

-- the page of this number, and no byte where there is none
abbrev pub page_in : List (List ℕ) → ℕ → List ℕ
page_in pages n = slice_index_or pages n []

-- the entries that the page of this number tells
abbrev pub entries_of : List (List ℕ) → ℕ → List Entry
entries_of pages n = (node_on (page_in pages n)).entries

-- the regions' entries that an entry of this level leads to, in order
abbrev pub under : List (List ℕ) → ℕ → Entry → List Entry
under pages zero entry = entry ∷ []
under pages (suc level) entry = flat_map (under pages level) (entries_of pages entry.page)

-- the index pages that it leads through, an upper one before those below it
abbrev pub pages_under : List (List ℕ) → ℕ → Entry → List ℕ
pages_under pages zero entry = []
pages_under pages (suc level) entry = entry.page ∷ flat_map (pages_under pages level) (entries_of pages entry.page)

-- the first key of these entries, or else this
abbrev pub first_or : List Entry → Option Key → Option Key
first_or [] end = end
first_or (entry ∷ entries) end = Some entry.first

-- each begins before the next one, and the last before the end, if there is one
abbrev pub AscendTo : List Entry → Option Key → Type 0
AscendTo [] end = Unit {0}
AscendTo (entry ∷ entries) end = IfSome (first_or entries end) (IsBefore entry.first) × AscendTo entries end

-- each has the property, with where the next one begins
abbrev pub EachTo : (Entry → Option Key → Type 0) → List Entry → Option Key → Type 0
EachTo P [] end = Unit {0}
EachTo P (entry ∷ entries) end = P entry (first_or entries end) × EachTo P entries end

-- the page spells a node, in a space that ends with the address `last`
pub record IsIndexPage (last : ℕ) (page : List ℕ) : Type 0 where
  pub spelled : page ≡ index_page (node_on page)
  pub is : IsNode last (node_on page)

-- and fits the entry that names it: it is of this level, begins with the entry's key, and ends before the end
pub record Fits (last : ℕ) (page : List ℕ) (level : ℕ) (entry : Entry) (end : Option Key) : Type 0 where
  pub is : IsIndexPage last page
  pub level_is : (node_on page).level ≡ level
  pub begins : first_or (node_on page).entries None ≡ Some entry.first
  pub ascends : AscendTo (node_on page).entries end

-- among these pages there is the one that an entry of this level names, and it fits
pub record NamesFitting (last : ℕ) (pages : List (List ℕ)) (level : ℕ) (entry : Entry) (end : Option Key) : Type 0 where
  pub there : slice_get pages entry.page ≡ Some (page_in pages entry.page)
  pub fits : Fits last (page_in pages entry.page) level entry end

-- an index stands under this entry of this level, and ends before the end
abbrev pub IsUnder : ℕ → List (List ℕ) → ℕ → Entry → Option Key → Type 0
IsUnder last pages zero entry end = Unit {0}
IsUnder last pages (suc level) entry end =
    NamesFitting last pages (suc level) entry end × EachTo (IsUnder last pages level) (entries_of pages entry.page) end

-- these entries stand on the page that an entry names, which has their first key
pub record IsTold (last : ℕ) (pages : List (List ℕ)) (level : ℕ) (entries : List Entry) (entry : Entry) : Type 0 where
  pub there : slice_get pages entry.page ≡ Some (page_in pages entry.page)
  pub is : IsIndexPage last (page_in pages entry.page)
  pub level_is : (node_on (page_in pages entry.page)).level ≡ level
  pub entries_are : entries_of pages entry.page ≡ entries
  pub begins : first_or entries None ≡ Some entry.first

-- the entry by which a root is named
abbrev pub top : ℕ → Entry
top root = record { first = origin; page = root }
