-- The pages of a level of an index that is built from below: they have numbers that follow each other.
use Rattle.std.specs.Prelude.{◌≡◌, ◌≤◌, ◌<◌, ◌+◌, ◌-◌, ◌^◌, ◌/◌, ◌++◌, ℕ, zero, suc, List, [], ◌∷◌, Some, None, Result, IfOk, OnOk, length, slice_get, if◌then◌else◌, nat_eq, nat_le}
use Rattle.std.specs.List.{AllByRecursion, IsDistinct, flat_map}
use Rattle.ub_index.specs.Index.{AscendTo, EachTo, IsUnder, first_or, page_in, pages_under, top, under}
use Rattle.ub_page.specs.Index.{index_page}
use Rattle.ub_page.specs.Entries.{key_on}
use Rattle.ub_region.specs.declared.entry.Entry.{Entry}
use Rattle.ub_page.specs.declared.entries.TheConstants.{MAX_ENTRIES}
use Rattle.ub_page.specs.Entries.{IsEntry}
use Rattle.ub_page.specs.declared.header.TheConstants.{MAX_LEVEL}
use Rattle.ub_store.specs.Facts.{StoreFacts, page_count}
use Rattle.ub_table.specs.Keys.{origin}
use Rattle.ub_laying.specs.declared.levels.Root.{Root}
use Rattle.ub_laying.specs.declared.levels.Level.{Level}

-- the entry that names the page of this number: with the key that stands where a page has its first one
abbrev pub name_of : List (List ℕ) → ℕ → Entry
name_of pages n = record { first = key_on 16 (page_in pages n); page = n }

-- the entries that name so many pages, from this number on
abbrev pub names_of : List (List ℕ) → ℕ → ℕ → List Entry
names_of pages n zero = []
names_of pages n (suc count) = name_of pages n ∷ names_of pages (suc n) count

-- from this number on, so many pages of this level tell these entries in order, 1 to 170 each
abbrev pub Cut : List (List ℕ) → ℕ → ℕ → ℕ → List Entry → Type 0
Cut pages level n zero entries = entries ≡ []
Cut pages level n (suc count) entries =
    (part : List Entry) × (rest : List Entry) × (entries ≡ part ++ rest) × (1 ≤ length part) × (length part ≤ MAX_ENTRIES)
    × (slice_get pages n ≡ Some (index_page (record { level = level; entries = part }))) × Cut pages level (suc n) count rest

-- how many pages so many entries fill, 170 on each but the last
abbrev pub pages_for : ℕ → ℕ
pages_for count = (count + (MAX_ENTRIES - 1)) / MAX_ENTRIES

-- the most pages that so many entries stand on, half of 170 at least on each but the last
abbrev pub most_leaves : ℕ → ℕ
most_leaves count = (count + (MAX_ENTRIES / 2 - 1)) / (MAX_ENTRIES / 2)

-- how many pages stand above a level of so many pages, on so many levels at most, up to one that has one page alone
unfoldable pub pages_above : ℕ → ℕ → ℕ
pages_above zero count = 0
pages_above (suc levels) count = if nat_le count 1 then 0 else pages_for count + pages_above levels (pages_for count)

-- how many pages an index of so many regions has, fewer than 2^32, with 170 entries on each page but the last of a level: it has
-- five levels at most
abbrev pub index_pages : ℕ → ℕ
index_pages regions = pages_for regions + pages_above 4 (pages_for regions)

-- the most pages that a level has, levels counted from 1 on, of an index of fewer than 2^32 regions with 170 entries on each page but the
-- last of a level; or of fewer than 2^31 with half of that at least on each leaf but the last
abbrev pub most_pages : ℕ → ℕ
most_pages zero = 0
most_pages (suc zero) = 25264514
most_pages (suc (suc zero)) = 148615
most_pages (suc (suc (suc zero))) = 875
most_pages (suc (suc (suc (suc zero)))) = 6
most_pages _ = 1

-- the pages of the level are the last of the store
abbrev pub IsLast : StoreFacts → Level → Type 0
IsLast store level = level.first + level.count ≡ page_count store

-- a level of so many pages is put behind those that there were, with this result
pub record PutsLevel {E : Type 0} (many : ℕ) (old new : StoreFacts) (result : Result Level E) : Type 0 where
  pub last : IfOk result (IsLast new)
  pub small : OnOk result (page_count new < 4294967296)
  pub first : IfOk result (λ low. low.first ≡ page_count old)
  pub count : IfOk result (λ low. low.count ≡ many)

-- the lowest level of an index of so many regions is put behind the pages that there were, with this result
pub record PutsLeaves {E : Type 0} (regions : ℕ) (old new : StoreFacts) (result : Result Level E) : Type 0 where
  pub last : IfOk result (IsLast new)
  pub small : OnOk result (page_count new < 4294967296)
  pub first : IfOk result (λ low. low.first ≡ page_count old)
  pub fewest : IfOk result (λ low. pages_for regions ≤ low.count)
  pub most : IfOk result (λ low. low.count ≤ most_leaves regions)

-- the root of an index stands on one of the pages that there are, which isn't the first, and its level is one that there can be
pub record IsRoot (count : ℕ) (root : Root) : Type 0 where
  pub some : 1 ≤ root.page
  pub there : root.page < count
  pub low : 1 ≤ root.level
  pub high : root.level ≤ MAX_LEVEL

-- the root of an index is put behind so many pages more, with this result
pub record PutsRoot {E : Type 0} (by : ℕ) (old new : StoreFacts) (result : Result Root E) : Type 0 where
  pub root : IfOk result (IsRoot (page_count new))
  pub count : OnOk result (page_count new ≡ page_count old + by)

-- these nodes of a level, which lead to these entries, are in order from the least key on, and an index stands under each; all its
-- pages differ from each other, and have numbers from `from` on and below `to`
pub record IsLevel (last : ℕ) (pages : List (List ℕ)) (from to level : ℕ) (nodes entries : List Entry) : Type 0 where
  pub begins : first_or nodes None ≡ Some origin
  pub ascends : AscendTo nodes None
  pub each : AllByRecursion (IsEntry last) nodes
  pub under_them : EachTo (IsUnder last pages level) nodes None
  pub entries_are : flat_map (under pages level) nodes ≡ entries
  pub apart : IsDistinct nat_eq (flat_map (pages_under pages level) nodes)
  pub within : AllByRecursion (λ n. (from ≤ n) × (n < to)) (flat_map (pages_under pages level) nodes)

-- on these pages the index of these entries stands, in a space that ends with this address; each of its pages is reached once, and
-- has a number from `from` on and below `to`
pub record IsIndexOf (last : ℕ) (pages : List (List ℕ)) (from to : ℕ) (root : Root) (entries : List Entry) : Type 0 where
  pub under_it : IsUnder last pages root.level (top root.page) None
  pub entries_are : under pages root.level (top root.page) ≡ entries
  pub reached : IsDistinct nat_eq (pages_under pages root.level (top root.page))
  pub within : AllByRecursion (λ n. (from ≤ n) × (n < to)) (pages_under pages root.level (top root.page))

-- the lowest level of an index became a whole one, with this root
abbrev pub IsRaised : List (List ℕ) → List (List ℕ) → Level → Root → Type 0
IsRaised old new leaves root = (last from : ℕ) (entries : List Entry) → last < 2 ^ 128 → from ≤ leaves.first
    → IsLevel last old from (leaves.first + leaves.count) 1 (names_of old leaves.first leaves.count) entries
    → IsIndexOf last new from (length new) root entries
