-- What a reader has read of the pages behind a journal's first three.
use Rattle.std.specs.Prelude.{◌≡◌, ◌≢◌, ◌⊎◌, ◌<◌, ◌≤◌, ◌+◌, ◌/◌, ◌%◌, ◌^◌, ℕ, List, Some, length, take, drop, slice_get}
use Rattle.std.specs.List.{AllByRecursion}
use Rattle.ub_journal.specs.Image.{numbers_of}
use Rattle.ub_journal.specs.declared.journal.Change.{Change}
use Rattle.ub_journal_page.specs.Pages.{HasPages, byte_pages, byte_parts, changes_bytes, joined}
use Rattle.ub_journal_page.specs.Whole.{listed, number_pages, parts_of}

-- each page has 4096 bytes
abbrev pub AreFull : List (List ℕ) → Type 0
AreFull pages = AllByRecursion (λ page. length page ≡ 4096) pages

-- each number fits four bytes
abbrev pub AreSmall : List ℕ → Type 0
AreSmall numbers = AllByRecursion (λ n. n < 2 ^ 32) numbers

-- the bytes of the pages behind the first three
abbrev pub stream : List (List ℕ) → List ℕ
stream pages = joined (drop 3 pages)

-- so many of these bytes were read, and the page of the next one is this one, unless none of that was read
pub record IsRead (pages : List (List ℕ)) (place : ℕ) (page : List ℕ) : Type 0 where
  pub there : place ≤ length (stream pages)
  pub full : AreFull (take (byte_parts place) (drop 3 pages))
  pub last : place % 4096 ≢ 0 → slice_get pages (3 + place / 4096) ≡ Some page

-- the page of the next byte behind so many is this one, and it and all pages before it have 4096 bytes
pub record IsOn (pages : List (List ℕ)) (place : ℕ) (page : List ℕ) : Type 0 where
  pub full : AreFull (take (place / 4096 + 1) (drop 3 pages))
  pub here : slice_get pages (3 + place / 4096) ≡ Some page

-- a change whose number fits four bytes, of a page of 4096 bytes
pub record IsSound (change : Change) : Type 0 where
  pub small : change.number < 2 ^ 32
  pub full : length change.page ≡ 4096

-- so many changes, whose numbers fit four bytes
pub record AreSoMany (changes : ℕ) (cs : List Change) : Type 0 where
  pub count : length cs ≡ changes
  pub small : AreSmall (numbers_of cs)

-- the pages behind the first three are those of these changes, of version 2
abbrev pub ArePacked : List (List ℕ) → List Change → Type 0
ArePacked pages cs = HasPages cs × (drop 3 pages ≡ byte_pages (changes_bytes cs))

-- they are those of these changes, of version 1
abbrev pub AreListed : List (List ℕ) → List Change → Type 0
AreListed pages cs = drop 3 pages ≡ listed cs

-- they are those of these changes, of this version
abbrev pub AreBody : ℕ → List (List ℕ) → List Change → Type 0
AreBody version pages cs = ((version ≡ 1) × AreListed pages cs) ⊎ ((version ≡ 2) × ArePacked pages cs)

-- they begin with so many numbers
pub record HasNumbers (changes : ℕ) (pages : List (List ℕ)) (numbers : List ℕ) : Type 0 where
  pub count : length numbers ≡ changes
  pub small : AreSmall numbers
  pub are : take (parts_of changes) (drop 3 pages) ≡ number_pages (parts_of changes) numbers
