-- The header page of a table, formats 1 to 3.
use Rattle.std.specs.Prelude.{◌≡◌, ◌≢◌, ◌≤◌, ◌<◌, ◌+◌, ◌-◌, ◌/◌, ◌^◌, ◌++◌, ℕ, zero, suc, nat_lt, List, [], ◌∷◌, length, take, drop, replicate, if◌then◌else◌}
use Rattle.std.specs.Bool.{MatchBool}
use Rattle.std.specs.List.{flat_map, AllByRecursion}
use Rattle.ub_bytes.specs.Bytes.{number_bytes, number_at, layout, padded}
use Rattle.ub_page.specs.declared.entries.TheConstants.{MAX_ENTRIES}
use Rattle.ub_page.specs.declared.header.Header.{Header}
use Rattle.ub_page.specs.declared.header.Numbers.{Numbers}
use Rattle.ub_page.specs.declared.header.OldHeader.{OldHeader}
use Rattle.ub_page.specs.declared.header.TheConstants.{FIRST_INDEXED, FIRST_SIGNED, MAX_LEVEL, VERSION}
use Rattle.ub_table.specs.Block.{IsNameBlock}
use Rattle.ub_table.specs.Name.{IsName}
use Rattle.ub_table.specs.Schema.{AreDistinct, AreNumbers}
use Rattle.ub_table.specs.declared.fault.PageFault.TheVariants.{WrongKind, OldFormat, Unclean, BadCount, BadName, BadPadding}
use Rattle.ub_table.specs.declared.fault.PageFault.{PageFault}
use Rattle.ub_table.specs.declared.row.TheConstants.{MAX_ROW_NUMBER}

-- the numbers of a header, as its page holds them
abbrev pub numbers_of : Header → Numbers
numbers_of h = record {
  state = if h.unclean then 1 else 0;
  dims = h.schema.dims;
  measures = length h.schema.columns - h.schema.dims;
  page_rows = h.schema.page_rows;
  signed = h.schema.signed;
  next = h.next;
  rows = h.rows;
  regions = h.regions;
  root = h.root;
  levels = h.levels;
}

-- how many pages a directory has that names so many regions
abbrev pub directory_pages : ℕ → ℕ
directory_pages regions = (regions + (MAX_ENTRIES - 1)) / MAX_ENTRIES

-- the levels are those that a header of this version tells of: before the first version with an index, how many pages the directory
-- has; from that one on, the level of the index's root, 1 to 16
abbrev pub AreLevels : ℕ → Numbers → Type 0
AreLevels version n =
    MatchBool (nat_lt version FIRST_INDEXED) (n.levels ≡ directory_pages n.regions) ((1 ≤ n.levels) × (n.levels ≤ MAX_LEVEL))

-- each in the range that it has in this version: the mask of signed dimensions has bits for the dimensions alone, the levels are those
-- that the version tells of, and rows are numbered below the next number
pub record AreInRangeOf (version : ℕ) (n : Numbers) : Type 0 where
  pub state : n.state ≤ 1
  pub counts : AreNumbers (n.dims + n.measures) n.dims n.page_rows n.signed
  pub some_next : 1 ≤ n.next
  pub last_next : n.next ≤ MAX_ROW_NUMBER + 1
  pub rows : n.rows < n.next
  pub regions : 1 ≤ n.regions
  pub root : 1 ≤ n.root
  pub levels : AreLevels version n

-- and in the version that is written: the root of the index has a level from 1 to 16
abbrev pub AreInRange : Numbers → Type 0
AreInRange n = AreInRangeOf VERSION n

-- the table's name, then the columns' names
abbrev pub names_of : Header → List (List ℕ)
names_of h = h.schema.name ∷ h.schema.columns

-- a header that a page of this version can hold: before the first version that tells of signed dimensions, none is signed
pub record IsHeaderOf (version : ℕ) (h : Header) : Type 0 where
  pub numbers : AreInRangeOf version (numbers_of h)
  pub regions : h.regions < 2 ^ 32
  pub root : h.root < 2 ^ 32
  pub names : AllByRecursion IsName (names_of h)
  pub unsigned : version < FIRST_SIGNED → h.schema.signed ≡ 0

-- and one of the version that is written
abbrev pub IsHeader : Header → Type 0
IsHeader h = IsHeaderOf VERSION h

-- a version before the one that is written: 1 or 2
abbrev pub IsOldVersion : ℕ → Type 0
IsOldVersion version = (1 ≤ version) × (version < VERSION)

-- a header that a page of an old version can hold
pub record IsOldHeader (old : OldHeader) : Type 0 where
  pub version : IsOldVersion old.version
  pub header : IsHeaderOf old.version old.header

-- 'UBTR', the version, and the numbers, each with its bytes
abbrev pub number_fields : ℕ → Numbers → List (ℕ × ℕ)
number_fields version n =
    (4, 0x55425452) ∷ (1, version) ∷ (1, n.state) ∷ (1, n.dims) ∷ (1, n.measures) ∷ (1, n.page_rows)
    ∷ (1, n.signed) ∷ (2, 0) ∷ (4, n.next) ∷ (4, n.rows) ∷ (4, n.regions) ∷ (4, n.root) ∷ (4, n.levels) ∷ []

-- a name on 33 bytes: its length, its bytes, and zeros
abbrev pub name_bytes : List ℕ → List ℕ
name_bytes name = number_bytes 1 (length name) ++ (name ++ replicate (32 - length name) 0)

-- a page of this version, of these numbers and names
unfoldable pub page_of : ℕ → Numbers → List (List ℕ) → List ℕ
page_of version numbers names = padded (layout (number_fields version numbers) ++ flat_map name_bytes names)

-- the one spelling of a header in a version
abbrev pub header_page_of : ℕ → Header → List ℕ
header_page_of version h = page_of version (numbers_of h) (names_of h)

-- and in the version that is written
abbrev pub header_page : Header → List ℕ
header_page h = header_page_of VERSION h

-- the version that the page tells of, if it is a header
abbrev pub version_on : List ℕ → ℕ
version_on page = number_at 1 4 page

-- the page begins with 'UBTR', and its version is this one
abbrev pub IsOfVersion : ℕ → List ℕ → Type 0
IsOfVersion version page = (number_at 4 0 page ≡ 0x55425452) × (version_on page ≡ version)

-- it begins with 'UBTR', and its version is one that there has been: from 1 to the one that is written
abbrev pub IsHeaderKind : List ℕ → Type 0
IsHeaderKind page = (number_at 4 0 page ≡ 0x55425452) × (1 ≤ version_on page) × (version_on page ≤ VERSION)

-- it begins with 'UBTR', and its version is an old one
abbrev pub IsOldKind : List ℕ → Type 0
IsOldKind page = (number_at 4 0 page ≡ 0x55425452) × IsOldVersion (version_on page)

-- the mask of signed dimensions on a page of this version
abbrev pub mask_on : ℕ → List ℕ → ℕ
mask_on version page = if nat_lt version FIRST_SIGNED then 0 else number_at 1 9 page

-- the numbers that stand on a page of this version
abbrev pub numbers_on : ℕ → List ℕ → Numbers
numbers_on version page = record {
  state = number_at 1 5 page;
  dims = number_at 1 6 page;
  measures = number_at 1 7 page;
  page_rows = number_at 1 8 page;
  signed = mask_on version page;
  next = number_at 4 12 page;
  rows = number_at 4 16 page;
  regions = number_at 4 20 page;
  root = number_at 4 24 page;
  levels = number_at 4 28 page;
}

-- the bytes of the name that stands at an offset, whose length comes first
abbrev pub name_on : ℕ → List ℕ → List ℕ
name_on offset page = take (number_at 1 offset page) (drop (offset + 1) page)

-- a name stands there, and its unused bytes are zero
abbrev pub IsNameOn : ℕ → List ℕ → Type 0
IsNameOn offset page = IsNameBlock (number_at 1 offset page) (take 32 (drop (offset + 1) page))

-- so many names, one after the other
abbrev pub names_on : ℕ → ℕ → List ℕ → List (List ℕ)
names_on offset zero page = []
names_on offset (suc n) page = name_on offset page ∷ names_on (offset + 33) n page

abbrev pub AreNamesOn : ℕ → ℕ → List ℕ → Type 0
AreNamesOn offset zero page = Unit {0}
AreNamesOn offset (suc n) page = IsNameOn offset page × AreNamesOn (offset + 33) n page

-- the table's name and those of so many columns stand on the page, the columns' all different
abbrev pub HasNames : ℕ → List ℕ → Type 0
HasNames columns page = IsNameOn 32 page × AreNamesOn 65 columns page × AreDistinct (names_on 65 columns page)

-- how many columns the page tells of
abbrev pub columns_on : List ℕ → ℕ
columns_on page = number_at 1 6 page + number_at 1 7 page

-- the refusal by a reader of this version alone is the first that holds of the page
abbrev pub IsFaultOf : ℕ → List ℕ → PageFault → Type 0
IsFaultOf version page WrongKind = ¬ (IsOfVersion version page)
IsFaultOf version page Unclean = IsOfVersion version page × (number_at 1 5 page ≡ 1)
IsFaultOf version page BadCount =
    IsOfVersion version page × (number_at 1 5 page ≢ 1) × (¬ (AreInRangeOf version (numbers_on version page)))
IsFaultOf version page BadName =
    IsOfVersion version page × (number_at 1 5 page ≢ 1) × AreInRangeOf version (numbers_on version page)
    × (¬ (HasNames (columns_on page) page))
IsFaultOf version page BadPadding =
    IsOfVersion version page × (number_at 1 5 page ≢ 1) × AreInRangeOf version (numbers_on version page)
    × HasNames (columns_on page) page
    × ((h : Header) → IsHeaderOf version h → page ≢ header_page_of version h)
IsFaultOf version page _ = ⊥

-- the refusal is the first that holds of the page; a header of an older version is refused as one, whatever else it tells
abbrev pub IsHeaderFault : List ℕ → PageFault → Type 0
IsHeaderFault page WrongKind = ¬ (IsHeaderKind page)
IsHeaderFault page OldFormat = IsHeaderKind page × (version_on page < VERSION)
IsHeaderFault page fault = IsFaultOf VERSION page fault

-- the refusal by a reader of old headers is the first that holds of the page
abbrev pub IsOldHeaderFault : List ℕ → PageFault → Type 0
IsOldHeaderFault page WrongKind = ¬ (IsOldKind page)
IsOldHeaderFault page fault = IsOldKind page × IsFaultOf (version_on page) page fault

-- two headers agree in each part
pub record AreSame (a b : Header) : Type 0 where
  pub name : a.schema.name ≡ b.schema.name
  pub columns : a.schema.columns ≡ b.schema.columns
  pub dims : a.schema.dims ≡ b.schema.dims
  pub page_rows : a.schema.page_rows ≡ b.schema.page_rows
  pub signed : a.schema.signed ≡ b.schema.signed
  pub next : a.next ≡ b.next
  pub rows : a.rows ≡ b.rows
  pub regions : a.regions ≡ b.regions
  pub root : a.root ≡ b.root
  pub levels : a.levels ≡ b.levels
  pub unclean : a.unclean ≡ b.unclean
