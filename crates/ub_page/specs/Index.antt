-- The pages of an index, formats 2 and 3.
use Rattle.std.specs.Prelude.{◌≡◌, ◌≢◌, ◌≤◌, ◌+◌, ◌*◌, ◌-◌, ℕ, List, length, drop, replicate}
use Rattle.std.specs.List.{AllByRecursion}
use Rattle.ub_bytes.specs.Bytes.{number_at}
use Rattle.ub_page.specs.Entries.{AreAscending, IsEntry, entries_on, entries_page}
use Rattle.ub_region.specs.declared.entry.Entry.{Entry}
use Rattle.ub_page.specs.declared.entries.TheConstants.{MAX_ENTRIES}
use Rattle.ub_table.specs.declared.fault.PageFault.TheVariants.{WrongKind, BadCount, BadRow, BadOrder, BadPadding}
use Rattle.ub_table.specs.declared.fault.PageFault.{PageFault}
use Rattle.ub_page.specs.declared.index.Head.{Head}
use Rattle.ub_page.specs.declared.header.TheConstants.{MAX_LEVEL}

-- what a page of an index tells: its level, 1 for the lowest, and the entries
pub record Node : Type 0 where
  pub level : ℕ
  pub entries : List Entry

-- what a page of an index can hold, in a space that ends with the address `last`
pub record IsNode (last : ℕ) (node : Node) : Type 0 where
  pub low : 1 ≤ node.level
  pub high : node.level ≤ MAX_LEVEL
  pub some : 1 ≤ length node.entries
  pub few : length node.entries ≤ MAX_ENTRIES
  pub entries : AllByRecursion (IsEntry last) node.entries
  pub ascending : AreAscending node.entries

-- the one spelling of a page of an index: 'I', the level, the count of entries, twelve bytes that are free, and the entries
unfoldable pub index_page : Node → List ℕ
index_page node = entries_page 0x49 node.level 0 node.entries

-- what the page tells, if it is one of an index
abbrev pub head_on : List ℕ → Head
head_on page = record { level = number_at 1 1 page; count = number_at 2 2 page }

abbrev pub node_on : List ℕ → Node
node_on page = record { level = number_at 1 1 page; entries = entries_on 16 (number_at 2 2 page) page }

-- the page begins with 'I'
abbrev pub IsIndexKind : List ℕ → Type 0
IsIndexKind page = number_at 1 0 page ≡ 0x49

-- it tells of a level from 1 to 16
abbrev pub HasLevel : List ℕ → Type 0
HasLevel page = (1 ≤ number_at 1 1 page) × (number_at 1 1 page ≤ MAX_LEVEL)

-- and of 1 to 170 entries
abbrev pub HasHead : List ℕ → Type 0
HasHead page = HasLevel page × (1 ≤ number_at 2 2 page) × (number_at 2 2 page ≤ MAX_ENTRIES)

abbrev pub HasNodeEntries : ℕ → List ℕ → Type 0
HasNodeEntries last page = AllByRecursion (IsEntry last) (node_on page).entries

abbrev pub HasNodeOrder : List ℕ → Type 0
HasNodeOrder page = AreAscending (node_on page).entries

-- the bytes that no field uses are zero: the free ones of the head, 4 to 15, where a further mark of the page can stand, and
-- those behind so many entries
pub record IsBlankBehind (count : ℕ) (page : List ℕ) : Type 0 where
  pub free : (number_at 4 4 page ≡ 0) × (number_at 8 8 page ≡ 0)
  pub behind : drop (16 + 24 * count) page ≡ replicate (4096 - (16 + 24 * count)) 0

-- the refusal of its first four bytes is the first that holds of them
abbrev pub IsHeadFault : List ℕ → PageFault → Type 0
IsHeadFault page WrongKind = ¬ (IsIndexKind page)
IsHeadFault page BadCount = IsIndexKind page × (¬ (HasHead page))
IsHeadFault page _ = ⊥

-- the refusal is the first that holds of the page, in a space that ends with the address `last`
abbrev pub IsIndexFault : ℕ → List ℕ → PageFault → Type 0
IsIndexFault last page WrongKind = ¬ (IsIndexKind page)
IsIndexFault last page BadCount = IsIndexKind page × (¬ (HasHead page))
IsIndexFault last page BadRow = IsIndexKind page × HasHead page × (¬ (HasNodeEntries last page))
IsIndexFault last page BadOrder = IsIndexKind page × HasHead page × HasNodeEntries last page × (¬ (HasNodeOrder page))
IsIndexFault last page BadPadding =
    IsIndexKind page × HasHead page × HasNodeEntries last page × HasNodeOrder page
    × ((node : Node) → IsNode last node → page ≢ index_page node)
IsIndexFault last page _ = ⊥
