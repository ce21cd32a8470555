-- The pages of a table of an older format, 1 or 2.
use Rattle.std.specs.Prelude.{◌≡◌, ◌⊎◌, ℕ, false, List, ◌∷◌, Some, length, map, slice_get}
use Rattle.ub_tree.specs.Common.{ArePlaced, AreRegions, directory_of, Entry, entry_of, HasIndex, Header, header_page_of, index_of, IsDirectory}
use Rattle.ub_tree.specs.Common.{IsOldHeader, OldHeader, pages_under, Placed, regions_in, rows_of, Schema, top}

-- a header of this version
abbrev pub head_of : ℕ → Header → OldHeader
head_of version header = record { version = version; header = header }

-- the pages tell these entries, on the pages of these numbers: in version 1 by a directory, and in version 2 by an index
abbrev pub AreTold : ℕ → Header → List (List ℕ) → List Entry → List ℕ → Type 0
AreTold version header pages entries numbers =
    ((version ≡ 1) × IsDirectory pages (directory_of header) numbers entries)
    ⊎ ((version ≡ 2) × HasIndex (index_of header) pages entries × (numbers ≡ pages_under pages header.levels (top header.root)))

-- the pages are a closed table of this older version, of this schema, with these regions and this next number
pub record AreOldPages (version : ℕ) (pages : List (List ℕ)) (schema : Schema) (placed : List Placed) (next : ℕ) : Type 0 where
  pub header : Header
  pub numbers : List ℕ
  pub spelled : slice_get pages 0 ≡ Some (header_page_of version header)
  pub in_range : IsOldHeader (head_of version header)
  pub clean : header.unclean ≡ false
  pub schema_is : header.schema ≡ schema
  pub next_is : header.next ≡ next
  pub rows_are : header.rows ≡ length (rows_of (regions_in placed))
  pub regions_are : header.regions ≡ length placed
  pub told : AreTold version header pages (map entry_of placed) numbers
  pub well_formed : AreRegions schema next (regions_in placed)
  pub placed_are : ArePlaced schema placed (0 ∷ numbers) pages
