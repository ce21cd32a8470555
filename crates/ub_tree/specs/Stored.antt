-- The pages of a closed table, format 3.
use Rattle.std.specs.Prelude.{◌≡◌, ℕ, false, List, Some, length, map, slice_get}
use Rattle.ub_index.specs.View.{IndexView, index_view}
use Rattle.ub_page.specs.Header.{IsHeader, header_page}
use Rattle.ub_page.specs.declared.header.Header.{Header}
use Rattle.ub_region.specs.Regions.{AreRegions, rows_of}
use Rattle.ub_table.specs.declared.schema.Schema.{Schema}
use Rattle.ub_tree.specs.Indexed.{HasIndex, reserved}
use Rattle.ub_tree.specs.Placed.{Placed, ArePlaced, entry_of, regions_in}
use Rattle.ub_zaddr.specs.Address.{last_address}

-- the index of which a header tells
abbrev pub index_of : Header → IndexView
index_of header = index_view header.root header.levels (last_address header.schema.dims)

-- the pages are a closed table of this schema, with these regions and this next number
pub record AreSoundPages (pages : List (List ℕ)) (schema : Schema) (placed : List Placed) (next : ℕ) : Type 0 where
  pub header : Header
  pub spelled : slice_get pages 0 ≡ Some (header_page header)
  pub in_range : IsHeader header
  pub clean : header.unclean ≡ false
  pub schema_is : header.schema ≡ schema
  pub next_is : header.next ≡ next
  pub rows_are : header.rows ≡ length (rows_of (regions_in placed))
  pub regions_are : header.regions ≡ length placed
  pub indexed : HasIndex (index_of header) pages (map entry_of placed)
  pub well_formed : AreRegions schema next (regions_in placed)
  pub placed_are : ArePlaced schema placed (reserved (index_of header) pages) pages
