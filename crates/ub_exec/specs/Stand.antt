-- Where a table stands, and what a row that is put in, and rows that are taken out, make of it.
use Rattle.std.specs.Prelude.{◌≡◌, ◌+◌, ◌++◌, ◌∷◌, [], ℕ, List}
use Rattle.ub_exec.specs.Common.{AreRegions, AreTableRows, Asked, IsSound, key_of, RegionRows, regions, remove, Row, selected, TreeView}
use Rattle.ub_exec.specs.Common.{without_number}
use Rattle.ub_region.specs.Regions.{insert}
use Rattle.ub_table.specs.Table.{Table}

-- where a table stands: the table, the regions in which its rows are, and the number that the next row gets
pub record Stand : Type 0 where
  pub table : Table
  pub regions : List RegionRows
  pub next : ℕ

-- the tree is sound, and its table stands so
pub record IsStandOf (t : TreeView) (s : Stand) : Type 0 where
  pub sound : IsSound t
  pub schema_is : s.table.schema ≡ t.schema
  pub rows_are : AreTableRows (regions t) s.table.rows
  pub regions_are : s.regions ≡ regions t
  pub next_is : s.next ≡ t.next

-- the regions are those of the table, and hold its rows
pub record IsStand (s : Stand) : Type 0 where
  pub regions_are : AreRegions s.table.schema s.next s.regions
  pub rows_are : AreTableRows s.regions s.table.rows

-- a row put in: it is the table's last, and the next number is one more
abbrev pub with_row : Row → Stand → Stand
with_row row s = record {
  table = record { schema = s.table.schema; rows = s.table.rows ++ row ∷ [] };
  regions = insert s.table.schema.dims s.table.schema.page_rows row s.regions;
  next = s.next + 1;
}

-- a row taken out; the next number stays
abbrev pub without_row : Row → Stand → Stand
without_row row s = record {
  table = record { schema = s.table.schema; rows = without_number row.number s.table.rows };
  regions = remove s.table.schema.dims s.table.schema.page_rows (key_of s.table.schema.dims row) s.regions;
  next = s.next;
}

abbrev pub without_rows : List Row → Stand → Stand
without_rows [] s = s
without_rows (row ∷ rows) s = without_rows rows (without_row row s)

-- the rows that a query selects, in ascending order of number, taken out in that order
abbrev pub selected_of : Asked → Stand → List Row
selected_of q s = selected s.table q.filter

abbrev pub without_selected : Asked → Stand → Stand
without_selected q s = without_rows (selected_of q s) s
