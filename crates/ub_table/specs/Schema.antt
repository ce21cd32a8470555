-- What the columns, dimensions and page rows of a table may be.
use Rattle.std.specs.Prelude.{◌≢◌, ℕ, ◌+◌, ◌^◌, ◌<◌, ◌≤◌, List, length, slice_get}
use Rattle.ub_table.specs.declared.schema.TheConstants.{MAX_ROWS}

-- the numbers are in range: 1 to 4 dimensions, 0 to 4 measures, 2 to 64 rows on a page
pub record AreCounts (columns dims page_rows : ℕ) : Type 0 where
  pub some_dims : 1 ≤ dims
  pub few_dims : dims ≤ 4
  pub covers_dims : dims ≤ columns
  pub few_measures : columns ≤ dims + 4
  pub some_rows : 2 ≤ page_rows
  pub few_rows : page_rows ≤ MAX_ROWS

-- the mask has bits for the dimensions alone, bit i for dimension i
abbrev pub IsMask : ℕ → ℕ → Type 0
IsMask dims signed = signed < 2 ^ dims

-- the numbers of a schema are in range
pub record AreNumbers (columns dims page_rows signed : ℕ) : Type 0 where
  pub counts : AreCounts columns dims page_rows
  pub mask : IsMask dims signed

-- so many dimensions and page rows are a table's: with no measures beside the dimensions its numbers are in range
abbrev pub AreTableNumbers : ℕ → ℕ → Type 0
AreTableNumbers dims page_rows = AreCounts dims dims page_rows

-- no two columns have one name
abbrev pub AreDistinct : List (List ℕ) → Type 0
AreDistinct columns = (i j : ℕ) → i < j → j < length columns → slice_get columns i ≢ slice_get columns j
