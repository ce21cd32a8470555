-- What an insertion does to a tree, and which rows it takes.
use Rattle.std.specs.Prelude.{FitsSigned, ◌≡◌, ◌+◌, ◌^◌, ◌<◌, ◌++◌, if◌then◌else◌, ℕ, nat_lt, pos, List, [], ◌∷◌}
use Rattle.std.specs.Int.{w64}
use Rattle.std.specs.List.{All}
use Rattle.ub_region.specs.Regions.{AreTableRows, insert}
pub use Rattle.ub_region.specs.Regions.{numbered}
pub use Rattle.ub_table.specs.Filling.{row_of}
use Rattle.ub_table.specs.Region.{HasRest}
use Rattle.ub_table.specs.declared.row.Row.{Row}
use Rattle.ub_tree.specs.Grown.{IsOnlyGrown}
use Rattle.ub_tree.specs.View.{TreeView, IsSound, regions}

-- the values of a row, whatever its number, are such as a row of so many dimensions and measures has
pub record Suits (dims measures : ℕ) (row : Row) : Type 0 where
  pub dims_rest : HasRest 0 dims row.dims
  pub dims_words : All (λ x. x < 2 ^ 32) row.dims
  pub measures_rest : HasRest (pos 0) measures row.measures
  pub measures_words : All (λ x. FitsSigned w64 x) row.measures

-- a row was put into a sound tree, with the number that was next, as the last of its table; where rows were only put in before, that is so still
pub record IsInserted (row : Row) (old new : TreeView) : Type 0 where
  pub number : row.number ≡ old.next
  pub schema : new.schema ≡ old.schema
  pub regions_are : regions new ≡ insert old.schema.dims old.schema.page_rows row (regions old)
  pub table : (rows : List Row) → AreTableRows (regions old) rows → AreTableRows (regions new) (rows ++ row ∷ [])
  pub next : new.next ≡ old.next + 1
  pub rows : new.rows ≡ old.rows + 1
  pub sound : IsSound new
  pub grown : IsOnlyGrown old → IsOnlyGrown new

-- the number that the next row gets, once a row of this number is there too
abbrev pub next_after : ℕ → ℕ → ℕ
next_after next number = if nat_lt number next then next else number + 1

-- a row was put into a sound tree that had none of its number; and where rows were only put in before, that is so still
pub record IsPutIn (row : Row) (old new : TreeView) : Type 0 where
  pub schema : new.schema ≡ old.schema
  pub regions_are : regions new ≡ insert old.schema.dims old.schema.page_rows row (regions old)
  pub next : new.next ≡ next_after old.next row.number
  pub rows : new.rows ≡ old.rows + 1
  pub sound : IsSound new
  pub grown : IsOnlyGrown old → IsOnlyGrown new
