-- The rows of an answer by their indices: how long each is, and which cell stands where.
use Rattle.std.proofs.Common.{◌≡◌, ◌<◌, ◌∙◌, ℕ, zero, suc, List, [], ◌∷◌, Some, length, map, slice_get, slice_index_or, ap, subst, sym, arith}
use Rattle.std.proofs.lemmas.List.{get_or-map, length-map}
use Rattle.std.specs.List.{AllByRecursion}
use Rattle.ub_answer.proofs.ShapedFacts.{lines-wide}
use Rattle.ub_answer.specs.Held.{lines}
use Rattle.ub_query.specs.Cells.{row_cell}
use Rattle.ub_query.specs.declared.cell.Cell.{Cell}
use Rattle.ub_query.specs.declared.query.Item.{Item}
use Rattle.ub_table.specs.declared.row.Row.{Row}
use Rattle.ub_table.specs.declared.schema.Schema.{Schema}

-- what holds of each row holds of the row at an index
row_at : (P : List Cell → Type 0) (rows : List (List Cell)) (k : ℕ) (d : List Cell) → AllByRecursion P rows → k < length rows → P (slice_index_or rows k d)
row_at P [] k d all below = absurd (omega arith)
row_at P (row ∷ rows) zero d all below = all.0
row_at P (row ∷ rows) (suc k) d all below = row_at P rows k d all.1 (omega arith)

-- each row of a width has it, by the names that the code has for the rows
pub wide_at : (width : ℕ) (rows seen : List (List Cell)) → rows ≡ seen → AllByRecursion (λ cells. length cells ≡ width) rows → (k : ℕ) (d : List Cell) → k < length seen
    → length (slice_index_or seen k d) ≡ width
wide_at width rows seen is wide k d below =
    row_at (λ cells. length cells ≡ width) seen k d (subst (λ (rows : List (List Cell)). AllByRecursion (λ cells. length cells ≡ width) rows) is wide) below

-- the rows made of some items have a cell for each
pub made_wide : (schema : Schema) (items : List Item) (rows : List Row) (seen : List (List Cell)) (width : ℕ) → lines schema items rows ≡ seen → length items ≡ width
    → (k : ℕ) (d : List Cell) → k < length seen → length (slice_index_or seen k d) ≡ width
made_wide schema items rows seen width is long k d below = wide_at (length items) (lines schema items rows) seen is (lines-wide schema items rows) k d below ∙ long

-- what is made of a row and an item stands at their places
pub made_at : (schema : Schema) (items : List Item) (rows lent : List Row) (seen : List (List Cell)) (index place : ℕ) (d : Row) (cell : Cell) → lines schema items rows ≡ seen
    → lent ≡ rows → index < length seen → slice_get (map (row_cell schema (slice_index_or lent index d)) items) place ≡ Some cell
    → slice_get (slice_index_or seen index []) place ≡ Some cell
made_at schema items rows lent seen index place d cell is lent_is below made =
    let many : length rows ≡ length seen = sym (length-map rows (λ (row : Row). map (row_cell schema row) items)) ∙ ap length is in
    let line : slice_index_or (lines schema items rows) index [] ≡ map (row_cell schema (slice_index_or rows index d)) items =
    get_or-map (λ (row : Row). map (row_cell schema row) items) rows index d [] (omega arith) in
    subst (λ (rows : List (List Cell)). slice_get (slice_index_or rows index []) place ≡ Some cell) is
    (ap (λ (row : List Cell). slice_get row place) line
    ∙ ap (λ (rows : List Row). slice_get (map (row_cell schema (slice_index_or rows index d)) items) place) (sym lent_is) ∙ made)
