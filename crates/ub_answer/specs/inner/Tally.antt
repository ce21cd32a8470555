-- The cells of a group of rows, from one row to the next.
use Rattle.std.specs.Prelude.{◌≡◌, ◌<◌, ◌≤ℤ◌, ◌+ℤ◌, ◌*◌, ℕ, ℤ, pos, neg_ℤ, List, [], length, slice_index_or}
use Rattle.std.specs.Int.{int_max, int_min, saturate_to_bits}
use Rattle.ub_answer.specs.Held.{many}
use Rattle.ub_query.specs.Cells.{Group, group_cell}
use Rattle.ub_query.specs.declared.cell.Cell.{Cell}
use Rattle.ub_query.specs.declared.cell.Cell.TheVariants.{Number, Null}
use Rattle.ub_query.specs.declared.query.Aggregate.{Aggregate as Taken}
use Rattle.ub_query.specs.declared.query.Aggregate.TheVariants.{Sum, Min, Max}
use Rattle.ub_query.specs.declared.query.Item.{Item}
use Rattle.ub_query.specs.declared.query.Item.TheVariants.{Column, Count, Aggregate}
use Rattle.ub_table.specs.Table.{column_value}
use Rattle.ub_table.specs.declared.row.Row.{Row}
use Rattle.ub_table.specs.declared.schema.Schema.{Schema}

-- a count or a sum, and one more number, within 128 bits
abbrev pub plus : ℤ → Cell → Cell
plus v (Number x) = Number (saturate_to_bits 127 (x +ℤ v))
plus v Null = Number v

abbrev pub lesser : ℤ → Cell → Cell
lesser v (Number x) = Number (int_min x v)
lesser v Null = Number v

abbrev pub greater : ℤ → Cell → Cell
greater v (Number x) = Number (int_max x v)
greater v Null = Number v

abbrev pub taken_in : Taken → ℤ → Cell → Cell
taken_in Sum v cell = plus v cell
taken_in Min v cell = lesser v cell
taken_in Max v cell = greater v cell

-- what an item shows of no rows
abbrev pub of_none : Item → Cell
of_none (Column column) = Null
of_none Count = Number (pos 0)
of_none (Aggregate taken column) = Null

-- what an item shows of some rows and one more
abbrev pub with_row : Schema → Row → Item → Cell → Cell
with_row schema row (Column column) cell = Number (column_value schema row column)
with_row schema row Count cell = plus (pos 1) cell
with_row schema row (Aggregate taken column) cell = taken_in taken (column_value schema row column) cell

-- the number lies no farther from 0 than so many values of 64 bits may
abbrev pub IsWithin : ℕ → ℤ → Type 0
IsWithin n x = (neg_ℤ (pos (n * 9223372036854775808)) ≤ℤ x) × (x ≤ℤ pos (n * 9223372036854775808))

-- the row's value in the item's column has 64 bits
abbrev pub IsNarrow : Schema → Row → Item → Type 0
IsNarrow schema row (Column column) = IsWithin 1 (column_value schema row column)
IsNarrow schema row Count = Unit {0}
IsNarrow schema row (Aggregate taken column) = IsWithin 1 (column_value schema row column)

abbrev pub IsSmall : ℕ → Cell → Type 0
IsSmall n (Number x) = IsWithin n x
IsSmall n Null = Unit {0}

-- the cell is what the item shows of a group, and not too great for one more row
pub record IsShown (schema : Schema) (columns : List ℕ) (group : Group) (item : Item) (cell : Cell) : Type 0 where
  pub is : cell ≡ group_cell schema columns group item
  pub small : IsSmall (length group.rows) cell

-- the cells are what the items show of a group
abbrev pub AreShown : Schema → List ℕ → List Item → Group → List Cell → Type 0
AreShown schema columns items group cells = (k : ℕ) (d : Item) (e : Cell) → k < length items
    → IsShown schema columns group (slice_index_or items k d) (slice_index_or cells k e)

-- the cells are what the items show of no rows
abbrev pub AreOfNone : List Item → List Cell → Type 0
AreOfNone items cells = (k : ℕ) (d : Item) (e : Cell) → k < length items
    → slice_index_or cells k e ≡ of_none (slice_index_or items k d)

-- each cell is what its item shows with one more row
abbrev pub AreWithRow : Schema → Row → List Item → List Cell → List Cell → Type 0
AreWithRow schema row items before after = (k : ℕ) (d : Item) (e : Cell) → k < length items
    → slice_index_or after k e ≡ with_row schema row (slice_index_or items k d) (slice_index_or before k e)

-- some rows as one group, where nothing is grouped
abbrev pub all_of : List Row → Group
all_of rows = record { values = []; rows = rows }

-- what an item shows of some rows and of more, by what it shows of the more and of those before
abbrev pub with_part : Cell → Item → Cell → Cell
with_part Null item cell = cell
with_part (Number v) (Column column) cell = Number v
with_part (Number v) Count cell = plus v cell
with_part (Number v) (Aggregate taken column) cell = taken_in taken v cell

-- each cell is what its item shows with these rows more, where nothing is grouped
abbrev pub AreWithRows : Schema → List Row → List Item → List Cell → List Cell → Type 0
AreWithRows schema rows items before after = (k : ℕ) (d : Item) (e : Cell) → k < length items
    → slice_index_or after k e
    ≡ with_part (group_cell schema [] (all_of rows) (slice_index_or items k d)) (slice_index_or items k d) (slice_index_or before k e)

-- what an item shows of the rows alone is not too great for as many values
abbrev pub IsSmallOf : Schema → List Row → Item → Type 0
IsSmallOf schema rows item = IsSmall (length rows) (group_cell schema [] (all_of rows) item)

-- what is held of the rows taken where nothing is grouped
abbrev pub HoldsTotals : Schema → List Item → List Row → List Cell → Type 0
HoldsTotals schema items taken cells = length taken < many → AreShown schema [] items (all_of taken) cells
