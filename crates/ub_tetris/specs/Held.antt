-- What is held of a sweep: rows, and the values by which they are given one before the other.
use Rattle.std.specs.Prelude.{◌≡◌, ℤ, pos, ◌-ℤ◌, Bool, true, false, List, map}
use Rattle.ub_tetris.specs.Common.{AllByRecursion, column_value, Row, Schema, SortKey}
use Rattle.ub_query.specs.declared.query.Item.{Item}
use Rattle.ub_query.specs.declared.query.Item.TheVariants.{Column, Count, Aggregate}

-- a row, and its values, one for each key by which rows are given
pub record HeldRow : Type 0 where
  pub values : List ℤ
  pub row : Row

-- the value of a row for an item; an aggregate has none, and stands for no row
abbrev pub item_value : Schema → Row → Item → ℤ
item_value schema row (Column column) = column_value schema row column
item_value schema row Count = pos 0
item_value schema row (Aggregate taken column) = pos 0

-- a value by which lesser ones come first: where greater ones do, it is turned round zero
abbrev pub turned : Bool → ℤ → ℤ
turned false value = value
turned true value = pos 0 -ℤ value -ℤ pos 1

-- the values of a row by some keys
abbrev pub values_by : Schema → List SortKey → Row → List ℤ
values_by schema keys row = map (λ key. turned key.is_descending (item_value schema row key.item)) keys

abbrev pub held_row : Schema → List SortKey → Row → HeldRow
held_row schema keys row = record { values = values_by schema keys row; row = row }

abbrev pub rows_held : List HeldRow → List Row
rows_held held = map (λ h. h.row) held

abbrev pub AreHeldBy : Schema → List SortKey → List HeldRow → Type 0
AreHeldBy schema keys held = AllByRecursion (λ h. h.values ≡ values_by schema keys h.row) held
