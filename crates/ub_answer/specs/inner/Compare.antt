-- The order asked as a comparison: how two entries stand to each other by the keys of a query.
use Rattle.std.specs.Prelude.{Bool, true, false, List, [], ◌∷◌}
use Rattle.std.specs.Ordering.{nat_cmp, int_cmp, ordering_then}
use Rattle.std.specs.declared.cmp.Ordering.{Ordering}
use Rattle.std.specs.declared.cmp.Ordering.TheVariants.{Less, Equal, Greater}
use Rattle.ub_query.specs.Cells.{row_cell}
use Rattle.ub_query.specs.declared.cell.Cell.{Cell}
use Rattle.ub_query.specs.declared.cell.Cell.TheVariants.{Number, Null}
use Rattle.ub_query.specs.declared.query.Item.{Item}
use Rattle.ub_query.specs.declared.query.SortKey.{SortKey}
use Rattle.ub_table.specs.declared.row.Row.{Row}
use Rattle.ub_table.specs.declared.schema.Schema.{Schema}

-- cells by their numbers; NULL is below each number here, and the order asked never compares the two
abbrev pub cell_cmp : Cell → Cell → Ordering
cell_cmp (Number a) (Number b) = int_cmp a b
cell_cmp (Number a) Null = Greater
cell_cmp Null (Number b) = Less
cell_cmp Null Null = Equal

-- the other way round where the key is descending
abbrev pub key_cmp : Bool → Cell → Cell → Ordering
key_cmp false a b = cell_cmp a b
key_cmp true a b = cell_cmp b a

-- entries by the first key whose cells differ, and where none does, by `last`
abbrev pub keys_cmp : {E : Type 0} → (E → Item → Cell) → (E → E → Ordering) → List SortKey → E → E → Ordering
keys_cmp cell last [] a b = last a b
keys_cmp cell last (key ∷ keys) a b =
    ordering_then (key_cmp key.is_descending (cell a key.item) (cell b key.item)) (keys_cmp cell last keys a b)

-- rows by the keys, and where none decides, by row number
abbrev pub row_cmp : Schema → List SortKey → Row → Row → Ordering
row_cmp schema keys = keys_cmp (row_cell schema) (λ a b. nat_cmp a.number b.number) keys
