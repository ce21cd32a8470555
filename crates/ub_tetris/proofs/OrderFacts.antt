-- A row that is before another one in the order asked stands before it among those held.
use Rattle.std.proofs.Common.{◌≡◌, ℤ, pos, ◌<ℤ◌, List, [], ◌∷◌, Bool, true, false, inl, inr, refl, sym, ap, arith}
use Rattle.std.proofs.lemmas.Int.{ints}
use Rattle.std.specs.Cmp.{int_cmp_is, nat_cmp_is}
use Rattle.std.specs.Ordering.{int_cmp}
use Rattle.std.specs.declared.cmp.Ordering.TheVariants.{Less, Equal}
use Rattle.ub_query.specs.Cells.{row_cell}
use Rattle.ub_query.specs.Order.{IsAhead, IsRowBefore}
use Rattle.ub_query.specs.declared.cell.Cell.TheVariants.{Number}
use Rattle.ub_query.specs.declared.query.Item.{Item}
use Rattle.ub_query.specs.declared.query.Item.TheVariants.{Column, Count, Aggregate}
use Rattle.ub_query.specs.declared.query.SortKey.{SortKey}
use Rattle.ub_table.specs.Table.{column_value}
use Rattle.ub_table.specs.declared.row.Row.{Row}
use Rattle.ub_table.specs.declared.schema.Schema.{Schema}
use Rattle.ub_tetris.specs.Held.{HeldRow, held_row, item_value, turned, values_by}
use Rattle.ub_tetris.specs.inner.Kept.{IsHeldBefore, place_cmp, tie_cmp}

less_of : (x y : ℤ) → x <ℤ y → int_cmp x y ≡ Less
less_of x y h = sym (int_cmp_is x y Less h)

equal_of : (x y : ℤ) → x ≡ y → int_cmp x y ≡ Equal
equal_of x y h = sym (int_cmp_is x y Equal h)

turned_less : (x y : ℤ) → y <ℤ x → turned true x <ℤ turned true y
turned_less x y h = omega (arith, ints, h)

ahead_less : (down : Bool) (schema : Schema) (a b : Row) (item : Item) → IsAhead down (row_cell schema a item) (row_cell schema b item)
    → int_cmp (turned down (item_value schema a item)) (turned down (item_value schema b item)) ≡ Less
ahead_less false schema a b (Column column) h = less_of (column_value schema a column) (column_value schema b column) h
ahead_less true schema a b (Column column) h =
    less_of (turned true (column_value schema a column)) (turned true (column_value schema b column)) (turned_less (column_value schema a column) (column_value schema b column) h)
ahead_less false schema a b Count h = absurd h
ahead_less true schema a b Count h = absurd h
ahead_less false schema a b (Aggregate taken column) h = absurd h
ahead_less true schema a b (Aggregate taken column) h = absurd h

number_of : (x y : ℤ) → Number x ≡ Number y → x ≡ y
number_of x y h = cc

same_equal : (down : Bool) (schema : Schema) (a b : Row) (item : Item) → row_cell schema a item ≡ row_cell schema b item
    → int_cmp (turned down (item_value schema a item)) (turned down (item_value schema b item)) ≡ Equal
same_equal down schema a b (Column column) h =
    equal_of (turned down (column_value schema a column)) (turned down (column_value schema b column)) (ap (turned down) (number_of (column_value schema a column) (column_value schema b column) h))
same_equal down schema a b Count h = equal_of (turned down (pos 0)) (turned down (pos 0)) refl
same_equal down schema a b (Aggregate taken column) h = equal_of (turned down (pos 0)) (turned down (pos 0)) refl

tie_less : (schema : Schema) (keys : List SortKey) (a b : Row) → IsRowBefore schema keys a b → tie_cmp (values_by schema keys a) a.number (values_by schema keys b) b.number ≡ Less
tie_less schema [] a b h = sym (nat_cmp_is a.number b.number Less h)
tie_less schema (key ∷ keys) a b (inl h) = rw (ahead_less key.is_descending schema a b key.item h) refl
tie_less schema (key ∷ keys) a b (inr h) = rw (same_equal key.is_descending schema a b key.item h.0) (tie_less schema keys a b h.1)

before_less : (schema : Schema) (keys : List SortKey) (a b : Row) → IsRowBefore schema keys a b → place_cmp (values_by schema keys a) a.number (values_by schema keys b) b.number ≡ Less
before_less schema [] a b h = tie_less schema [] a b h
before_less schema (key ∷ keys) a b (inl h) = rw (ahead_less key.is_descending schema a b key.item h) refl
before_less schema (key ∷ keys) a b (inr h) = rw (same_equal key.is_descending schema a b key.item h.0) (tie_less schema keys a b h.1)

pub before_held : (schema : Schema) (keys : List SortKey) (a b : Row) → IsRowBefore schema keys a b → IsHeldBefore (held_row schema keys a) (held_row schema keys b)
before_held schema keys a b h = before_less schema keys a b h

-- of two that are held by their values
pub held_before : (schema : Schema) (keys : List SortKey) (a b : HeldRow) → a.values ≡ values_by schema keys a.row → b.values ≡ values_by schema keys b.row
    → IsRowBefore schema keys a.row b.row → IsHeldBefore a b
held_before schema keys a b left right h = rw (left, right) (before_less schema keys a.row b.row h)
