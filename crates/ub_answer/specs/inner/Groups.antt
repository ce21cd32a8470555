-- What is held of the groups of the rows taken, and how groups stand in the order asked.
use Rattle.std.specs.Prelude.{◌≡◌, ◌≢◌, ◌<◌, ◌+◌, ℕ, Bool, cond, if◌then◌else◌, List, [], ◌∷◌, length, Option, Some, None, MatchOption, slice_index_or, take}
use Rattle.std.specs.Cmp.Lexicographic.{pointwise, slice_cmp}
use Rattle.std.specs.List.{All, flat_map}
use Rattle.std.specs.Map.{lookup}
use Rattle.std.specs.Ordering.{int_cmp, int_eq}
use Rattle.std.specs.declared.cmp.Ordering.{Ordering}
use Rattle.ub_answer.specs.Held.{many}
use Rattle.ub_answer.specs.inner.Compare.{keys_cmp}
use Rattle.ub_answer.specs.inner.Cut.{cut}
use Rattle.ub_answer.specs.inner.Tally.{IsNarrow, AreOfNone, AreWithRow, AreShown}
use Rattle.ub_answer.specs.declared.groups.Values.{Values}
use Rattle.ub_query.specs.Cells.{Group}
use Rattle.ub_query.specs.Groups.{rows_with}
use Rattle.ub_query.specs.declared.cell.Cell.{Cell}
use Rattle.ub_query.specs.declared.cell.Cell.TheVariants.{Null}
use Rattle.ub_query.specs.contracts.query.ItemPartialEq.TheImpl as derived
use Rattle.ub_query.specs.declared.query.Item.{Item}
use Rattle.ub_query.specs.declared.query.SortKey.{SortKey}
use Rattle.ub_table.specs.declared.row.Row.{Row}
use Rattle.ub_table.specs.declared.schema.Schema.{Schema}
use denote.Ref.{Bor}

-- by the first values that differ
abbrev pub values_cmp : Values → Values → Ordering
values_cmp a b = slice_cmp int_cmp a.all.items b.all.items

-- whether they are the same
abbrev pub values_eq : Values → Values → Bool
values_eq a b = pointwise int_eq a.all.items b.all.items

-- a group's values and cells
abbrev pub Entry : Type 0
Entry = Values × List Cell

-- the cells of the group of these values, where these are the groups
abbrev pub cells_at : List Entry → Values → Option (List Cell)
cells_at groups values = lookup (values_eq values) groups

-- what is held of a group: its cells, and nothing where it has no row
abbrev pub IsGroupAt : Schema → List ℕ → List Item → Group → Option (List Cell) → Type 0
IsGroupAt schema columns items group None = group.rows ≡ []
IsGroupAt schema columns items group (Some cells) = (group.rows ≢ []) × (length cells ≡ 8) × AreShown schema columns items group cells

-- the groups are those of the rows taken, each with its cells
abbrev pub HoldsGroups : Schema → List ℕ → List Item → List Row → List Entry → Type 0
HoldsGroups schema columns items taken groups = length taken < many → (key : Values)
    → IsGroupAt schema columns items
    (record { values = key.all.items; rows = rows_with schema columns taken key.all.items }) (cells_at groups key)

-- the cells so far of the group of these values, if there is one, else those of no rows
abbrev pub IsTallyAt : List Item → List Entry → Values → List Cell → Type 0
IsTallyAt items groups values cells = MatchOption (cells_at groups values)
    (AreOfNone items cells)
    (λ before. cells ≡ before)

-- the group of these values has one more row, and every other group is as it was
pub record AddsRow (schema : Schema) (items : List Item) (row : Row) (values : Values) (old new : List Entry) : Type 0 where
  pub before : List Cell
  pub after : List Cell
  pub was : IsTallyAt items old values before
  pub cells : AreWithRow schema row items before after
  pub narrow : All (λ item. IsNarrow schema row item) items
  pub long : length after ≡ 8
  pub groups : (key : Values) → cells_at new key ≡ cond (values_eq values key) (Some after) (cells_at old key)

-- ---- the order asked

-- the cell for an item, of cells from this place on for these items; two items are compared by their derived `==`
abbrev pub cell_from : ℕ → List Item → List Cell → Item → Cell
cell_from place [] cells item = Null
cell_from place (other ∷ items) cells item = if derived.eq-value.it other item then slice_index_or cells place Null else cell_from (place + 1) items cells item

abbrev pub entry_of : Bor Values × Bor (List Cell) → Entry
entry_of e = (e.0.now, e.1.now)

-- by the keys, and where none decides, by the values
abbrev pub entry_cmp : List Item → List SortKey → Entry → Entry → Ordering
entry_cmp items keys = keys_cmp (λ entry item. cell_from 0 items entry.1 item) (λ a b. values_cmp a.0 b.0) keys

-- the same of entries as they are lent
abbrev pub lent_cmp : List Item → List SortKey → Bor Values × Bor (List Cell) → Bor Values × Bor (List Cell) → Ordering
lent_cmp items keys a b = entry_cmp items keys (entry_of a) (entry_of b)

-- the cells of some entries, one after the other, cut into one line each
abbrev pub entry_lines : List Item → List (Bor Values × Bor (List Cell)) → List (List Cell)
entry_lines items entries = cut (length entries) (length items) (flat_map (λ e. take (length items) e.1.now) entries)
