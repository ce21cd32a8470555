-- The laws of stands. Each is what the function of its name in `law` ensures.
use Rattle.std.specs.Prelude.{◌≡◌, not, List, Contains}
use Rattle.ub_exec.specs.Common.{Asked, filter, is_selected, IsInOrder, IsSound, Row, TreeView}
use Rattle.ub_exec.specs.Stand.{Stand, IsStand, IsStandOf, with_row, without_row, without_rows, without_selected}
use Rattle.ub_table.specs.Region.{IsRow, measures_of}

-- the table of a sound tree stands somewhere
abbrev pub SoundTreesStand : Type 0
SoundTreesStand = (t : TreeView) → IsSound t → (s : Stand) × IsStandOf t s

-- it stands in one way only
abbrev pub StandsAreOne : Type 0
StandsAreOne = (t : TreeView) (a b : Stand) → IsStandOf t a → IsStandOf t b → a ≡ b

-- where the table of a tree stands, its regions are those of that table
abbrev pub TreesStandSoundly : Type 0
TreesStandSoundly = (t : TreeView) (s : Stand) → IsStandOf t s → IsStand s

-- where a row of the next number is put in, the regions are those of the table then
abbrev pub InsertionKeepsStands : Type 0
InsertionKeepsStands = (s : Stand) (row : Row) → IsStand s
    → IsRow s.table.schema.dims (measures_of s.table.schema) row → row.number ≡ s.next → IsStand (with_row row s)

-- where a row of the table is taken out, the regions are those of the table then
abbrev pub RemovalKeepsStands : Type 0
RemovalKeepsStands = (s : Stand) (row : Row) → IsStand s → Contains s.table.rows row → IsStand (without_row row s)

-- a deletion leaves of the table the rows that aren't selected, and no others
abbrev pub DeletionLeavesTheOthers : Type 0
DeletionLeavesTheOthers = (q : Asked) (s : Stand) → IsInOrder s.table.rows
    → (without_selected q s).table.rows ≡ filter (λ row. not (is_selected s.table.schema q.filter row)) s.table.rows

-- no number is used again: taking rows out leaves the next one
abbrev pub NumbersAreNeverUsedAgain : Type 0
NumbersAreNeverUsedAgain = (rows : List Row) (s : Stand) → (without_rows rows s).next ≡ s.next
