-- The laws of the definitions. Each is what the function of its name in `law` ensures, and is proved in proofs/Laws.antt.
use Rattle.std.specs.Prelude.{◌≡◌, ◌↔◌, ◌++◌, ℕ, ◌≤◌, ℤ, ◌≤ℤ◌, Bool, false, not, List, [], map, Option, Some, IsTrue}
use Rattle.std.specs.List.{All, Contains, filter}
use Rattle.ub_query.specs.Cells.{Group, row_cell, least_of, greatest_of}
use Rattle.ub_query.specs.Groups.{AreGroups, selected}
use Rattle.ub_query.specs.Lead.{AreGroupsInOrder, group_lead}
use Rattle.ub_query.specs.Meaning.{IsMeaning, limited}
use Rattle.ub_query.specs.Order.{IsAhead, IsArrangement, IsRowBefore, IsGroupBefore}
use Rattle.ub_query.specs.Posed.{IsPosedCondition, IsGroupQuery, has_groups, height}
use Rattle.ub_query.specs.Shape.{Shape, Asked, both, compares, between}
use Rattle.ub_query.specs.Truth.{truth}
use Rattle.ub_query.specs.declared.cell.Cell.{Cell}
use Rattle.ub_query.specs.declared.cell.Cell.TheVariants.{Number}
use Rattle.ub_query.specs.declared.condition.Operator.TheVariants.{AtMost, AtLeast}
use Rattle.ub_query.specs.declared.query.Item.TheVariants.{Column}
use Rattle.ub_query.specs.declared.query.SortKey.{SortKey}
use Rattle.ub_table.specs.Table.{Table, IsInOrder}
use Rattle.ub_table.specs.declared.row.Row.{Row}
use Rattle.ub_table.specs.declared.schema.Schema.{Schema}

-- a condition that is accepted is at most 128 high
abbrev pub PosedIsLow : Type 0
PosedIsLow = (columns : ℕ) (c : Shape) → IsPosedCondition columns c → height c ≤ 128

-- BETWEEN is its two comparisons, also where its ends are crossed
abbrev pub BetweenIsTwo : Type 0
BetweenIsTwo = (value : ℕ → ℤ) (column : ℕ) (low high : ℤ)
    → truth value (between column low high) ≡ truth value (both (compares column AtLeast low) (compares column AtMost high))

-- a group query is one that the test tells
abbrev pub GroupQueriesAreTold : Type 0
GroupQueriesAreTold = (q : Asked) → IsTrue (has_groups q) ↔ IsGroupQuery q

-- MIN of some numbers is one of them, and not above any
abbrev pub MinIsLeast : Type 0
MinIsLeast = (xs : List ℤ) (least : ℤ) → least_of xs ≡ Number least → Contains xs least × All (λ x. least ≤ℤ x) xs

-- MAX of some numbers is one of them, and not below any
abbrev pub MaxIsGreatest : Type 0
MaxIsGreatest = (xs : List ℤ) (greatest : ℤ) → greatest_of xs ≡ Number greatest → Contains xs greatest × All (λ x. x ≤ℤ greatest) xs

-- rows whose numbers ascend have an arrangement
abbrev pub RowsHaveAnArrangement : Type 0
RowsHaveAnArrangement = (schema : Schema) (keys : List SortKey) (rows : List Row) → IsInOrder rows
    → (arranged : List Row) × IsArrangement (IsRowBefore schema keys) rows arranged

-- rows have no two arrangements in one order
abbrev pub RowsHaveOneArrangement : Type 0
RowsHaveOneArrangement = (schema : Schema) (keys : List SortKey) (rows first second : List Row)
    → IsArrangement (IsRowBefore schema keys) rows first → IsArrangement (IsRowBefore schema keys) rows second → first ≡ second

-- the selected rows of a table are in order
abbrev pub SelectedAreInOrder : Type 0
SelectedAreInOrder = (table : Table) (condition : Option Shape) → IsInOrder table.rows → IsInOrder (selected table condition)

-- where no order is asked, rows in order are arranged as they stand
abbrev pub RowsInOrderAreArranged : Type 0
RowsInOrderAreArranged = (schema : Schema) (rows : List Row) → IsInOrder rows → IsArrangement (IsRowBefore schema []) rows rows

-- the rows fall into groups
abbrev pub RowsFallIntoGroups : Type 0
RowsFallIntoGroups = (schema : Schema) (columns : List ℕ) (rows : List Row)
    → (groups : List Group) × AreGroups schema columns rows groups

-- groups have an arrangement
abbrev pub GroupsHaveAnArrangement : Type 0
GroupsHaveAnArrangement = (schema : Schema) (columns : List ℕ) (keys : List SortKey) (rows : List Row) (groups : List Group)
    → AreGroups schema columns rows groups → (arranged : List Group) × IsArrangement (IsGroupBefore schema columns keys) groups arranged

-- groups have no two arrangements in one order, in whichever order they were found
abbrev pub GroupsHaveOneArrangement : Type 0
GroupsHaveOneArrangement =
    (schema : Schema) (columns : List ℕ) (keys : List SortKey) (rows : List Row) (groups others first second : List Group)
    → AreGroups schema columns rows groups → AreGroups schema columns rows others
    → IsArrangement (IsGroupBefore schema columns keys) groups first → IsArrangement (IsGroupBefore schema columns keys) others second
    → first ≡ second

-- where some of the rows stand before the others along the lead, the groups in the order asked are those of these rows, and then
-- those of the others
abbrev pub GroupsFollowTheLead : Type 0
GroupsFollowTheLead =
    (schema : Schema) (q : Asked) (column : ℕ) (is_descending : Bool) (is_first : Row → Bool) (rows : List Row) (front back : List Group)
    → group_lead q.group q.order ≡ Some (record { item = Column column; is_descending = is_descending }) → Contains q.group column
    → All (λ a. IsTrue (is_first a) → All (λ b. is_first b ≡ false
    → IsAhead is_descending (row_cell schema a (Column column)) (row_cell schema b (Column column))) rows) rows
    → AreGroupsInOrder schema q (filter is_first rows) front
    → AreGroupsInOrder schema q (filter (λ row. not (is_first row)) rows) back
    → AreGroupsInOrder schema q rows (front ++ back)

-- a query of rows that asks no order means the selected rows as they stand, the first of them where it has a limit
abbrev pub PlainQueriesMean : Type 0
PlainQueriesMean = (table : Table) (q : Asked) → IsInOrder table.rows → ¬ IsGroupQuery q → q.order ≡ []
    → IsMeaning table q (map (λ row. map (row_cell table.schema row) q.items) (limited q.limit (selected table q.filter)))

-- a query has a meaning on each table
abbrev pub QueriesHaveAMeaning : Type 0
QueriesHaveAMeaning = (table : Table) (q : Asked) → IsInOrder table.rows → (rows : List (List Cell)) × IsMeaning table q rows

-- a query has no two meanings on a table
abbrev pub QueriesHaveOneMeaning : Type 0
QueriesHaveOneMeaning = (table : Table) (q : Asked) (first second : List (List Cell))
    → IsMeaning table q first → IsMeaning table q second → first ≡ second
