-- Which rows a gathering has taken.
use Rattle.std.specs.Prelude.{◌≡◌, ◌≢◌, ℕ, List, [], length}
use Rattle.ub_answer.specs.inner.Groups.{HoldsGroups}
use Rattle.ub_answer.specs.inner.Kept.{HoldsRows}
use Rattle.ub_answer.specs.inner.Tally.{HoldsTotals}
use Rattle.ub_answer.specs.declared.gathering.Gathering.{Gathering}
use Rattle.ub_answer.specs.declared.gathering.Collected.{Collected}
use Rattle.ub_answer.specs.declared.gathering.Collected.TheVariants.{Rows, Totals, Groups}
use Rattle.ub_query.specs.Posed.{IsGroupQuery}
use Rattle.ub_query.specs.Shape.{Asked}
use Rattle.ub_table.specs.declared.row.Row.{Row}
use Rattle.ub_table.specs.declared.schema.Schema.{Schema}

-- rows where the query is one of rows, the cells of all rows where it groups nothing, else those of each group
abbrev pub HasTaken : Schema → Asked → List Row → Collected → Type 0
HasTaken schema q taken (Rows rows) = (¬ IsGroupQuery q) × HoldsRows schema q.order q.limit taken rows.rows.items rows.last
HasTaken schema q taken (Totals totals) = IsGroupQuery q × (q.group ≡ []) × HoldsTotals schema q.items taken totals.tally
HasTaken schema q taken (Groups groups) = (q.group ≢ []) × HoldsGroups schema q.group q.items taken groups.groups.entries

-- the gathering has taken just these rows, for this query
unfoldable pub IsGathered : Schema → Asked → List Row → Gathering → Type 0
IsGathered schema q taken gathering = HasTaken schema q taken gathering.collected

abbrev pub rows_held_by : Collected → ℕ
rows_held_by (Rows rows) = length rows.rows.items
rows_held_by (Totals totals) = 0
rows_held_by (Groups groups) = 0

-- how many rows are held
abbrev pub rows_held : Gathering → ℕ
rows_held gathering = rows_held_by gathering.collected

abbrev pub groups_held_by : Collected → ℕ
groups_held_by (Rows rows) = 0
groups_held_by (Totals totals) = 0
groups_held_by (Groups groups) = length groups.groups.entries

-- how many groups are held
abbrev pub groups_held : Gathering → ℕ
groups_held gathering = groups_held_by gathering.collected
