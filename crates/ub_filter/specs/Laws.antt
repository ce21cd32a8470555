-- The law of choices, which the function of its name in `law` ensures.
use Rattle.std.specs.Prelude.{◌≡◌, ◌≢◌, ℕ, List, Some, Contains}
use Rattle.std.specs.List.{filter}
use Rattle.ub_filter.specs.Choice.{is_chosen}
use Rattle.ub_planning.specs.Plan.{plan_of}
use Rattle.ub_filter.specs.declared.choice.Choice.{Choice}
use Rattle.ub_query.specs.Groups.{is_selected}
use Rattle.ub_query.specs.Shape.{Asked}
use Rattle.ub_region.specs.Regions.{AreRegions, rows_of}
use Rattle.ub_table.specs.Region.{RegionRows}
use Rattle.ub_table.specs.declared.row.Row.{Row}
use Rattle.ub_table.specs.declared.schema.Schema.{Schema}

-- a choice takes the selected rows of the regions too
abbrev pub ChosenAreSelected : Type 0
ChosenAreSelected = (choice : Choice) (schema : Schema) (q : Asked) (next : ℕ) (regions : List RegionRows) (rows : List Row)
    → q.limit ≢ Some 0 → AreRegions schema next regions
    → ((row : Row) → Contains rows row → Contains (rows_of regions) row)
    → filter (is_chosen choice schema (plan_of schema q)) rows ≡ filter (is_selected schema q.filter) rows
