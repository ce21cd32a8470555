-- The query that exports a table, and the rows of a table that is loaded from an export.
use Rattle.std.specs.Prelude.{List, [], map, None}
use Rattle.std.specs.List.{enumerate_from}
use Rattle.ub_parser.specs.Sense.{all_columns}
use Rattle.ub_query.specs.Shape.{Asked}
use Rattle.ub_table.specs.declared.row.Row.{Row}
use Rattle.ub_table.specs.declared.schema.Schema.{Schema}
use Rattle.ub_tree.specs.Change.{numbered}

-- all columns of all rows, in the order in which these were put in
abbrev pub all_rows : Schema → Asked
all_rows schema = record { items = all_columns schema; filter = None; group = []; order = []; limit = None }

-- the same rows, numbered from 1 in their order
abbrev pub renumbered : List Row → List Row
renumbered rows = map (λ r. numbered r.0 r.1) (enumerate_from 1 rows)
