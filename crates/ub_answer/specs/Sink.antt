-- What a gathering has taken between two of its states.
use Rattle.std.specs.Prelude.{◌++◌, List}
use Rattle.ub_answer.specs.Gathered.{IsGathered}
use Rattle.ub_answer.specs.declared.gathering.Gathering.{Gathering}
use Rattle.ub_query.specs.Shape.{Asked}
use Rattle.ub_table.specs.declared.row.Row.{Row}
use Rattle.ub_table.specs.declared.schema.Schema.{Schema}

-- the gathering took these rows, after those that it had taken before
abbrev pub HasGathered : Schema → Asked → Gathering → List Row → Gathering → Type 0
HasGathered schema q before taken now =
    (first : List Row) → IsGathered schema q first before → IsGathered schema q (first ++ taken) now
