use Rattle.std.proofs.Common.{◌++◌, Bool, true, false, List, if◌then◌else◌, append_assoc, subst}
use Rattle.ub_answer.specs.Gathered.{IsGathered}
use Rattle.ub_answer.specs.Sink.{HasGathered}
use Rattle.ub_answer.specs.declared.gathering.Gathering.{Gathering}
use Rattle.ub_query.specs.Shape.{Asked, asked}
use Rattle.ub_table.specs.declared.row.Row.{Row}
use Rattle.ub_table.specs.declared.schema.Schema.{Schema}
use Rattle.ub_answer.proofs.sink.GatheringRowSink.push_batch.Goals as goal

-- more rows after those taken so far, or none
some_more : (all : Bool) (schema : Schema) (q : Asked) (before old new : Gathering) (taken more : List Row) → HasGathered schema q before taken old
    → ((first : List Row) → IsGathered schema q first old → IsGathered schema q (if all then first ++ more else first) new)
    → HasGathered schema q before (if all then taken ++ more else taken) new
some_more true schema q before old new taken more so_far next first has =
    subst (λ (rows : List Row). IsGathered schema q rows new) (append_assoc first taken more) (next (first ++ taken) (so_far first has))
some_more false schema q before old new taken more so_far next first has = next (first ++ taken) (so_far first has)

pub returns : goal.returns
returns g c before taken so_far =
    some_more c.take_batch.result c.args.schema.now (asked c.args.query.now) before c.args.self.now c.take_batch.new.self taken
    (g.B.RowBatch.rows c.args.batch.now) so_far c.take_batch.ensures.gathered
