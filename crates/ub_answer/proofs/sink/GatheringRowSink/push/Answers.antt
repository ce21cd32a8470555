use Rattle.std.proofs.Common.{◌++◌, ◌∷◌, [], List, Result, Ok, Err, OnOk, append_assoc, subst}
use Rattle.ub_answer.specs.Gathered.{IsGathered}
use Rattle.ub_answer.specs.Sink.{HasGathered}
use Rattle.ub_answer.specs.declared.gathering.Gathering.{Gathering}
use Rattle.ub_query.specs.Shape.{Asked, asked}
use Rattle.ub_table.specs.declared.row.Row.{Row}
use Rattle.ub_table.specs.declared.schema.Schema.{Schema}
use Rattle.ub_answer.proofs.sink.GatheringRowSink.push.Goals as goal

-- one more row, after those taken so far
one_more : {T E : Type 0} (r : Result T E) (schema : Schema) (q : Asked) (before old new : Gathering) (taken : List Row) (row : Row) → HasGathered schema q before taken old
    → ((all : List Row) → IsGathered schema q all old → OnOk r (IsGathered schema q (all ++ row ∷ []) new)) → OnOk r (HasGathered schema q before (taken ++ row ∷ []) new)
one_more (Ok x) schema q before old new taken row so_far more = λ first has.
    subst (λ (rows : List Row). IsGathered schema q rows new) (append_assoc first taken (row ∷ [])) (more (first ++ taken) (so_far first has))
one_more (Err e) schema q before old new taken row so_far more = tt

pub returns : goal.returns
returns c before taken so_far =
    one_more c.take.result c.args.schema.now (asked c.args.query.now) before c.args.self.now c.take.new.self taken c.args.row.now so_far c.take.ensures.gathered
