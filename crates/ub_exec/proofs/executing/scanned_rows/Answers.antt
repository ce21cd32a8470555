use Rattle.std.proofs.Common.{◌≡◌, ◌≢◌, ◌∙◌, Ok, Err, Bool, true, false, List, [], Some, length, ap, refl, subst, sym}
use Rattle.std.proofs.lemmas.List.{append-nil}
use Rattle.std.specs.List.{filter}
use Rattle.ub_answer.specs.Gathered.{IsGathered}
use Rattle.ub_answer.specs.Shaped.{IsShaped}
use Rattle.ub_answer.specs.Sink.{HasGathered}
use Rattle.ub_answer.specs.declared.gathering.Gathering.{Gathering}
use Rattle.ub_exec.proofs.ExecFacts.{answers_err}
use Rattle.ub_exec.proofs.FirstFacts.{all_fetched, walked_first}
use Rattle.ub_exec.proofs.MeantFacts.{nothing_fetched, walk_fetched, answered}
use Rattle.ub_exec.proofs.SweptFacts.{shaped_none}
use Rattle.ub_exec.proofs.NotedFacts.{carries_all, carries_err, carries_none}
use Rattle.ub_exec.proofs.ReadMeantFacts.{answered_read}
use Rattle.ub_exec.proofs.RefusedFacts.{memory_reads, no_answer}
use Rattle.ub_filter.specs.Choice.{IsFit, is_chosen}
use Rattle.ub_planning.proofs.Laws.{limit_of_zero_means_nothing}
use Rattle.ub_query.specs.Shape.{Asked, asked}
use Rattle.ub_query.specs.declared.cell.Cell.{Cell}
use Rattle.ub_table.specs.declared.row.Row.{Row}
use Rattle.ub_table.specs.declared.schema.Schema.{Schema}
use Rattle.ub_tree.proofs.Laws.{reads_by}
use Rattle.ub_tree.specs.View.{TreeView}
use Rattle.ub_query.specs.Posed.{IsPosed}
use Rattle.ub_exec.proofs.FillFacts.{posed_as}
use Rattle.ub_exec.proofs.executing.scanned_rows.Goals as goal

is_some : (b : Bool) → b ≡ false → b ≡ true → ⊥
is_some b f t = cc

pub returns-then-asks_for_none-clause-shaped : goal.returns-then-asks_for_none-clause-shaped
returns-then-asks_for_none-clause-shaped g c = shaped_none c.args.plan.now.asked c.none.result c.none.ensures

pub returns-clause-shaped : goal.returns-clause-shaped
returns-clause-shaped g c = subst (λ (q : Asked). IsShaped q c.in_ok-finish.field-0) c.query-query.ensures c.in_ok-finish.ensures.shaped

-- a gathering that was handed nothing has taken nothing more
none_taken : (schema : Schema) (q : Asked) (gathering : Gathering) → HasGathered schema q gathering [] gathering
none_taken schema q gathering first has = subst (λ (rows : List Row). IsGathered schema q rows gathering) (sym (append-nil first)) has

pub returns-clause-scanned : goal.returns-clause-scanned
returns-clause-scanned g c scan =
    let query = asked c.query-query.result.now in
    let same : query ≡ c.args.plan.now.asked = c.query-query.ensures in
    let f = is_chosen c.of-choice.result c.args.tree.now.schema c.args.plan.now in
    let begun = subst (λ (q : Asked). IsGathered c.args.tree.now.schema q [] c.new-gathering.result) same (subst (λ (s : Schema). IsGathered s query [] c.new-gathering.result) c.schema.ensures c.new-gathering.ensures.gathered) in
    let (handed, held, walk) = c.in_ok-walk.ensures.rows c.new-gathering.result [] (none_taken c.args.tree.now.schema c.args.plan.now.asked c.new-gathering.result) in
    let after : c.schema-3.result.now ≡ c.args.tree.now.schema = c.schema-3.ensures ∙ ap (λ (t : TreeView). t.schema) c.in_ok-walk.ensures.effect.reads.same in
    answered_read c.args.tree.now c.walk.new.tree c.args.plan.now scan.0 scan.1 c.of-choice.result query same handed walk.0 _
    (λ table condition schema order numbers chosen.
    c.in_ok-finish.ensures.answer table condition (filter f handed) (schema ∙ sym after) order numbers chosen
    (subst (λ (q : Asked). IsGathered c.schema-3.result.now q (filter f handed) c.walk.new.sink) (sym same)
    (subst (λ (s : Schema). IsGathered s c.args.plan.now.asked (filter f handed) c.walk.new.sink) (sym after) (held [] begun))))

pub returns-then-asks_for_none-clause-scanned : goal.returns-then-asks_for_none-clause-scanned
returns-then-asks_for_none-clause-scanned g c scan =
    let limit = sym (ap (λ (q : Asked). q.limit) c.query-query.ensures) ∙ c.asks_for_none.ensures.0 c.if-asks_for_none.true in
    absurd (scan.1 limit)

pub returns-in_err-walk-clause-scanned : goal.returns-in_err-walk-clause-scanned
returns-in_err-walk-clause-scanned g c scan = no_answer c.from_residual.result _ _ c.from_residual.ensures.1

pub returns-in_err-finish-clause-scanned : goal.returns-in_err-finish-clause-scanned
returns-in_err-finish-clause-scanned g c scan = no_answer c.from_residual-in_err-finish.result _ _ c.from_residual-in_err-finish.ensures.1

pub returns-then-asks_for_none-clause-reads : goal.returns-then-asks_for_none-clause-reads
returns-then-asks_for_none-clause-reads g c apart =
    let limit = sym (ap (λ (q : Asked). q.limit) c.query-query.ensures) ∙ c.asks_for_none.ensures.0 c.if-asks_for_none.true in
    carries_none (λ (cells : List (List Cell)). length cells) _ c.args.plan.now c.args.tree.now c.args.tree.now apart refl limit

pub returns-clause-reads : goal.returns-clause-reads
returns-clause-reads g c apart = carries_all (λ (cells : List (List Cell)). length cells) _ _ c.args.plan.now c.args.tree.now c.walk.new.tree apart c.in_ok-walk.ensures.effect.notes c.in_ok-walk.ensures.all

pub returns-in_err-walk-clause-reads : goal.returns-in_err-walk-clause-reads
returns-in_err-walk-clause-reads g c apart =
    carries_err (λ (cells : List (List Cell)). length cells) c.from_residual.result _ (Err _) c.args.plan.now c.args.tree.now c.walk.new.tree apart c.from_residual.ensures.1 c.in_err-walk.ensures.effect.notes

pub returns-in_err-finish-clause-reads : goal.returns-in_err-finish-clause-reads
returns-in_err-finish-clause-reads g c apart =
    carries_err (λ (cells : List (List Cell)). length cells) c.from_residual-in_err-finish.result _ (Ok _) c.args.plan.now c.args.tree.now c.walk.new.tree apart c.from_residual-in_err-finish.ensures.1 c.in_ok-walk.ensures.effect.notes

pub returns-in_err-walk-clause-shaped : goal.returns-in_err-walk-clause-shaped
returns-in_err-walk-clause-shaped g c = no_answer c.from_residual.result _ _ c.from_residual.ensures.1

pub returns-in_err-finish-clause-shaped : goal.returns-in_err-finish-clause-shaped
returns-in_err-finish-clause-shaped g c = no_answer c.from_residual-in_err-finish.result _ _ c.from_residual-in_err-finish.ensures.1

pub returns-in_err-walk-clause-effect : goal.returns-in_err-walk-clause-effect
returns-in_err-walk-clause-effect g c = reads_by c.from_residual.result _ c.args.tree.now c.args.tree.now c.walk.new.tree c.from_residual.ensures.1 refl c.in_err-walk.ensures.effect.reads

pub returns-in_err-finish-clause-effect : goal.returns-in_err-finish-clause-effect
returns-in_err-finish-clause-effect g c =
    memory_reads c.from_residual-in_err-finish.result c.args.tree.now c.walk.new.tree c.from_residual-in_err-finish.ensures.1 c.in_ok-walk.ensures.effect.reads.same

pub returns-clause-effect : goal.returns-clause-effect
returns-clause-effect g c = record { same = c.in_ok-walk.ensures.effect.reads.same; faults = tt }

pub returns-then-asks_for_none-clause-done : goal.returns-then-asks_for_none-clause-done
returns-then-asks_for_none-clause-done g c ready apart =
    let limit = sym (ap (λ (q : Asked). q.limit) c.query-query.ensures) ∙ c.asks_for_none.ensures.0 c.if-asks_for_none.true in
    record {
      rows = λ rows are. (limit_of_zero_means_nothing (record { schema = c.args.tree.now.schema; rows = rows }) c.args.plan.now.asked c.none.result limit are.ascending).1 c.none.ensures;
      fetches = record { pages = nothing_fetched _ _ _ ready.planned limit refl refl; broken = tt };
    }

pub returns-clause-done : goal.returns-clause-done
returns-clause-done g c ready apart = record {
  rows = λ rows are.
      let query = asked c.query-query.result.now in
      let same : query ≡ c.args.plan.now.asked = c.query-query.ensures in
      let some : c.args.plan.now.asked.limit ≢ Some 0 = λ none. absurd (is_some c.asks_for_none.result c.if-asks_for_none.false (c.asks_for_none.ensures.1 (ap (λ (q : Asked). q.limit) same ∙ none))) in
      let f = is_chosen c.of-choice.result c.args.tree.now.schema c.args.plan.now in
      let begun = subst (λ (q : Asked). IsGathered c.args.tree.now.schema q [] c.new-gathering.result) same (subst (λ (s : Schema). IsGathered s query [] c.new-gathering.result) c.schema.ensures c.new-gathering.ensures.gathered) in
      let (handed, held, walk) = c.in_ok-walk.ensures.rows c.new-gathering.result [] (none_taken c.args.tree.now.schema c.args.plan.now.asked c.new-gathering.result) in
      let after : c.schema-3.result.now ≡ c.args.tree.now.schema = c.schema-3.ensures ∙ ap (λ (t : TreeView). t.schema) c.in_ok-walk.ensures.effect.reads.same in
      answered c.args.tree.now ready.sound rows are c.args.plan.now ready.planned some c.of-choice.result query same c.walk.new.tree handed (walk.1 ready.sound) _
      (λ table condition schema order numbers chosen.
      c.in_ok-finish.ensures.answer table condition (filter f handed) (schema ∙ sym after) order numbers chosen
      (subst (λ (q : Asked). IsGathered c.schema-3.result.now q (filter f handed) c.walk.new.sink) (sym same)
      (subst (λ (s : Schema). IsGathered s c.args.plan.now.asked (filter f handed) c.walk.new.sink) (sym after) (held [] begun))));
  fetches = record {
    pages =
        let (handed, held, walk) = c.in_ok-walk.ensures.rows c.new-gathering.result [] (none_taken c.args.tree.now.schema c.args.plan.now.asked c.new-gathering.result) in
        walk_fetched c.args.plan.now c.args.tree.now c.walk.new.tree handed ready.sound ready.planned apart (walk.1 ready.sound);
    broken = tt;
  };
}

pub returns-in_err-walk-clause-done : goal.returns-in_err-walk-clause-done
returns-in_err-walk-clause-done g c ready apart =
    let nothing = none_taken c.args.tree.now.schema c.args.plan.now.asked c.new-gathering.result in
    answers_err c.from_residual.result _ c.args.plan.now c.args.tree.now c.args.tree.now c.walk.new.tree (λ cells. cells) c.from_residual.ensures.1
    (walked_first c.args.plan.now c.args.tree.now c.walk.new.tree ready apart (c.in_err-walk.ensures.broken c.new-gathering.result [] nothing ready.sound))

pub returns-in_err-finish-clause-done : goal.returns-in_err-finish-clause-done
returns-in_err-finish-clause-done g c ready apart =
    let (handed, held, walk) = c.in_ok-walk.ensures.rows c.new-gathering.result [] (none_taken c.args.tree.now.schema c.args.plan.now.asked c.new-gathering.result) in
    answers_err c.from_residual-in_err-finish.result _ c.args.plan.now c.args.tree.now c.args.tree.now c.walk.new.tree (λ cells. cells) c.from_residual-in_err-finish.ensures.1
    (all_fetched c.args.plan.now c.args.tree.now c.walk.new.tree (walk_fetched c.args.plan.now c.args.tree.now c.walk.new.tree handed ready.sound ready.planned apart (walk.1 ready.sound)))

pub returns-then-asks_for_none-clause-effect : goal.returns-then-asks_for_none-clause-effect
returns-then-asks_for_none-clause-effect g c =
    record { same = refl; faults = tt }

pub new-gathering-requires : goal.new-gathering-requires
new-gathering-requires g c =
    posed_as c.args.tree.now.schema c.schema.result.now c.args.plan.now.asked (asked c.query-query.result.now) c.schema.ensures c.query-query.ensures c.requires

pub of-choice-requires : goal.of-choice-requires
of-choice-requires g c =
    subst (λ (s : Schema). IsPosed (length s.columns) c.args.plan.now.asked) (sym c.schema-2.ensures) c.requires

pub walk-requires-clause-posed : goal.walk-requires-clause-posed
walk-requires-clause-posed g c =
    c.requires

pub walk-requires-clause-fit : goal.walk-requires-clause-fit
walk-requires-clause-fit g c =
    subst (λ (s : Schema). IsFit s c.args.plan.now c.of-choice.result) c.schema-2.ensures c.of-choice.ensures

pub finish-requires : goal.finish-requires
finish-requires g c =
    posed_as c.args.tree.now.schema c.schema-3.result.now c.args.plan.now.asked (asked c.query-query.result.now)
    (c.schema-3.ensures ∙ ap (λ (t : TreeView). t.schema) c.in_ok-walk.ensures.effect.reads.same) c.query-query.ensures c.requires
