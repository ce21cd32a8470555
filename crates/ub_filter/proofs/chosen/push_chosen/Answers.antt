use Rattle.std.proofs.Common.{◌≡◌, ◌≤◌, ◌<◌, ◌+◌, ◌++◌, ◌∷◌, ◌∙◌, [], ℕ, Bool, List, Some, if◌then◌else◌, length, true, false, take, slice_get, refl, sym, ap, subst, arith, append_assoc}
use Rattle.std.specs.List.{filter}
use Rattle.ub_filter.proofs.BatchFacts.{all_candidates}
use Rattle.ub_filter.proofs.ChoiceFacts.{next_chosen, next_fails, next_far}
use Rattle.ub_filter.specs.Batch.{rows_at}
use Rattle.ub_filter.specs.Choice.{is_chosen}
use Rattle.ub_query.specs.Shape.{Asked, asked}
use Rattle.ub_table.specs.declared.row.Row.{Row}
use Rattle.ub_filter.proofs.chosen.push_chosen.Goals as goal
use Rattle.ub_filter.proofs.chosen.push_chosen.Goals.{then-is_set+then-is_true+in_ok-push, then-is_set+else-is_true, else-is_set}

below_64 : (place long end : ℕ) → place < end → end ≤ 64 → place < 64
below_64 place long end below few = omega arith

no_truth : false ≡ true → ⊥
no_truth e = cc

pub loop-place-preserved : goal.loop-place-preserved
loop-place-preserved g c before taken has =
    let held = c.loop-place.invariant before taken has in
    let schema = c.args.schema.now in
    let plan = c.args.plan.now in
    let choice = c.args.choice in
    let rows = c.args.page.now.region.rows in
    let place = c.loop-place.place in
    let small : place < 64 = below_64 place 0 _ c.loop-place-test.true c.len-count.ensures.few in
    let within : place < _ = rw c.len-count.ensures.len at c.loop-place-test.true in
    let near = λ (row : Row) (at : slice_get rows place ≡ Some row). c.candidates-candidates.ensures place row small at in
    let so_far : List Row = filter (is_chosen choice schema plan) (take place rows) in
    let after : List Row = filter (is_chosen choice schema plan) (take (place + 1) rows) in
    elim c.if-is_set.branch [
      | then-is_set+then-is_true+in_ok-push w ↦
          let row = w.row-row.result in
          let one : after ≡ so_far ++ row ∷ [] = next_chosen choice schema plan rows place _ near row _ w.row-row.ensures c.recheck-condition.ensures (w.if-is_set.ensures.0 refl) w.if-is_true.ensures in
          subst (λ (rs : List Row). g.K.RowSink.HasTaken schema plan.asked before rs c.if-is_set.sink) (append_assoc taken so_far (row ∷ []) ∙ ap (λ (rs : List Row). taken ++ rs) (sym one))
          (subst (λ (t : _). g.K.RowSink.HasTaken schema plan.asked before ((taken ++ so_far) ++ row ∷ []) t) (sym w.sink-is)
          (subst (λ (q : Asked). g.K.RowSink.HasTaken schema q before ((taken ++ so_far) ++ row ∷ []) w.push.new.self) c.query-query.ensures
          (w.in_ok-push.ensures before (taken ++ so_far)
          (subst (λ (q : Asked). g.K.RowSink.HasTaken schema q before (taken ++ so_far) c.loop-place.sink) (sym c.query-query.ensures) held))))
      | then-is_set+else-is_true w ↦
          let none : after ≡ so_far = next_fails choice schema plan rows place w.row-row.result _ w.row-row.ensures c.recheck-condition.ensures w.if-is_true.ensures in
          subst (λ (rs : List Row). g.K.RowSink.HasTaken schema plan.asked before (taken ++ rs) c.if-is_set.sink) (sym none)
          (subst (λ (t : _). g.K.RowSink.HasTaken schema plan.asked before (taken ++ so_far) t) (sym w.sink-is) held)
      | else-is_set w ↦
          let none : after ≡ so_far = next_far choice schema plan rows place _ near within (λ one. no_truth (w.if-is_set.ensures.1 one)) in
          subst (λ (rs : List Row). g.K.RowSink.HasTaken schema plan.asked before (taken ++ rs) c.if-is_set.sink) (sym none)
          (subst (λ (t : _). g.K.RowSink.HasTaken schema plan.asked before (taken ++ so_far) t) (sym w.sink-is) held)
    ]

pub returns-then-are_taken_at_once : goal.returns-then-are_taken_at_once
returns-then-are_taken_at_once g c before taken has =
    let schema = c.args.schema.now in
    let plan = c.args.plan.now in
    let choice = c.args.choice in
    let rows = c.args.page.now.region.rows in
    let mask = c.candidates-candidates.result in
    let sink = c.are_taken_at_once.new.sink in
    let query = asked c.query-query.result.now in
    let few : length rows ≤ 64 = rw (sym c.len-count.ensures.len) c.len-count.ensures.few in
    let all : rows_at mask rows ≡ filter (is_chosen choice schema plan) rows = all_candidates choice schema plan _ mask rows c.recheck-condition.ensures
    (c.are_taken_at_once.ensures.told c.if-are_taken_at_once.true) few (λ i row below at. c.candidates-candidates.ensures i row below at) in
    subst (λ (q : Asked). g.K.RowSink.HasTaken schema q before (taken ++ filter (is_chosen choice schema plan) rows) sink) c.query-query.ensures
    (subst (λ (rs : List Row). g.K.RowSink.HasTaken schema query before (taken ++ rs) sink) all
    (subst (λ (b : Bool). g.K.RowSink.HasTaken schema query before (if b then taken ++ rows_at mask rows else taken) sink) c.if-are_taken_at_once.true
    (c.are_taken_at_once.ensures.taken before taken
    (subst (λ (q : Asked). g.K.RowSink.HasTaken schema q before taken c.args.sink.now) (sym c.query-query.ensures) has))))
