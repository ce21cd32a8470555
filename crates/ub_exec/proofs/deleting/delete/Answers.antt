use Rattle.std.proofs.lemmas.Bool.{true≢false}
use Rattle.std.proofs.Common.{◌∙◌, ℕ, List, Ok, Err, ap, length, subst, sym}
use Rattle.ub_exec.proofs.DeletedFacts.{begun_deletion, begun_stand, begun_then, deletes_by, deletes_done, deletes_failed, deletes_read, deletes_stopped, done_keeps, done_stand, fetched_then, first_by, first_done, first_read, first_stopped, none_gone, read_stopped, stopped_keeps, stopped_stand, works_still}
use Rattle.ub_exec.proofs.BreakFacts.{ready_begun}
use Rattle.ub_exec.proofs.FirstFacts.{all_fetched, none_fetched, on_err}
use Rattle.ub_exec.proofs.NotedFacts.{notes_none}
use Rattle.ub_exec.proofs.RefusedFacts.{no_answer, no_result, not_answered}
use Rattle.ub_exec.specs.Answers.{begun}
use Rattle.ub_exec.specs.Deleting.{HasReadKeys}
use Rattle.ub_exec.specs.Reading.{NotesPages}
use Rattle.ub_exec.specs.Visits.{HasFetched, HasFetchedFirst}
use Rattle.ub_query.specs.Posed.{IsPosed}
use Rattle.ub_table.specs.declared.row.Key.{Key}
use Rattle.ub_tree.proofs.Laws.{unchanged_trace, unchanged_traced}
use Rattle.ub_tree.specs.Reading.{ReadsTree}
use Rattle.ub_tree.specs.View.{TreeView}
use Rattle.ub_exec.proofs.deleting.delete.Goals as goal

pub returns-then-has_failed : goal.returns-then-has_failed
returns-then-has_failed g c =
    let plan = c.args.plan.now in
    let old = c.args.tree.now in
    let new = c.begin.new.self in
    let failed = ap (λ (t : TreeView). t.is_failed) (sym c.begin.ensures) ∙ sym c.has_failed.ensures ∙ c.if-has_failed.true in
    let kept = unchanged_trace (begun old) new c.begin.ensures in
    record {
      deleted = λ s stand deletion. tt;
      stopped = λ s stand deletion working. absurd (true≢false (sym (sym c.has_failed.ensures ∙ c.if-has_failed.true) ∙ working));
      fetches = λ deletion. record { pages = tt; broken = none_fetched plan (begun old) new (ready_begun old plan deletion.ready) kept };
      untouched = λ same. cc;
      reads = first_read {A = ℕ} _ plan (begun old) new (record { same = unchanged_traced (begun old) new c.begin.ensures; faults = (failed, λ memory. cc) }) (notes_none (Err _) (begun old) new kept);
      effect = deletes_failed old new c.begin.ensures failed;
    }

pub returns-in_err-keys : goal.returns-in_err-keys
returns-in_err-keys g c = record {
  deleted = λ s stand deletion. no_answer c.from_residual.result _ _ c.from_residual.ensures.1;
  stopped = λ s stand deletion.
      on_err c.from_residual.result _
      (λ working. read_stopped c.args.tree.now c.begin.new.self c.keys_of_selected.new.tree c.args.plan.now.asked s _ c.begin.ensures stand c.in_err-keys.ensures.effect.reads);
  fetches = λ deletion. record {
    pages = no_result c.from_residual.result _ _ c.from_residual.ensures.1;
    broken =
        on_err c.from_residual.result _
        (subst (λ (t : TreeView). (count : ℕ) × HasFetchedFirst c.args.plan.now t c.keys_of_selected.new.tree count) c.begin.ensures
        (let fetches = c.in_err-keys.ensures.fetches (begun_deletion c.args.tree.now c.begin.new.self c.args.plan.now c.begin.ensures deletion) in fetches.broken));
  };
  untouched = λ same. not_answered c.from_residual.result _ _ c.from_residual.ensures.1 same;
  reads = first_by c.from_residual.result _ c.args.plan.now (begun c.args.tree.now) c.keys_of_selected.new.tree c.from_residual.ensures.1
      (first_read _ c.args.plan.now (begun c.args.tree.now) c.keys_of_selected.new.tree
      (subst (λ (t : TreeView). ReadsTree t c.keys_of_selected.new.tree (Err c.in_err-keys.field-0.0)) c.begin.ensures c.in_err-keys.ensures.effect.reads)
      (subst (λ (t : TreeView). NotesPages t c.keys_of_selected.new.tree (Err c.in_err-keys.field-0.0)) c.begin.ensures c.in_err-keys.ensures.effect.notes));
  effect =
      deletes_by c.from_residual.result _ c.args.tree.now c.keys_of_selected.new.tree c.from_residual.ensures.1
      (deletes_read c.args.tree.now c.keys_of_selected.new.tree _ (works_still c.args.tree.now c.begin.new.self c.has_failed.result c.begin.ensures c.has_failed.ensures c.if-has_failed.false)
      (subst (λ (t : TreeView). ReadsTree t c.keys_of_selected.new.tree (Err c.in_err-keys.field-0.0)) c.begin.ensures c.in_err-keys.ensures.effect.reads));
}

pub returns-in_err-count : goal.returns-in_err-count
returns-in_err-count g c = record {
  deleted = λ s stand deletion. no_answer c.from_residual-in_err-count.result _ _ c.from_residual-in_err-count.ensures.1;
  stopped = λ s stand deletion.
      on_err c.from_residual-in_err-count.result _
      (λ working. stopped_stand c.args.tree.now c.begin.new.self c.keys_of_selected.new.tree c.take_out.new.tree c.args.plan.now.asked s c.begin.ensures c.in_ok-keys.ensures.effect.reads.same stand
      c.as_slice.result.now
      (c.as_slice.ensures.value ∙ c.in_ok-keys.ensures.keys s (begun_stand c.args.tree.now c.begin.new.self s c.begin.ensures stand) (begun_deletion c.args.tree.now c.begin.new.self c.args.plan.now c.begin.ensures deletion))
      _ c.in_err-count.ensures working);
  fetches = λ deletion. record {
    pages = no_result c.from_residual-in_err-count.result _ _ c.from_residual-in_err-count.ensures.1;
    broken =
        let working = works_still c.args.tree.now c.begin.new.self c.has_failed.result c.begin.ensures c.has_failed.ensures c.if-has_failed.false in
        let traced = begun_then c.args.tree.now c.begin.new.self c.keys_of_selected.new.tree c.begin.ensures c.in_ok-keys.ensures.effect.reads.same in
        let still = ap (λ (t : TreeView). t.is_failed) traced ∙ working in
        on_err c.from_residual-in_err-count.result _
        (all_fetched c.args.plan.now (begun c.args.tree.now) c.take_out.new.tree
        (fetched_then c.args.plan.now (begun c.args.tree.now) c.keys_of_selected.new.tree c.take_out.new.tree
        (stopped_keeps c.as_slice.result.now c.keys_of_selected.new.tree c.take_out.new.tree c.in_err-count.field-0.0 still c.in_err-count.ensures)
        (subst (λ (t : TreeView). HasFetched c.args.plan.now t c.keys_of_selected.new.tree) c.begin.ensures
        (let fetches = c.in_ok-keys.ensures.fetches (begun_deletion c.args.tree.now c.begin.new.self c.args.plan.now c.begin.ensures deletion) in fetches.pages))));
  };
  untouched = λ same. not_answered c.from_residual-in_err-count.result _ _ c.from_residual-in_err-count.ensures.1 same;
  reads =
      let working = works_still c.args.tree.now c.begin.new.self c.has_failed.result c.begin.ensures c.has_failed.ensures c.if-has_failed.false in
      let traced = begun_then c.args.tree.now c.begin.new.self c.keys_of_selected.new.tree c.begin.ensures c.in_ok-keys.ensures.effect.reads.same in
      let still = ap (λ (t : TreeView). t.is_failed) traced ∙ working in
      first_by c.from_residual-in_err-count.result _ c.args.plan.now (begun c.args.tree.now) c.take_out.new.tree c.from_residual-in_err-count.ensures.1
      (first_stopped c.in_ok-keys.keys c.args.plan.now (begun c.args.tree.now) c.keys_of_selected.new.tree c.take_out.new.tree
      (subst (λ (t : TreeView). ReadsTree t c.keys_of_selected.new.tree (Ok c.in_ok-keys.keys)) c.begin.ensures c.in_ok-keys.ensures.effect.reads)
      (subst (λ (t : TreeView). NotesPages t c.keys_of_selected.new.tree (Ok c.in_ok-keys.keys)) c.begin.ensures c.in_ok-keys.ensures.effect.notes)
      c.as_slice.result.now
      (subst (λ (keys : List Key). HasReadKeys c.args.plan.now (begun c.args.tree.now) c.keys_of_selected.new.tree keys) (sym c.as_slice.ensures.value)
      (subst (λ (t : TreeView). HasReadKeys c.args.plan.now t c.keys_of_selected.new.tree c.in_ok-keys.keys.items) c.begin.ensures c.in_ok-keys.ensures.read))
      c.in_err-count.field-0.0 still c.in_err-count.ensures);
  effect =
      deletes_by c.from_residual-in_err-count.result _ c.args.tree.now c.take_out.new.tree c.from_residual-in_err-count.ensures.1
      (deletes_stopped c.args.tree.now c.keys_of_selected.new.tree c.take_out.new.tree
      (works_still c.args.tree.now c.begin.new.self c.has_failed.result c.begin.ensures c.has_failed.ensures c.if-has_failed.false)
      (begun_then c.args.tree.now c.begin.new.self c.keys_of_selected.new.tree c.begin.ensures c.in_ok-keys.ensures.effect.reads.same) c.as_slice.result.now _ c.in_err-count.ensures);
}

pub returns : goal.returns
returns g c = record {
  deleted = λ s stand deletion.
      done_stand c.args.tree.now c.begin.new.self c.keys_of_selected.new.tree c.take_out.new.tree c.args.plan.now.asked s c.begin.ensures c.in_ok-keys.ensures.effect.reads.same stand
      c.as_slice.result.now
      (c.as_slice.ensures.value ∙ c.in_ok-keys.ensures.keys s (begun_stand c.args.tree.now c.begin.new.self s c.begin.ensures stand) (begun_deletion c.args.tree.now c.begin.new.self c.args.plan.now c.begin.ensures deletion))
      c.in_ok-count.count c.in_ok-count.ensures;
  stopped = λ s stand deletion. tt;
  fetches = λ deletion. record {
    pages =
        fetched_then c.args.plan.now (begun c.args.tree.now) c.keys_of_selected.new.tree c.take_out.new.tree
        (done_keeps c.as_slice.result.now c.keys_of_selected.new.tree c.take_out.new.tree c.in_ok-count.count c.in_ok-count.ensures)
        (subst (λ (t : TreeView). HasFetched c.args.plan.now t c.keys_of_selected.new.tree) c.begin.ensures
        (let fetches = c.in_ok-keys.ensures.fetches (begun_deletion c.args.tree.now c.begin.new.self c.args.plan.now c.begin.ensures deletion) in fetches.pages));
    broken = tt;
  };
  untouched = λ none.
      none_gone c.as_slice.result.now c.args.tree.now c.keys_of_selected.new.tree c.take_out.new.tree c.in_ok-count.count
      (begun_then c.args.tree.now c.begin.new.self c.keys_of_selected.new.tree c.begin.ensures c.in_ok-keys.ensures.effect.reads.same) c.in_ok-count.ensures cc;
  reads =
      first_done c.in_ok-keys.keys c.args.plan.now (begun c.args.tree.now) c.keys_of_selected.new.tree c.take_out.new.tree
      (subst (λ (t : TreeView). ReadsTree t c.keys_of_selected.new.tree (Ok c.in_ok-keys.keys)) c.begin.ensures c.in_ok-keys.ensures.effect.reads)
      (subst (λ (t : TreeView). NotesPages t c.keys_of_selected.new.tree (Ok c.in_ok-keys.keys)) c.begin.ensures c.in_ok-keys.ensures.effect.notes)
      c.as_slice.result.now
      (subst (λ (keys : List Key). HasReadKeys c.args.plan.now (begun c.args.tree.now) c.keys_of_selected.new.tree keys) (sym c.as_slice.ensures.value)
      (subst (λ (t : TreeView). HasReadKeys c.args.plan.now t c.keys_of_selected.new.tree c.in_ok-keys.keys.items) c.begin.ensures c.in_ok-keys.ensures.read))
      c.in_ok-count.count c.in_ok-count.ensures;
  effect =
      deletes_done c.args.tree.now c.keys_of_selected.new.tree c.take_out.new.tree
      (works_still c.args.tree.now c.begin.new.self c.has_failed.result c.begin.ensures c.has_failed.ensures c.if-has_failed.false)
      (begun_then c.args.tree.now c.begin.new.self c.keys_of_selected.new.tree c.begin.ensures c.in_ok-keys.ensures.effect.reads.same) c.as_slice.result.now c.in_ok-count.count c.in_ok-count.ensures;
}

pub keys_of_selected-requires : goal.keys_of_selected-requires
keys_of_selected-requires g c = subst (λ (t : TreeView). IsPosed (length t.schema.columns) c.args.plan.now.asked) (sym c.begin.ensures) c.requires
