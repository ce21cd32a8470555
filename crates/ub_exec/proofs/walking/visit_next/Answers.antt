use Rattle.std.proofs.Common.{◌≡◌, ◌∙◌, inl, inr, List, [], Ok, Some, None, ap, length, refl, subst, sym, ◌++◌, Option, IfSome}
use Rattle.std.proofs.lemmas.List.{append-nil}
use Rattle.std.specs.Option.{option_copied}
use Rattle.ub_bigmin.specs.Box.{Corners}
use Rattle.ub_tree.proofs.Laws.{Keeps-by, next_is_later, reads_then, tree_reads, unchanged_trace, unchanged_traced}
use Rattle.ub_exec.proofs.FirstFacts.{asked_some, on_err}
use Rattle.ub_exec.proofs.NotedFacts.{next_notes, notes_none, notes_one, read_next}
use Rattle.ub_exec.proofs.RefusedFacts.{memory_reads, no_answer, search_reads}
use Rattle.ub_exec.proofs.WalkFacts.{visited_by, first_found}
use Rattle.ub_exec.specs.Reading.{StandAhead}
use Rattle.ub_filter.specs.Choice.{IsFit, is_chosen}
use Rattle.ub_query.specs.Posed.{IsPosed}
use Rattle.ub_table.specs.declared.row.Row.{Row}
use Rattle.ub_table.specs.declared.schema.Schema.{Schema}
use Rattle.ub_tetris.proofs.Laws.{either_noted}
use Rattle.ub_tree.specs.Effects.{IsTakenIn}
use Rattle.ub_tree.specs.Spans.{Region}
use Rattle.ub_tree.specs.Told.{GivesNext, IsRegionOf}
use Rattle.ub_tree.specs.View.{TreeView}
use Rattle.std.specs.List.{filter}
use Rattle.ub_exec.proofs.walking.visit_next.Goals as goal

pub returns-in_default-clause-rows : goal.returns-in_default-clause-rows
returns-in_default-clause-rows g c before taken has = (
  [],
  subst (λ (rows : List Row). g.K.RowSink.HasTaken c.args.tree.now.schema c.args.plan.now.asked before rows c.args.sink.now) (sym (append-nil taken)) has,
  (
    refl,
    λ sound. (
      first_found c.args.tree.now c.boxes.result.now c.args.plan.now.covering.boxes (option_copied c.args.after) _ None c.boxes.ensures.boxes c.in_default.is (c.in_ok-region.ensures.found sound),
      unchanged_trace c.args.tree.now c.take_next.new.tree c.in_ok-region.ensures.effect.same,
      refl,
    ),
  ),
)

pub returns-clause-rows : goal.returns-clause-rows
returns-clause-rows g c before taken has =
    let same = c.in_ok-region.ensures.effect.same in
    let schema : c.schema.result.now ≡ c.args.tree.now.schema =
    c.schema.ensures ∙ ap (λ (t : TreeView). t.schema) c.in_ok-read_in_run.ensures.effect.same ∙ ap (λ (t : TreeView). t.schema) c.in_ok-region.ensures.effect.same in (
      c.read_in_run.new.page.region.rows,
      subst (λ (s : Schema). g.K.RowSink.HasTaken s c.args.plan.now.asked before taken c.args.sink.now
          → g.K.RowSink.HasTaken s c.args.plan.now.asked before (taken ++ filter (is_chosen c.args.choice s c.args.plan.now) c.read_in_run.new.page.region.rows) c.push_chosen.new.sink) schema
          (c.in_ok-push_chosen.ensures before taken) has,
      (
        (c.read_in_run.new.page.region, subst (λ (t : TreeView). IsTakenIn t c.in-Some.region c.read_in_run.new.page.region) same c.in_ok-read_in_run.ensures.taken, refl),
        λ sound. visited_by c.args.tree.now c.take_next.new.tree c.read_in_run.new.self c.args.plan.now.covering.boxes (option_copied c.args.after) c.in-Some.region c.read_in_run.new.page.region
            c.read_in_run.new.page.region.rows sound
            (first_found c.args.tree.now c.boxes.result.now c.args.plan.now.covering.boxes (option_copied c.args.after) _ (Some c.in-Some.region) c.boxes.ensures.boxes c.in-Some.is (c.in_ok-region.ensures.found sound))
            (Keeps-by c.args.tree.now c.take_next.new.tree (unchanged_traced c.args.tree.now c.take_next.new.tree same)) (unchanged_trace c.args.tree.now c.take_next.new.tree same) c.in_ok-read_in_run.ensures.stands c.in_ok-read_in_run.ensures.first c.in_ok-read_in_run.ensures.effect.listed refl,
      ),
    )

pub returns-in_err-region-clause-broken : goal.returns-in_err-region-clause-broken
returns-in_err-region-clause-broken g c sound =
    on_err c.from_residual.result _ (inl (ap (λ (t : TreeView). t.trace) c.in_err-region.ensures.effect.same))

pub returns-in_err-read_in_run-clause-broken : goal.returns-in_err-read_in_run-clause-broken
returns-in_err-read_in_run-clause-broken g c sound =
    let same = c.in_ok-region.ensures.effect.same in
    on_err c.from_residual-in_err-read_in_run.result _
    (asked_some c.args.tree.now c.take_next.new.tree c.read_in_run.new.self _ _ c.in-Some.region sound
    (first_found c.args.tree.now c.boxes.result.now c.args.plan.now.covering.boxes (option_copied c.args.after) _ (Some c.in-Some.region) c.boxes.ensures.boxes c.in-Some.is (c.in_ok-region.ensures.found sound))
    (Keeps-by c.args.tree.now c.take_next.new.tree (unchanged_traced c.args.tree.now c.take_next.new.tree same)) (unchanged_trace c.args.tree.now c.take_next.new.tree same) (either_noted _ c.take_next.new.tree c.read_in_run.new.self _ c.in_err-read_in_run.ensures.effect.noted))

pub returns-in_err-push_chosen-clause-broken : goal.returns-in_err-push_chosen-clause-broken
returns-in_err-push_chosen-clause-broken g c sound =
    let same = c.in_ok-region.ensures.effect.same in
    on_err c.from_residual-in_err-push_chosen.result _
    (asked_some c.args.tree.now c.take_next.new.tree c.read_in_run.new.self _ _ c.in-Some.region sound
    (first_found c.args.tree.now c.boxes.result.now c.args.plan.now.covering.boxes (option_copied c.args.after) _ (Some c.in-Some.region) c.boxes.ensures.boxes c.in-Some.is (c.in_ok-region.ensures.found sound))
    (Keeps-by c.args.tree.now c.take_next.new.tree (unchanged_traced c.args.tree.now c.take_next.new.tree same)) (unchanged_trace c.args.tree.now c.take_next.new.tree same) (inr c.in_ok-read_in_run.ensures.effect.listed))

pub returns-in_default-clause-next : goal.returns-in_default-clause-next
returns-in_default-clause-next g c = (
  (
    subst (λ (boxes : List Corners). GivesNext boxes c.args.tree.now (option_copied c.args.after) None) c.boxes.ensures.boxes (subst (λ (f : Option Region). GivesNext c.boxes.result.now c.args.tree.now (option_copied c.args.after) f) c.in_default.is c.in_ok-region.ensures.gives),
    unchanged_trace c.args.tree.now c.take_next.new.tree c.in_ok-region.ensures.effect.same,
  ),
  tt,
)

pub returns-in_default-clause-effect : goal.returns-in_default-clause-effect
returns-in_default-clause-effect g c = record {
  notes = notes_none (Ok None) c.args.tree.now c.take_next.new.tree (unchanged_trace c.args.tree.now c.take_next.new.tree c.in_ok-region.ensures.effect.same);
  reads = record { same = unchanged_traced c.args.tree.now c.take_next.new.tree c.in_ok-region.ensures.effect.same; faults = tt };
}

pub returns-in_err-region-clause-effect : goal.returns-in_err-region-clause-effect
returns-in_err-region-clause-effect g c = record {
  notes =
      notes_none c.from_residual.result c.args.tree.now c.take_next.new.tree
      (ap (λ (t : TreeView). t.trace) c.in_err-region.ensures.effect.same);
  reads = search_reads c.from_residual.result _ c.args.tree.now c.take_next.new.tree c.from_residual.ensures.1 c.in_err-region.ensures.effect;
}

pub returns-in_err-read_in_run-clause-effect : goal.returns-in_err-read_in_run-clause-effect
returns-in_err-read_in_run-clause-effect g c =
    let same = c.in_ok-region.ensures.effect.same in
    let gives = subst (λ (f : Option Region). GivesNext c.boxes.result.now c.args.tree.now (option_copied c.args.after) f) c.in-Some.is c.in_ok-region.ensures.gives in
    record {
      notes =
          notes_one c.from_residual-in_err-read_in_run.result _ c.args.tree.now c.take_next.new.tree c.read_in_run.new.self _ c.from_residual-in_err-read_in_run.ensures.1
          (unchanged_trace c.args.tree.now c.take_next.new.tree c.in_ok-region.ensures.effect.same)
          (either_noted _ c.take_next.new.tree c.read_in_run.new.self _ c.in_err-read_in_run.ensures.effect.noted);
      reads =
          tree_reads c.from_residual-in_err-read_in_run.result _ c.args.tree.now c.take_next.new.tree c.read_in_run.new.self c.from_residual-in_err-read_in_run.ensures.1
          (unchanged_traced c.args.tree.now c.take_next.new.tree same) c.in_err-read_in_run.ensures.effect.same
          (c.in_err-read_in_run.ensures.effect.faults (subst (λ (t : TreeView). IsRegionOf t c.in-Some.region) (sym same) (next_is_later c.args.tree.now _ _ c.in-Some.region gives).0));
    }

pub returns-in_err-push_chosen-clause-effect : goal.returns-in_err-push_chosen-clause-effect
returns-in_err-push_chosen-clause-effect g c = record {
  notes =
      notes_one c.from_residual-in_err-push_chosen.result _ c.args.tree.now c.take_next.new.tree c.read_in_run.new.self _ c.from_residual-in_err-push_chosen.ensures.1
      (unchanged_trace c.args.tree.now c.take_next.new.tree c.in_ok-region.ensures.effect.same) (inr c.in_ok-read_in_run.ensures.effect.listed);
  reads =
      memory_reads c.from_residual-in_err-push_chosen.result c.args.tree.now c.read_in_run.new.self c.from_residual-in_err-push_chosen.ensures.1
      (reads_then {T = Unit {0}} (Ok tt) c.args.tree.now c.take_next.new.tree c.read_in_run.new.self (unchanged_traced c.args.tree.now c.take_next.new.tree c.in_ok-region.ensures.effect.same)
      (record { same = c.in_ok-read_in_run.ensures.effect.same; faults = tt })).same;
}

pub returns-clause-effect : goal.returns-clause-effect
returns-clause-effect g c = record {
  notes =
      next_notes c.args.plan.now.covering.boxes (option_copied c.args.after) c.args.tree.now c.read_in_run.new.self (Some c.in-Some.region)
      (read_next c.boxes.result.now c.args.plan.now.covering.boxes _ c.args.tree.now c.take_next.new.tree c.read_in_run.new.self c.in-Some.region c.read_in_run.new.page.region
      c.boxes.ensures.boxes c.in_ok-region.ensures.effect.same (subst (λ (f : Option Region). GivesNext c.boxes.result.now c.args.tree.now (option_copied c.args.after) f) c.in-Some.is c.in_ok-region.ensures.gives) c.in_ok-read_in_run.ensures.effect.listed c.in_ok-read_in_run.ensures.taken);
  reads =
      reads_then (Ok (Some c.in-Some.region)) c.args.tree.now c.take_next.new.tree c.read_in_run.new.self (unchanged_traced c.args.tree.now c.take_next.new.tree c.in_ok-region.ensures.effect.same)
      (record { same = c.in_ok-read_in_run.ensures.effect.same; faults = tt });
}

pub push_chosen-requires-clause-posed : goal.push_chosen-requires-clause-posed
push_chosen-requires-clause-posed g c =
    let schema : c.schema.result.now ≡ c.args.tree.now.schema =
    c.schema.ensures ∙ ap (λ (t : TreeView). t.schema) c.in_ok-read_in_run.ensures.effect.same ∙ ap (λ (t : TreeView). t.schema) c.in_ok-region.ensures.effect.same in
    subst (λ (s : Schema). IsPosed (length s.columns) c.args.plan.now.asked) (sym schema) c.requires.fit.0

pub push_chosen-requires-clause-fit : goal.push_chosen-requires-clause-fit
push_chosen-requires-clause-fit g c =
    let schema : c.schema.result.now ≡ c.args.tree.now.schema =
    c.schema.ensures ∙ ap (λ (t : TreeView). t.schema) c.in_ok-read_in_run.ensures.effect.same ∙ ap (λ (t : TreeView). t.schema) c.in_ok-region.ensures.effect.same in
    subst (λ (s : Schema). IsFit s c.args.plan.now c.args.choice) (sym schema) c.requires.fit.1

pub push_chosen-requires-clause-dims : goal.push_chosen-requires-clause-dims
push_chosen-requires-clause-dims g c =
    c.in_ok-read_in_run.ensures.dims ∙ sym (ap (λ (s : Schema). s.dims) (c.schema.ensures ∙ ap (λ (t : TreeView). t.schema) c.in_ok-read_in_run.ensures.effect.same))

pub returns-in_err-region-clause-rows : goal.returns-in_err-region-clause-rows
returns-in_err-region-clause-rows g c = no_answer c.from_residual.result _ _ c.from_residual.ensures.1

pub returns-in_err-region-clause-next : goal.returns-in_err-region-clause-next
returns-in_err-region-clause-next g c = no_answer c.from_residual.result _ _ c.from_residual.ensures.1

pub returns-in_err-read_in_run-clause-rows : goal.returns-in_err-read_in_run-clause-rows
returns-in_err-read_in_run-clause-rows g c = no_answer c.from_residual-in_err-read_in_run.result _ _ c.from_residual-in_err-read_in_run.ensures.1

pub returns-in_err-read_in_run-clause-next : goal.returns-in_err-read_in_run-clause-next
returns-in_err-read_in_run-clause-next g c = no_answer c.from_residual-in_err-read_in_run.result _ _ c.from_residual-in_err-read_in_run.ensures.1

pub returns-in_err-push_chosen-clause-rows : goal.returns-in_err-push_chosen-clause-rows
returns-in_err-push_chosen-clause-rows g c = no_answer c.from_residual-in_err-push_chosen.result _ _ c.from_residual-in_err-push_chosen.ensures.1

pub returns-in_err-push_chosen-clause-next : goal.returns-in_err-push_chosen-clause-next
returns-in_err-push_chosen-clause-next g c = no_answer c.from_residual-in_err-push_chosen.result _ _ c.from_residual-in_err-push_chosen.ensures.1

pub take_next-requires-clause-ahead : goal.take_next-requires-clause-ahead
take_next-requires-clause-ahead g c =
    subst (λ (boxes : List Corners). StandAhead boxes c.args.tree.now (option_copied c.args.after) c.args.ahead.now.items) (sym c.boxes.ensures.boxes) c.requires.ahead.1

pub returns-clause-next : goal.returns-clause-next
returns-clause-next g c = (
  read_next c.boxes.result.now c.args.plan.now.covering.boxes _ c.args.tree.now c.take_next.new.tree c.read_in_run.new.self c.in-Some.region c.read_in_run.new.page.region
      c.boxes.ensures.boxes c.in_ok-region.ensures.effect.same (subst (λ (f : Option Region). GivesNext c.boxes.result.now c.args.tree.now (option_copied c.args.after) f) c.in-Some.is c.in_ok-region.ensures.gives) c.in_ok-read_in_run.ensures.effect.listed c.in_ok-read_in_run.ensures.taken,
  subst (λ (boxes : List Corners). StandAhead boxes c.args.tree.now (Some c.in-Some.region) c.take_next.new.ahead.items) c.boxes.ensures.boxes (subst (λ (f : Option Region). IfSome f (λ span. StandAhead c.boxes.result.now c.args.tree.now (Some span) c.take_next.new.ahead.items)) c.in-Some.is c.in_ok-region.ensures.left),
)

pub take_next-requires-clause-told : goal.take_next-requires-clause-told
take_next-requires-clause-told g c = c.requires.ahead.0

pub returns-in_default-clause-broken : goal.returns-in_default-clause-broken
returns-in_default-clause-broken g c sound =
    tt

pub returns-clause-broken : goal.returns-clause-broken
returns-clause-broken g c sound =
    tt
