use Rattle.std.proofs.Common.{◌≡◌, ◌∙◌, ℕ, ap, List, length}
use Rattle.ub_script.proofs.ChangeFacts.{if_err, insert_replies, insert_stopped, insert_unbegun, put_by, put_row, runs_change, given_same, measures_left}
use Rattle.ub_parser.specs.Outcome.{IsGiven, puts}
use Rattle.ub_script.proofs.EndFacts.{memory_no_write, no_answer, no_write_by, no_write_ok, runs_put, runs_unbegun, tree_no_write}
use Rattle.ub_script.proofs.KeptFacts.{runs_err}
use Rattle.ub_script.specs.Changes.{coordinates_of}
use Rattle.ub_script.specs.Text.{inserted_text}
use Rattle.ub_table.specs.declared.schema.Schema.{Schema}
use Rattle.ub_script.proofs.changing.insert_row.Goals as goal

pub returns-in_err-text : goal.returns-in_err-text
returns-in_err-text g c = record {
  answer = λ basis is. no_answer c.from_residual.result _ _ c.from_residual.ensures.1;
  stopped = λ basis is. if_err c.from_residual.result _ _ c.from_residual.ensures.1 (insert_unbegun basis c.args.tree.now c.args.values.now is);
  no_write = no_write_by c.from_residual.result _ c.from_residual.ensures.1 memory_no_write;
  effect = runs_unbegun c.from_residual.result _ c.from_residual.ensures.1;
  asked = λ asks. absurd (asks tt);
}

pub returns-in_err-insert : goal.returns-in_err-insert
returns-in_err-insert g c =
    let old = c.args.tree.now in
    let given : IsGiven old.schema (puts c.args.values.now) = c.requires in
    let are : c.as_slice.result.now ≡ coordinates_of old.schema c.args.values.now =
    c.as_slice.ensures.value ∙ c.coordinates-dims.ensures.coordinates ∙ ap (λ (s : Schema). coordinates_of s c.args.values.now) c.schema.ensures in
    let long : c.len.result ≡ old.schema.dims =
    c.len.ensures.value ∙ c.coordinates-dims.ensures.all ∙ ap (λ (s : Schema). s.dims) c.schema.ensures in
    record {
      answer = λ basis is. no_answer c.from_residual-in_err-insert.result _ _ c.from_residual-in_err-insert.ensures.1;
      stopped = λ basis is.
          if_err c.from_residual-in_err-insert.result _ _ c.from_residual-in_err-insert.ensures.1
          (insert_stopped basis old c.insert.new.self c.args.values.now c.in_err-insert.field-0.0 is given
          (put_by old c.insert.new.self c.args.values.now _ _ _ are long c.in_err-insert.ensures.number c.in_err-insert.ensures.failed c.in_err-insert.ensures.counted c.in_err-insert.ensures.refused
          c.in_err-insert.ensures.effect));
      no_write = no_write_by c.from_residual-in_err-insert.result _ c.from_residual-in_err-insert.ensures.1 (tree_no_write _);
      effect = runs_err ℕ c.from_residual-in_err-insert.result _ _ _ c.from_residual-in_err-insert.ensures.1 (runs_change ℕ _ _ _ c.in_err-insert.ensures.effect);
      asked = λ asks. absurd (asks tt);
    }

pub returns : goal.returns
returns g c =
    let old = c.args.tree.now in
    let given : IsGiven old.schema (puts c.args.values.now) = c.requires in
    let are : c.as_slice.result.now ≡ coordinates_of old.schema c.args.values.now =
    c.as_slice.ensures.value ∙ c.coordinates-dims.ensures.coordinates ∙ ap (λ (s : Schema). coordinates_of s c.args.values.now) c.schema.ensures in
    let long : c.len.result ≡ old.schema.dims =
    c.len.ensures.value ∙ c.coordinates-dims.ensures.all ∙ ap (λ (s : Schema). s.dims) c.schema.ensures in
    record {
      answer = λ basis is.
          insert_replies basis old c.insert.new.self c.args.values.now c.in_ok-insert.field-0 c.in_ok-text.text.items is given
          (put_by old c.insert.new.self c.args.values.now _ _ _ are long c.in_ok-insert.ensures.number c.in_ok-insert.ensures.failed c.in_ok-insert.ensures.counted c.in_ok-insert.ensures.refused
          c.in_ok-insert.ensures.effect)
          (put_row old c.insert.new.self c.args.values.now _ _ _ are long c.in_ok-insert.ensures.inserted)
          (c.in_ok-text.ensures ∙ ap inserted_text c.next.ensures.next);
      stopped = λ basis is. tt;
      no_write = no_write_ok _;
      effect = runs_put _ c.in_ok-insert.field-0 _ _ _ c.in_ok-insert.ensures.inserted c.in_ok-insert.ensures.effect;
      asked = λ asks. absurd (asks tt);
    }

pub coordinates-dims-requires : goal.coordinates-dims-requires
coordinates-dims-requires g c = given_same _ _ c.args.values.now c.schema.ensures c.requires

pub insert-requires-clause-dims : goal.insert-requires-clause-dims
insert-requires-clause-dims g c =
    ap (λ (ds : List ℕ). length ds) c.as_slice.ensures.value ∙ c.coordinates-dims.ensures.all ∙ ap (λ (s : Schema). s.dims) c.schema.ensures

pub insert-requires-clause-measures : goal.insert-requires-clause-measures
insert-requires-clause-measures g c =
    let long : c.len.result ≡ c.args.tree.now.schema.dims =
    c.len.ensures.value ∙ c.coordinates-dims.ensures.all ∙ ap (λ (s : Schema). s.dims) c.schema.ensures in
    measures_left c.args.tree.now.schema c.args.values.now c.len.result long c.requires.0
