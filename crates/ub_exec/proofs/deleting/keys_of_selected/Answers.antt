use Rattle.std.proofs.Common.{length, subst, ◌≡◌, ◌++◌, ◌∙◌, List, [], Err, ap, refl, rules, sym}
use Rattle.std.proofs.lemmas.List.{append-nil}
use Rattle.std.proofs.lemmas.List.Sorted.{IsNonDecreasingBy-from_sort_by_key}
use Rattle.std.specs.List.{filter}
use Rattle.ub_exec.proofs.FirstFacts.{on_err, walked_first}
use Rattle.ub_exec.proofs.KeyFacts.{deletion_scans, read_keys, walked_keys}
use Rattle.ub_exec.proofs.MeantFacts.{walk_fetched}
use Rattle.ub_exec.proofs.NotedFacts.{notes_err, notes_ok}
use Rattle.ub_exec.proofs.RefusedFacts.{no_answer, no_result}
use Rattle.ub_filter.specs.Choice.{IsFit, is_chosen}
use Rattle.ub_table.specs.Region.{keys_of}
use Rattle.ub_table.specs.declared.row.Key.{Key}
use Rattle.ub_tree.proofs.Laws.{reads_by}
use Rattle.ub_query.specs.Posed.{IsPosed}
use Rattle.ub_table.specs.declared.schema.Schema.{Schema}
use Rattle.ub_exec.proofs.deleting.keys_of_selected.Goals as goal

pub returns-clause-fetches : goal.returns-clause-fetches
returns-clause-fetches g c deletion =
    let (handed, held, walk) = c.in_ok-walk.ensures.rows (record { keys = c.new.result }) [] (sym (append-nil c.new.result.items)) in
    let ready = deletion.ready in
    record {
      pages = walk_fetched c.args.plan.now c.args.tree.now c.walk.new.tree handed ready.sound ready.planned (deletion_scans c.args.tree.now.schema c.args.plan.now ready.planned deletion.plain) (walk.1 ready.sound);
      broken = tt;
    }

pub returns-in_err-walk-clause-fetches : goal.returns-in_err-walk-clause-fetches
returns-in_err-walk-clause-fetches g c deletion =
    let ready = deletion.ready in
    record {
      pages = no_result c.from_residual.result _ _ c.from_residual.ensures.1;
      broken = on_err c.from_residual.result _
          (walked_first c.args.plan.now c.args.tree.now c.walk.new.tree ready (deletion_scans c.args.tree.now.schema c.args.plan.now ready.planned deletion.plain)
          (c.in_err-walk.ensures.broken (record { keys = c.new.result }) [] (sym (append-nil c.new.result.items)) ready.sound));
    }

pub returns-clause-read : goal.returns-clause-read
returns-clause-read g c =
    let none : c.new.result.items ≡ [] = c.new.ensures.items in
    let (handed, held, walk) = c.in_ok-walk.ensures.rows (record { keys = c.new.result }) [] (sym (append-nil c.new.result.items)) in
    let chosen = keys_of c.args.tree.now.schema.dims (filter (is_chosen c.of-choice.result c.args.tree.now.schema c.args.plan.now) handed) in
    let gathered : c.walk.new.sink.keys.items ≡ chosen = held ∙ ap (λ (keys : List Key). keys ++ chosen) none in
    read_keys c.args.tree.now c.walk.new.tree c.args.plan.now c.of-choice.result handed c.walk.new.sink.keys.items _ walk.0 gathered
    c.sort_unstable_by_key.ensures.permutation
    (IsNonDecreasingBy-from_sort_by_key (λ key. key.number) _ c.sort_unstable_by_key.ensures.sorted (λ a r q k. search rules))

pub returns-clause-keys : goal.returns-clause-keys
returns-clause-keys g c s stand deletion =
    let none : c.new.result.items ≡ [] = c.new.ensures.items in
    let (handed, held, walk) = c.in_ok-walk.ensures.rows (record { keys = c.new.result }) [] (sym (append-nil c.new.result.items)) in
    let chosen = keys_of c.args.tree.now.schema.dims (filter (is_chosen c.of-choice.result c.args.tree.now.schema c.args.plan.now) handed) in
    let gathered : c.walk.new.sink.keys.items ≡ chosen = held ∙ ap (λ (keys : List Key). keys ++ chosen) none in
    walked_keys c.args.tree.now c.walk.new.tree s c.args.plan.now c.of-choice.result handed c.walk.new.sink.keys.items _ stand deletion (walk.1 stand.sound) gathered
    c.sort_unstable_by_key.ensures.permutation
    (IsNonDecreasingBy-from_sort_by_key (λ key. key.number) _ c.sort_unstable_by_key.ensures.sorted (λ a r q k. search rules))

pub returns-in_err-walk-clause-keys : goal.returns-in_err-walk-clause-keys
returns-in_err-walk-clause-keys g c s stand deletion = no_answer c.from_residual.result _ _ c.from_residual.ensures.1

pub returns-in_err-walk-clause-read : goal.returns-in_err-walk-clause-read
returns-in_err-walk-clause-read g c = no_answer c.from_residual.result _ _ c.from_residual.ensures.1

pub returns-in_err-walk-clause-effect : goal.returns-in_err-walk-clause-effect
returns-in_err-walk-clause-effect g c = record {
  notes = notes_err c.from_residual.result _ (Err _) c.args.tree.now c.walk.new.tree c.from_residual.ensures.1 c.in_err-walk.ensures.effect.notes;
  reads = reads_by c.from_residual.result _ c.args.tree.now c.args.tree.now c.walk.new.tree c.from_residual.ensures.1 refl c.in_err-walk.ensures.effect.reads;
}

pub returns-clause-effect : goal.returns-clause-effect
returns-clause-effect g c = record {
  notes = notes_ok _ _ c.args.tree.now c.walk.new.tree c.in_ok-walk.ensures.effect.notes;
  reads = record { same = c.in_ok-walk.ensures.effect.reads.same; faults = tt };
}

pub of-choice-requires : goal.of-choice-requires
of-choice-requires g c =
    subst (λ (s : Schema). IsPosed (length s.columns) c.args.plan.now.asked) (sym c.schema.ensures) c.requires

pub walk-requires-clause-posed : goal.walk-requires-clause-posed
walk-requires-clause-posed g c =
    c.requires

pub walk-requires-clause-fit : goal.walk-requires-clause-fit
walk-requires-clause-fit g c =
    subst (λ (s : Schema). IsFit s c.args.plan.now c.of-choice.result) c.schema.ensures c.of-choice.ensures
