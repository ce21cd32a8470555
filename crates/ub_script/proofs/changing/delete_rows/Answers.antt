use Rattle.std.proofs.Common.{◌≡◌, ◌∙◌, ℕ, ap}
use Rattle.ub_parser.specs.Outcome.{IsGiven, takes}
use Rattle.ub_planning.specs.Plan.{plan_of}
use Rattle.ub_query.specs.Shape.{asked}
use Rattle.ub_script.proofs.ChangeFacts.{delete_replies, delete_stopped, delete_unbegun, delete_untold, if_err, runs_deleted, runs_deletion}
use Rattle.ub_script.proofs.KeptFacts.{runs_err}
use Rattle.ub_script.proofs.RowsFacts.{posed_by_plan}
use Rattle.ub_table.specs.declared.schema.Schema.{Schema}
use Rattle.ub_script.proofs.EndFacts.{memory_no_write, no_answer, no_write_by, no_write_ok, read_no_write, runs_unbegun, runs_untold}
use Rattle.ub_script.proofs.changing.delete_rows.Goals as goal

pub returns-in_err-plan : goal.returns-in_err-plan
returns-in_err-plan g c = record {
  answer = λ basis is. no_answer c.from_residual.result _ _ c.from_residual.ensures.1;
  stopped = λ basis is. if_err c.from_residual.result _ _ c.from_residual.ensures.1 (delete_unbegun basis c.args.tree.now (asked c.args.query.now) is);
  no_write = no_write_by c.from_residual.result _ c.from_residual.ensures.1 memory_no_write;
  effect = runs_unbegun c.from_residual.result _ c.from_residual.ensures.1;
  asked = λ asks. absurd (asks tt);
}

pub returns-in_err-count : goal.returns-in_err-count
returns-in_err-count g c =
    let old = c.args.tree.now in
    let q = asked c.args.query.now in
    let given : IsGiven old.schema (takes q) = c.requires in
    let planned : c.in_ok-plan.plan ≡ plan_of old.schema q = c.in_ok-plan.ensures.plan ∙ ap (λ (s : Schema). plan_of s q) c.schema.ensures in
    record {
      answer = λ basis is. no_answer c.from_residual-in_err-count.result _ _ c.from_residual-in_err-count.ensures.1;
      stopped = λ basis is.
          if_err c.from_residual-in_err-count.result _ _ c.from_residual-in_err-count.ensures.1
          (delete_stopped old c.delete.new.tree c.in_ok-plan.plan q planned given basis c.in_err-count.field-0.0 is c.in_err-count.ensures.stopped (λ deletion. (c.in_err-count.ensures.fetches deletion).broken)
          c.in_err-count.ensures.reads c.in_err-count.ensures.effect);
      no_write = no_write_by c.from_residual-in_err-count.result _ c.from_residual-in_err-count.ensures.1 (read_no_write _);
      effect = runs_err ℕ c.from_residual-in_err-count.result _ _ _ c.from_residual-in_err-count.ensures.1 (runs_deletion ℕ _ _ _ c.in_err-count.ensures.effect);
      asked = λ asks. absurd (asks tt);
    }

pub returns-in_err-deleted_text : goal.returns-in_err-deleted_text
returns-in_err-deleted_text g c =
    let old = c.args.tree.now in
    let q = asked c.args.query.now in
    let given : IsGiven old.schema (takes q) = c.requires in
    let planned : c.in_ok-plan.plan ≡ plan_of old.schema q = c.in_ok-plan.ensures.plan ∙ ap (λ (s : Schema). plan_of s q) c.schema.ensures in
    record {
      answer = λ basis is. no_answer c.from_residual-in_err-deleted_text.result _ _ c.from_residual-in_err-deleted_text.ensures.1;
      stopped = λ basis is.
          if_err c.from_residual-in_err-deleted_text.result _ _ c.from_residual-in_err-deleted_text.ensures.1
          (delete_untold old c.delete.new.tree c.in_ok-plan.plan q planned given c.in_ok-count.count c.in_ok-count.ensures.deleted (λ deletion. (c.in_ok-count.ensures.fetches deletion).pages) c.in_ok-count.ensures.reads
          c.in_ok-count.ensures.effect c.in_ok-count.ensures.untouched basis is);
      no_write = no_write_by c.from_residual-in_err-deleted_text.result _ c.from_residual-in_err-deleted_text.ensures.1 memory_no_write;
      effect = runs_untold c.from_residual-in_err-deleted_text.result _ _ _ c.from_residual-in_err-deleted_text.ensures.1 c.in_ok-count.ensures.effect;
      asked = λ asks. absurd (asks tt);
    }

pub returns : goal.returns
returns g c =
    let old = c.args.tree.now in
    let q = asked c.args.query.now in
    let given : IsGiven old.schema (takes q) = c.requires in
    let planned : c.in_ok-plan.plan ≡ plan_of old.schema q = c.in_ok-plan.ensures.plan ∙ ap (λ (s : Schema). plan_of s q) c.schema.ensures in
    record {
      answer = λ basis is.
          delete_replies old c.delete.new.tree c.in_ok-plan.plan q planned given c.in_ok-count.count c.in_ok-count.ensures.deleted (λ deletion. (c.in_ok-count.ensures.fetches deletion).pages) c.in_ok-count.ensures.reads
          c.in_ok-count.ensures.effect c.in_ok-count.ensures.untouched basis _ is c.in_ok-deleted_text.ensures;
      stopped = λ basis is. tt;
      no_write = no_write_ok _;
      effect = runs_deleted old c.delete.new.tree c.in_ok-plan.plan q planned given c.in_ok-count.count c.in_ok-count.ensures.deleted (λ deletion. (c.in_ok-count.ensures.fetches deletion).pages) c.in_ok-count.ensures.reads
          c.in_ok-count.ensures.effect c.in_ok-count.ensures.untouched _;
      asked = λ asks. absurd (asks tt);
    }

pub delete-requires : goal.delete-requires
delete-requires g c =
    let q = asked c.args.query.now in
    let planned : c.in_ok-plan.plan ≡ plan_of c.args.tree.now.schema q = c.in_ok-plan.ensures.plan ∙ ap (λ (s : Schema). plan_of s q) c.schema.ensures in
    posed_by_plan c.args.tree.now.schema _ q planned c.requires.0
