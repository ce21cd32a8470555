use Rattle.std.proofs.Common.{◌∙◌, ap, refl}
use Rattle.ub_query.specs.Shape.{asked}
use Rattle.ub_script.proofs.FormedFacts.{reply_on}
use Rattle.ub_script.proofs.RowsFacts.{posed_by_plan, items_same}
use Rattle.ub_script.proofs.StartFacts.{on_err, starts_of_all, starts_of_plan}
use Rattle.ub_tree.specs.View.{TreeView}
use Rattle.ub_script.proofs.EndFacts.{memory_no_write, no_answer, no_write_by, no_write_ok, read_no_write, reads_done, reads_refused, reads_untold}
use Rattle.ub_script.proofs.script.answer_query.Goals as goal

pub returns : goal.returns
returns g c = record {
  answer = λ basis is.
      reply_on basis c.args.tree.now c.execute.new.tree _ c.in_ok-answer.answer.fetched _ _ _ c.args.plan.now (asked c.args.query.now) c.in_ok-answer.answer.rows _ is
      (c.schema.ensures ∙ ap (λ (t : TreeView). t.schema) c.in_ok-answer.ensures.executes.effect.same) c.in_ok-answer.ensures.fetched c.requires.planned
      (λ ready. (c.in_ok-answer.ensures.executes.done ready).rows) (λ ready. (c.in_ok-answer.ensures.executes.done ready).fetches.pages) c.in_ok-answer.ensures.executes.reads refl c.in_ok-answer.ensures.executes.scanned c.in_ok-answer.ensures.executes.failed c.in_ok-answer.ensures.executes.shaped c.in_ok-answer_text.ensures;
  stopped = λ basis is. tt;
  no_write = no_write_ok _;
  effect = reads_done _ _ _ _ c.in_ok-answer.ensures.executes.effect;
}

pub returns-in_err-answer : goal.returns-in_err-answer
returns-in_err-answer g c = record {
  answer = λ basis is. no_answer c.from_residual.result _ _ c.from_residual.ensures.1;
  stopped = λ basis is.
      on_err c.from_residual.result _
      (starts_of_plan _ basis c.args.tree.now c.execute.new.tree c.args.plan.now (asked c.args.query.now) is c.requires.planned (λ ready. (c.in_err-answer.ensures.executes.done ready).fetches.broken) c.in_err-answer.ensures.executes.reads.notes);
  no_write = no_write_by c.from_residual.result _ c.from_residual.ensures.1 (read_no_write _);
  effect = reads_refused c.from_residual.result _ _ _ c.from_residual.ensures.1 c.in_err-answer.ensures.executes.effect c.in_err-answer.ensures.executes.failed;
}

pub returns-in_err-answer_text : goal.returns-in_err-answer_text
returns-in_err-answer_text g c = record {
  answer = λ basis is. no_answer c.from_residual-in_err-answer_text.result _ _ c.from_residual-in_err-answer_text.ensures.1;
  stopped = λ basis is.
      on_err c.from_residual-in_err-answer_text.result _
      (starts_of_all _ basis c.args.tree.now c.execute.new.tree c.args.plan.now (asked c.args.query.now) is c.requires.planned (λ ready. (c.in_ok-answer.ensures.executes.done ready).fetches.pages) c.in_ok-answer.ensures.executes.reads.notes);
  no_write = no_write_by c.from_residual-in_err-answer_text.result _ c.from_residual-in_err-answer_text.ensures.1 memory_no_write;
  effect = reads_untold c.from_residual-in_err-answer_text.result _ _ _ c.from_residual-in_err-answer_text.ensures.1 c.in_ok-answer.ensures.executes.effect;
}

pub execute-requires : goal.execute-requires
execute-requires g c = posed_by_plan c.args.tree.now.schema _ (asked c.args.query.now) c.requires.planned c.requires.posed

pub answer_text-requires : goal.answer_text-requires
answer_text-requires g c =
    items_same _ _ c.args.query.now.items (c.schema.ensures ∙ ap (λ (t : TreeView). t.schema) c.in_ok-answer.ensures.executes.effect.same) c.requires.posed.items
