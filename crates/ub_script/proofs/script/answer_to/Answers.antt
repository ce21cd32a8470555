-- A statement is accepted, and done, or it is refused.
use Rattle.std.proofs.Common.{refl}
use Rattle.ub_script.proofs.EndFacts.{refused_no_write}
use Rattle.ub_script.proofs.QueryFacts.{accepted_answer, accepted_stops, memory_ended, refused_answer, refused_reads, refused_runs}
use Rattle.ub_script.proofs.RunFacts.{if_ok}
use Rattle.ub_script.specs.Basis.{over_any}
use Rattle.ub_script.proofs.script.answer_to.Goals as goal

pub returns-in-Ok : goal.returns-in-Ok
returns-in-Ok g c = record {
  answer = λ basis is.
      if_ok c.answer_accepted.result _ _
      (λ a made. accepted_answer c.args.tree.now basis _ _ _ is c.schema.ensures _ c.in-Ok.ensures.accepted c.in-Ok.ensures.only _ _ _ made)
      (c.answer_accepted.ensures.answer basis is);
  stopped = λ basis is.
      accepted_stops c.args.tree.now basis _ _ _ is c.schema.ensures _ c.in-Ok.ensures.accepted c.in-Ok.ensures.only c.answer_accepted.result _ c.answer_accepted.ensures.no_write
      (c.answer_accepted.ensures.stopped basis is) (c.answer_accepted.ensures.stopped (over_any c.args.tree.now) refl);
  no_write = c.answer_accepted.ensures.no_write;
  effect = c.answer_accepted.ensures.effect;
  asked = λ asks. c.answer_accepted.ensures.asked (asks _ (rw c.schema.ensures at c.in-Ok.ensures.accepted));
}

pub returns-in-Err : goal.returns-in-Err
returns-in-Err g c = record {
  answer = λ basis is.
      if_ok c.refusal.result _ _
      (λ a made. refused_answer c.args.tree.now basis _ _ _ is c.schema.ensures c.in-Err.fault _ _ c.in-Err.ensures.refused c.in-Err.ensures.only c.in-Err.ensures.only_fault made)
      c.refusal.ensures.answer;
  stopped = λ basis is. memory_ended c.args.tree.now basis _ _ _ is c.schema.ensures c.refusal.result c.refusal.ensures.memory;
  no_write = refused_no_write c.refusal.result c.refusal.ensures.memory;
  effect = refused_runs c.refusal.result _ c.refusal.ensures.memory;
  asked = λ asks. refused_reads c.refusal.result _ c.refusal.ensures.memory;
}
