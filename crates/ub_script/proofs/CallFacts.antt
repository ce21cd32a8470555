-- What is promised of one call, promised of another.
use Rattle.std.proofs.Common.{◌≡◌, Bool, Result, subst, sym}
use Rattle.ub_parser.specs.Outcome.{Told, Command, asks}
use Rattle.ub_query.specs.Shape.{Asked}
use Rattle.ub_script.proofs.KeptFacts.{runs_of}
use Rattle.ub_script.proofs.QueryFacts.{asked_answer, asked_ended, said_answer, said_ended, same_answer, same_stop}
use Rattle.ub_script.specs.Script.{IsChange}
use Rattle.ub_script.specs.declared.fault.RunFault.{RunFault}
use Rattle.ub_script.specs.declared.script.Answer.{Answer}
use Rattle.ub_script.specs.inner.Calls.{AnswersAsked, AnswersCommand}
use Rattle.ub_tree.specs.View.{TreeView}

-- a query that is answered, or explained, is a command that is carried out
pub asked_command : (t : Told) (old new : TreeView) (r : Result Answer RunFault) → AnswersAsked t.is_explained t.asked old new r → AnswersCommand (asks t) old new r
asked_command t old new r h = record {
  answer = λ basis is. asked_answer r (λ a. a.text.items) (λ a. a.is_refused) basis t old new is h.effect (h.answer basis is);
  stopped = λ basis is. asked_ended r basis t old new is h.effect (h.stopped basis is);
  no_write = h.no_write;
  effect = runs_of r old new h.effect;
  asked = λ asks. h.effect;
}

-- another query that is the same
pub same_asked : (b c : Bool) (p q : Asked) (old new : TreeView) (r : Result Answer RunFault) → b ≡ c → p ≡ q → AnswersAsked c p old new r → AnswersAsked b q old new r
same_asked b c p q old new r e k h = record {
  answer = λ basis is. same_answer r basis b c p q _ _ e k (λ a. a.text.items) (λ a. a.is_refused) (h.answer basis is);
  stopped = λ basis is. same_stop r basis b c p q _ _ e k (h.stopped basis is);
  no_write = h.no_write;
  effect = h.effect;
}

-- another command that is the same
pub said_command : (c d : Command) (old new : TreeView) (r : Result Answer RunFault) → c ≡ d → AnswersCommand d old new r → AnswersCommand c old new r
said_command c d old new r e h = record {
  answer = λ basis is. said_answer r (λ a. a.text.items) (λ a. a.is_refused) basis c d old new e (h.answer basis is);
  stopped = λ basis is. said_ended r basis c d old new e (h.stopped basis is);
  no_write = h.no_write;
  effect = h.effect;
  asked = λ asks. h.asked (λ change. asks (subst (λ (k : Command). IsChange k) (sym e) change));
}
