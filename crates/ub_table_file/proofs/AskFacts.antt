-- What asking a table file tells of what its store answers.
use Rattle.std.proofs.Common.{◌≡◌, ℕ, List, Result, Ok, Err, IfOk, subst}
use Rattle.std.specs.Prelude.{IfErr}
use Rattle.ub_script.specs.Output.{OutFacts}
use Rattle.ub_table_file.specs.Asking.{AnswersWith, IsAnswered, IsUnanswered, RefusesWith}
use Rattle.ub_table_file.specs.Status.{Tells, tree_fault_status, tree_fault_text}
use Rattle.ub_table_file.specs.declared.status.Status.{Status}
use Rattle.ub_table_file.specs.declared.status.Status.TheVariants.{Done}
use Rattle.ub_store.specs.Facts.{StoreFacts}
use Rattle.ub_tree.specs.declared.fault.TreeFault.{TreeFault}
use Rattle.ub_words.specs.declared.given.TableCommand.{TableCommand}

pub answered : {T : Type 0} (command : TableCommand) (r : Result T TreeFault) (items : T → List ℕ) (text : T) (from : StoreFacts) (bytes : List ℕ) (out out_now : OutFacts)
    (status : Status) → r ≡ Ok text → IfOk r (λ t. AnswersWith command from (items t)) → bytes ≡ items text → Tells out out_now bytes Done status
    → IsAnswered command from out out_now status
answered command r items text from bytes out out_now status is told same tells = record {
  text = items text;
  is = subst (λ q. IfOk q (λ t. AnswersWith command from (items t))) is told;
  tells = subst (λ (b : List ℕ). Tells out out_now b Done status) same tells;
}

pub unanswered : {T : Type 0} (command : TableCommand) (r : Result T TreeFault) (fault : TreeFault) (from : StoreFacts) (out out_now : OutFacts) (status : Status) → r ≡ Err fault
    → IfErr r (RefusesWith command from) → Tells out out_now (tree_fault_text fault) (tree_fault_status fault) status → IsUnanswered command from out out_now status
unanswered {T} command r fault from out out_now status is refused tells = record {
  fault = fault;
  is = subst (λ (q : Result T TreeFault). IfErr q (RefusesWith command from)) is refused;
  tells = tells;
}
