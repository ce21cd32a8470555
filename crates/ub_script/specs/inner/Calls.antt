-- What the parts of a run promise each other: several statements, one of them, a command, and a query.
use Rattle.std.specs.Prelude.{◌≡◌, ℕ, Bool, true, false, List, Result, Ok, IfErr, IfOk, IsErrOf, OnErr}
use Rattle.ub_lexer.specs.declared.token.Token.{Token}
use Rattle.ub_parser.specs.Outcome.{Command}
use Rattle.ub_query.specs.Shape.{Asked}
use Rattle.ub_script.specs.Basis.{Basis, AreSomeOf, IsAskedReply, IsBasisOf, IsCommandEnd, IsReply}
use Rattle.ub_script.specs.Faults.{Runs, RunsReading, failures_after}
use Rattle.ub_script.specs.Loop.{Fetches, Makes, OnEach, Replies, Stops}
use Rattle.ub_script.specs.Output.{OutFacts}
use Rattle.ub_script.specs.Run.{IsAnswer, IsEnded, Ran}
use Rattle.ub_script.specs.Script.{IsAsking, IsChange}
use Rattle.ub_script.specs.Text.{Reply}
use Rattle.ub_script.specs.declared.fault.RunFault.{RunFault}
use Rattle.ub_script.specs.declared.fault.RunFault.TheVariants.{Write}
use Rattle.ub_script.specs.declared.script.Answer.{Answer}
use Rattle.ub_tree.specs.View.{TreeView}

-- one statement or more were to be run, with this answer: on each basis of the tree's the first of these says what was written where all
-- were answered, the second where a write failed, which is counted; and the tree was run, and only read where no change was asked
pub record RunsStatements {A : Type 0} (Done : Basis → A → Basis → List ℕ → ℕ → Type 0) (Cut : Basis → Basis → List ℕ → ℕ → Type 0)
    (Asks : Type 0) (old new : TreeView) (result : Result A RunFault) (out out_now : OutFacts) : Type 0 where
  pub done : OnEach old (λ basis. IfOk result (λ x. Ran (Done basis x) (IsBasisOf new) false out out_now old.trace.fetches new.trace.fetches))
  pub write : OnEach old (λ basis. IsErrOf result Write → Ran (Cut basis) (IsBasisOf new) true out out_now old.trace.fetches new.trace.fetches)
  pub failures : out_now.failures ≡ failures_after result out.failures
  pub effect : Runs old new result
  pub asked : Asks → RunsReading old new result

-- one statement was to be answered, with this answer: on each basis of the tree's the first of these says which reply was made, the
-- second how a fault ended it, which is never a failed write; and the tree was run, and only read where no change was asked
pub record AnswersStatement (Is : Basis → Reply → Basis → Type 0) (Ends : Basis → RunFault → ℕ → Basis → Type 0) (Asks : Type 0)
    (old new : TreeView) (result : Result Answer RunFault) : Type 0 where
  pub answer : OnEach old (λ basis. IfOk result (λ a. Replies (Is basis) a.text.items a.is_refused old new))
  pub stopped : OnEach old (λ basis. IfErr result (λ fault. Stops (Ends basis fault) old new))
  pub no_write : ¬ (IsErrOf result Write)
  pub effect : Runs old new result
  pub asked : Asks → RunsReading old new result

-- so was the statement of these tokens
abbrev pub AnswersTokens : List ℕ → List Token → TreeView → TreeView → Result Answer RunFault → Type 0
AnswersTokens source tokens old new result =
    AnswersStatement (λ basis. IsAnswer basis source tokens) (λ basis. IsEnded basis source tokens) (IsAsking old.schema source tokens)
    old new result

-- so was one that is accepted and says this
abbrev pub AnswersCommand : Command → TreeView → TreeView → Result Answer RunFault → Type 0
AnswersCommand c old new result =
    AnswersStatement (λ basis. IsReply basis (Ok c)) (λ basis. IsCommandEnd basis c) (¬ IsChange c) old new result

-- a query was to be explained, or answered, with this answer: on each basis of the tree's a reply was made, or some of its pages were
-- fetched; no write failed, and the tree was only read
pub record AnswersAsked (is_explained : Bool) (q : Asked) (old new : TreeView) (result : Result Answer RunFault) : Type 0 where
  pub answer : OnEach old (λ basis. IfOk result (λ a.
      Makes (IsAskedReply is_explained basis q) a.text.items a.is_refused old.trace.fetches new.trace.fetches))
  pub stopped : OnEach old (λ basis. OnErr result (Fetches (AreSomeOf is_explained basis q) old.trace.fetches new.trace.fetches))
  pub no_write : ¬ (IsErrOf result Write)
  pub effect : RunsReading old new result
