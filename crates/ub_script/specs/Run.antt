-- How far a script runs: to which of its statements there are replies, what is written, how many region pages are fetched, and what
-- is left.
use Rattle.std.specs.Prelude.{◌≡◌, ◌≢◌, ◌⊎◌, ◌<◌, ◌≤◌, ◌+◌, ◌++◌, ℕ, suc, Bool, true, false, List, [], ◌∷◌, Some, Ok, Result, IfErr, IfOk, IsErrOf, length, slice_get, slice_range, take}
use Rattle.ub_exec.specs.Stand.{Stand}
use Rattle.ub_exec.specs.Visits.{fetches_then}
use Rattle.ub_lexer.specs.Tokens.{AreTokens}
use Rattle.ub_lexer.specs.Statements.{AreStatements}
use Rattle.ub_lexer.specs.declared.token.Token.{Token}
use Rattle.ub_load.specs.LoadedTable.{IsLoaded}
use Rattle.ub_load.specs.LoadedTree.{loaded_regions}
use Rattle.ub_parser.specs.Outcome.{Command}
use Rattle.ub_tree.specs.View.{TreeView}
use Rattle.ub_script.specs.Basis.{Basis, on_stand, schema_of, IsBasisOf, IsCommandEnd, IsFaultOver, IsReply, IsRestOf, Stands}
use Rattle.ub_script.specs.Faults.{Runs, RunsReading, failures_after}
use Rattle.ub_script.specs.Output.{OutFacts, HasTaken, IsFrontOf}
use Rattle.ub_script.specs.Script.{Outcome, IsTheOutcome, OnlyAsks}
use Rattle.ub_script.specs.Text.{Reply, texts_of, pages_of, refused_in}
use Rattle.ub_script.specs.declared.fault.RunFault.{RunFault}
use Rattle.ub_script.specs.declared.fault.RunFault.TheVariants.{Memory, Write}
use Rattle.ub_script.specs.declared.script.Summary.{Summary}
use Rattle.ub_table.specs.Table.{Table}
use Rattle.ub_table.specs.declared.axes.Axes.{Axes}

-- a range of tokens, not empty
abbrev pub IsRange : List Token → ℕ × ℕ → Type 0
IsRange tokens range = (range.0 < range.1) × (range.1 ≤ length tokens)

-- ---- the replies to the statements of a script

-- the reply to the statement of these tokens, and what the next one rests on
pub record IsAnswer (basis : Basis) (source : List ℕ) (tokens : List Token) (r : Reply) (now : Basis) : Type 0 where
  pub outcome : Outcome
  pub heard : IsTheOutcome (schema_of basis) source tokens outcome
  pub stands : Stands basis
  pub reply_is : IsReply basis outcome r now

-- the statement of these tokens is accepted, and has no reply, since a fault ended it; so many pages were fetched for it. On a table that
-- is one that such a statement can meet there; over a tree that has failed it is that, unless memory was refused
pub record IsUnanswered (basis : Basis) (source : List ℕ) (tokens : List Token) (fault : RunFault) (pages : ℕ) (now : Basis)
    : Type 0 where
  pub says : Command
  pub heard : IsTheOutcome (schema_of basis) source tokens (Ok says)
  pub ended : IsCommandEnd basis says fault pages now
  pub failed : IsFaultOver basis says fault

-- a fault ended the statement of these tokens: want of memory, before any page; or the statement is accepted
abbrev pub IsEnded : Basis → List ℕ → List Token → RunFault → ℕ → Basis → Type 0
IsEnded basis source tokens fault pages now =
    ((fault ≡ Memory) × (pages ≡ 0) × (now ≡ basis)) ⊎ IsUnanswered basis source tokens fault pages now

-- the replies to the statements at these ranges of the tokens, in order, each resting on what those before it left
abbrev pub AreAnswers : Basis → List ℕ → List Token → List (ℕ × ℕ) → List Reply → Basis → Type 0
AreAnswers basis source tokens [] [] now = now ≡ basis
AreAnswers basis source tokens [] (r ∷ replies) now = ⊥
AreAnswers basis source tokens (range ∷ ranges) [] now = ⊥
AreAnswers basis source tokens (range ∷ ranges) (r ∷ replies) now =
    (mid : Basis) × IsAnswer basis source (slice_range tokens range.0 range.1) r mid
    × AreAnswers mid source tokens ranges replies now

-- these are the replies to the first statements at these ranges, and so many statements are left
abbrev pub FirstAt : Basis → List ℕ → List Token → List (ℕ × ℕ) → List Reply → ℕ → Basis → Type 0
FirstAt basis source tokens ranges replies left now =
    (length replies + left ≡ length ranges) × AreAnswers basis source tokens (take (length replies) ranges) replies now

-- these are the replies to the first ones, the next one was ended by a fault with so many pages fetched for it, and so many are
-- left after it
abbrev pub EndedAt : Basis → List ℕ → List Token → List (ℕ × ℕ) → RunFault → List Reply → ℕ → ℕ → Basis → Type 0
EndedAt basis source tokens ranges fault replies left pages now =
    (mid : Basis) × FirstAt basis source tokens ranges replies (suc left) mid
    × ((range : ℕ × ℕ) × (slice_get ranges (length replies) ≡ Some range)
    × IsEnded mid source (slice_range tokens range.0 range.1) fault pages now)

-- the same of the statements of a script
pub record FirstOver (basis : Basis) (script : List ℕ) (replies : List Reply) (left : ℕ) (now : Basis) : Type 0 where
  pub tokens : List Token
  pub ranges : List (ℕ × ℕ)
  pub tokens_are : AreTokens script tokens
  pub ranges_are : AreStatements tokens ranges
  pub first : FirstAt basis script tokens ranges replies left now

pub record EndedOver (basis : Basis) (script : List ℕ) (fault : RunFault) (replies : List Reply) (left pages : ℕ) (now : Basis)
    : Type 0 where
  pub tokens : List Token
  pub ranges : List (ℕ × ℕ)
  pub tokens_are : AreTokens script tokens
  pub ranges_are : AreStatements tokens ranges
  pub ended : EndedAt basis script tokens ranges fault replies left pages now

-- where the table of a CSV text stands: in the regions of the tree that it is loaded into
abbrev pub loaded_stand : ℕ → ℕ → Table → Stand
loaded_stand dims page_rows table =
    record { table = table; regions = loaded_regions dims page_rows table.rows; next = length table.rows + 1 }

-- the same on the table of a CSV text
abbrev pub FirstIn : List ℕ → Axes → ℕ → List ℕ → List ℕ → List Reply → ℕ → Basis → Type 0
FirstIn text axes page_rows name script replies left now =
    (table : Table) × IsLoaded text axes page_rows name table.schema table.rows
    × FirstOver (on_stand (loaded_stand axes.dims page_rows table)) script replies left now

abbrev pub EndedIn : List ℕ → Axes → ℕ → List ℕ → List ℕ → RunFault → List Reply → ℕ → ℕ → Basis → Type 0
EndedIn text axes page_rows name script fault replies left pages now =
    (table : Table) × IsLoaded text axes page_rows name table.schema table.rows
    × EndedOver (on_stand (loaded_stand axes.dims page_rows table)) script fault replies left pages now

-- ---- the ends of a run, by what is known of the replies to its first statements; each with what is left

abbrev pub summary_of : List Reply → Summary
summary_of replies = record { statements = length replies; refused = refused_in replies }

-- all statements were answered
abbrev pub IsWhole : (List Reply → ℕ → Basis → Type 0) → Summary → Basis → List ℕ → ℕ → Type 0
IsWhole First summary now bytes pages =
    (replies : List Reply) × First replies 0 now × (bytes ≡ texts_of replies) × (pages ≡ pages_of replies)
    × (summary ≡ summary_of replies)

-- the first statements were answered, and nothing was written for the next one, which a fault ended
abbrev pub IsStopped : (List Reply → ℕ → ℕ → Basis → Type 0) → Basis → List ℕ → ℕ → Type 0
IsStopped Ended now bytes pages =
    (replies : List Reply) × (left : ℕ) × (more : ℕ) × Ended replies left more now × (bytes ≡ texts_of replies)
    × (pages ≡ pages_of replies + more)

-- the first statements were answered, and of the text of the next one, which was done too, a front was written, not all of it
abbrev pub IsCutOff : (List Reply → ℕ → Basis → Type 0) → Basis → List ℕ → ℕ → Type 0
IsCutOff First now bytes pages =
    (replies : List Reply) × (next : Reply) × (left : ℕ) × (front : List ℕ) × First (replies ++ next ∷ []) left now
    × IsFrontOf front next.text × (bytes ≡ texts_of replies ++ front) × (pages ≡ pages_of (replies ++ next ∷ []))

-- bytes were taken by an output and pages were fetched of which this holds, and of what is left that; and a write failed or none did
abbrev pub Ran : (Basis → List ℕ → ℕ → Type 0) → (Basis → Type 0) → Bool → OutFacts → OutFacts → ℕ → ℕ → Type 0
Ran Are Left failed old new fetches fetches_now =
    (now : Basis) × (bytes : List ℕ) × (pages : ℕ) × Are now bytes pages × Left now × HasTaken bytes failed old new
    × (fetches_now ≡ fetches_then fetches pages)

-- memory was refused before the first statement: nothing was written, and the tree is as it was
abbrev pub IsUnbegun : TreeView → TreeView → RunFault → OutFacts → OutFacts → Type 0
IsUnbegun t now fault out out_now = (fault ≡ Memory) × (now ≡ t) × (out_now ≡ out)

-- what a run does to a tree and to an output, on each basis of the tree's: on any tree, and where it is sound, on its table, which
-- each statement leaves to the next. Without a fault the text of each statement is written, and for each query that is answered,
-- and each DELETE, its pages are fetched. After a failed write a front of the next text stands, that statement was done, and nothing
-- is written after it. After another fault the first texts stand, and nothing of the next one; a fault of the tree comes of an
-- accepted statement alone. A script that only asks reads the tree and no more
pub record IsRun (t now : TreeView) (script : List ℕ) (result : Result Summary RunFault) (out out_now : OutFacts)
    : Type 0 where
  pub done : (basis : Basis) → IsBasisOf t basis → IfOk result (λ summary.
      Ran (IsWhole (FirstOver basis script) summary) (IsBasisOf now) false out out_now t.trace.fetches now.trace.fetches)
  pub cut : (basis : Basis) → IsBasisOf t basis → IsErrOf result Write
      → Ran (IsCutOff (FirstOver basis script)) (IsBasisOf now) true out out_now t.trace.fetches now.trace.fetches
  pub stopped : (basis : Basis) → IsBasisOf t basis → IfErr result (λ fault. fault ≢ Write
      → IsUnbegun t now fault out out_now
      ⊎ Ran (IsStopped (EndedOver basis script fault)) (IsRestOf now) false out out_now t.trace.fetches now.trace.fetches)
  pub failures : out_now.failures ≡ failures_after result out.failures
  pub effect : Runs t now result
  pub asked : OnlyAsks t.schema script → RunsReading t now result

-- ---- what is written where a script is run on the table of a CSV text

-- to its end
abbrev pub IsDone : List ℕ → Axes → ℕ → List ℕ → List ℕ → Summary → List ℕ → Type 0
IsDone text axes page_rows name script summary bytes =
    (now : Basis) × (pages : ℕ) × IsWhole (FirstIn text axes page_rows name script) summary now bytes pages

-- up to a statement that this fault ended
abbrev pub IsBegun : List ℕ → Axes → ℕ → List ℕ → List ℕ → RunFault → List ℕ → Type 0
IsBegun text axes page_rows name script fault bytes =
    (now : Basis) × (pages : ℕ) × IsStopped (EndedIn text axes page_rows name script fault) now bytes pages

-- up to a failed write
abbrev pub IsBroken : List ℕ → Axes → ℕ → List ℕ → List ℕ → List ℕ → Type 0
IsBroken text axes page_rows name script bytes =
    (now : Basis) × (pages : ℕ) × IsCutOff (FirstIn text axes page_rows name script) now bytes pages
