-- What a crash leaves of a table file after a script was run on it, put together of what its calls say.
use Rattle.std.proofs.Common.{◌≡◌, ◌∙◌, ℕ, Bool, true, false, List, [], Some, Result, Ok, Err, ap, inl, inr, refl, subst, sym}
use Rattle.std.proofs.lemmas.Bool.{false≢true}
use Rattle.std.specs.Prelude.{IsOk, IsTrue}
use Rattle.ub_files.specs.Clock.{Endures, FolderClock, Lasts}
use Rattle.ub_files.specs.Files.{FilesFacts, IsLent}
use Rattle.ub_files.specs.declared.fault.OpenFault.{OpenFault}
use Rattle.ub_files.specs.declared.fault.OpenFault.TheVariants as opening
use Rattle.ub_load.specs.declared.fault.LoadFault.{LoadFault}
use Rattle.ub_load.specs.declared.fault.LoadFault.TheVariants as load
use Rattle.ub_script.specs.Output.{OutFacts, out_facts}
use Rattle.ub_script.specs.Script.{HasChangeWord}
use Rattle.ub_script.specs.declared.fault.RunFault.{RunFault}
use Rattle.ub_script.specs.declared.script.Summary.{Summary}
use Rattle.ub_table_file.proofs.KeptFacts.{says_done}
use Rattle.ub_table_file.specs.Commands.{IsRunOn, both_ended}
use Rattle.ub_table_file.specs.Crashes.{HoldsAsked, HoldsLeft, QueryLasts, SaysAllDone, SaysKept}
use Rattle.ub_table_file.specs.Status.{Tells, load_fault_status, open_fault_status, store_fault_status, tree_fault_status}
use Rattle.ub_table_file.specs.Queried.{IsShown}
use Rattle.ub_table_file.specs.declared.status.Status.{Status}
use Rattle.ub_table_file.specs.declared.status.Status.TheVariants as ended
use Rattle.ub_store.specs.Facts.{StoreFacts}
use Rattle.ub_store.specs.declared.fault.StoreFault.{StoreFault}
use Rattle.ub_store.specs.declared.fault.StoreFault.TheVariants as store
use Rattle.ub_tree.specs.declared.fault.TreeFault.{TreeFault}
use Rattle.ub_tree.specs.declared.fault.TreeFault.TheVariants as tree

-- ---- a status that says that all was done

-- whether a status says so
abbrev pub says : Status → Bool
says ended.Done = true
says ended.Refused = true
says ended.CommandLine = false
says ended.Data = false
says ended.Device = false
says ended.Memory = false

says_so : (status : Status) → SaysAllDone status → says status ≡ true
says_so status (inl done) = ap says done
says_so status (inr refused) = ap says refused

-- another one doesn't
pub never_so : (status : Status) → says status ≡ false → SaysAllDone status → ⊥
never_so status un done = false≢true (sym un ∙ says_so status done)

-- what is told with another status, or isn't written, ends with another one
pub never_done : (out out_now : OutFacts) (text : List ℕ) (wanted status : Status) → Tells out out_now text wanted status → says wanted ≡ false → SaysAllDone status → ⊥
never_done out out_now text wanted status (inl told) un done = false≢true (sym un ∙ ap says (sym told.0) ∙ says_so status done)
never_done out out_now text wanted status (inr broken) un done = false≢true (ap says (sym broken.0) ∙ says_so status done)

pub store_says : (fault : StoreFault) → says (store_fault_status fault) ≡ false
store_says store.NoPage = refl
store_says store.BadSize = refl
store_says store.Device = refl
store_says store.Memory = refl

pub open_says : (fault : OpenFault) → says (open_fault_status fault) ≡ false
open_says (opening.Store fault) = store_says fault
open_says opening.BadJournal = refl

pub tree_says : (fault : TreeFault) → says (tree_fault_status fault) ≡ false
tree_says tree.Memory = refl
tree_says tree.Failed = refl
tree_says tree.Full = refl
tree_says (tree.Store fault) = store_says fault
tree_says (tree.Page page fault) = refl

pub load_says : (fault : LoadFault) → says (load_fault_status fault) ≡ false
load_says load.NoHeader = refl
load_says (load.BadName column) = refl
load_says load.ColumnCount = refl
load_says (load.BadNumber row column) = refl
load_says (load.OutOfRange row column) = refl
load_says load.Csv = refl
load_says (load.Tree fault) = tree_says fault
load_says load.Memory = refl

-- one that says that all was done says that it is kept
says_kept : (result : Result Summary RunFault) (status : Status) → SaysAllDone status → SaysKept result status
says_kept (Ok summary) status done = done
says_kept (Err fault) status done = λ failed. false≢true (ap says (sym failed) ∙ says_so status done)

-- ---- a script on a table file

both_ok : (closing : Result (Unit {0}) TreeFault) (keeping : Result (Unit {0}) StoreFault) → IsOk closing → IsOk keeping → IsOk (both_ended closing keeping)
both_ok (Ok done) (Ok kept) closed also = refl
both_ok (Ok done) (Err fault) closed also = absurd (false≢true also)
both_ok (Err fault) keeping closed also = absurd (false≢true closed)

-- a script was run on a store, which was closed and kept
pub left_lasts : (path script : List ℕ) (store left : StoreFacts) (old : FilesFacts) (now : FolderClock) (out out_now : OutFacts) (status : Status)
    → (run : IsRunOn store script left out out_now status) → SaysAllDone status → (IsOk (both_ended run.ran.closing run.ran.keeping) → Lasts path left.pages old now)
    → Endures path (HoldsLeft store script out out_now status) old now
left_lasts path script store left old now out out_now status run done lasts =
    let ran = run.ran in
    let all = says_done ran.result ran.closing ran.keeping ran.mid out_now status ran.tells (says_kept ran.result status done) in
    λ honest c may told. (left, run, all.0, lasts (both_ok ran.closing ran.keeping all.0 all.1) honest c may told)

-- the store was lent by the table file
pub asked_lasts : (path script : List ℕ) (store : StoreFacts) (old mid : FilesFacts) (now : FolderClock) (out out_now : OutFacts) (status : Status) → IsLent old path store
    → (IsTrue old.honest → IsTrue mid.honest) → Endures path (HoldsLeft store script out out_now status) mid now
    → Endures path (HoldsAsked path script old out out_now status) old now
asked_lasts path script store old mid now out out_now status lent still lasts = λ honest c may told. (store, lent, lasts (still honest) c may told)

-- ---- statements of the command line

-- what is shown ends as the run did, where that says that all was done
shown_done : (text : List ℕ) (failed : ℕ) (of_run : Status) (out out_now notes notes_now : OutFacts) (status : Status) → IsShown text failed of_run out out_now notes notes_now status
    → SaysAllDone status → SaysAllDone of_run
shown_done text failed of_run out out_now notes notes_now status (inl (none, inl shown)) done = subst SaysAllDone shown.0 done
shown_done text failed of_run out out_now notes notes_now status (inl (none, inr broken)) done = absurd (false≢true (ap says (sym broken.0) ∙ says_so status done))
shown_done text failed of_run out out_now notes notes_now status (inr (some, shown)) done = absurd (false≢true (ap says (sym shown.0) ∙ says_so status done))

-- statements were run on a table file, into memory, and their text was shown
pub queried_lasts : (table statements : List ℕ) (old : FilesFacts) (now : FolderClock) (before after : OutFacts) (text : List ℕ) (failed : ℕ) (of_run : Status)
    (out out_now notes notes_now : OutFacts) (status : Status) → before ≡ out_facts (Some []) 0 → after ≡ out_facts (Some text) failed
    → IsShown text failed of_run out out_now notes notes_now status
    → (HasChangeWord statements → SaysAllDone of_run → Endures table (HoldsAsked table statements old before after of_run) old now)
    → SaysAllDone status → QueryLasts table statements old out out_now notes notes_now status now
queried_lasts table statements old now before after text failed of_run out out_now notes notes_now status none all shown lasts done = λ has honest c may told.
    let ended = shown_done text failed of_run out out_now notes notes_now status shown done in
    record { text = text; failed = failed; ended = of_run; asked = rw (none, all) at (lasts has ended honest c may told); shown = shown }
