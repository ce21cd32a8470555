-- What a crash leaves of a table file while a script is run on it, put together of what its calls say.
use Rattle.std.proofs.Common.{◌≡◌, ℕ, List, [], Some, Result, Ok, ap, refl, subst, sym}
use Rattle.std.specs.Prelude.{IsOk, IsTrue}
use Rattle.ub_files.specs.Clock.{FolderClock, IsSameBut, IsSameFolder, MayHold, Runs}
use Rattle.ub_files.specs.Files.{FilesFacts, HasPages, IsLent}
use Rattle.ub_script.specs.Output.{OutFacts, out_facts}
use Rattle.ub_table_file.specs.Commands.{HasRead, IsRunOn}
use Rattle.ub_table_file.specs.Crashes.{HoldsAsked, HoldsLeft, HoldsQueried, HoldsRun, QueriesSafely, RunsSafely}
use Rattle.ub_table_file.specs.Queried.{IsShown}
use Rattle.ub_table_file.specs.declared.status.Status.{Status}
use Rattle.ub_table_file.proofs.GoesFacts.{runs_as, runs_same, runs_then}
use Rattle.ub_store.specs.Facts.{StoreFacts}
use Rattle.ub_tree.specs.declared.fault.TreeFault.{TreeFault}
use Rattle.ub_words.specs.declared.words.Asked.TheVariants as asked

-- files are as honest as they were
pub still_honest : (old new : FilesFacts) → new.honest ≡ old.honest → IsTrue old.honest → IsTrue new.honest
still_honest old new same honest = subst IsTrue (sym same) honest

pub read_honest : (path text : List ℕ) (old mid : FilesFacts) → HasRead path text old mid → IsTrue old.honest → IsTrue mid.honest
read_honest path text old mid read = still_honest old mid (ap (λ (f : FilesFacts). f.honest) read.reads.same)

abbrev done : Unit {0} → Result (Unit {0}) TreeFault
done made = Ok made

-- a text was read, and a script run on a table file
pub ran_safely : (table script text : List ℕ) (old mid : FilesFacts) (was then now : FolderClock) (out out_now : OutFacts) (status : Status) → HasRead script text old mid
    → Runs IsSameFolder old was then → Runs (IsSameBut table (HoldsAsked table text mid out out_now status)) mid then now
    → Runs (RunsSafely table script old out out_now status) old was now
ran_safely table script text old mid was then now out out_now status read one two =
    runs_then table (HoldsRun table script old out out_now status) old mid was then now (read_honest script text old mid read) one
    (runs_as table (HoldsRun table script old out out_now status) (HoldsAsked table text mid out out_now status) mid then now
    (λ held (store, lent, (left, run, closed, holds)). record {
      asked = text;
      mid = mid;
      store = store;
      left = left;
      read = read;
      lent = lent;
      run = run;
      closed = closed;
      holds = holds;
    })
    two)

pub run_same : (table script : List ℕ) (old : FilesFacts) (was now : FolderClock) (out out_now : OutFacts) (status : Status) → Runs IsSameFolder old was now
    → Runs (RunsSafely table script old out out_now status) old was now
run_same table script old was now out out_now status runs = runs_same table (HoldsRun table script old out out_now status) old was now runs

-- a tree was closed, and what is left kept or not
pub closed_same : (path : List ℕ) (closing : Result (Unit {0}) TreeFault) (left : StoreFacts) (old : FilesFacts) (was now : FolderClock) → Runs IsSameFolder old was now
    → Runs (IsSameBut path (λ held. IsOk closing × HasPages held left.pages)) old was now
closed_same path closing left old was now runs = runs_same path (λ held. IsOk closing × HasPages held left.pages) old was now runs

pub closed_kept : (path : List ℕ) (left : StoreFacts) (old : FilesFacts) (was now : FolderClock) → Runs (MayHold path left.pages) old was now
    → Runs (IsSameBut path (λ held. IsOk (done tt) × HasPages held left.pages)) old was now
closed_kept path left old was now runs =
    runs_as path (λ held. IsOk (done tt) × HasPages held left.pages) (λ held. HasPages held left.pages) old was now (λ held holds. (refl, holds)) runs

-- a script was run on a store
pub left_safely : (path script : List ℕ) (store left : StoreFacts) (old : FilesFacts) (was now : FolderClock) (out out_now : OutFacts) (status : Status)
    → (run : IsRunOn store script left out out_now status) → Runs (IsSameBut path (λ held. IsOk run.ran.closing × HasPages held left.pages)) old was now
    → Runs (IsSameBut path (HoldsLeft store script out out_now status)) old was now
left_safely path script store left old was now out out_now status run runs =
    runs_as path (HoldsLeft store script out out_now status) (λ held. IsOk run.ran.closing × HasPages held left.pages) old was now (λ held holds. (left, run, holds.0, holds.1)) runs

-- a table file was opened, and a script run on its store
pub asked_safely : (path script : List ℕ) (store : StoreFacts) (old mid : FilesFacts) (was then now : FolderClock) (out out_now : OutFacts) (status : Status) → IsLent old path store
    → (IsTrue old.honest → IsTrue mid.honest) → Runs IsSameFolder old was then → Runs (IsSameBut path (HoldsLeft store script out out_now status)) mid then now
    → Runs (IsSameBut path (HoldsAsked path script old out out_now status)) old was now
asked_safely path script store old mid was then now out out_now status lent honest one two =
    runs_then path (HoldsAsked path script old out out_now status) old mid was then now honest one
    (runs_as path (HoldsAsked path script old out out_now status) (HoldsLeft store script out out_now status) mid then now (λ held left. (store, lent, left)) two)

pub asked_same : (path script : List ℕ) (old : FilesFacts) (was now : FolderClock) (out out_now : OutFacts) (status : Status) → Runs IsSameFolder old was now
    → Runs (IsSameBut path (HoldsAsked path script old out out_now status)) old was now
asked_same path script old was now out out_now status runs = runs_same path (HoldsAsked path script old out out_now status) old was now runs

-- ---- a table that is made anew

-- statements were run on a table file, into memory, and their text was shown
pub queried_safely : (table statements : List ℕ) (old : FilesFacts) (was now : FolderClock) (before after : OutFacts) (text : List ℕ) (failed : ℕ) (of_run : Status)
    (out out_now notes notes_now : OutFacts) (status : Status) → before ≡ out_facts (Some []) 0 → after ≡ out_facts (Some text) failed
    → IsShown text failed of_run out out_now notes notes_now status → Runs (IsSameBut table (HoldsAsked table statements old before after of_run)) old was now
    → Runs (QueriesSafely table statements old out out_now notes notes_now status) old was now
queried_safely table statements old was now before after text failed of_run out out_now notes notes_now status none all shown runs =
    runs_as table (HoldsQueried table statements old out out_now notes notes_now status) (HoldsAsked table statements old before after of_run) old was now
    (λ held asked. record { text = text; failed = failed; ended = of_run; asked = rw (none, all) at asked; shown = shown }) runs
