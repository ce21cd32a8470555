-- What running a script on an opened tree does on the way to the table file that lent its store.
use Rattle.std.specs.Prelude.{ℕ, Bool, List, IsOk, IsTrue}
use Rattle.ub_files.specs.Clock.{FolderClock, IsSameBut, Lasts, Runs}
use Rattle.ub_files.specs.Files.{FilesFacts, HasPages}
use Rattle.ub_script.specs.Output.{OutFacts}
use Rattle.ub_table_file.specs.Commands.{HasRunTree, IsKept, both_ended}
use Rattle.ub_table_file.specs.declared.status.Status.{Status}
use Rattle.ub_store.specs.Facts.{StoreFacts}
use Rattle.ub_tree.specs.View.{TreeView}

-- a script was run on a tree, which was closed, and what is left was kept where that was to be done; what a crash leaves, and what lasts
abbrev pub RunsTree : Bool → List ℕ → List ℕ → TreeView → FilesFacts → FilesFacts → FolderClock → FolderClock → OutFacts → OutFacts → Status → Type 0
RunsTree changes table script t old new was now out out_now status =
    (left : StoreFacts) × (ran : HasRunTree t script left out out_now status)
    × IsKept changes table left.pages ran.closing ran.keeping old new
    × Runs (IsSameBut table (λ held. IsOk ran.closing × HasPages held left.pages)) old was now
    × (IsTrue changes → IsOk (both_ended ran.closing ran.keeping) → Lasts table left.pages old now)
