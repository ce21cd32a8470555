-- What appending rows does on the way: to a tree, to a store, and to the table file that lent it.
use Rattle.std.specs.Prelude.{◌⊎◌, ◌≡◌, ℕ, List, length, nat_lt, IsOk}
use Rattle.ub_files.specs.Files.{FilesFacts, HasPages, Held, IsLent}
use Rattle.ub_load.specs.Appending.{AreRowsOf}
use Rattle.ub_script.specs.Output.{OutFacts}
use Rattle.ub_table_file.specs.Appended.{HasAppended, HasClosed, HasPut, IsNotPut, IsUnput}
use Rattle.ub_table_file.specs.Commands.{IsKept}
use Rattle.ub_table_file.specs.declared.status.Status.{Status}
use Rattle.ub_store.specs.Facts.{StoreFacts}
use Rattle.ub_table.specs.declared.row.Row.{Row}
use Rattle.ub_tree.specs.View.{TreeView}

-- ---- what was done

-- a tree into which so many rows were put was closed, and what is left was kept where there were any and the closing wasn't refused
abbrev pub KeepsCount : List ℕ → ℕ → TreeView → FilesFacts → FilesFacts → OutFacts → OutFacts → Status → Type 0
KeepsCount table count t old new out out_now status =
    (left : StoreFacts) × (closed : HasClosed t count left out out_now status) × IsKept (nat_lt 0 count) table left.pages closed.closing closed.keeping old new

-- these rows were put into a tree, which was then closed so
abbrev pub KeepsPut : List ℕ → List Row → TreeView → FilesFacts → FilesFacts → OutFacts → OutFacts → Status → Type 0
KeepsPut table rows t old new out out_now status =
    (left : StoreFacts) × (put : HasPut t rows left out out_now status)
    × IsKept (nat_lt 0 (length rows)) table left.pages put.closed.closing put.closed.keeping old new

-- or a fault ended that, and then no file was changed
abbrev pub AppendsRows : List ℕ → List Row → TreeView → FilesFacts → FilesFacts → OutFacts → OutFacts → Status → Type 0
AppendsRows table rows t old new out out_now status =
    KeepsPut table rows t old new out out_now status ⊎ (IsUnput t rows out out_now status × (new ≡ old))

-- the same of the rows of a text, or they weren't taken from it
abbrev pub AppendsTree : List ℕ → List ℕ → TreeView → FilesFacts → FilesFacts → OutFacts → OutFacts → Status → Type 0
AppendsTree table text t old new out out_now status =
    ((rows : List Row) × AreRowsOf text t.schema t.next rows × KeepsPut table rows t old new out out_now status)
    ⊎ (IsNotPut t text out out_now status × (new ≡ old))

-- ---- what a crash leaves

-- where it is told, this is the pages that are left of a tree into which so many rows were put
abbrev pub HoldsCount : TreeView → ℕ → OutFacts → OutFacts → Status → Held → Type 0
HoldsCount t count out out_now status held =
    (left : StoreFacts) × (closed : HasClosed t count left out out_now status) × IsOk closed.closing × HasPages held left.pages

-- into which these rows were put
abbrev pub HoldsPut : TreeView → List Row → OutFacts → OutFacts → Status → Held → Type 0
HoldsPut t rows out out_now status held =
    (left : StoreFacts) × (put : HasPut t rows left out out_now status) × IsOk put.closed.closing × HasPages held left.pages

-- those of a text
abbrev pub HoldsRows : TreeView → List ℕ → OutFacts → OutFacts → Status → Held → Type 0
HoldsRows t text out out_now status held = (rows : List Row) × AreRowsOf text t.schema t.next rows × HoldsPut t rows out out_now status held

-- of a store to which they were appended
abbrev pub HoldsMore : StoreFacts → List ℕ → OutFacts → OutFacts → Status → Held → Type 0
HoldsMore store text out out_now status held =
    (left : StoreFacts) × (appended : HasAppended store text left out out_now status) × IsOk appended.put.closed.closing × HasPages held left.pages

-- of that of a table file
abbrev pub HoldsText : List ℕ → List ℕ → FilesFacts → OutFacts → OutFacts → Status → Held → Type 0
HoldsText table text old out out_now status held = (store : StoreFacts) × IsLent old table store × HoldsMore store text out out_now status held
