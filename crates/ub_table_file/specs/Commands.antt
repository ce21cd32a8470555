-- What the commands on a table file leave of it, of the files that they read, and what they tell; and how a tree is closed, and a table file made.
use Rattle.std.specs.Prelude.{◌≡◌, ◌⊎◌, ◌↔◌, ◌++◌, ℕ, Bool, List, Result, Ok, Err, codes, decimal, false, true, IfErr, IsTrue, OnErr, OnOk, IsOk}
use Rattle.ub_script.specs.Output.{OutFacts}
use Rattle.ub_script.specs.Faults.{counted}
use Rattle.ub_script.specs.Run.{IsRun}
use Rattle.ub_script.specs.Script.{HasChangeWord, OnlyAsks}
use Rattle.ub_script.specs.declared.fault.RunFault.{RunFault}
use Rattle.ub_script.specs.declared.fault.RunFault.TheVariants as ran
use Rattle.ub_script.specs.declared.script.Summary.{Summary}
use Rattle.ub_store.specs.Facts.{StoreFacts, IsHonest}
use Rattle.ub_store.specs.declared.fault.StoreFault.{StoreFault}
use Rattle.ub_store.specs.declared.fault.StoreFault.TheVariants as store
use Rattle.ub_table.specs.declared.schema.Schema.{Schema}
use Rattle.ub_tree.specs.Closing.{IsCloseFault, header_of}
use Rattle.ub_tree.specs.Effects.{written_store}
use Rattle.ub_tree.specs.Faults.{tree_fault}
use Rattle.ub_tree.specs.Opened.{IsOpened, IsOpenFault, IsPassing}
use Rattle.ub_tree.specs.Placed.{Placed}
use Rattle.ub_tree.specs.Stored.{AreSoundPages}
use Rattle.ub_tree.specs.View.{TreeView, IsSound}
use Rattle.ub_tree.specs.declared.fault.TreeFault.{TreeFault}
use Rattle.ub_tree.specs.declared.fault.TreeFault.TheVariants.{Failed}
use Rattle.ub_writing.specs.Closing.{IsClosed, IsSaved, IsUnclosed}
use Rattle.ub_table_file.specs.Status.{Tells, load_fault_status, load_fault_text, open_fault_status, open_fault_text, store_fault_status, store_fault_text, summary_status, tree_fault_status, tree_fault_text}
use Rattle.ub_files.specs.Clock.{FolderClock, IsSameBut, Lasts, Runs}
use Rattle.ub_files.specs.Files.{FilesFacts, ChangesFile, HasPages, IsLent, IsText, IsTorn, KeepsFile, MakesFile, OpensFile, ReadsFile}
use Rattle.ub_files.specs.declared.fault.OpenFault.{OpenFault}
use Rattle.ub_files.specs.declared.fault.OpenFault.TheVariants as opening
use Rattle.ub_table_file.specs.declared.status.Status.{Status}
use Rattle.ub_table_file.specs.declared.status.Status.TheVariants.{Done, CommandLine, Device, Memory}

-- ---- reading a file

-- the file at this path was read, once, and this is its text
pub record HasRead (path text : List ℕ) (old new : FilesFacts) : Type 0 where
  pub text_is : IsText (old.holds path) text
  pub reads : ReadsFile {A = List ℕ} path old new (Ok text)

-- it was not, and that was told
pub record IsUnread (path : List ℕ) (old new : FilesFacts) (out out_now : OutFacts) (status : Status) : Type 0 where
  pub fault : StoreFault
  pub is : (fault ≡ store.Device) ⊎ (fault ≡ store.Memory)
  pub reads : ReadsFile {A = List ℕ} path old new (Err fault)
  pub tells : Tells out out_now (store_fault_text fault) (store_fault_status fault) status

-- ---- closing a tree, and keeping its table

-- a tree was closed, and its store is left so: that of a sound tree is a closed table; that of one that was changed, sound or not, has
-- as many pages as before, which all last, and, where it is honest, a clean header with the tree's counts on the first, and each other as
-- it was; one that was not changed is as it was, and so is that of a tree that has failed; and where the closing is refused over an
-- honest store, the first page is as it was, unless all others last
pub record Closes {A : Type 0} (t : TreeView) (left : StoreFacts) (result : Result A TreeFault) : Type 0 where
  pub store_is : left ≡ written_store result t.store left
  pub closed : IsSound t → OnOk result (IsHonest left × AreSoundPages left.pages t.schema t.placed t.next)
  pub saved : IsTrue t.is_changed → OnOk result (IsSaved t.store left × (IsHonest t.store → IsClosed (header_of t) t.store left))
  pub unchanged : t.is_changed ≡ false → t.is_failed ≡ false → IsOk result × (left ≡ t.store)
  pub failed : IsTrue t.is_failed → (result ≡ Err Failed) × (left ≡ t.store)
  pub unclosed : IsHonest t.store → OnErr result (IsUnclosed t.store left)
  pub refused : IfErr result (IsCloseFault t)

-- what became of the pages that are left after a closing: they were kept in the table file of this path, where that was to be done and
-- the closing wasn't refused; else no file was changed
abbrev pub IsKept : Bool → List ℕ → List (List ℕ) → Result (Unit {0}) TreeFault → Result (Unit {0}) StoreFault → FilesFacts → FilesFacts → Type 0
IsKept true path left (Ok done) keeping old new = KeepsFile path left old new keeping
IsKept true path left (Err fault) keeping old new = (keeping ≡ Ok tt) × (new ≡ old)
IsKept false path left closing keeping old new = (keeping ≡ Ok tt) × (new ≡ old)

-- how a closing and the keeping after it have ended together
abbrev pub both_ended : Result (Unit {0}) TreeFault → Result (Unit {0}) StoreFault → Result (Unit {0}) TreeFault
both_ended (Err fault) keeping = Err fault
both_ended (Ok done) (Err fault) = Err (tree_fault fault)
both_ended (Ok done) (Ok kept) = Ok kept

-- a tree was closed, and what is left was kept at this path, or not; a crash leaves the path to hold what it held, or, where the closing was
-- done, what is left; and where that was kept, each crash from then on leaves that. A keeping is refused only as the file failed
pub record ClosesFile (changes : Bool) (path : List ℕ) (old new : FilesFacts) (was now : FolderClock) (t : TreeView) (result : Result (Unit {0}) TreeFault) : Type 0 where
  pub left : StoreFacts
  pub closing : Result (Unit {0}) TreeFault
  pub keeping : Result (Unit {0}) StoreFault
  pub closes : Closes t left closing
  pub kept : IsKept changes path left.pages closing keeping old new
  pub ended : result ≡ both_ended closing keeping
  pub faults : IfErr keeping (λ fault. fault ≡ store.Device)
  pub crash : Runs (IsSameBut path (λ held. IsOk closing × HasPages held left.pages)) old was now
  pub lasts : IsTrue changes → IsOk result → Lasts path left.pages old now

-- ---- a table file that is made

-- the line for a table that was made: how many rows and regions it has
abbrev pub loaded_line : ℕ → ℕ → List ℕ
loaded_line rows regions = codes "-- rows " ++ (decimal rows ++ (codes ", regions " ++ (decimal regions ++ codes "\n")))

-- why a table file isn't made
abbrev pub IsMakeFault : OpenFault → Type 0
IsMakeFault fault = (fault ≡ opening.BadJournal) ⊎ ((fault ≡ opening.Store store.Device) ⊎ (fault ≡ opening.Store store.Memory))

-- what is told of a table file that was to be made, by how that has ended
abbrev pub TellsMade : ℕ → ℕ → Result (Unit {0}) OpenFault → OutFacts → OutFacts → Status → Type 0
TellsMade rows regions (Ok made) out out_now status = Tells out out_now (loaded_line rows regions) Done status
TellsMade rows regions (Err fault) out out_now status = Tells out out_now (open_fault_text fault) (open_fault_status fault) status

-- a table file of these pages was made at this path, and it was told how many rows and regions it has; or it wasn't made, and why was told
pub record MakesTable (table : List ℕ) (pages : List (List ℕ)) (rows regions : ℕ) (old new : FilesFacts) (out out_now : OutFacts) (status : Status) : Type 0 where
  pub result : Result (Unit {0}) OpenFault
  pub makes : MakesFile table pages old new result
  pub faults : IfErr result IsMakeFault
  pub tells : TellsMade rows regions result out out_now status

-- ---- a table file of a CSV text

-- both paths are one text, and that was told; the files hold what they did
pub record IsSameFile (source table : List ℕ) (old new : FilesFacts) (out out_now : OutFacts) (status : Status) : Type 0 where
  pub same : source ≡ table
  pub files : new ≡ old
  pub tells : Tells out out_now (codes "! SameFile\n") CommandLine status

-- ---- a script on a table file

-- what is told after a run to the end, by how the closing has ended
abbrev pub TellsClosed : Summary → Result (Unit {0}) TreeFault → OutFacts → OutFacts → Status → Type 0
TellsClosed summary (Ok done) out out_now status = (status ≡ summary_status summary) × (out_now ≡ out)
TellsClosed summary (Err fault) out out_now status = Tells out out_now (tree_fault_text fault) (tree_fault_status fault) status

-- how a run has ended after a fault: with the fault's status where the closing, and the keeping after it, were done; else with `Device`, so that
-- any other status says that what was done before the fault is kept
abbrev pub status_after : Result (Unit {0}) TreeFault → Status → Status
status_after (Ok done) status = status
status_after (Err fault) status = Device

-- what is told after a run, by how it, and the closing with the keeping after it, have ended: nothing after a write that failed
abbrev pub TellsRan : Result Summary RunFault → Result (Unit {0}) TreeFault → OutFacts → OutFacts → Status → Type 0
TellsRan (Ok summary) closed out out_now status = TellsClosed summary closed out out_now status
TellsRan (Err ran.Memory) closed out out_now status = Tells out out_now (codes "! Memory\n") (status_after closed Memory) status
TellsRan (Err ran.Write) closed out out_now status = (status ≡ Device) × (out_now ≡ out)
TellsRan (Err (ran.Load fault)) closed out out_now status =
    Tells out out_now (load_fault_text fault) (status_after closed (load_fault_status fault)) status
TellsRan (Err (ran.Tree fault)) closed out out_now status =
    Tells out out_now (tree_fault_text fault) (status_after closed (tree_fault_status fault)) status

-- a script was run on a tree, which was then closed, also after a fault, with this store left of it, which may have been kept; and it was
-- told how all that has ended. `ran` says what the statements made of the tree, and `closes` what of that is in the store: where the
-- closing isn't refused, all of it, as a closed table. A tree that has failed isn't closed: its store is as the run left it. A keeping is
-- refused only as the file failed
pub record HasRunTree (t : TreeView) (script : List ℕ) (left : StoreFacts) (out out_now : OutFacts) (status : Status) : Type 0 where
  pub now : TreeView
  pub result : Result Summary RunFault
  pub closing : Result (Unit {0}) TreeFault
  pub keeping : Result (Unit {0}) StoreFault
  pub mid : OutFacts
  pub ran : IsRun t now script result out mid
  pub closes : Closes now left closing
  pub faults : IfErr keeping (λ fault. fault ≡ store.Device)
  pub tells : TellsRan result (both_ended closing keeping) mid out_now status

-- the tree of these pages: where they are a closed table it is sound, with that table's regions
pub record IsTreeOf (store : StoreFacts) (t : TreeView) : Type 0 where
  pub opened : IsOpened store t
  pub sound : (schema : Schema) (placed : List Placed) (next : ℕ) → IsHonest store → AreSoundPages store.pages schema placed next
      → IsSound t × (t.schema ≡ schema) × (t.placed ≡ placed) × (t.next ≡ next)

-- a script was run on the tree in a store, of which this is left: where the script only asks, and a read of it failed, which is told,
-- the store counts that, and all else is as it was; what a script that changes the table leaves is said by the run and the closing
pub record IsRunOn (store : StoreFacts) (script : List ℕ) (left : StoreFacts) (out out_now : OutFacts) (status : Status) : Type 0 where
  pub tree : TreeView
  pub tree_is : IsTreeOf store tree
  pub ran : HasRunTree tree script left out out_now status
  pub left_is : OnlyAsks tree.schema script → left ≡ record store { failed_reads = counted ran.result store.failed_reads }

-- no tree was opened in a store, and that was told
pub record IsUntold (store : StoreFacts) (out out_now : OutFacts) (status : Status) : Type 0 where
  pub fault : TreeFault
  pub is : IsOpenFault store fault
  pub passing : (schema : Schema) (placed : List Placed) (next : ℕ) → IsHonest store → AreSoundPages store.pages schema placed next
      → IsPassing fault
  pub tells : Tells out out_now (tree_fault_text fault) (tree_fault_status fault) status

-- a script was run on the table in a store, of which this is left, and the table file at this path keeps what is left, where that was to
-- be done and the closing wasn't refused; else no file was changed
pub record IsKeptRun (changes : Bool) (table script : List ℕ) (store : StoreFacts) (old new : FilesFacts) (out out_now : OutFacts) (status : Status) : Type 0 where
  pub left : StoreFacts
  pub run : IsRunOn store script left out out_now status
  pub kept : IsKept changes table left.pages run.ran.closing run.ran.keeping old new

-- that is so, or no tree was opened in the store, and then no file was changed
abbrev pub AsksStore : Bool → List ℕ → List ℕ → StoreFacts → FilesFacts → FilesFacts → OutFacts → OutFacts → Status → Type 0
AsksStore changes table script store old new out out_now status =
    IsKeptRun changes table script store old new out out_now status ⊎ (IsUntold store out out_now status × (new ≡ old))

-- the table file wasn't opened, and that was told; the files hold what they did
pub record IsUnopened (table : List ℕ) (old new : FilesFacts) (out out_now : OutFacts) (status : Status) : Type 0 where
  pub fault : StoreFault
  pub is : (fault ≡ store.Device) ⊎ (((fault ≡ store.BadSize) × IsTorn (old.holds table)) ⊎ (fault ≡ store.Memory))
  pub files : OpensFile {A = OutFacts} old new (Err fault)
  pub tells : Tells out out_now (store_fault_text fault) (store_fault_status fault) status

-- it wasn't opened to be changed, also for a journal that stands beside it, and that was told; the files hold what they did
pub record IsUnready (table : List ℕ) (old new : FilesFacts) (out out_now : OutFacts) (status : Status) : Type 0 where
  pub fault : OpenFault
  pub is : (fault ≡ opening.BadJournal) ⊎ ((fault ≡ opening.Store store.Device)
      ⊎ (((fault ≡ opening.Store store.BadSize) × IsTorn (old.holds table)) ⊎ (fault ≡ opening.Store store.Memory)))
  pub files : ChangesFile {A = OutFacts} table old new (Err fault)
  pub tells : Tells out out_now (open_fault_text fault) (open_fault_status fault) status

-- it wasn't opened for a script: for one that may change it, or for one that only asks
abbrev pub IsUnlent : Bool → List ℕ → FilesFacts → FilesFacts → OutFacts → OutFacts → Status → Type 0
IsUnlent true table old new out out_now status = IsUnready table old new out out_now status
IsUnlent false table old new out out_now status = IsUnopened table old new out out_now status

-- it was opened: to be changed, or to be asked, which leaves the files as they are
abbrev pub OpensFor : Bool → List ℕ → FilesFacts → FilesFacts → Type 0
OpensFor true table old new = ChangesFile {A = Unit {0}} table old new (Ok tt)
OpensFor false table old new = new ≡ old

-- a script was run on the store that the table file lent
pub record IsAskedOf (changes : Bool) (table script : List ℕ) (old new : FilesFacts) (out out_now : OutFacts) (status : Status) : Type 0 where
  pub store : StoreFacts
  pub mid : FilesFacts
  pub lent : IsLent old table store
  pub opens : OpensFor changes table old mid
  pub asks : AsksStore changes table script store mid new out out_now status

-- whether a script may change the table: just where it has a word with which such a statement begins; else it only asks
pub record IsWeighed (script : List ℕ) (changes : Bool) : Type 0 where
  pub exact : IsTrue changes ↔ HasChangeWord script
  pub asks : changes ≡ false → (schema : Schema) → OnlyAsks schema script

-- memory was refused before the table file was opened, and that was told; the files hold what they did
pub record IsUnweighed (old new : FilesFacts) (out out_now : OutFacts) (status : Status) : Type 0 where
  pub files : new ≡ old
  pub tells : Tells out out_now (codes "! Memory\n") Memory status

-- a script was run on the table file, which was opened to be changed just where the script may change it; or it was told what kept it from that
abbrev pub RunsScript : List ℕ → List ℕ → FilesFacts → FilesFacts → OutFacts → OutFacts → Status → Type 0
RunsScript table script old new out out_now status =
    IsUnweighed old new out out_now status
    ⊎ ((changes : Bool) × IsWeighed script changes
    × (IsAskedOf changes table script old new out out_now status ⊎ IsUnlent changes table old new out out_now status))

-- the script of a file was read, and then run on the table file
pub record IsRunOf (table script : List ℕ) (old new : FilesFacts) (out out_now : OutFacts) (status : Status) : Type 0 where
  pub asked : List ℕ
  pub mid : FilesFacts
  pub read : HasRead script asked old mid
  pub ran : RunsScript table asked mid new out out_now status

-- the script that the second path holds was run on the table file of the first one; or it was told what kept it from that
abbrev pub RunsFile : List ℕ → List ℕ → FilesFacts → FilesFacts → OutFacts → OutFacts → Status → Type 0
RunsFile table script old new out out_now status = IsRunOf table script old new out out_now status ⊎ IsUnread script old new out out_now status
