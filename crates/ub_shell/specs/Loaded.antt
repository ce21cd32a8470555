-- What the commands that make a table of a CSV file leave of files, and what they tell: `load`, in a table file, and `try`, in memory.
use Rattle.std.specs.Prelude.{◌≡◌, ◌≢◌, ◌⊎◌, ℕ, List, [], codes}
use Rattle.ub_load.specs.LoadedTree.{IsLoadedTree}
use Rattle.ub_load.specs.Loading.{IsLoadFault}
use Rattle.ub_load.specs.declared.fault.LoadFault.{LoadFault}
use Rattle.ub_script.specs.Output.{OutFacts}
use Rattle.ub_store.specs.Facts.{memory_facts}
use Rattle.ub_table.specs.Schema.{IsMask}
use Rattle.ub_table.specs.declared.axes.Axes.{Axes}
use Rattle.ub_tree.specs.Stored.{AreSoundPages}
use Rattle.ub_tree.specs.View.{TreeView, region_count}
use Rattle.ub_words.specs.declared.given.DataWords.{DataWords}
use Rattle.ub_shell.specs.Ending.{HasTried, trial}
use Rattle.ub_table_file.specs.Status.{Tells, load_fault_status, load_fault_text}
use Rattle.ub_files.specs.Files.{FilesFacts}
use Rattle.ub_table_file.specs.declared.status.Status.{Status}
use Rattle.ub_table_file.specs.declared.status.Status.TheVariants.{CommandLine}
use Rattle.ub_table_file.specs.Commands.{HasRead, IsUnread, MakesTable, IsSameFile}

-- ---- which dimensions are signed

-- the dimensions of the table that words ask to be made of a CSV file
abbrev pub axes_asked : DataWords → Axes
axes_asked words = record { dims = words.dims; signed = words.signed }

-- a dimension was to be signed that isn't there, and that was told; the files hold what they did
pub record IsBadMask (axes : Axes) (old new : FilesFacts) (out out_now : OutFacts) (status : Status) : Type 0 where
  pub bad : ¬ (IsMask axes.dims axes.signed)
  pub files : new ≡ old
  pub tells : Tells out out_now (codes "! BadMask\n") CommandLine status

-- ---- a script on a CSV text

-- both files were read, the first path's before the other, and the script that the second one holds was run on the table of the text that
-- the first one holds
pub record IsTrialOf (source script name : List ℕ) (axes : Axes) (page_rows : ℕ) (old new : FilesFacts) (out out_now : OutFacts) (status : Status) : Type 0 where
  pub text : List ℕ
  pub asked : List ℕ
  pub mid : FilesFacts
  pub source_read : HasRead source text old mid
  pub script_read : HasRead script asked mid new
  pub tried : HasTried (trial text axes page_rows name asked) out out_now status

-- the first file was read, and the second was not
pub record IsHalfRead (source script : List ℕ) (old new : FilesFacts) (out out_now : OutFacts) (status : Status) : Type 0 where
  pub text : List ℕ
  pub mid : FilesFacts
  pub source_read : HasRead source text old mid
  pub script_unread : IsUnread script mid new out out_now status

-- that was done, or told that the first file was not read, or the second; or that a dimension was to be signed that isn't there
abbrev pub TriesFiles : List ℕ → List ℕ → List ℕ → Axes → ℕ → FilesFacts → FilesFacts → OutFacts → OutFacts → Status → Type 0
TriesFiles source script name axes page_rows old new out out_now status =
    IsBadMask axes old new out out_now status
    ⊎ (IsMask axes.dims axes.signed × (IsTrialOf source script name axes page_rows old new out out_now status
    ⊎ (IsUnread source old new out out_now status ⊎ IsHalfRead source script old new out out_now status)))

-- ---- a table file of a CSV text

-- a table in a store in memory, closed: the one of this text, with so many rows and regions
pub record IsTable (text name : List ℕ) (axes : Axes) (page_rows rows regions : ℕ) (pages : List (List ℕ)) : Type 0 where
  pub tree : TreeView
  pub loaded : IsLoadedTree text axes page_rows name tree
  pub closed : AreSoundPages pages tree.schema tree.placed tree.next
  pub rows_are : rows ≡ tree.rows
  pub regions_are : regions ≡ region_count tree

-- the table of this text was closed in memory, and a table file of its pages was made at this path; or it was told why not
pub record IsFileOf (table text name : List ℕ) (axes : Axes) (page_rows : ℕ) (old new : FilesFacts) (out out_now : OutFacts) (status : Status) : Type 0 where
  pub rows : ℕ
  pub regions : ℕ
  pub pages : List (List ℕ)
  pub table_is : IsTable text name axes page_rows rows regions pages
  pub makes : MakesTable table pages rows regions old new out out_now status

-- the text isn't loaded into memory
abbrev pub IsUnloaded : List ℕ → List ℕ → Axes → LoadFault → Type 0
IsUnloaded text name axes fault = IsLoadFault axes name text (memory_facts []) fault

-- and that was told; the files hold what they did
pub record IsNoTable (text name : List ℕ) (axes : Axes) (old new : FilesFacts) (out out_now : OutFacts) (status : Status) : Type 0 where
  pub fault : LoadFault
  pub is : IsUnloaded text name axes fault
  pub files : new ≡ old
  pub tells : Tells out out_now (load_fault_text fault) (load_fault_status fault) status

-- a text was loaded, and a table file made of it; or it was told why not
abbrev pub KeepsText : List ℕ → List ℕ → List ℕ → Axes → ℕ → FilesFacts → FilesFacts → OutFacts → OutFacts → Status → Type 0
KeepsText table text name axes page_rows old new out out_now status =
    IsFileOf table text name axes page_rows old new out out_now status ⊎ IsNoTable text name axes old new out out_now status

-- the text of a file was read, and kept in the table file; or it was told why not
pub record IsLoadOf (source table name : List ℕ) (axes : Axes) (page_rows : ℕ) (old new : FilesFacts) (out out_now : OutFacts) (status : Status) : Type 0 where
  pub text : List ℕ
  pub mid : FilesFacts
  pub read : HasRead source text old mid
  pub ended : KeepsText table text name axes page_rows mid new out out_now status

-- the file at the first path was loaded into the table file of the second one; or it was told what kept it from that
abbrev pub LoadsFile : List ℕ → List ℕ → List ℕ → Axes → ℕ → FilesFacts → FilesFacts → OutFacts → OutFacts → Status → Type 0
LoadsFile source table name axes page_rows old new out out_now status =
    IsBadMask axes old new out out_now status
    ⊎ (IsMask axes.dims axes.signed × (IsSameFile source table old new out out_now status
    ⊎ ((source ≢ table) × (IsLoadOf source table name axes page_rows old new out out_now status ⊎ IsUnread source old new out out_now status))))
