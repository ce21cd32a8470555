-- What a crash leaves of files at any moment of a command: each path is found as before, or it is the table that the command names, and holds
-- what a whole run of the command leaves there.
use Rattle.std.specs.Prelude.{◌≡◌, ◌≢◌, ◌⊎◌, ℕ, List}
use Rattle.ub_files.specs.Clock.{Endures, Folder, FolderClock, IsSameBut}
use Rattle.ub_files.specs.Files.{FilesFacts, HasPages, Held, IsEmpty, IsLent, IsPart, IsText, standard_input}
use Rattle.ub_script.specs.Output.{OutFacts}
use Rattle.ub_table_file.specs.Appended.{HoldsAppended}
use Rattle.ub_shell.specs.Loaded.{IsTable}
use Rattle.ub_shell.specs.Upgrading.{IsTableAnew}
use Rattle.ub_table_file.specs.declared.status.Status.{Status}
use Rattle.ub_store.specs.Facts.{StoreFacts}
use Rattle.ub_table.specs.declared.axes.Axes.{Axes}
use Rattle.ub_words.specs.CommandLine.{AsksAppend, AsksLoad, AsksQuery, AsksRun, AsksUpgrade}
use Rattle.ub_table_file.specs.Crashes.{HoldsRun, HoldsQueried}

-- where it is told, this is these pages; or, where the path had no page, a part of them, which is no table
abbrev pub MayStand : List ℕ → FilesFacts → Held → List (List ℕ) → Type 0
MayStand table old held all = HasPages held all ⊎ (IsEmpty (old.holds table) × IsPart held all)

-- this is so of the pages of the table of a text
abbrev pub HasTable : List ℕ → List ℕ → Axes → ℕ → (List (List ℕ) → Type 0) → Type 0
HasTable text name axes page_rows Is =
    (rows : ℕ) × (regions : ℕ) × (all : List (List ℕ)) × IsTable text name axes page_rows rows regions all × Is all

-- of the text that a path holds
pub record HasLoaded (source name : List ℕ) (axes : Axes) (page_rows : ℕ) (old : FilesFacts) (Is : List (List ℕ) → Type 0) : Type 0 where
  pub text : List ℕ
  pub text_is : IsText (old.holds source) text
  pub table : HasTable text name axes page_rows Is

-- of the table of a store that was made anew
abbrev pub HasAnew : StoreFacts → (List (List ℕ) → Type 0) → Type 0
HasAnew from Is = (rows : ℕ) × (regions : ℕ) × (all : List (List ℕ)) × IsTableAnew from rows regions all × Is all

-- of the one that a path holds
pub record HasUpgraded (source : List ℕ) (old : FilesFacts) (Is : List (List ℕ) → Type 0) : Type 0 where
  pub from : StoreFacts
  pub lent : IsLent old source from
  pub table : HasAnew from Is

-- what a crash leaves while a CSV file is loaded into a table file
abbrev pub LoadsSafely : List ℕ → List ℕ → List ℕ → Axes → ℕ → FilesFacts → Folder → Folder → Type 0
LoadsSafely source table name axes page_rows old = IsSameBut table (λ held. HasLoaded source name axes page_rows old (MayStand table old held))

-- while a table file of an older version is made anew
abbrev pub UpgradesSafely : List ℕ → List ℕ → FilesFacts → Folder → Folder → Type 0
UpgradesSafely source table old = IsSameBut table (λ held. HasUpgraded source old (MayStand table old held))

-- this is what a whole run of the command that these words ask for leaves in the table file that they name
abbrev pub IsKeptBy : List (List ℕ) → FilesFacts → OutFacts → OutFacts → OutFacts → OutFacts → Status → List ℕ → Held → Type 0
IsKeptBy words old out out_now notes notes_now status path held =
    ((script : List ℕ) × AsksRun words path script × HoldsRun path script old out out_now status held)
    ⊎ (((statements : List ℕ) × AsksQuery words path statements × HoldsQueried path statements old out out_now notes notes_now status held)
    ⊎ (((source : List ℕ) × (name : List ℕ) × (axes : Axes) × (page_rows : ℕ) × AsksLoad words source path name axes.dims page_rows axes.signed
    × HasLoaded source name axes page_rows old (MayStand path old held))
    ⊎ (((source : List ℕ) × AsksUpgrade words source path × HasUpgraded source old (MayStand path old held))
    ⊎ ((source : List ℕ) × AsksAppend words path source × HoldsAppended path source old out out_now status held))))

-- each path but standard input is found as before, or holds that
abbrev pub IsBeforeOrAfter : List (List ℕ) → FilesFacts → OutFacts → OutFacts → OutFacts → OutFacts → Status → Folder → Folder → Type 0
IsBeforeOrAfter words old out out_now notes notes_now status d c =
    (path : List ℕ) → path ≢ standard_input → (c path ≡ d path) ⊎ IsKeptBy words old out out_now notes notes_now status path (c path)

-- ---- after a command

-- each crash from now on leaves in the table file the pages of the table of the text that a path holds
abbrev pub LoadLasts : List ℕ → List ℕ → List ℕ → Axes → ℕ → FilesFacts → FolderClock → Type 0
LoadLasts source table name axes page_rows old now = Endures table (λ held. HasLoaded source name axes page_rows old (HasPages held)) old now

-- the pages of the table of the store that a path holds, made anew
abbrev pub UpgradeLasts : List ℕ → List ℕ → FilesFacts → FolderClock → Type 0
UpgradeLasts source table old now = Endures table (λ held. HasUpgraded source old (HasPages held)) old now
