-- What files in memory hold.
use Rattle.std.specs.Prelude.{◌≡◌, ◌≢◌, ℕ, List, Result, OnErr, OnOk, [], ◌∷◌, Option, Some, None, String, Vec, if◌then◌else◌, true, map, suc, string_bytes}
use Rattle.std.specs.Option.{option_map}
use Rattle.std.specs.Str.{bytes_eq}
use Rattle.ub_files.specs.Clock.{FolderClock, IsLeftAs, IsSameFolder}
use Rattle.ub_files.specs.Files.{FilesFacts, Held, HoldsBut, absent, bytes, pages, standard_input, torn, untold}
use Rattle.ub_journal.specs.Torn.{torn_facts}
use Rattle.ub_memory_files.specs.Tables.{held_of}
use Rattle.ub_memory_files.specs.declared.entries.Entry.{Entry}
use Rattle.ub_memory_files.specs.declared.entries.MemFile.{MemFile}
use Rattle.ub_memory_files.specs.declared.entries.MemFile.TheVariants.{Text, Table, Left}

-- what is told of a file: its bytes, or the pages of a table file; of one that was left by a call that failed nothing is told
abbrev pub told : MemFile → Held
told (Text text) = bytes text.items
told (Table place) = held_of (torn_facts place).seen
told (Left place) = untold

-- what a path holds: the first file of that name
abbrev pub held_in : List Entry → List ℕ → Held
held_in [] path = absent
held_in (entry ∷ entries) path = if bytes_eq (string_bytes entry.name) path then told entry.file else held_in entries path

-- where that file stands
abbrev pub place_in : List Entry → List ℕ → Option ℕ
place_in [] path = None
place_in (entry ∷ entries) path = if bytes_eq (string_bytes entry.name) path then Some 0 else option_map suc (place_in entries path)

-- but for this path, all hold what they did
abbrev pub KeepsOthers : List ℕ → List Entry → List Entry → Type 0
KeepsOthers path old new = (other : List ℕ) → other ≢ path → held_in new other ≡ held_in old other

-- all paths hold what they did
abbrev pub HoldsAll : List Entry → List Entry → Type 0
HoldsAll old new = (other : List ℕ) → held_in new other ≡ held_in old other

-- the path holds this, and all others what they did
abbrev pub IsSetTo : List ℕ → Held → List Entry → List Entry → Type 0
IsSetTo path held old new = (held_in new path ≡ held) × KeepsOthers path old new

-- a text was read at this path with this result: only standard input is used up by it, and by nothing that was refused
pub record IsReadIn {A E : Type 0} (path : List ℕ) (old new : List Entry) (result : Result A E) : Type 0 where
  pub kept : path ≢ standard_input → new ≡ old
  pub others : KeepsOthers path old new
  pub used_up : OnOk result (path ≡ standard_input → held_in new path ≡ bytes [])
  pub refused : OnErr result (HoldsAll old new)

-- the paths of a list, where there is one
abbrev pub paths_told : {A B : Type 0} → Option (Vec (String A) B) → Option (List (List ℕ))
paths_told paths = option_map (λ v. map string_bytes v.items) paths

-- the facts of these files, of which so many readings, and so many calls over tables, answered Device, and of which these paths were read:
-- they are honest, a table file may fail, and what memory holds is what a crash leaves
abbrev pub facts_in_memory : List Entry → ℕ → ℕ → Option (List (List ℕ)) → FilesFacts
facts_in_memory entries reads tables readings = record {
  holds = held_in entries;
  lasts = held_in entries;
  honest = true;
  can_fail = true;
  failed_reads = reads;
  failed_tables = tables;
  readings = readings;
}

-- a file was put at this path, in the place of what was there
pub record IsPut (path : List ℕ) (file : Held) (old new : FilesFacts) : Type 0 where
  pub same : new ≡ record old { holds = new.holds; lasts = new.lasts }
  pub others : HoldsBut path old new
  pub held : new.holds path ≡ file
  pub lasts : new.lasts path ≡ file

-- a crash leaves what these files hold. Nothing is told of what it might have left earlier: for memory no time goes by
abbrev pub clock_in_memory : List Entry → FolderClock
clock_in_memory entries = record { may_leave = IsSameFolder (held_in entries); moment = 0; left_since = λ t. IsSameFolder (held_in entries) }

-- what memory holds is what is told to last
pub left_as : (lasting held : Held) → held ≡ lasting → IsLeftAs lasting held
left_as untold held same = tt
left_as absent held same = same
left_as (bytes text) held same = same
left_as (pages all) held same = same
left_as torn held same = same
