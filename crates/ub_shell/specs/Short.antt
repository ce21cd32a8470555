-- The short promise: what `run TABLE SCRIPT` does where TABLE holds a sound table, over files that give back what was written to them. Damaged
-- tables, crashes and the other commands aren't in it.
use Rattle.std.specs.Prelude.{◌≡◌, ◌≢◌, ◌<◌, ◌⊎◌, ◌+◌, ◌++◌, ◌==◌, ℕ, ℤ, if◌then◌else◌, Contains, IsTrue, List, [], ◌∷◌, codes, length, map}
use Rattle.ub_exec.specs.Stand.{Stand, IsStand}
use Rattle.ub_files.specs.Files.{FilesFacts, AreRead, HasPages, Held, IsText, pages, standard_input, untold}
use Rattle.ub_parser.specs.Outcome.{puts}
use Rattle.ub_script.specs.Output.{OutFacts, Breaks, Puts}
use Rattle.ub_script.specs.Replies.{AreFirstReplies, AreReplies, AreRepliesBefore}
use Rattle.ub_script.specs.Script.{HasChangeWord}
use Rattle.ub_script.specs.Text.{Reply, refused_in, texts_of}
use Rattle.ub_store.specs.Facts.{IsHonest, raised}
use Rattle.ub_table.specs.declared.row.TheConstants.{MAX_ROW_NUMBER}
use Rattle.ub_tree.specs.Effects.{IsIndexFull}
use Rattle.ub_tree.specs.Indexed.{HasIndex}
use Rattle.ub_tree.specs.Placed.{Placed, entry_of, regions_in}
use Rattle.ub_tree.specs.Stored.{AreSoundPages}
use Rattle.ub_tree.specs.View.{TreeView, regions}
use Rattle.ub_words.specs.CommandLine.{AsksRun}

-- ---- the table file and the script

-- these pages are those of a closed table that stands so: its rows, their regions, and its next number
abbrev pub AreStanding : List (List ℕ) → Stand → Type 0
AreStanding all s =
    (placed : List Placed) × AreSoundPages all s.table.schema placed s.next × (s.regions ≡ regions_in placed) × IsStand s

-- a path that holds this lends these pages, where it is told what it holds: those, or none
abbrev pub Lends : Held → List (List ℕ) → Type 0
Lends untold all = Unit {0}
Lends (pages held) all = all ≡ held
Lends _ all = all ≡ []

-- a closed table that stands so is left at a path: where it is told what that holds, it is the table's pages
pub record IsLeftAt (table : List ℕ) (new : FilesFacts) (now : Stand) : Type 0 where
  pub all : List (List ℕ)
  pub stands : AreStanding all now
  pub held : HasPages (new.holds table) all

-- the script was read, once, and this is its text; no other file was read so
pub record HasReadScript (script text : List ℕ) (old new : FilesFacts) : Type 0 where
  pub text_is : IsText (old.holds script) text
  pub readings : AreRead (script ∷ []) old.readings new.readings

-- each path holds what it did, but for the table's, and for standard input where the script was read from that
abbrev pub KeepsOthers : List ℕ → List ℕ → FilesFacts → FilesFacts → Type 0
KeepsOthers table script old new =
    (other : List ℕ) → other ≢ table → ¬ ((other ≡ standard_input) × (script ≡ standard_input)) → new.holds other ≡ old.holds other

-- ---- a run to its end

-- each statement has its reply, on the table as the one before it left it; the texts of the replies were written, in their order, and no
-- byte more; a closed table is left that stands where the last statement left it; and the program ends with 1 where a statement was
-- refused, and else with 0
pub record RunsToEnd (table text : List ℕ) (s : Stand) (new : FilesFacts) (out out_now : OutFacts) (code : ℕ) : Type 0 where
  pub replies : List Reply
  pub now : Stand
  pub replies_are : AreReplies s text replies now
  pub written : Puts (texts_of replies) out out_now
  pub left : IsLeftAt table new now
  pub code_is : code ≡ (if refused_in replies == 0 then 0 else 1)

-- ---- the ends with 3

-- a tree has the regions of a table that stands so, and its index has no room: it has as many levels as one can have, and each page on the
-- way to some key is full
pub record HasFullIndex (s : Stand) : Type 0 where
  pub tree : TreeView
  pub honest : IsHonest tree.store
  pub regions_are : s.regions ≡ regions tree
  pub indexed : HasIndex tree.inner.index tree.store.pages (map entry_of tree.placed)
  pub full : IsIndexFull tree

-- the line that tells why a row has no place in a table that stands so, on these pages: no number is left, or the index has no room; or
-- there are so many pages that the next region may need more than there can be
abbrev pub IsPlaceLine : Stand → List (List ℕ) → List ℕ → Type 0
IsPlaceLine s all line =
    ((line ≡ codes "! Full\n") × ((s.next ≡ MAX_ROW_NUMBER + 1) ⊎ HasFullIndex s))
    ⊎ ((line ≡ codes "! BadSize\n") × (4294967295 < length all + 18))

-- the row of an INSERT has no place, which is told after the texts of the replies before it, and a closed table is left as they left it
pub record StopsAtInsert (table text : List ℕ) (s : Stand) (new : FilesFacts) (out out_now : OutFacts) (code : ℕ) : Type 0 where
  pub replies : List Reply
  pub now : Stand
  pub values : List ℤ
  pub before : AreRepliesBefore s text (puts values) replies now
  pub left : IsLeftAt table new now
  pub line : List ℕ
  pub line_is : IsPlaceLine now left.all line
  pub written : Puts (texts_of replies ++ line) out out_now
  pub code_is : code ≡ 3

-- the script may change the table, and beside that stands a journal that is damaged or another table's, which is told, and nothing else is
-- done
pub record MeetsJournal (table text : List ℕ) (old new : FilesFacts) (out out_now : OutFacts) (code : ℕ) : Type 0 where
  pub may_change : HasChangeWord text
  pub held : new.holds table ≡ old.holds table
  pub written : Puts (codes "! BadJournal\n") out out_now
  pub code_is : code ≡ 3

-- ---- the ends with 4 and with 5

-- a file failed: the script's, where it was read; the table's, where it was opened or kept, or, which only one does that can fail, in
-- between; or a write to the output failed
abbrev pub HasFailed : FilesFacts → FilesFacts → OutFacts → OutFacts → Type 0
HasFailed old new out out_now =
    (new.failed_reads ≡ raised old.failed_reads 1)
    ⊎ ((new.failed_tables ≡ raised old.failed_tables 1)
    ⊎ (IsTrue old.can_fail ⊎ (out_now.failures ≡ raised out.failures 1)))

-- these are the texts of the replies to the first statements of the script, or there is none
abbrev pub AreFirstTexts : List ℕ → Stand → FilesFacts → FilesFacts → List ℕ → Type 0
AreFirstTexts script s old new texts =
    (texts ≡ [])
    ⊎ ((text : List ℕ) × HasReadScript script text old new × (replies : List Reply) × (now : Stand) × AreFirstReplies s text replies now
    × (texts ≡ texts_of replies))

-- the last line of a run that a fault ended; after a failed write there is none
abbrev pub fault_lines : List (List ℕ)
fault_lines = [] ∷ codes "! Device\n" ∷ codes "! Memory\n" ∷ codes "! Full\n" ∷ codes "! BadSize\n" ∷ codes "! BadJournal\n" ∷ []

-- bytes were written, or a front of them, where a write failed
abbrev pub WritesSome : List ℕ → OutFacts → OutFacts → Type 0
WritesSome bytes out out_now = Puts bytes out out_now ⊎ Breaks bytes out out_now

-- a file or the output failed, or memory was refused, which is told after the texts of the first replies; the table file holds what it did,
-- or a closed table
pub record EndsEarly (table script : List ℕ) (s : Stand) (old new : FilesFacts) (out out_now : OutFacts) (code : ℕ) : Type 0 where
  pub texts : List ℕ
  pub first : AreFirstTexts script s old new texts
  pub line : List ℕ
  pub ended : ((code ≡ 4) × HasFailed old new out out_now × Contains fault_lines line × WritesSome (texts ++ line) out out_now)
      ⊎ ((code ≡ 5) × (line ≡ codes "! Memory\n") × Puts (texts ++ line) out out_now)
  pub held : (new.holds table ≡ old.holds table) ⊎ ((now : Stand) × IsLeftAt table new now)

-- ---- the promise

-- how the script of one path ends on a table that stands so, in the table file of another one
abbrev pub EndsRight : List ℕ → List ℕ → Stand → FilesFacts → FilesFacts → OutFacts → OutFacts → ℕ → Type 0
EndsRight table script s old new out out_now code =
    ((text : List ℕ) × HasReadScript script text old new × (RunsToEnd table text s new out out_now code
    ⊎ (StopsAtInsert table text s new out out_now code ⊎ MeetsJournal table text old new out out_now code)))
    ⊎ EndsEarly table script s old new out out_now code

-- the table file lends pages, and where they are those of a closed table, the script ends so on it, wherever it stands
pub record RunsRight (table script : List ℕ) (old new : FilesFacts) (out out_now : OutFacts) (code : ℕ) : Type 0 where
  pub all : List (List ℕ)
  pub lent : Lends (old.holds table) all
  pub ends : (s : Stand) → AreStanding all s → EndsRight table script s old new out out_now code
  pub others : KeepsOthers table script old new

-- where the words ask for a script on a table file that isn't standard input, and the files are honest, it runs right
abbrev pub KeepsShortPromise : List (List ℕ) → FilesFacts → FilesFacts → OutFacts → OutFacts → ℕ → Type 0
KeepsShortPromise words old new out out_now code =
    (table script : List ℕ) → AsksRun words table script → table ≢ standard_input → IsTrue old.honest
    → RunsRight table script old new out out_now code
