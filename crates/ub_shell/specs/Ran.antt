-- How a command of the program has ended, by what its words ask for.
use Rattle.std.specs.Prelude.{◌≡◌, ◌⊎◌, ℕ, List, None, Result, codes}
use Rattle.ub_words.specs.Asked.{AreLines, IsAskedBy}
use Rattle.ub_words.specs.CommandLine.{AsksHelp, AsksNothing}
use Rattle.ub_words.specs.declared.words.Asked.{Asked}
use Rattle.ub_words.specs.declared.words.Asked.TheVariants.{Append, Help, Load, Next, Query, Run, Table, Try, Upgrade, Wrong}
use Rattle.ub_shell.specs.Loaded.{LoadsFile, TriesFiles, axes_asked}
use Rattle.ub_table_file.specs.Commands.{RunsFile}
use Rattle.ub_table_file.specs.Appended.{AppendsFile}
use Rattle.ub_table_file.specs.Asking.{AsksFile}
use Rattle.ub_table_file.specs.Status.{Tells}
use Rattle.ub_shell.specs.Ending.{words_fault_status, words_fault_text, answer_status}
use Rattle.ub_table_file.specs.Queried.{QueriesFile}
use Rattle.ub_shell.specs.Upgrading.{UpgradesFile}
use Rattle.ub_script.specs.Output.{OutFacts, out_facts}
use Rattle.ub_files.specs.Files.{FilesFacts}
use Rattle.ub_next.specs.Next.{IsNextAnswer, answer_text}
use Rattle.ub_next.specs.declared.next.Neighbours.{Neighbours}
use Rattle.ub_next.specs.declared.next.NextFault.{NextFault}
use Rattle.ub_shell.specs.declared.program.WordsFault.{WordsFault}
use Rattle.ub_table_file.specs.declared.status.Status.{Status}
use Rattle.ub_table_file.specs.declared.status.Status.TheVariants as ended

-- the neighbours of an address were looked for, and told; the files hold what they did
pub record FindsNext (lo hi z : List ℕ) (old new : FilesFacts) (out out_now : OutFacts) (status : Status) : Type 0 where
  pub answer : Result Neighbours NextFault
  pub answers : IsNextAnswer lo hi z answer
  pub tells : Tells out out_now (answer_text answer) (answer_status answer) status
  pub files : new ≡ old

-- a text was told with this status; the files hold what they did
abbrev pub TellsText : List ℕ → Status → FilesFacts → FilesFacts → OutFacts → OutFacts → Status → Type 0
TellsText text wanted old new out out_now status = Tells out out_now text wanted status × (new ≡ old)

-- what was asked for was done: what that left of the files, what it wrote, and its status. A query writes its notes to the second output; all
-- others leave that as it was
abbrev pub Does : Asked → FilesFacts → FilesFacts → OutFacts → OutFacts → OutFacts → OutFacts → Status → Type 0
Does (Load asked) old new out out_now notes notes_now status = (notes_now ≡ notes)
    × LoadsFile asked.source.path.now asked.table.now asked.source.name.now (axes_asked asked.source) asked.source.page_rows old new out out_now status
Does (Run asked) old new out out_now notes notes_now status = (notes_now ≡ notes) × RunsFile asked.table.now asked.script.now old new out out_now status
Does (Query asked) old new out out_now notes notes_now status =
    QueriesFile asked.table.now asked.statements.now old new out out_now notes notes_now status
Does (Append asked) old new out out_now notes notes_now status = (notes_now ≡ notes) × AppendsFile asked.table.now asked.data.now old new out out_now status
Does (Try asked) old new out out_now notes notes_now status = (notes_now ≡ notes)
    × TriesFiles asked.source.path.now asked.script.now asked.source.name.now (axes_asked asked.source) asked.source.page_rows old new out out_now status
Does (Upgrade asked) old new out out_now notes notes_now status = (notes_now ≡ notes) × UpgradesFile asked.old.now asked.new.now old new out out_now status
Does (Table asked) old new out out_now notes notes_now status = (notes_now ≡ notes) × AsksFile asked.command asked.table.now old new out out_now status
Does (Next asked) old new out out_now notes notes_now status =
    (notes_now ≡ notes) × FindsNext asked.low.now asked.high.now asked.address.now old new out out_now status
Does (Help text) old new out out_now notes notes_now status = (notes_now ≡ notes) × TellsText text.items ended.Done old new out out_now status
Does (Wrong text) old new out out_now notes notes_now status = (notes_now ≡ notes) × TellsText text.items ended.CommandLine old new out out_now status

-- the words ask for this, and it was done
pub record HasDone (words : List (List ℕ)) (old new : FilesFacts) (out out_now notes notes_now : OutFacts) (status : Status) : Type 0 where
  pub asked : Asked
  pub asks : IsAskedBy words asked
  pub does : Does asked old new out out_now notes notes_now status

-- the words ask for the help or the version, and are told lines
pub record HasHelped (words : List (List ℕ)) (old new : FilesFacts) (out out_now : OutFacts) (status : Status) : Type 0 where
  pub asks : AsksHelp words
  pub text : List ℕ
  pub lines : AreLines text
  pub tells : Tells out out_now text ended.Done status
  pub files : new ≡ old

-- the words ask for nothing, and are told lines
pub record HasRefused (words : List (List ℕ)) (old new : FilesFacts) (out out_now : OutFacts) (status : Status) : Type 0 where
  pub asks : AsksNothing words
  pub text : List ℕ
  pub lines : AreLines text
  pub tells : Tells out out_now text ended.CommandLine status
  pub files : new ≡ old

-- the words weren't read for want of memory
pub record HasNoMemory (old new : FilesFacts) (out out_now : OutFacts) (status : Status) : Type 0 where
  pub tells : Tells out out_now (codes "! Memory\n") ended.Memory status
  pub files : new ≡ old

-- how a command of the program has ended that was given these words: what they ask for was done, or they weren't read for want of memory
abbrev pub HasEnded : List (List ℕ) → FilesFacts → FilesFacts → OutFacts → OutFacts → OutFacts → OutFacts → Status → Type 0
HasEnded words old new out out_now notes notes_now status =
    HasDone words old new out out_now notes notes_now status ⊎ ((notes_now ≡ notes) × HasNoMemory old new out out_now status)

-- an output that nobody reads: nothing is told of what it has taken, and no write to it fails
abbrev pub unheard : OutFacts
unheard = out_facts None 0

-- the words weren't read, which is told
abbrev pub HasNotRead : WordsFault → FilesFacts → FilesFacts → OutFacts → OutFacts → OutFacts → OutFacts → Status → Type 0
HasNotRead fault old new out out_now notes notes_now status =
    Tells out out_now (words_fault_text fault) (words_fault_status fault) status × (new ≡ old) × (notes_now ≡ notes)
