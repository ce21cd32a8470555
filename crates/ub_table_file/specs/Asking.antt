-- What a command does whose words are a table file alone: it asks the file's store, tells what that answers, and leaves all as it was.
use Rattle.std.specs.Prelude.{◌≡◌, ◌⊎◌, ℕ, List}
use Rattle.ub_files.specs.Files.{FilesFacts, IsLent}
use Rattle.ub_script.specs.Output.{OutFacts}
use Rattle.ub_table_file.specs.Checked.{IsCountOf, IsIllFault, PassesSound}
use Rattle.ub_table_file.specs.Commands.{IsUnopened}
use Rattle.ub_table_file.specs.Described.{IsDescribeFault, IsTextOf, PassesRooted}
use Rattle.ub_table_file.specs.Status.{Tells, tree_fault_status, tree_fault_text}
use Rattle.ub_table_file.specs.declared.status.Status.{Status}
use Rattle.ub_table_file.specs.declared.status.Status.TheVariants.{Done}
use Rattle.ub_store.specs.Facts.{StoreFacts}
use Rattle.ub_tree.specs.declared.fault.TreeFault.{TreeFault}
use Rattle.ub_words.specs.declared.given.TableCommand.{TableCommand}
use Rattle.ub_words.specs.declared.given.TableCommand.TheVariants.{Check, Describe}

-- the store answers this command with this text
abbrev pub AnswersWith : TableCommand → StoreFacts → List ℕ → Type 0
AnswersWith Describe store text = IsTextOf store text
AnswersWith Check store text = IsCountOf store text

-- it doesn't answer it, for this reason
abbrev pub RefusesWith : TableCommand → StoreFacts → TreeFault → Type 0
RefusesWith Describe store fault = IsDescribeFault store fault × PassesRooted store fault
RefusesWith Check store fault = IsIllFault store fault × PassesSound store fault

-- what it answers was written
pub record IsAnswered (command : TableCommand) (store : StoreFacts) (out out_now : OutFacts) (status : Status) : Type 0 where
  pub text : List ℕ
  pub is : AnswersWith command store text
  pub tells : Tells out out_now text Done status

-- or why it doesn't
pub record IsUnanswered (command : TableCommand) (store : StoreFacts) (out out_now : OutFacts) (status : Status) : Type 0 where
  pub fault : TreeFault
  pub is : RefusesWith command store fault
  pub tells : Tells out out_now (tree_fault_text fault) (tree_fault_status fault) status

-- that is so of the store in the table file, and the files are as they were
pub record IsAnswerOf (command : TableCommand) (table : List ℕ) (old new : FilesFacts) (out out_now : OutFacts) (status : Status) : Type 0 where
  pub store : StoreFacts
  pub lent : IsLent old table store
  pub files : new ≡ old
  pub ended : IsAnswered command store out out_now status ⊎ IsUnanswered command store out out_now status

-- the table file of this path was asked so, or it was told that it can't be opened
abbrev pub AsksFile : TableCommand → List ℕ → FilesFacts → FilesFacts → OutFacts → OutFacts → Status → Type 0
AsksFile command table old new out out_now status =
    IsAnswerOf command table old new out out_now status ⊎ IsUnopened table old new out out_now status

-- what the table file of this path tells was written, or why it tells nothing
abbrev pub DescribesFile : List ℕ → FilesFacts → FilesFacts → OutFacts → OutFacts → Status → Type 0
DescribesFile table old new out out_now status = AsksFile Describe table old new out out_now status

-- the table file of this path was checked, or it was told that it can't be opened
abbrev pub ChecksFile : List ℕ → FilesFacts → FilesFacts → OutFacts → OutFacts → Status → Type 0
ChecksFile table old new out out_now status = AsksFile Check table old new out out_now status
