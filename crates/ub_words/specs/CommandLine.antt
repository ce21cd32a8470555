-- What the program's command line asks for.
use Rattle.std.specs.Prelude.{◌≡◌, ◌≢◌, ◌≤◌, ◌⊎◌, ℕ, true, false, List, [], ◌∷◌, Option, Some, codes, map, pos}
use Rattle.std.specs.Str.Parse.{IsNumeral, digits_value, without_leading_plus}
use Rattle.clap.specs.Words.{App, IsAmong, Row, Rule, fault_of, first_of, new_app, new_rule, one_of, app_of, rule_of, subcommand_of, with_rule}
use Rattle.clap.specs.declared.builder.Arg.{Arg}
use Rattle.clap.specs.declared.builder.command.Command.{Command}
use Rattle.clap.specs.declared.builder.command.Command.TheViews.{out-Command as fields_of}
use Rattle.clap.specs.declared.builder.value_parser.ValueParser.TheVariants as parser
use Rattle.clap.specs.declared.error.kind.ErrorKind.TheVariants as kind
use Rattle.ub_words.specs.declared.given.TableCommand.{TableCommand}
use Rattle.ub_words.specs.declared.given.TableCommand.TheVariants.{Check, Describe}

-- ---- the command line as `clap` reads it

-- a word that is to be given at its place
abbrev pub word_rule : List ℕ → Rule
word_rule id = record (new_rule id) { required = true }

-- an option with a value
abbrev pub option_rule : List ℕ → Rule
option_rule id = record (new_rule id) { long = Some id; value_names = 1 }

abbrev pub dims_rule : Rule
dims_rule = record (option_rule (codes "dims")) { required = true; parser = Some (parser.Signed (pos 1) (pos 4)) }

abbrev pub page_rows_rule : Rule
page_rows_rule = record (option_rule (codes "page-rows")) {
  defaults = codes "64" ∷ [];
  parser = Some (parser.Signed (pos 2) (pos 64));
}

abbrev pub signed_rule : Rule
signed_rule = record (option_rule (codes "signed")) {
  defaults = codes "0" ∷ [];
  parser = Some (parser.Signed (pos 0) (pos 15));
}

abbrev pub name_rule : Rule
name_rule = record (option_rule (codes "name")) { defaults = codes "t" ∷ [] }

-- `next LO HI Z`
abbrev pub next_app : App
next_app = with_rule (with_rule (with_rule (new_app (codes "next")) (word_rule (codes "LO"))) (word_rule (codes "HI"))) (word_rule (codes "Z"))

-- a command with `DATA OTHER --dims D [--signed MASK] [--page-rows C] [--name T]`
abbrev pub data_app : App → Rule → App
data_app app other =
    with_rule (with_rule (with_rule (with_rule (with_rule (with_rule app (word_rule (codes "DATA"))) other) dims_rule) signed_rule) page_rows_rule) name_rule

-- `load DATA TABLE --dims D [--signed MASK] [--page-rows C] [--name T]`
abbrev pub load_app : App
load_app = data_app (new_app (codes "load")) (word_rule (codes "TABLE"))

-- `run TABLE SCRIPT`
abbrev pub run_app : App
run_app = with_rule (with_rule (new_app (codes "run")) (word_rule (codes "TABLE"))) (word_rule (codes "SCRIPT"))

-- `query TABLE STATEMENTS`
abbrev pub query_app : App
query_app = with_rule (with_rule (new_app (codes "query")) (word_rule (codes "TABLE"))) (word_rule (codes "STATEMENTS"))

-- `append TABLE DATA`
abbrev pub append_app : App
append_app = with_rule (with_rule (new_app (codes "append")) (word_rule (codes "TABLE"))) (word_rule (codes "DATA"))

-- `try DATA SCRIPT --dims D [--signed MASK] [--page-rows C] [--name T]`
abbrev pub try_app : App
try_app = data_app (new_app (codes "try")) (word_rule (codes "SCRIPT"))

-- `upgrade OLD NEW`
abbrev pub upgrade_app : App
upgrade_app = with_rule (with_rule (new_app (codes "upgrade")) (word_rule (codes "OLD"))) (word_rule (codes "NEW"))

-- a command whose words are a table file alone: `NAME TABLE`
abbrev pub table_app : List ℕ → App
table_app name = with_rule (new_app name) (word_rule (codes "TABLE"))

-- the whole command line: it has a version, and wants one of these commands
unfoldable pub ubq_app : App
ubq_app = record {
  top = record (new_app (codes "ubq")).top { has_version = true; subcommand_required = true; is_leaf = false };
  subs = map (λ (app : App). app.top) (load_app ∷ run_app ∷ query_app ∷ append_app ∷ try_app ∷ upgrade_app
      ∷ table_app (codes "describe") ∷ table_app (codes "check") ∷ next_app ∷ []);
}

-- an argument that `clap` reads so, and that no subcommand shares
abbrev pub IsArgFor : Rule → Arg → Type 0
IsArgFor rule arg = (rule_of arg ≡ rule) × (arg.global ≡ false)

-- a command that `clap` reads so, with no argument that its subcommands share
abbrev pub IsCommandFor : App → Command → Type 0
IsCommandFor app command = (app_of command ≡ app) × ((fields_of command).has_globals ≡ false)

-- ---- what words ask for

-- `clap` takes the words, and this is what it finds: the command that they name, and what was given for each of its arguments
abbrev pub IsTaken : List (List ℕ) → Option (List ℕ × List Row) → Type 0
IsTaken words found = (fault_of ubq_app words ≡ []) × (subcommand_of ubq_app words ≡ found)

-- the number that was given for an option, in digits before which a plus may stand, and within these bounds
pub record IsNumberGiven (rows : List Row) (id : List ℕ) (least most number : ℕ) : Type 0 where
  pub text : List ℕ
  pub given : one_of id rows ≡ Some text
  pub digits : IsNumeral 10 (without_leading_plus text)
  pub value : number ≡ digits_value 10 (without_leading_plus text)
  pub at_least : least ≤ number
  pub at_most : number ≤ most

-- what was given for a command that makes a table of a CSV file: its path, the table's name, how many columns are dimensions,
-- how many rows a page holds, and which dimensions are signed
pub record IsDataGiven (rows : List Row) (path name : List ℕ) (dims page_rows signed : ℕ) : Type 0 where
  pub path_is : first_of (codes "DATA") rows ≡ Some path
  pub name_is : first_of (codes "name") rows ≡ Some name
  pub dims_are : IsNumberGiven rows (codes "dims") 1 4 dims
  pub page_rows_are : IsNumberGiven rows (codes "page-rows") 2 64 page_rows
  pub signed_is : IsNumberGiven rows (codes "signed") 0 15 signed

-- what was given for the command `try`
pub record IsTryGiven (rows : List Row) (source script name : List ℕ) (dims page_rows signed : ℕ) : Type 0 where
  pub data_is : IsDataGiven rows source name dims page_rows signed
  pub script_is : first_of (codes "SCRIPT") rows ≡ Some script

-- what was given for the command `load`
pub record IsLoadGiven (rows : List Row) (source table name : List ℕ) (dims page_rows signed : ℕ) : Type 0 where
  pub data_is : IsDataGiven rows source name dims page_rows signed
  pub table_is : first_of (codes "TABLE") rows ≡ Some table

-- what was given for the command `run`
pub record IsRunGiven (rows : List Row) (table script : List ℕ) : Type 0 where
  pub table_is : first_of (codes "TABLE") rows ≡ Some table
  pub script_is : first_of (codes "SCRIPT") rows ≡ Some script

-- what was given for the command `query`
pub record IsQueryGiven (rows : List Row) (table statements : List ℕ) : Type 0 where
  pub table_is : first_of (codes "TABLE") rows ≡ Some table
  pub statements_are : first_of (codes "STATEMENTS") rows ≡ Some statements

-- what was given for the command `append`
pub record IsAppendGiven (rows : List Row) (table source : List ℕ) : Type 0 where
  pub table_is : first_of (codes "TABLE") rows ≡ Some table
  pub data_is : first_of (codes "DATA") rows ≡ Some source

-- what was given for the command `upgrade`
pub record IsUpgradeGiven (rows : List Row) (old new : List ℕ) : Type 0 where
  pub old_is : first_of (codes "OLD") rows ≡ Some old
  pub new_is : first_of (codes "NEW") rows ≡ Some new

-- what was given for a command whose words are a table file alone
abbrev pub IsTableGiven : List Row → List ℕ → Type 0
IsTableGiven rows table = first_of (codes "TABLE") rows ≡ Some table

-- what was given for the command `next`
pub record IsNextGiven (rows : List Row) (lo hi z : List ℕ) : Type 0 where
  pub lo_is : first_of (codes "LO") rows ≡ Some lo
  pub hi_is : first_of (codes "HI") rows ≡ Some hi
  pub z_is : first_of (codes "Z") rows ≡ Some z

-- the words are a program's name, `next` and these three
abbrev pub AreNextWords : List (List ℕ) → List ℕ → List ℕ → List ℕ → Type 0
AreNextWords words lo hi z = (program : List ℕ) × (words ≡ program ∷ codes "next" ∷ lo ∷ hi ∷ z ∷ [])

-- the path that means standard input
abbrev pub standard_input : List ℕ
standard_input = codes "-"

-- the words ask for a run of the script of this file on the table of the CSV text of this file; both are not standard input
abbrev pub AsksTry : List (List ℕ) → List ℕ → List ℕ → List ℕ → ℕ → ℕ → ℕ → Type 0
AsksTry words source script name dims page_rows signed =
    (rows : List Row) × IsTaken words (Some (codes "try", rows)) × IsTryGiven rows source script name dims page_rows signed
    × ¬ ((source ≡ standard_input) × (script ≡ standard_input))

-- the words ask for the CSV text of this file to be loaded into this table file
abbrev pub AsksLoad : List (List ℕ) → List ℕ → List ℕ → List ℕ → ℕ → ℕ → ℕ → Type 0
AsksLoad words source table name dims page_rows signed =
    (rows : List Row) × IsTaken words (Some (codes "load", rows)) × IsLoadGiven rows source table name dims page_rows signed

-- the words ask for a run of the script of this file on this table file
abbrev pub AsksRun : List (List ℕ) → List ℕ → List ℕ → Type 0
AsksRun words table script = (rows : List Row) × IsTaken words (Some (codes "run", rows)) × IsRunGiven rows table script

-- the words ask for a run of these statements on this table file, whose answers go out apart from what tells of them
abbrev pub AsksQuery : List (List ℕ) → List ℕ → List ℕ → Type 0
AsksQuery words table statements =
    (rows : List Row) × IsTaken words (Some (codes "query", rows)) × IsQueryGiven rows table statements

-- the words ask for the rows of the CSV text of this file to be put into this table file, behind its own
abbrev pub AsksAppend : List (List ℕ) → List ℕ → List ℕ → Type 0
AsksAppend words table source = (rows : List Row) × IsTaken words (Some (codes "append", rows)) × IsAppendGiven rows table source

-- the words ask for this table file of an older version to be made anew, as this other one
abbrev pub AsksUpgrade : List (List ℕ) → List ℕ → List ℕ → Type 0
AsksUpgrade words old new = (rows : List Row) × IsTaken words (Some (codes "upgrade", rows)) × IsUpgradeGiven rows old new

-- the name of a command whose words are a table file alone
abbrev pub table_name : TableCommand → List ℕ
table_name Describe = codes "describe"
table_name Check = codes "check"

-- the words ask for such a command on this table file
abbrev pub AsksTable : List (List ℕ) → TableCommand → List ℕ → Type 0
AsksTable words command table = (rows : List Row) × IsTaken words (Some (table_name command, rows)) × IsTableGiven rows table

-- the words ask for the help or the version, as `clap` may answer them
abbrev pub AsksHelp : List (List ℕ) → Type 0
AsksHelp words = IsAmong kind.DisplayHelp (fault_of ubq_app words) ⊎ IsAmong kind.DisplayVersion (fault_of ubq_app words)

-- and `clap` answers them in no other way
abbrev pub AsksHelpAlone : List (List ℕ) → Type 0
AsksHelpAlone words = (fault_of ubq_app words ≡ kind.DisplayHelp ∷ []) ⊎ (fault_of ubq_app words ≡ kind.DisplayVersion ∷ [])

-- the words ask for the neighbours of an address in a box; three words after `next` do so also where `clap` refuses them,
-- since one of them begins as an option does, unless that is an option for help
abbrev pub AsksNext : List (List ℕ) → List ℕ → List ℕ → List ℕ → Type 0
AsksNext words lo hi z =
    ((rows : List Row) × IsTaken words (Some (codes "next", rows)) × IsNextGiven rows lo hi z)
    ⊎ ((fault_of ubq_app words ≢ []) × AreNextWords words lo hi z × ¬ (AsksHelpAlone words))

-- the words ask for no command, nor for the help or the version
pub record AsksNothing (words : List (List ℕ)) : Type 0 where
  pub no_try : (source script name : List ℕ) (dims page_rows signed : ℕ) → ¬ (AsksTry words source script name dims page_rows signed)
  pub no_load : (source table name : List ℕ) (dims page_rows signed : ℕ) → ¬ (AsksLoad words source table name dims page_rows signed)
  pub no_run : (table script : List ℕ) → ¬ (AsksRun words table script)
  pub no_query : (table statements : List ℕ) → ¬ (AsksQuery words table statements)
  pub no_append : (table source : List ℕ) → ¬ (AsksAppend words table source)
  pub no_upgrade : (old new : List ℕ) → ¬ (AsksUpgrade words old new)
  pub no_table : (command : TableCommand) (table : List ℕ) → ¬ (AsksTable words command table)
  pub no_next : (lo hi z : List ℕ) → ¬ (AsksNext words lo hi z)
  pub no_help : ¬ (AsksHelpAlone words)
