-- What a crash leaves of files after a table was made, and after the command that the words ask for.
use Rattle.std.proofs.Common.{◌≡◌, ℕ, List, subst, sym}
use Rattle.std.specs.Prelude.{IsTrue}
use Rattle.ub_files.specs.Clock.{Endures, FolderClock, Lasts}
use Rattle.ub_files.specs.Files.{FilesFacts, HasPages, IsLent}
use Rattle.ub_script.specs.Output.{OutFacts}
use Rattle.ub_table_file.specs.Commands.{HasRead}
use Rattle.ub_shell.specs.Loaded.{IsTable}
use Rattle.ub_shell.specs.Crashes.{HasAnew, HasTable, LoadLasts, UpgradeLasts}
use Rattle.ub_shell.specs.Program.{IsLasting, LastsAs}
use Rattle.ub_shell.specs.Upgrading.{IsTableAnew}
use Rattle.ub_table_file.specs.declared.status.Status.{Status}
use Rattle.ub_store.specs.Facts.{StoreFacts}
use Rattle.ub_table.specs.declared.axes.Axes.{Axes}
use Rattle.ub_words.specs.Asked.{IsAskedBy}
use Rattle.ub_words.specs.declared.words.Asked.{Asked}

-- ---- a table that was made

pub table_lasts : (table text name : List ℕ) (axes : Axes) (page_rows : ℕ) (old : FilesFacts) (now : FolderClock) (rows regions : ℕ) (all : List (List ℕ))
    → IsTable text name axes page_rows rows regions all → Lasts table all old now
    → Endures table (λ held. HasTable text name axes page_rows (HasPages held)) old now
table_lasts table text name axes page_rows old now rows regions all is lasts = λ honest c may told. (rows, regions, all, is, lasts honest c may told)

-- of a text that was read
pub loaded_lasts : (source table text name : List ℕ) (axes : Axes) (page_rows : ℕ) (old mid : FilesFacts) (now : FolderClock) → HasRead source text old mid
    → (IsTrue old.honest → IsTrue mid.honest) → Endures table (λ held. HasTable text name axes page_rows (HasPages held)) mid now
    → LoadLasts source table name axes page_rows old now
loaded_lasts source table text name axes page_rows old mid now read still lasts = λ honest c may told. record {
  text = text;
  text_is = read.text_is;
  table = lasts (still honest) c may told;
}

pub anew_lasts : (table : List ℕ) (from : StoreFacts) (old : FilesFacts) (now : FolderClock) (rows regions : ℕ) (all : List (List ℕ))
    → IsTableAnew from rows regions all → Lasts table all old now → Endures table (λ held. HasAnew from (HasPages held)) old now
anew_lasts table from old now rows regions all is lasts = λ honest c may told. (rows, regions, all, is, lasts honest c may told)

-- of a table file that lent its store
pub upgraded_lasts : (source table : List ℕ) (from : StoreFacts) (old : FilesFacts) (now : FolderClock) → IsLent old source from
    → Endures table (λ held. HasAnew from (HasPages held)) old now → UpgradeLasts source table old now
upgraded_lasts source table from old now lent lasts = λ honest c may told. record { from = from; lent = lent; table = lasts honest c may told }

-- ---- what the words ask for

pub lasting_as : (words : List (List ℕ)) (a b : Asked) (old : FilesFacts) (out out_now notes notes_now : OutFacts) (status : Status) (now : FolderClock) → a ≡ b → IsAskedBy words a
    → LastsAs b old out out_now notes notes_now status now → IsLasting words old out out_now notes notes_now status now
lasting_as words a b old out out_now notes notes_now status now same by lasts = record {
  asked = a;
  asks = by;
  lasts = subst (λ (x : Asked). LastsAs x old out out_now notes notes_now status now) (sym same) lasts;
}
