-- What a crash leaves of files while a command works, put together of what its calls say.
use Rattle.std.proofs.Common.{◌≡◌, ◌≢◌, ℕ, List, inl, inr, subst, sym}
use Rattle.ub_files.specs.Clock.{FolderClock, IsSameBut, IsSameFolder, MayBecome, Runs}
use Rattle.ub_files.specs.Files.{FilesFacts, Held, IsEmpty, IsLent}
use Rattle.ub_script.specs.Output.{OutFacts}
use Rattle.ub_table_file.specs.Appended.{AppendsSafely, HoldsAppended}
use Rattle.ub_table_file.specs.Commands.{HasRead}
use Rattle.ub_shell.specs.Loaded.{IsTable, axes_asked}
use Rattle.ub_shell.specs.Crashes.{HasAnew, HasLoaded, HasTable, HasUpgraded, IsBeforeOrAfter, IsKeptBy, LoadsSafely, MayStand, UpgradesSafely}
use Rattle.ub_table_file.specs.Crashes.{HoldsQueried, HoldsRun, QueriesSafely, RunsSafely}
use Rattle.ub_shell.specs.Upgrading.{IsTableAnew}
use Rattle.ub_table_file.specs.declared.status.Status.{Status}
use Rattle.ub_table_file.proofs.Laws.{read_honest, runs_as, runs_none, runs_of, runs_of_same, runs_same, runs_still, runs_then}
use Rattle.ub_store.specs.Facts.{StoreFacts}
use Rattle.ub_table.specs.declared.axes.Axes.{Axes}
use Rattle.ub_words.specs.Asked.{IsAskedBy}
use Rattle.ub_words.specs.CommandLine.{AsksAppend, AsksQuery, AsksRun}
use Rattle.ub_words.specs.declared.given.AppendWords.{AppendWords}
use Rattle.ub_words.specs.declared.given.LoadWords.{LoadWords}
use Rattle.ub_words.specs.declared.given.QueryWords.{QueryWords}
use Rattle.ub_words.specs.declared.given.RunWords.{RunWords}
use Rattle.ub_words.specs.declared.given.UpgradeWords.{UpgradeWords}
use Rattle.ub_words.specs.declared.words.Asked.{Asked}
use Rattle.ub_words.specs.declared.words.Asked.TheVariants as asked

-- a text was read, and a table file made of it
stands_as : (table : List ℕ) (old mid : FilesFacts) (held : Held) (all : List (List ℕ)) → mid.holds table ≡ old.holds table → MayStand table mid held all → MayStand table old held all
stands_as table old mid held all same (inl holds) = inl holds
stands_as table old mid held all same (inr part) = inr (subst IsEmpty same part.0, part.1)

pub loaded_safely : (source table text name : List ℕ) (axes : Axes) (page_rows : ℕ) (old mid : FilesFacts) (was then now : FolderClock) → source ≢ table → HasRead source text old mid
    → Runs IsSameFolder old was then → Runs (IsSameBut table (λ held. HasTable text name axes page_rows (MayStand table mid held))) mid then now
    → Runs (LoadsSafely source table name axes page_rows old) old was now
loaded_safely source table text name axes page_rows old mid was then now apart read one two =
    let same = (read.reads.others table (λ is. apart (sym is))).0 in
    runs_then table (λ held. HasLoaded source name axes page_rows old (MayStand table old held)) old mid was then now (read_honest source text old mid read) one
    (runs_as table (λ held. HasLoaded source name axes page_rows old (MayStand table old held)) (λ held. HasTable text name axes page_rows (MayStand table mid held)) mid then now
    (λ held (rows, regions, all, is, stands). record {
      text = text;
      text_is = read.text_is;
      table = (rows, regions, all, is, stands_as table old mid held all same stands);
    })
    two)

pub load_still : (source table name : List ℕ) (axes : Axes) (page_rows : ℕ) (old : FilesFacts) (clock : FolderClock) → Runs (LoadsSafely source table name axes page_rows old) old clock clock
load_still source table name axes page_rows old clock = runs_still table (λ held. HasLoaded source name axes page_rows old (MayStand table old held)) old clock

pub load_same : (source table name : List ℕ) (axes : Axes) (page_rows : ℕ) (old : FilesFacts) (was now : FolderClock) → Runs IsSameFolder old was now
    → Runs (LoadsSafely source table name axes page_rows old) old was now
load_same source table name axes page_rows old was now runs =
    runs_same table (λ held. HasLoaded source name axes page_rows old (MayStand table old held)) old was now runs

-- a table was closed in memory, and a table file made of it
pub table_stands : (table text name : List ℕ) (axes : Axes) (page_rows : ℕ) (old : FilesFacts) (was now : FolderClock) (rows regions : ℕ) (all : List (List ℕ))
    → IsTable text name axes page_rows rows regions all → Runs (MayBecome table all old) old was now
    → Runs (IsSameBut table (λ held. HasTable text name axes page_rows (MayStand table old held))) old was now
table_stands table text name axes page_rows old was now rows regions all is runs =
    runs_as table (λ held. HasTable text name axes page_rows (MayStand table old held)) (λ held. MayStand table old held all) old was now
    (λ held stands. (rows, regions, all, is, stands)) runs

pub table_still : (table text name : List ℕ) (axes : Axes) (page_rows : ℕ) (old : FilesFacts) (clock : FolderClock)
    → Runs (IsSameBut table (λ held. HasTable text name axes page_rows (MayStand table old held))) old clock clock
table_still table text name axes page_rows old clock = runs_still table (λ held. HasTable text name axes page_rows (MayStand table old held)) old clock

-- ---- a table that is made anew

pub anew_stands : (table : List ℕ) (from : StoreFacts) (old : FilesFacts) (was now : FolderClock) (rows regions : ℕ) (all : List (List ℕ))
    → IsTableAnew from rows regions all → Runs (MayBecome table all old) old was now → Runs (IsSameBut table (λ held. HasAnew from (MayStand table old held))) old was now
anew_stands table from old was now rows regions all is runs =
    runs_as table (λ held. HasAnew from (MayStand table old held)) (λ held. MayStand table old held all) old was now (λ held stands. (rows, regions, all, is, stands)) runs

pub anew_same : (table : List ℕ) (from : StoreFacts) (old : FilesFacts) (was now : FolderClock) → Runs IsSameFolder old was now
    → Runs (IsSameBut table (λ held. HasAnew from (MayStand table old held))) old was now
anew_same table from old was now runs = runs_same table (λ held. HasAnew from (MayStand table old held)) old was now runs

pub anew_then : (table : List ℕ) (from : StoreFacts) (old : FilesFacts) (was then now : FolderClock) → Runs IsSameFolder old was then
    → Runs (IsSameBut table (λ held. HasAnew from (MayStand table old held))) old then now → Runs (IsSameBut table (λ held. HasAnew from (MayStand table old held))) old was now
anew_then table from old was then now one two = runs_then table (λ held. HasAnew from (MayStand table old held)) old old was then now (λ honest. honest) one two

-- of a table file that lent its store
pub upgraded_safely : (source table : List ℕ) (from : StoreFacts) (old : FilesFacts) (was then now : FolderClock) → IsLent old source from → Runs IsSameFolder old was then
    → Runs (IsSameBut table (λ held. HasAnew from (MayStand table old held))) old then now → Runs (UpgradesSafely source table old) old was now
upgraded_safely source table from old was then now lent one two =
    runs_then table (λ held. HasUpgraded source old (MayStand table old held)) old old was then now (λ honest. honest) one
    (runs_as table (λ held. HasUpgraded source old (MayStand table old held)) (λ held. HasAnew from (MayStand table old held)) old then now
    (λ held made. record { from = from; lent = lent; table = made }) two)

pub upgrade_same : (source table : List ℕ) (old : FilesFacts) (was now : FolderClock) → Runs IsSameFolder old was now → Runs (UpgradesSafely source table old) old was now
upgrade_same source table old was now runs = runs_same table (λ held. HasUpgraded source old (MayStand table old held)) old was now runs

pub upgrade_still : (source table : List ℕ) (old : FilesFacts) (clock : FolderClock) → Runs (UpgradesSafely source table old) old clock clock
upgrade_still source table old clock = runs_still table (λ held. HasUpgraded source old (MayStand table old held)) old clock

-- ---- by what the words ask for

module _ (words : List (List ℕ)) (a : Asked) (old : FilesFacts) (was now : FolderClock) (out out_now notes notes_now : OutFacts) (status : Status) where
  pub run_crash : (r : RunWords) → a ≡ asked.Run r → IsAskedBy words a → Runs (RunsSafely r.table.now r.script.now old out out_now status) old was now
      → Runs (IsBeforeOrAfter words old out out_now notes notes_now status) old was now
  run_crash r is by safe =
      let asks : AsksRun words r.table.now r.script.now = rw is at by in
      runs_of r.table.now (HoldsRun r.table.now r.script.now old out out_now status) (IsBeforeOrAfter words old out out_now notes notes_now status) old was now
      (λ d c held path told. elim (held path told) [
        | inl same ↦ inl same
        | inr here ↦ inr (subst (λ p. IsKeptBy words old out out_now notes notes_now status p (c path)) (sym here.0) (inl (r.script.now, asks, here.1)))
      ]) safe

  pub query_crash : (q : QueryWords) → a ≡ asked.Query q → IsAskedBy words a
      → Runs (QueriesSafely q.table.now q.statements.now old out out_now notes notes_now status) old was now
      → Runs (IsBeforeOrAfter words old out out_now notes notes_now status) old was now
  query_crash q is by safe =
      let asks : AsksQuery words q.table.now q.statements.now = rw is at by in
      runs_of q.table.now (HoldsQueried q.table.now q.statements.now old out out_now notes notes_now status) (IsBeforeOrAfter words old out out_now notes notes_now status) old was now
      (λ d c held path told. elim (held path told) [
        | inl same ↦ inl same
        | inr here ↦ inr (subst (λ p. IsKeptBy words old out out_now notes notes_now status p (c path)) (sym here.0) (inr (inl (q.statements.now, asks, here.1))))
      ]) safe

  pub load_crash : (l : LoadWords) → a ≡ asked.Load l → IsAskedBy words a
      → Runs (LoadsSafely l.source.path.now l.table.now l.source.name.now (axes_asked l.source) l.source.page_rows old) old was now
      → Runs (IsBeforeOrAfter words old out out_now notes notes_now status) old was now
  load_crash l is by safe =
      let asks = rw is at by in
      runs_of l.table.now (λ held. HasLoaded l.source.path.now l.source.name.now (axes_asked l.source) l.source.page_rows old (MayStand l.table.now old held)) (IsBeforeOrAfter words old out out_now notes notes_now status) old was now
      (λ d c held path told. elim (held path told) [
        | inl same ↦ inl same
        | inr here ↦ inr (subst (λ p. IsKeptBy words old out out_now notes notes_now status p (c path)) (sym here.0)
            (inr (inr (inl (l.source.path.now, l.source.name.now, axes_asked l.source, l.source.page_rows, asks, here.1)))))
      ]) safe

  pub upgrade_crash : (u : UpgradeWords) → a ≡ asked.Upgrade u → IsAskedBy words a → Runs (UpgradesSafely u.old.now u.new.now old) old was now
      → Runs (IsBeforeOrAfter words old out out_now notes notes_now status) old was now
  upgrade_crash u is by safe =
      let asks = rw is at by in
      runs_of u.new.now (λ held. HasUpgraded u.old.now old (MayStand u.new.now old held)) (IsBeforeOrAfter words old out out_now notes notes_now status) old was now
      (λ d c held path told. elim (held path told) [
        | inl same ↦ inl same
        | inr here ↦ inr (subst (λ p. IsKeptBy words old out out_now notes notes_now status p (c path)) (sym here.0) (inr (inr (inr (inl (u.old.now, asks, here.1))))))
      ]) safe

  pub append_crash : (r : AppendWords) → a ≡ asked.Append r → IsAskedBy words a → Runs (AppendsSafely r.table.now r.data.now old out out_now status) old was now
      → Runs (IsBeforeOrAfter words old out out_now notes notes_now status) old was now
  append_crash r is by safe =
      let asks : AsksAppend words r.table.now r.data.now = rw is at by in
      runs_of r.table.now (HoldsAppended r.table.now r.data.now old out out_now status) (IsBeforeOrAfter words old out out_now notes notes_now status) old was now
      (λ d c held path told. elim (held path told) [
        | inl same ↦ inl same
        | inr here ↦ inr (subst (λ p. IsKeptBy words old out out_now notes notes_now status p (c path)) (sym here.0) (inr (inr (inr (inr (r.data.now, asks, here.1))))))
      ]) safe

-- a command that changes no file, and one that asks for none
pub same_crash : (words : List (List ℕ)) (old : FilesFacts) (was now : FolderClock) (out out_now notes notes_now : OutFacts) (status : Status) → Runs IsSameFolder old was now
    → Runs (IsBeforeOrAfter words old out out_now notes notes_now status) old was now
same_crash words old was now out out_now notes notes_now status runs =
    runs_of_same (IsBeforeOrAfter words old out out_now notes notes_now status) old was now (λ d c same path told. inl (same path told)) runs

pub no_crash : (words : List (List ℕ)) (old : FilesFacts) (clock : FolderClock) (out out_now notes notes_now : OutFacts) (status : Status)
    → Runs (IsBeforeOrAfter words old out out_now notes notes_now status) old clock clock
no_crash words old clock out out_now notes notes_now status = same_crash words old clock clock out out_now notes notes_now status (runs_none old clock)
