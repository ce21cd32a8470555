-- What appending rows leaves of a table file, and of files at each moment, step by step.
use Rattle.std.proofs.Common.{◌≡◌, ◌<◌, ◌≤◌, ◌∙◌, ◌+◌, ◌-◌, ℕ, List, [], ◌∷◌, Result, Ok, Err, inl, inr, ap, arith, length, refl, subst, suc, sym}
use Rattle.std.proofs.lemmas.Bool.{false≢true, lt-ltb}
use Rattle.std.specs.List.{All}
use Rattle.std.specs.Prelude.{IsOk, IsTrue, nat_lt}
use Rattle.ub_files.specs.Clock.{Endures, FolderClock, IsSameBut, IsSameFolder, Runs}
use Rattle.ub_files.specs.Files.{FilesFacts, HasPages, IsLent}
use Rattle.ub_load.specs.Appending.{appended_rows, AreRowsOf, IsRowsFault}
use Rattle.ub_load.specs.LoadedTable.{columns_of, rows_of}
use Rattle.ub_load.specs.declared.fault.LoadFault.{LoadFault}
use Rattle.ub_script.specs.Appending.{PutsRows}
use Rattle.ub_script.specs.Output.{OutFacts}
use Rattle.ub_table_file.proofs.CrashFacts.{read_honest}
use Rattle.ub_table_file.proofs.FileFacts.{where_ok}
use Rattle.ub_table_file.proofs.GoesFacts.{runs_as, runs_same, runs_still, runs_then}
use Rattle.ub_table_file.specs.Appended.{appended_line, AppendsSafely, AppendsStore, HasAppended, HasClosed, HasRows, HoldsAppended, TellsAppended}
use Rattle.ub_table_file.specs.Commands.{ClosesFile, HasRead, IsKept, IsTreeOf, both_ended}
use Rattle.ub_table_file.specs.Status.{Tells}
use Rattle.ub_table_file.specs.declared.status.Status.{Status}
use Rattle.ub_table_file.specs.declared.status.Status.TheVariants.{Done}
use Rattle.ub_table_file.specs.inner.Appending.{AppendsRows, AppendsTree, HoldsCount, HoldsMore, HoldsPut, HoldsRows, HoldsText, KeepsCount, KeepsPut}
use Rattle.ub_store.specs.Facts.{StoreFacts, IsHonest}
use Rattle.ub_store.specs.declared.fault.StoreFault.{StoreFault}
use Rattle.ub_table.specs.Region.{measures_of}
use Rattle.ub_table.specs.declared.row.Row.{Row}
use Rattle.ub_table.specs.declared.schema.Schema.{Schema}
use Rattle.ub_tree.specs.Change.{Suits}
use Rattle.ub_tree.specs.Placed.{Placed}
use Rattle.ub_tree.specs.Stored.{AreSoundPages}
use Rattle.ub_tree.specs.View.{TreeView}
use Rattle.ub_tree.specs.declared.fault.TreeFault.{TreeFault}

-- ---- how many rows were put in

pub no_fewer : (before after next last n : ℕ) → next ≡ before → last ≡ after → after ≡ before + n → next ≤ last
no_fewer before after next last n first second is = omega arith

pub count_is : (before after next last n : ℕ) → next ≡ before → last ≡ after → after ≡ before + n → last - next ≡ n
count_is before after next last n first second is = omega arith

-- ---- a tree is closed

-- what is told then
pub told_rows : (count rows all : ℕ) (bytes : List ℕ) (out out_now : OutFacts) (status : Status) → rows ≡ all → bytes ≡ appended_line count rows
    → Tells out out_now bytes Done status → Tells out out_now (appended_line count all) Done status
told_rows count rows all bytes out out_now status same is told =
    subst (λ (n : ℕ). Tells out out_now (appended_line count n) Done status) same (subst (λ (b : List ℕ). Tells out out_now b Done status) is told)

-- where the keeping is done too, the closing is
ended_ok : (closing : Result (Unit {0}) TreeFault) (keeping : Result (Unit {0}) StoreFault) → IsOk (both_ended closing keeping) → IsOk closing
ended_ok (Ok done) keeping ok = refl
ended_ok (Err fault) keeping ok = absurd (false≢true ok)

closing_ok : (closing : Result (Unit {0}) TreeFault) (keeping : Result (Unit {0}) StoreFault) (r : Result (Unit {0}) TreeFault) → r ≡ both_ended closing keeping → IsOk r → IsOk closing
closing_ok closing keeping r ended ok = ended_ok closing keeping (subst (λ (x : Result (Unit {0}) TreeFault). IsOk x) ended ok)

is_some_count : (count : ℕ) → 0 < count → IsTrue (nat_lt 0 count)
is_some_count count some = lt-ltb 0 count some

module _ (table : List ℕ) (count : ℕ) (t : TreeView) (r : Result (Unit {0}) TreeFault) (old new : FilesFacts) (was now : FolderClock) (out out_now : OutFacts) (status : Status)
    (closed : ClosesFile (nat_lt 0 count) table old new was now t r) (told : TellsAppended count t.rows r out out_now status) where
  abbrev has_closed : HasClosed t count closed.left out out_now status
  has_closed = record {
    closing = closed.closing;
    keeping = closed.keeping;
    closes = closed.closes;
    faults = closed.faults;
    tells = subst (λ (x : Result (Unit {0}) TreeFault). TellsAppended count t.rows x out out_now status) closed.ended told;
  }

  pub count_kept : KeepsCount table count t old new out out_now status
  count_kept = (closed.left, has_closed, closed.kept)

  pub count_lasts : IsOk r → 0 < count → Endures table (HoldsCount t count out out_now status) old now
  count_lasts done some = λ honest c may told.
      (closed.left, has_closed, closing_ok closed.closing closed.keeping r closed.ended done, closed.lasts (is_some_count count some) done honest c may told)

  pub count_safely : Runs (IsSameBut table (HoldsCount t count out out_now status)) old was now
  count_safely =
      runs_as table (HoldsCount t count out out_now status) (λ held. IsOk closed.closing × HasPages held closed.left.pages) old was now
      (λ held is. (closed.left, has_closed, is.0, is.1)) closed.crash

-- ---- rows are put into a tree

module _ (table : List ℕ) (rows : List Row) (t now : TreeView) (count : ℕ) (out out_now : OutFacts) (status : Status) (puts : PutsRows t now rows (Ok tt)) (is : count ≡ length rows) where
  pub rows_kept : (old new : FilesFacts) → KeepsCount table count now old new out out_now status → KeepsPut table rows t old new out out_now status
  rows_kept old new (left, closed, kept) =
      let counted = subst (λ (n : ℕ). (c : HasClosed now n left out out_now status) × IsKept (nat_lt 0 n) table left.pages c.closing c.keeping old new) is (closed, kept) in
      (left, record { now = now; puts = puts; closed = counted.0 }, counted.1)

  pub rows_lasts : (files : FilesFacts) (then : FolderClock) → 0 < length rows → (0 < count → Endures table (HoldsCount now count out out_now status) files then)
      → Endures table (HoldsPut t rows out out_now status) files then
  rows_lasts files then some lasts = λ honest c may told.
      let (left, closed, done, holds) = lasts (subst (λ (n : ℕ). 0 < n) (sym is) some) honest c may told in
      let counted = subst (λ (n : ℕ). (c : HasClosed now n left out out_now status) × IsOk c.closing) is (closed, done) in
      (left, record { now = now; puts = puts; closed = counted.0 }, counted.1, holds)

  pub rows_safely : (files : FilesFacts) (was then : FolderClock) → Runs (IsSameBut table (HoldsCount now count out out_now status)) files was then
      → Runs (IsSameBut table (HoldsPut t rows out out_now status)) files was then
  rows_safely files was then runs =
      runs_as table (HoldsPut t rows out out_now status) (HoldsCount now count out out_now status) files was then
      (λ held (left, closed, done, holds).
      let counted = subst (λ (n : ℕ). (c : HasClosed now n left out out_now status) × IsOk c.closing) is (closed, done) in
      (left, record { now = now; puts = puts; closed = counted.0 }, counted.1, holds))
      runs

pub put_same : (table : List ℕ) (rows : List Row) (t : TreeView) (files : FilesFacts) (was now : FolderClock) (out out_now : OutFacts) (status : Status) → Runs IsSameFolder files was now
    → Runs (IsSameBut table (HoldsPut t rows out out_now status)) files was now
put_same table rows t files was now out out_now status runs = runs_same table (HoldsPut t rows out out_now status) files was now runs

-- ---- those of a text

-- they are read for the schema and the next number of a tree
pub rows_for : (text : List ℕ) (schema s : Schema) (next n : ℕ) (items rows : List Row) → schema ≡ s → next ≡ n → rows ≡ items → AreRowsOf text schema next items → AreRowsOf text s n rows
rows_for text schema s next n items rows of_schema of_next same are =
    subst (λ (x : Schema). AreRowsOf text x n rows) of_schema
    (subst (λ (k : ℕ). AreRowsOf text schema k rows) of_next (subst (λ (rs : List Row). AreRowsOf text schema next rs) (sym same) are))

pub suit_for : (schema s : Schema) (items rows : List Row) → schema ≡ s → rows ≡ items → All (Suits schema.dims (measures_of schema)) items → All (Suits s.dims (measures_of s)) rows
suit_for schema s items rows of_schema same suit =
    subst (λ (x : Schema). All (Suits x.dims (measures_of x)) rows) of_schema (subst (λ (rs : List Row). All (Suits schema.dims (measures_of schema)) rs) (sym same) suit)

pub fault_for : (text : List ℕ) (schema s : Schema) (next n : ℕ) (fault : LoadFault) → schema ≡ s → next ≡ n → IsRowsFault text schema next fault → IsRowsFault text s n fault
fault_for text schema s next n fault of_schema of_next is =
    subst (λ (x : Schema). IsRowsFault text x n fault) of_schema (subst (λ (k : ℕ). IsRowsFault text schema k fault) of_next is)

some_of : (n k : ℕ) → n ≡ suc k → 0 < n
some_of n k same = omega arith

-- a text of more records than one has rows
some_rows : (schema : Schema) (columns : List (List ℕ)) (header : List (List ℕ)) (rest : List (List (List ℕ))) → 1 < length (header ∷ rest)
    → 0 < length (appended_rows schema columns rest)
unfolding rows_of
some_rows schema columns header [] more = absurd (false≢true (lt-ltb 1 1 more))
some_rows schema columns header (r ∷ rest) more = some_of (length (appended_rows schema columns (r ∷ rest))) _ refl

pub rows_have : (text : List ℕ) (schema : Schema) (next : ℕ) (rows : List Row) → AreRowsOf text schema next rows → HasRows text → 0 < length rows
rows_have text schema next rows are some =
    subst (λ (rs : List Row). 0 < length rs) (sym are.rows_are)
    (some_rows schema (columns_of are.header) are.header are.rest (subst (λ (records : List (List (List ℕ))). 1 < length records) are.records some))

module _ (table text : List ℕ) (t : TreeView) (out out_now : OutFacts) (status : Status) where
  pub tree_appends : (rows : List Row) (old new : FilesFacts) → AreRowsOf text t.schema t.next rows → AppendsRows table rows t old new out out_now status
      → AppendsTree table text t old new out out_now status
  tree_appends rows old new are (inl kept) = inl (rows, are, kept)
  tree_appends rows old new are (inr (unput, same)) = inr (inr (rows, are, unput), same)

  pub tree_safely : (rows : List Row) (files : FilesFacts) (was now : FolderClock) → AreRowsOf text t.schema t.next rows → Runs (IsSameBut table (HoldsPut t rows out out_now status)) files was now
      → Runs (IsSameBut table (HoldsRows t text out out_now status)) files was now
  tree_safely rows files was now are runs =
      runs_as table (HoldsRows t text out out_now status) (HoldsPut t rows out out_now status) files was now (λ held put. (rows, are, put)) runs

  pub tree_lasts : (rows : List Row) (files : FilesFacts) (now : FolderClock) → AreRowsOf text t.schema t.next rows → HasRows text
      → (0 < length rows → Endures table (HoldsPut t rows out out_now status) files now) → Endures table (HoldsRows t text out out_now status) files now
  tree_lasts rows files now are some lasts = λ honest c may told. (rows, are, lasts (rows_have text t.schema t.next rows are some) honest c may told)

  pub tree_same : (files : FilesFacts) (was now : FolderClock) → Runs IsSameFolder files was now → Runs (IsSameBut table (HoldsRows t text out out_now status)) files was now
  tree_same files was now runs = runs_same table (HoldsRows t text out out_now status) files was now runs

  -- ---- the tree was opened in a store

  pub store_appends : (store : StoreFacts) (old new : FilesFacts) → IsTreeOf store t → AppendsTree table text t old new out out_now status
      → AppendsStore table text store old new out out_now status
  store_appends store old new is (inl (rows, are, (left, put, kept))) =
      inl (record { left = left; appended = record { tree = t; tree_is = is; rows = rows; rows_are = are; put = put }; kept = kept })
  store_appends store old new is (inr (unput, same)) = inr (inr (record { tree = t; tree_is = is; is = unput }), same)

  pub store_safely : (store : StoreFacts) (files : FilesFacts) (was now : FolderClock) → IsTreeOf store t → Runs (IsSameBut table (HoldsRows t text out out_now status)) files was now
      → Runs (IsSameBut table (HoldsMore store text out out_now status)) files was now
  store_safely store files was now is runs =
      runs_as table (HoldsMore store text out out_now status) (HoldsRows t text out out_now status) files was now
      (λ held (rows, are, (left, put, done, holds)). (left, record { tree = t; tree_is = is; rows = rows; rows_are = are; put = put }, done, holds)) runs

-- ---- it lasts

pub more_lasts : (table text : List ℕ) (t : TreeView) (out out_now : OutFacts) (status : Status) (store : StoreFacts) (files : FilesFacts) (now : FolderClock) → IsTreeOf store t
    → Endures table (HoldsRows t text out out_now status) files now → Endures table (HoldsMore store text out out_now status) files now
more_lasts table text t out out_now status store files now is lasts = λ honest c may told.
    let (rows, are, (left, put, done, holds)) = lasts honest c may told in
    (left, record { tree = t; tree_is = is; rows = rows; rows_are = are; put = put }, done, holds)

pub text_lasts : (table text : List ℕ) (out out_now : OutFacts) (status : Status) (store : StoreFacts) (old mid : FilesFacts) (now : FolderClock) → IsLent old table store
    → (IsTrue old.honest → IsTrue mid.honest) → Endures table (HoldsMore store text out out_now status) mid now
    → Endures table (HoldsText table text old out out_now status) old now
text_lasts table text out out_now status store old mid now lent still lasts = λ honest c may told. (store, lent, lasts (still honest) c may told)

pub appended_lasts : (table source text : List ℕ) (old mid : FilesFacts) (now : FolderClock) (out out_now : OutFacts) (status : Status) → HasRead source text old mid
    → Endures table (HoldsText table text mid out out_now status) mid now → Endures table (HoldsAppended table source old out out_now status) old now
appended_lasts table source text old mid now out out_now status read lasts = λ honest c may told.
    let (store, lent, (left, appended, closed, holds)) = lasts (read_honest source text old mid read honest) c may told in
    record {
      text = text;
      mid = mid;
      store = store;
      left = left;
      read = read;
      lent = lent;
      appended = appended;
      closed = closed;
      holds = holds;
    }

-- ---- a table file lent it

module _ (table text : List ℕ) (out out_now : OutFacts) (status : Status) where
  pub text_safely : (store : StoreFacts) (old mid : FilesFacts) (was then now : FolderClock) → IsLent old table store → (IsTrue old.honest → IsTrue mid.honest)
      → Runs IsSameFolder old was then → Runs (IsSameBut table (HoldsMore store text out out_now status)) mid then now
      → Runs (IsSameBut table (HoldsText table text old out out_now status)) old was now
  text_safely store old mid was then now lent honest one two =
      runs_then table (HoldsText table text old out out_now status) old mid was then now honest one
      (runs_as table (HoldsText table text old out out_now status) (HoldsMore store text out out_now status) mid then now (λ held more. (store, lent, more)) two)

  pub text_same : (old : FilesFacts) (was now : FolderClock) → Runs IsSameFolder old was now → Runs (IsSameBut table (HoldsText table text old out out_now status)) old was now
  text_same old was now runs = runs_same table (HoldsText table text old out out_now status) old was now runs

-- ---- the text was read of a file

pub appended_safely : (table source text : List ℕ) (old mid : FilesFacts) (was then now : FolderClock) (out out_now : OutFacts) (status : Status) → HasRead source text old mid
    → Runs IsSameFolder old was then → Runs (IsSameBut table (HoldsText table text mid out out_now status)) mid then now
    → Runs (AppendsSafely table source old out out_now status) old was now
appended_safely table source text old mid was then now out out_now status read one two =
    runs_then table (HoldsAppended table source old out out_now status) old mid was then now (read_honest source text old mid read) one
    (runs_as table (HoldsAppended table source old out out_now status) (HoldsText table text mid out out_now status) mid then now
    (λ held (store, lent, (left, appended, closed, holds)). record {
      text = text;
      mid = mid;
      store = store;
      left = left;
      read = read;
      lent = lent;
      appended = appended;
      closed = closed;
      holds = holds;
    })
    two)

pub append_same : (table source : List ℕ) (old : FilesFacts) (was now : FolderClock) (out out_now : OutFacts) (status : Status) → Runs IsSameFolder old was now
    → Runs (AppendsSafely table source old out out_now status) old was now
append_same table source old was now out out_now status runs = runs_same table (HoldsAppended table source old out out_now status) old was now runs

pub append_still : (table source : List ℕ) (old : FilesFacts) (clock : FolderClock) (out out_now : OutFacts) (status : Status)
    → Runs (AppendsSafely table source old out out_now status) old clock clock
append_still table source old clock out out_now status = runs_still table (HoldsAppended table source old out out_now status) old clock

-- ---- what is left of a closed table is one

pub appended_sound : (schema : Schema) (placed : List Placed) (next : ℕ) (store left : StoreFacts) (text : List ℕ) (out out_now : OutFacts) (status : Status)
    → IsHonest store → AreSoundPages store.pages schema placed next → (a : HasAppended store text left out out_now status) → IsOk a.put.closed.closing
    → AreSoundPages left.pages a.put.now.schema a.put.now.placed a.put.now.next
appended_sound schema placed next store left text out out_now status honest sound a done =
    let of_tree = (a.tree_is.sound schema placed next honest sound).0 in
    (where_ok a.put.closed.closing done (a.put.closed.closes.closed (a.put.puts.appended of_tree).sound)).1
