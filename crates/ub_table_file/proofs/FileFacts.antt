-- What the commands on a table file leave of it, and of the files that they read, step by step.
use Rattle.std.proofs.lemmas.Bool.{cases_Bool, false≢true}
use Rattle.std.specs.Prelude.{IfOk, IsErrAnd, IsErrOf, IsTrue, IsOk, OnOk}
use Rattle.std.proofs.Common.{◌≡◌, ◌⊎◌, ◌↔◌, ◌∙◌, ◌≤◌, ℕ, zero, suc, Bool, List, [], Some, Result, Ok, Err, inl, inr, ap, arith, false, true, refl, subst, sym}
use Rattle.ub_script.specs.Faults.{counted}
use Rattle.ub_script.specs.Output.{OutFacts, out_facts}
use Rattle.ub_script.specs.Script.{HasChangeWord, OnlyAsks}
use Rattle.ub_store.specs.Facts.{StoreFacts}
use Rattle.ub_store.specs.declared.fault.StoreFault.{StoreFault}
use Rattle.ub_store.specs.declared.fault.StoreFault.TheVariants as store
use Rattle.ub_tree.specs.Effects.{written_store}
use Rattle.ub_script.specs.declared.fault.RunFault.{RunFault}
use Rattle.ub_script.specs.declared.fault.RunFault.TheVariants as stop
use Rattle.ub_tree.specs.Opened.{IsOpened}
use Rattle.ub_tree.specs.View.{TreeView}
use Rattle.ub_tree.specs.declared.fault.TreeFault.{TreeFault}
use Rattle.ub_table.specs.declared.schema.Schema.{Schema}
use Rattle.ub_table_file.specs.Commands.{HasRead, HasRunTree, IsKept, IsUnopened, IsUnread, IsUnready, IsWeighed, OpensFor, RunsScript, TellsRan, status_after}
use Rattle.ub_files.specs.declared.fault.OpenFault.{OpenFault}
use Rattle.ub_files.specs.declared.fault.OpenFault.TheVariants as opening
use Rattle.ub_table_file.specs.Status.{Tells, open_fault_status, open_fault_text, store_fault_status, store_fault_text}
use Rattle.ub_files.specs.Files.{FilesFacts, ChangesFile, IsText, KeepsFile, IsTorn, OpensFile, ReadsFile}
use Rattle.ub_table_file.specs.Queried.{IsShown, QueriesFile}
use Rattle.ub_table_file.specs.declared.status.Status.{Status}

-- ---- files

-- a file was read, or not
pub has_read : {A : Type 0} (path text : List ℕ) (old new : FilesFacts) (a : A) → IsText (old.holds path) text → ReadsFile path old new (Ok a) → HasRead path text old new
has_read path text old new a is h = record {
  text_is = is;
  reads = record { same = h.same; readings = h.readings; kept = h.kept; others = h.others; used_up = h.used_up };
}

pub not_read : {A : Type 0} (path : List ℕ) (old new : FilesFacts) (fault : StoreFault) (out out_now : OutFacts) (status : Status)
    → (fault ≡ store.Device) ⊎ (fault ≡ store.Memory) → ReadsFile {A = A} path old new (Err fault) → Tells out out_now (store_fault_text fault) (store_fault_status fault) status
    → IsUnread path old new out out_now status
not_read path old new fault out out_now status is h told = record {
  fault = fault;
  is = is;
  reads = record { same = h.same; readings = h.readings; kept = h.kept; others = h.others; used_up = tt };
  tells = told;
}

-- a question was answered with no
pub not_so : (answer : Bool) (P : Type 0) → (P → IsTrue answer) → answer ≡ false → P → ⊥
not_so answer P told is p = false≢true (sym is ∙ told p)

-- nothing is said where a call was refused
pub none_kept : {A E : Type 0} (P : A → Type 0) (r : Result A E) (fault : E) → IsErrAnd r (λ e. e ≡ fault) → IfOk r P
none_kept P (Ok a) fault is = absurd is
none_kept P (Err e) fault is = tt

-- ---- a script on a table file

-- a table file was not opened
pub not_opened : {A : Type 0} (table : List ℕ) (old new : FilesFacts) (fault : StoreFault) (out out_now : OutFacts) (status : Status)
    → (fault ≡ store.Device) ⊎ ((fault ≡ store.BadSize) ⊎ (fault ≡ store.Memory)) → (IsErrOf {T = A} (Err fault) store.BadSize → IsTorn (old.holds table))
    → OpensFile {A = A} old new (Err fault) → Tells out out_now (store_fault_text fault) (store_fault_status fault) status
    → IsUnopened table old new out out_now status
not_opened {A} table old new fault out out_now status faults torn opens told = record {
  fault = fault;
  is = elim faults [
    | inl device ↦ inl device
    | inr others ↦ elim others [
      | inl size ↦ inr (inl (size, torn (ap (λ (f : StoreFault). Err f) size)))
      | inr memory ↦ inr (inr memory)
    ]
  ];
  files = opens;
  tells = told;
}

-- nor to be changed
pub not_ready : {A : Type 0} (table : List ℕ) (old new : FilesFacts) (fault : OpenFault) (out out_now : OutFacts) (status : Status)
    → (fault ≡ opening.BadJournal) ⊎ ((fault ≡ opening.Store store.Device) ⊎ ((fault ≡ opening.Store store.BadSize) ⊎ (fault ≡ opening.Store store.Memory)))
    → (IsErrOf {T = A} (Err fault) (opening.Store store.BadSize) → IsTorn (old.holds table))
    → ChangesFile {A = A} table old new (Err fault) → Tells out out_now (open_fault_text fault) (open_fault_status fault) status
    → IsUnready table old new out out_now status
not_ready {A} table old new fault out out_now status faults torn opens told = record {
  fault = fault;
  is = elim faults [
    | inl journal ↦ inl journal
    | inr some ↦ elim some [
      | inl device ↦ inr (inl device)
      | inr others ↦ elim others [
        | inl size ↦ inr (inr (inl (size, torn (ap (λ (f : OpenFault). Err f) size))))
        | inr memory ↦ inr (inr (inr memory))
      ]
    ]
  ];
  files = record { same = opens.same; others = opens.others };
  tells = told;
}

-- a table file was opened: to be changed, or to be asked
pub opened_to_change : {A : Type 0} (path : List ℕ) (old new : FilesFacts) (a : A) → ChangesFile path old new (Ok a) → OpensFor true path old new
opened_to_change path old new a opens = record { same = opens.same; others = opens.others }

pub opened_to_ask : {A : Type 0} (path : List ℕ) (old new : FilesFacts) (a : A) → OpensFile {A = A} old new (Ok a) → OpensFor false path old new
opened_to_ask path old new a opens = opens

-- whether a script may change the table, where that was answered
pub weighed_as : (script : List ℕ) (may changes : Bool) → may ≡ changes → (IsTrue may ↔ HasChangeWord script) → (may ≡ false → (schema : Schema) → OnlyAsks schema script)
    → IsWeighed script changes
weighed_as script may changes is exact asks = subst (λ (b : Bool). IsWeighed script b) is (record { exact = exact; asks = asks })

-- a line that was told, with the status that a closing leaves of that which it had
told_by : (closed : Result (Unit {0}) TreeFault) (out out_now : OutFacts) (bytes : List ℕ) (wanted status : Status) → Tells out out_now bytes wanted status
    → Tells out out_now bytes (status_after closed wanted) (status_after closed status)
told_by (Ok done) out out_now bytes wanted status told = told
told_by (Err fault) out out_now bytes wanted status (inl told) = inl (refl, told.1)
told_by (Err fault) out out_now bytes wanted status (inr broken) = inr (refl, broken.1)

-- what a fault of a run ends with, where what was done before it isn't kept
pub told_after_fault : (fault : RunFault) (closed : Result (Unit {0}) TreeFault) (out out_now : OutFacts) (status : Status) → TellsRan (Err fault) (Ok tt) out out_now status
    → TellsRan (Err fault) closed out out_now (status_after closed status)
told_after_fault stop.Memory closed out out_now status told = told_by closed out out_now _ _ status told
told_after_fault stop.Write (Ok done) out out_now status told = told
told_after_fault stop.Write (Err fault) out out_now status told = (refl, told.1)
told_after_fault (stop.Load fault) closed out out_now status told = told_by closed out out_now _ _ status told
told_after_fault (stop.Tree fault) closed out out_now status told = told_by closed out out_now _ _ status told

-- what is left of the store of a tree that was opened, only asked and closed
pub store_left : {script : List ℕ} {left : StoreFacts} {out out_now : OutFacts} {status : Status} (store : StoreFacts) (t : TreeView) → IsOpened store t
    → (ran : HasRunTree t script left out out_now status) → OnlyAsks t.schema script → left ≡ record store { failed_reads = counted ran.result store.failed_reads }
store_left store t opened ran asks =
    let same = (ran.ran.asked asks).same in
    let changed = ap (λ (v : TreeView). v.is_changed) same ∙ opened.unchanged in
    let failed = ap (λ (v : TreeView). v.is_failed) same ∙ opened.working in
    (ran.closes.unchanged changed failed).1 ∙ ap (λ (v : TreeView). v.store) same
    ∙ ap (λ (s : StoreFacts). record s { failed_reads = counted ran.result s.failed_reads }) opened.store_is

-- what is so where a call was done that was
pub where_ok : {A E X : Type 0} (r : Result A E) → IsOk r → OnOk r X → X
where_ok (Ok a) done h = h
where_ok (Err e) done h = absurd (false≢true done)

-- what is left of the store of a tree that was closed
store_kept : {A : Type 0} (a : A) (old new : StoreFacts) → new ≡ old → new ≡ written_store {A = A} (Ok a) old new
store_kept a old new same = rw same refl

pub store_closed : {A : Type 0} (a : A) (t : TreeView) (left : StoreFacts) → (IsTrue t.is_changed → left ≡ record t.store { pages = left.pages; synced = left.synced })
    → (t.is_changed ≡ false → t.is_failed ≡ false → left ≡ t.store) → (IsTrue t.is_failed → ⊥) → left ≡ written_store {A = A} (Ok a) t.store left
store_closed a t left saved unchanged working = elim (cases_Bool t.is_changed) [
  | inl changed ↦ saved changed
  | inr same ↦ elim (cases_Bool t.is_failed) [
    | inl failed ↦ absurd (working failed)
    | inr works ↦ store_kept a t.store left (unchanged same works)
  ]
]

-- what is left was kept where that was to be done, and else it wasn't
pub kept_where : (changes : Bool) (path : List ℕ) (left : List (List ℕ)) (keeping : Result (Unit {0}) StoreFault) (old new : FilesFacts) → changes ≡ true
    → KeepsFile path left old new keeping → IsKept changes path left (Ok tt) keeping old new
kept_where true path left keeping old new is h = h
kept_where false path left keeping old new is h = cc

pub unkept_where : (changes : Bool) (path : List ℕ) (left : List (List ℕ)) (closing : Result (Unit {0}) TreeFault) (old new : FilesFacts) → changes ≡ false → new ≡ old
    → IsKept changes path left closing (Ok tt) old new
unkept_where false path left closing old new is same = (refl, same)
unkept_where true path left closing old new is same = cc

pub unkept_closing : (changes : Bool) (path : List ℕ) (left : List (List ℕ)) (fault : TreeFault) (old new : FilesFacts) → new ≡ old
    → IsKept changes path left (Err fault) (Ok tt) old new
unkept_closing true path left fault old new same = (refl, same)
unkept_closing false path left fault old new same = (refl, same)

-- ---- statements on a table file

-- no write failed where a failure isn't told
pub no_failure : (failed : Bool) (n : ℕ) → (IsTrue failed ↔ (1 ≤ n)) → failed ≡ false → n ≡ 0
no_failure failed zero told is = refl
no_failure failed (suc n) told is = absurd (false≢true (sym is ∙ told.1 (omega arith)))

-- statements were run, into memory, and their text was shown
pub queried : (table statements : List ℕ) (old new : FilesFacts) (before after : OutFacts) (text : List ℕ) (failed : ℕ) (of_run : Status) (out out_now notes notes_now : OutFacts)
    (status : Status) → before ≡ out_facts (Some []) 0 → after ≡ out_facts (Some text) failed → RunsScript table statements old new before after of_run
    → IsShown text failed of_run out out_now notes notes_now status → QueriesFile table statements old new out out_now notes notes_now status
queried table statements old new before after text failed of_run out out_now notes notes_now status none all ran shown =
    record { text = text; failed = failed; ended = of_run; asked = rw (none, all) at ran; shown = shown }
