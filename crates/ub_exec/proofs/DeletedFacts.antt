-- What a deletion leaves, put together of reading and of taking out.
use Rattle.std.proofs.Common.{◌≡◌, ◌∙◌, inl, inr, ℕ, Bool, false, IsTrue, List, Result, Ok, Err, length, slice_get, take, refl, sym, ap, subst}
use Rattle.std.proofs.lemmas.Bool.{true≢false}
use Rattle.std.specs.List.{AllByRecursion}
use Rattle.std.specs.Result.{IsErrAnd}
use Rattle.ub_exec.proofs.NotedFacts.{on_ok}
use Rattle.ub_exec.proofs.StandFacts.{first_out, none_taken, read_stand, rows_out, selected_rise, selected_there, stand_by}
use Rattle.ub_exec.proofs.TakenFacts.{stopped_at, taken_lost, taken_none}
use Rattle.ub_exec.specs.Answers.{begun}
use Rattle.ub_exec.specs.Deleting.{Deletes, HasReadKeys, HasMetDevice, IsDeletionFault, IsDeletionOf, ReadsFirst, StopsAt, TakesOut, TakesOutBy, answer_of}
use Rattle.ub_exec.specs.Reading.{IsRead, NotesPages}
use Rattle.ub_exec.specs.Stand.{Stand, IsStandOf, selected_of, without_rows, without_selected}
use Rattle.ub_exec.specs.Visits.{HasFetched}
use Rattle.ub_planning.specs.Plan.{PlanView, plan_of}
use Rattle.ub_query.specs.Shape.{Asked}
use Rattle.ub_store.specs.Facts.{StoreFacts}
use Rattle.ub_store.specs.View.{Trace}
use Rattle.ub_store.specs.declared.fault.StoreFault.TheVariants as store
use Rattle.ub_table.specs.Region.{keys_of}
use Rattle.ub_table.specs.declared.row.Key.{Key}
use Rattle.ub_table.specs.declared.row.Row.{Row}
use Rattle.ub_table.specs.declared.schema.Schema.{Schema}
use Rattle.ub_tree.proofs.Laws.{IsTraced, Keeps, Keeps-by, Keeps-more, begun_traced}
use Rattle.ub_tree.specs.Effects.{KeepsMark, Works}
use Rattle.ub_tree.specs.Reading.{ReadsTree, fault_of_tree}
use Rattle.ub_tree.specs.View.{TreeView, KeepsTrace}
use Rattle.ub_tree.specs.declared.fault.TreeFault.{TreeFault}
use Rattle.ub_tree.specs.declared.fault.TreeFault.TheVariants.{Full, Page, Store, Failed, Memory as no_memory}
use Rattle.ub_tree.specs.declared.read_fault.ReadFault.{ReadFault}
use Rattle.ub_tree.specs.declared.read_fault.ReadFault.TheVariants.{Memory, Tree}
use Rattle.ub_writing.specs.Marks.{KeepsUnless}

-- ---- from a tree whose trace begins anew

pub begun_keeps : (old t : TreeView) → t ≡ begun old → Keeps old t
begun_keeps old t begins = Keeps-by old t (begun_traced old t begins)

pub begun_stand : (old t : TreeView) (s : Stand) → t ≡ begun old → IsStandOf old s → IsStandOf t s
begun_stand old t s begins stand = stand_by old t s (begun_keeps old t begins) stand

pub begun_deletion : (old t : TreeView) (p : PlanView) → t ≡ begun old → IsDeletionOf old p → IsDeletionOf t p
begun_deletion old t p begins deletion =
    let kept = begun_keeps old t begins in
    record {
      ready = record {
        sound = kept.sound deletion.ready.sound;
        planned = subst (λ (s : Schema). p ≡ plan_of s p.asked) (sym kept.regions.schema) deletion.ready.planned;
      };
      plain = deletion.plain;
    }

pub begun_then : (old t mid : TreeView) → t ≡ begun old → IsTraced t mid → IsTraced old mid
begun_then old t mid begins traced = (Keeps-more old t mid (begun_keeps old t begins) (Keeps-by t mid traced)).traced

pub works_still : (old t : TreeView) (failed : Bool) → t ≡ begun old → failed ≡ t.is_failed → failed ≡ false → old.is_failed ≡ false
works_still old t failed begins told none = ap (λ (x : TreeView). x.is_failed) (sym begins) ∙ sym told ∙ none

-- ---- what was fetched, where nothing is noted later

pub fetched_then : (p : PlanView) (old mid new : TreeView) → KeepsTrace mid new → HasFetched p old mid → HasFetched p old new
fetched_then p old mid new kept fetched = record {
  visits = fetched.visits;
  visits_are = fetched.visits_are;
  visited = fetched.visited;
  there = fetched.there;
  regions_are = fetched.regions_are;
  trace_is = ap (λ (t : Trace). t.pages) kept ∙ fetched.trace_is;
  fetches_are = ap (λ (t : Trace). t.fetches) kept ∙ fetched.fetches_are;
}

notes_on : {A B : Type 0} (x : A) (r : Result B ReadFault) (old mid new : TreeView) → KeepsTrace mid new → NotesPages old mid (Ok x) → NotesPages old new r
notes_on x r old mid new kept notes = record {
  noted = notes.noted;
  trace_is = ap (λ (t : Trace). t.pages) kept ∙ notes.trace_is;
  fetches_are = ap (λ (t : Trace). t.fetches) kept ∙ notes.fetches_are;
  read = on_ok r (AllByRecursion (IsRead old) notes.noted) notes.read;
}

-- ---- reading, and then taking out

module _ {A : Type 0} (x : A) (p : PlanView) (old mid new : TreeView) (reads : ReadsTree old mid (Ok x)) (notes : NotesPages old mid (Ok x)) (keys : List Key) (read : HasReadKeys p old mid keys) where
  taken_after : (told : Result ℕ TreeFault) → TakesOutBy keys mid new told → KeepsTrace mid new → ReadsFirst p old new (answer_of told)
  taken_after told taken kept = record {
    notes = notes_on x (answer_of told) old mid new kept notes;
    first = inr (record {
      mid = mid;
      same = reads.same;
      keys = keys;
      read = read;
      told = told;
      taken = taken;
      result_is = refl;
    });
  }

  pub first_done : (count : ℕ) → TakesOut keys mid new count → ReadsFirst p old new (Ok count)
  first_done count taken = taken_after (Ok count) taken (ap (λ (t : TreeView). t.trace) (taken_lost keys mid new count taken).frame)

  pub first_stopped : (fault : TreeFault) → mid.is_failed ≡ false → StopsAt keys mid new fault → ReadsFirst p old new (Err (fault_of_tree fault))
  first_stopped fault working stops = taken_after (Err fault) stops (ap (λ (t : TreeView). t.trace) (stopped_at keys mid new fault working stops).frame)

pub first_read : {A : Type 0} (e : ReadFault) (p : PlanView) (old new : TreeView) → ReadsTree {A = A} old new (Err e) → NotesPages {A = A} old new (Err e) → ReadsFirst p old new (Err e)
first_read e p old new reads notes = record {
  notes = record { noted = notes.noted; trace_is = notes.trace_is; fetches_are = notes.fetches_are; read = tt };
  first = inl (tt, record { same = reads.same; faults = reads.faults });
}

-- the fault of a call handed on
pub first_by : (r : Result ℕ ReadFault) (e : ReadFault) (p : PlanView) (old new : TreeView) → IsErrAnd r (λ x. x ≡ e) → ReadsFirst p old new (Err e) → ReadsFirst p old new r
first_by (Ok n) e p old new is reads = absurd is
first_by (Err f) e p old new is reads = subst (λ (x : ReadFault). ReadsFirst p old new (Err x)) (sym is) reads

pub deletes_by : (r : Result ℕ ReadFault) (e : ReadFault) (old new : TreeView) → IsErrAnd r (λ x. x ≡ e) → Deletes old new (Err e) → Deletes old new r
deletes_by (Ok n) e old new is deletes = absurd is
deletes_by (Err f) e old new is deletes = subst (λ (x : ReadFault). Deletes old new (Err x)) (sym is) deletes

-- ---- what is left

-- a fault seen from before a call that only read
fault_before : (a b new : TreeView) (fault : TreeFault) → IsTraced a b → a.is_failed ≡ false → IsDeletionFault b new (fault_of_tree fault) → IsDeletionFault a new (fault_of_tree fault)
fault_before a b new Full traced working left = left
fault_before a b new Failed traced working left = let failed = left.0 in let same = ap (λ (t : TreeView). t.is_failed) traced in cc
fault_before a b new no_memory traced working left = subst (λ (t : TreeView). Works t new) traced left
fault_before a b new (Page page fault) traced working left =
    ((λ sound. left.0 ((Keeps-by a b traced).sound sound)), subst (λ (t : TreeView). Works t new) traced left.1)
fault_before a b new (Store store.Device) traced working left =
    subst (λ (t : TreeView). IsDeletionFault t new (Tree (Store store.Device))) traced left
fault_before a b new (Store store.NoPage) traced working left =
    ((λ sound. left.0 ((Keeps-by a b traced).sound sound)), subst (λ (t : TreeView). Works t new) traced left.1)
fault_before a b new (Store store.BadSize) traced working left = left
fault_before a b new (Store store.Memory) traced working left = left

-- a fault of reading
reading_fault : {A : Type 0} (old new : TreeView) (e : ReadFault) → old.is_failed ≡ false → ReadsTree {A = A} (begun old) new (Err e) → IsDeletionFault old new e
reading_fault old new Memory working reads = subst (λ (t : TreeView). Works old t) (sym reads.same) (refl, refl)
reading_fault old new (Tree Full) working reads = absurd reads.faults.0
reading_fault old new (Tree Failed) working reads = let failed = reads.faults.0 in cc
reading_fault old new (Tree no_memory) working reads = absurd (reads.faults.1 refl)
reading_fault old new (Tree (Page page fault)) working reads =
    ((λ sound. reads.faults.0.0 ((begun_keeps old (begun old) refl).sound sound)), subst (λ (t : TreeView). Works old t) (sym reads.same) (refl, refl))
reading_fault old new (Tree (Store store.Device)) working reads =
    (reads.faults.0, subst (λ (t : TreeView). HasMetDevice old t) (sym reads.same) (inl (refl, refl)))
reading_fault old new (Tree (Store store.NoPage)) working reads =
    ((λ sound. reads.faults.0.0 ((begun_keeps old (begun old) refl).sound sound)), subst (λ (t : TreeView). Works old t) (sym reads.same) (refl, refl))
reading_fault old new (Tree (Store store.BadSize)) working reads = absurd reads.faults.0
reading_fault old new (Tree (Store store.Memory)) working reads = absurd reads.faults.0

-- the tree had failed
pub deletes_failed : (old new : TreeView) → new ≡ begun old → IsTrue old.is_failed → Deletes old new (Err (Tree Failed))
deletes_failed old new begins failed = subst (λ (t : TreeView). Deletes old t (Err (Tree Failed))) (sym begins) (record {
  frame = refl;
  counted = tt;
  stays = λ changed. changed;
  marks = tt;
  kept = λ honest unchanged m apart within. refl;
  marked = λ honest had changed. had changed;
  done = tt;
  left = (failed, refl);
  failed = λ is. refl;
})

not_failed : {X : Type 0} (failed : Bool) → failed ≡ false → IsTrue failed → X
not_failed failed working is = absurd (true≢false (sym is ∙ working))

-- reading was ended by a fault
pub deletes_read : {A : Type 0} (old new : TreeView) (e : ReadFault) → old.is_failed ≡ false → ReadsTree {A = A} (begun old) new (Err e) → Deletes old new (Err e)
deletes_read {A = A} old new e working reads = record {
  frame = reads.same ∙ ap (λ (t : TreeView). record old { placed = t.placed; rows = t.rows; is_changed = t.is_changed; is_failed = t.is_failed; store = t.store; trace = new.trace; inner = t.inner }) (sym reads.same);
  counted = tt;
  stays = λ changed. ap (λ (t : TreeView). t.is_changed) reads.same ∙ changed;
  marks = tt;
  kept = λ honest unchanged m apart within. ap (λ (t : TreeView). slice_get t.store.pages m) reads.same;
  marked = subst (λ (t : TreeView). KeepsMark old t) (sym reads.same) (λ honest had changed. had changed);
  done = tt;
  left = reading_fault {A = A} old new e working reads;
  failed = not_failed old.is_failed working;
}

module _ (old mid new : TreeView) (working : old.is_failed ≡ false) (traced : IsTraced old mid) (keys : List Key) where
  still_works : mid.is_failed ≡ false
  still_works = ap (λ (t : TreeView). t.is_failed) traced ∙ working

  frame_of : new ≡ record mid { placed = new.placed; rows = new.rows; is_changed = new.is_changed; is_failed = new.is_failed; store = new.store; inner = new.inner }
      → new ≡ record old { placed = new.placed; rows = new.rows; is_changed = new.is_changed; is_failed = new.is_failed; store = new.store; trace = new.trace; inner = new.inner }
  frame_of frame =
      frame ∙ ap (λ (t : TreeView). record t { placed = new.placed; rows = new.rows; is_changed = new.is_changed; is_failed = new.is_failed; store = new.store; inner = new.inner }) traced
      ∙ ap (λ (trace : Trace). record old { placed = new.placed; rows = new.rows; is_changed = new.is_changed; is_failed = new.is_failed; store = new.store; trace = trace; inner = new.inner })
      (sym (ap (λ (t : TreeView). t.trace) frame))

  -- taking out was ended by a fault
  pub deletes_stopped : (fault : TreeFault) → StopsAt keys mid new fault → Deletes old new (Err (fault_of_tree fault))
  deletes_stopped fault stops =
      let stopped = stopped_at keys mid new fault still_works stops in
      record {
        frame = frame_of stopped.frame;
        counted = tt;
        stays = λ changed. stopped.stays (ap (λ (t : TreeView). t.is_changed) traced ∙ changed);
        marks = tt;
        kept = subst (λ (facts : StoreFacts). KeepsUnless new.is_changed facts new.store) (ap (λ (t : TreeView). t.store) traced) stopped.kept;
        marked = subst (λ (t : TreeView). KeepsMark t new) traced stopped.marked;
        done = tt;
        left = fault_before old mid new fault traced working stopped.left;
        failed = not_failed old.is_failed working;
      }

  -- all of them were taken out
  pub deletes_done : (count : ℕ) → TakesOut keys mid new count → Deletes old new (Ok count)
  deletes_done count taken =
      let lost = taken_lost keys mid new count taken in
      record {
        frame = frame_of lost.frame;
        counted = lost.counted ∙ ap (λ (t : TreeView). t.rows) traced;
        stays = λ changed. lost.stays (ap (λ (t : TreeView). t.is_changed) traced ∙ changed);
        marks = lost.marks;
        kept = subst (λ (facts : StoreFacts). KeepsUnless new.is_changed facts new.store) (ap (λ (t : TreeView). t.store) traced) lost.kept;
        marked = subst (λ (t : TreeView). KeepsMark t new) traced lost.marked;
        done = subst (λ (t : TreeView). Works t new) traced lost.works;
        left = tt;
        failed = not_failed old.is_failed working;
      }

-- ---- where a sound tree stands then

module _ (old t mid new : TreeView) (q : Asked) (s : Stand) (begins : t ≡ begun old) (traced : IsTraced t mid) (stand : IsStandOf old s) (keys : List Key)
    (keys_are : keys ≡ keys_of s.table.schema.dims (selected_of q s)) where
  mid_stand : IsStandOf mid s
  mid_stand = stand_by t mid s (Keeps-by t mid traced) (begun_stand old t s begins stand)

  -- all selected rows are gone
  pub done_stand : (count : ℕ) → TakesOut keys mid new count → (count ≡ length (selected_of q s)) × IsStandOf new (without_selected q s)
  done_stand count taken =
      rows_out (selected_of q s) mid new s count mid_stand (selected_rise q s stand.rows_are.ascending) (selected_there q s)
      (subst (λ (ks : List Key). TakesOut ks mid new count) keys_are taken)

  -- the first of them are
  pub stopped_stand : (fault : TreeFault) → StopsAt keys mid new fault → new.is_failed ≡ false → (j : ℕ) × IsStandOf new (without_rows (take j (selected_of q s)) s)
  stopped_stand fault stops working =
      first_out (selected_of q s) mid new s fault mid_stand (selected_rise q s stand.rows_are.ascending) (selected_there q s)
      (subst (λ (ks : List Key). StopsAt ks mid new fault) keys_are stops) working

-- none of them is
pub read_stopped : {A : Type 0} (old t new : TreeView) (q : Asked) (s : Stand) (e : ReadFault) → t ≡ begun old → IsStandOf old s → ReadsTree {A = A} t new (Err e)
    → (j : ℕ) × IsStandOf new (without_rows (take j (selected_of q s)) s)
read_stopped {A = A} old t new q s e begins stand reads = (
  0,
  subst (λ (rows : List Row). IsStandOf new (without_rows rows s)) (sym (none_taken (selected_of q s)))
      (read_stand {A = A} t new s e reads (begun_stand old t s begins stand)),
)

-- ---- nothing is noted while rows are taken out

pub done_keeps : (keys : List Key) (mid new : TreeView) (count : ℕ) → TakesOut keys mid new count → KeepsTrace mid new
done_keeps keys mid new count taken = ap (λ (t : TreeView). t.trace) (taken_lost keys mid new count taken).frame

pub stopped_keeps : (keys : List Key) (mid new : TreeView) (fault : TreeFault) → mid.is_failed ≡ false → StopsAt keys mid new fault → KeepsTrace mid new
stopped_keeps keys mid new fault working stops = ap (λ (t : TreeView). t.trace) (stopped_at keys mid new fault working stops).frame

-- no row was there
pub none_gone : (keys : List Key) (old mid new : TreeView) (count : ℕ) → IsTraced old mid → TakesOut keys mid new count → count ≡ 0 → new ≡ record old { trace = new.trace }
none_gone keys old mid new count traced taken none =
    let same = taken_none keys mid new count taken none in
    same ∙ traced ∙ ap (λ (t : TreeView). record old { trace = t.trace }) (sym same)
