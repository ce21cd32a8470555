-- What an INSERT and a DELETE make of a tree, and what they leave of it.
use Rattle.std.proofs.Common.{◌≡◌, ◌∙◌, ◌+◌, ◌-◌, ◌<◌, ◌≤◌, ◌++◌, ◌∷◌, [], inl, inr, ◌⊎◌, ℕ, suc, ℤ, pos, true, false, IsTrue, Result, Ok, Err, Option, Some, List, length, take, drop, map, slice_index_or, subst, sym, ap, refl, arith, add-zero}
use Rattle.std.proofs.lemmas.Bool.{cases_Bool, true≢false}
use Rattle.std.proofs.lemmas.List.{length-drop, length-map, length-take-le, take_all, take_more}
use Rattle.std.proofs.lemmas.List.FromFn.{get_or-enumerate_from, length-enumerate_from}
use Rattle.std.specs.List.{enumerate_from}
use Rattle.std.specs.Option.{IsSome, unwrap_or}
use Rattle.std.specs.Prelude.{IfErr, IfOk, OnOk}
use Rattle.std.specs.Result.{IsErrAnd}
use Rattle.ub_exec.proofs.Laws.{change_stand, sound_trees_stand}
use Rattle.ub_exec.specs.Answers.{IsReady, begun}
use Rattle.ub_exec.specs.Deleting.{Deletes, HasMetDevice, IsDeletionFault, IsDeletionOf, ReadsFirst}
use Rattle.ub_exec.specs.Stand.{Stand, IsStandOf, selected_of, with_row, without_rows, without_selected}
use Rattle.ub_exec.specs.Visits.{HasFetched, HasFetchedFirst}
use Rattle.ub_parser.specs.Outcome.{IsGiven, puts, takes}
use Rattle.ub_planning.specs.Plan.{PlanView, plan_of}
use Rattle.ub_query.specs.Shape.{Asked}
use Rattle.ub_region.specs.Regions.{insert}
use Rattle.ub_script.proofs.KeptFacts.{rest_of}
use Rattle.ub_script.proofs.RowsFacts.{pages_on, ready_of}
use Rattle.ub_script.proofs.StartFacts.{starts_of_all, starts_of_plan}
use Rattle.ub_script.specs.Basis.{Basis, on_stand, over_any, IsBasisOf, IsCommandEnd, IsDeleteReply, IsInsertReply}
use Rattle.ub_script.specs.Changes.{HasPutIn, HasTakenOut, PutsIn, coordinates_of, row_of}
use Rattle.ub_script.specs.Faults.{IsRunLeft, Runs, fault_of_read, fault_of_tree}
use Rattle.ub_script.specs.Formed.{IsSameBut}
use Rattle.ub_script.specs.Loop.{Replies, Stops}
use Rattle.ub_script.specs.Text.{deleted_text, inserted_text, reply}
use Rattle.ub_script.specs.declared.fault.RunFault.TheVariants as run
use Rattle.ub_store.specs.declared.fault.StoreFault.TheVariants as store
use Rattle.ub_table.proofs.Laws.{fitting_coordinate}
use Rattle.ub_table.specs.Region.{RegionRows, key_of, measures_of}
use Rattle.ub_table.specs.Value.{axes_of, coordinate, fits}
use Rattle.ub_table.specs.declared.row.Row.{Row}
use Rattle.ub_table.specs.declared.row.TheConstants.{MAX_ROW_NUMBER}
use Rattle.ub_table.specs.declared.schema.Schema.{Schema}
use Rattle.ub_tree.specs.Change as tree
use Rattle.ub_tree.specs.Change.{IsInserted}
use Rattle.ub_tree.specs.Effects.{Changes, IsIndexFull, IsLeft, Leaves, Works}
use Rattle.ub_tree.specs.Holding.{AnswersRow, GrowsAt}
use Rattle.ub_tree.specs.View.{TreeView, IsSound, regions}
use Rattle.ub_tree.specs.declared.fault.TreeFault.{TreeFault}
use Rattle.ub_tree.specs.declared.fault.TreeFault.TheVariants as fault
use Rattle.ub_tree.specs.declared.read_fault.ReadFault.{ReadFault}
use Rattle.ub_tree.specs.declared.read_fault.ReadFault.TheVariants as read

-- ---- the coordinates of a row

module _ {X A : Type 0} (f : ℕ × X → A) where
  -- what is made of some elements with their places, and of one more
  one_more : (n : ℕ) (xs : List X) (x : X) → map f (enumerate_from n (xs ++ x ∷ [])) ≡ map f (enumerate_from n xs) ++ f (n + length xs, x) ∷ []
  one_more n [] x = rw add-zero refl
  one_more n (y ∷ xs) x =
      let same : n + 1 + length xs ≡ n + suc (length xs) = omega arith in
      ap (λ (r : List A). f (n, y) ∷ r) (one_more (n + 1) xs x ∙ ap (λ (k : ℕ). map f (enumerate_from (n + 1) xs) ++ f (k, x) ∷ []) same)

-- those that stand for the first so many values
abbrev pub coordinates_to : Schema → ℕ → List ℤ → List ℕ
coordinates_to schema i values = map (λ v. unwrap_or (coordinate schema v.0 v.1) 0) (enumerate_from 0 (take i values))

-- a value that is given fits its column
pub fits_here : (schema : Schema) (values : List ℤ) (i : ℕ) → IsGiven schema (puts values) → i < length values → fits schema i (slice_index_or values i (pos 0)) ≡ true
fits_here schema values i given le =
    let from : 0 + i ≡ i = omega arith in
    let at = get_or-enumerate_from 0 values i (0, pos 0) le ∙ ap {B = ℕ × ℤ} (λ (k : ℕ). (k, slice_index_or values i (pos 0))) from in
    subst (λ (v : ℕ × ℤ). fits schema v.0 v.1 ≡ true) at (given.1 i (0, pos 0) (omega (arith, length-enumerate_from 0 values)))

pub some_here : (schema : Schema) (i : ℕ) (v : ℤ) (o : Option ℕ) → i < schema.dims → fits schema i v ≡ true → o ≡ coordinate schema i v → IsSome o
some_here schema i v o lt fit is = rw (is ∙ (fitting_coordinate (axes_of schema) i v lt fit).1) refl

pub length_coordinates : (schema : Schema) (values : List ℤ) (i : ℕ) (dims : List ℕ) → dims ≡ coordinates_to schema i values → i ≤ length values → length dims ≡ i
length_coordinates schema values i dims are le =
    ap (λ (ds : List ℕ). length ds) are ∙ length-map (enumerate_from 0 (take i values)) (λ v. unwrap_or (coordinate schema v.0 v.1) 0)
    ∙ length-enumerate_from 0 (take i values) ∙ length-take-le i values le

-- the coordinate of one value more
pub coordinates_more : (schema : Schema) (values : List ℤ) (i : ℕ) (dims next : List ℕ) (o : Option ℕ) (x : ℕ) → i < length values
    → dims ≡ coordinates_to schema i values → o ≡ coordinate schema i (slice_index_or values i (pos 0)) → o ≡ Some x → next ≡ dims ++ x ∷ []
    → next ≡ coordinates_to schema (i + 1) values
coordinates_more schema values i dims next o x lt are is some grown =
    let f : ℕ × ℤ → ℕ = λ v. unwrap_or (coordinate schema v.0 v.1) 0 in
    let at : 0 + length (take i values) ≡ i = omega (arith, length-take-le i values (omega (arith, lt))) in
    let here : unwrap_or (coordinate schema i (slice_index_or values i (pos 0))) 0 ≡ x = ap (λ (c : Option ℕ). unwrap_or c 0) (sym is ∙ some) in
    grown ∙ ap (λ (ds : List ℕ). ds ++ x ∷ []) are ∙ ap (λ (y : ℕ). coordinates_to schema i values ++ y ∷ []) (sym here)
    ∙ ap (λ (k : ℕ). coordinates_to schema i values ++ f (k, slice_index_or values i (pos 0)) ∷ []) (sym at)
    ∙ sym (one_more f 0 (take i values) (slice_index_or values i (pos 0))) ∙ ap (λ (vs : List ℤ). map f (enumerate_from 0 vs)) (sym (take_more values i (pos 0) lt))

-- values that are given by a schema are given by one that is the same
pub given_same : (a b : Schema) (values : List ℤ) → a ≡ b → IsGiven b (puts values) → IsGiven a (puts values)
given_same a b values same = subst (λ (s : Schema). IsGiven s (puts values)) (sym same)

-- as many values are left for the measures as there are
pub measures_left : (schema : Schema) (values : List ℤ) (k : ℕ) → k ≡ schema.dims → length values ≡ length schema.columns
    → length (take (length values - k) (drop k values)) ≡ measures_of schema
measures_left schema values k is long =
    let left = length-drop k values in
    let all = length-take-le (length values - k) (drop k values) (omega (arith, left)) in
    omega (arith, all, is, long)

-- ---- faults

-- what holds of the fault that it is
pub if_err : {T E : Type 0} (r : Result T E) (e : E) (P : E → Type 0) → IsErrAnd r (λ x. x ≡ e) → P e → IfErr r P
if_err (Ok x) e P is p = absurd is
if_err (Err f) e P is p = subst P (sym is) p

works_same : (a b : TreeView) → b ≡ a → Works a b
works_same a b same = subst (λ (t : TreeView). Works a t) (sym same) (refl, refl)

works_left : (a b : TreeView) → Leaves a b → Works a b
works_left a b left = (ap (λ (t : TreeView). t.is_failed) left.same, ap (λ (t : TreeView). t.store) left.same)

-- what a fault leaves of a tree that was to be changed
change_left : (a b : TreeView) (e : TreeFault) → IsLeft a b e → IsRunLeft a b (fault_of_tree e)
change_left a b fault.Full left = subst (λ (t : TreeView). ((t.next ≡ MAX_ROW_NUMBER + 1) ⊎ IsIndexFull t) × Works a t) (sym left.1) (left.0, (refl, refl))
change_left a b fault.Failed left = (left.0, works_same a b left.1)
change_left a b fault.Memory left = works_left a b left
change_left a b (fault.Page page f) left = (left.0, works_same a b left.2)
change_left a b (fault.Store store.Device) (can, inl missed) = (can, subst (λ (t : TreeView). HasMetDevice a t) (sym missed) (inl (refl, refl)))
change_left a b (fault.Store store.Device) (can, inr ended) =
    (can, inr (ap (λ (t : TreeView). t.is_failed) ended.same, ap (λ (t : TreeView). t.store) ended.same))
change_left a b (fault.Store store.NoPage) left = (left.0, works_same a b left.2)
change_left a b (fault.Store store.BadSize) left = (works_left a b left.1, a, left.0, left.1)
change_left a b (fault.Store store.Memory) left = left

-- a change that a fault ended is a run
pub runs_change : {A : Type 0} (T : Type 0) (a b : TreeView) (e : TreeFault) → Changes {A = A} a b (Err e) → Runs {A = T} a b (Err (fault_of_tree e))
runs_change T a b e change = record {
  schema = ap (λ (t : TreeView). t.schema) change.frame;
  sound = λ sound. tt;
  marked = change.marked.marked;
  done = tt;
  left = change_left a b e change.left;
}

-- what a fault leaves of a tree from which rows were to be taken out
deletion_left : (a b : TreeView) (e : ReadFault) → IsDeletionFault a b e → IsRunLeft a b (fault_of_read e)
deletion_left a b read.Memory left = left
deletion_left a b (read.Tree fault.Full) left = absurd left
deletion_left a b (read.Tree fault.Failed) left = (left.0, subst (λ (t : TreeView). Works a t) (sym left.1) (refl, refl))
deletion_left a b (read.Tree fault.Memory) left = absurd left
deletion_left a b (read.Tree (fault.Page page f)) left = left
deletion_left a b (read.Tree (fault.Store store.Device)) left = left
deletion_left a b (read.Tree (fault.Store store.NoPage)) left = left
deletion_left a b (read.Tree (fault.Store store.BadSize)) left = absurd left
deletion_left a b (read.Tree (fault.Store store.Memory)) left = absurd left

pub runs_deletion : (T : Type 0) (a b : TreeView) (e : ReadFault) → Deletes a b (Err e) → Runs {A = T} a b (Err (fault_of_read e))
runs_deletion T a b e deletes = record {
  schema = ap (λ (t : TreeView). t.schema) deletes.frame;
  sound = λ sound. tt;
  marked = deletes.marked;
  done = tt;
  left = deletion_left a b e deletes.left;
}

-- ---- INSERT

-- memory was refused before the row was put in
pub insert_unbegun : (basis : Basis) (t : TreeView) (values : List ℤ) → IsBasisOf t basis → Stops (IsCommandEnd basis (puts values) run.Memory) t t
insert_unbegun (on_stand s) t values is = (0, on_stand s, (refl, refl), rest_of t (on_stand s) is, refl)
insert_unbegun (over_any seen) t values is = (0, over_any seen, (refl, inl (refl, refl)), is, refl)

-- the row that is put in
pub row_is : (schema : Schema) (n : ℕ) (values : List ℤ) (dims : List ℕ) (measures : List ℤ) → dims ≡ coordinates_of schema values → measures ≡ drop schema.dims values
    → tree.row_of n dims measures ≡ row_of schema n values
row_is schema n values dims measures d m =
    ap (λ (ds : List ℕ). tree.row_of n ds measures) d ∙ ap (λ (ms : List ℤ). tree.row_of n (coordinates_of schema values) ms) m

-- what a tree says of the row that is made of some coordinates and of the values behind them
pub put_by : (old new : TreeView) (values : List ℤ) (dims : List ℕ) (k : ℕ) (result : Result ℕ TreeFault) → dims ≡ coordinates_of old.schema values → k ≡ old.schema.dims
    → IfOk result (λ n. n ≡ old.next) → (IsTrue old.is_failed → result ≡ Err fault.Failed)
    → OnOk result ((new.next ≡ old.next + 1) × (new.rows ≡ old.rows + 1) × (new.is_failed ≡ false)
    × GrowsAt (key_of old.schema.dims (tree.row_of old.next dims (drop k values))) old new)
    → (old.is_failed ≡ false → AnswersRow old (key_of old.schema.dims (tree.row_of old.next dims (drop k values))) result) → Changes old new result
    → PutsIn (row_of old.schema old.next values) old new result
put_by old new values dims k result are long number failed counted refused effect =
    subst (λ (row : Row). PutsIn row old new result) (row_is old.schema old.next values dims (drop k values) are (ap (λ (n : ℕ). drop n values) long))
    (record { number = number; failed = failed; counted = counted; refused = refused; effect = effect })

pub put_row : (old new : TreeView) (values : List ℤ) (dims : List ℕ) (k n : ℕ) → dims ≡ coordinates_of old.schema values → k ≡ old.schema.dims
    → (IsSound old → IsInserted (tree.row_of n dims (take (length values - k) (drop k values))) old new) → IsSound old → IsInserted (row_of old.schema n values) old new
put_row old new values dims k n are long inserted sound =
    let all : take (length values - k) (drop k values) ≡ drop k values = take_all (length values - k) (drop k values) (omega (arith, length-drop k values)) in
    subst (λ (row : Row). IsInserted row old new) (row_is old.schema n values dims (take (length values - k) (drop k values)) are (all ∙ ap (λ (m : ℕ). drop m values) long)) (inserted sound)

module _ (old new : TreeView) (values : List ℤ) (result : Result ℕ TreeFault) (given : IsGiven old.schema (puts values))
    (puts_in : PutsIn (row_of old.schema old.next values) old new result) where
  -- over any tree, whatever the trace
  put_over : (seen : TreeView) → IsSameBut seen old → HasPutIn seen values result new
  put_over seen same = record {
    given = subst (λ (t : TreeView). IsGiven t.schema (puts values)) same given;
    put = record {
      old = old;
      same = same;
      puts_in = subst (λ (row : Row). PutsIn row old new result) (ap (λ (t : TreeView). row_of t.schema t.next values) same) puts_in;
    };
  }

  -- no page is fetched
  put_fetches : new.trace.fetches ≡ old.trace.fetches
  put_fetches = ap (λ (t : TreeView). t.trace.fetches) puts_in.effect.frame

-- a fault ended it
pub insert_stopped : (basis : Basis) (old new : TreeView) (values : List ℤ) (e : TreeFault) → IsBasisOf old basis → IsGiven old.schema (puts values)
    → PutsIn (row_of old.schema old.next values) old new (Err e) → Stops (IsCommandEnd basis (puts values) (fault_of_tree e)) old new
insert_stopped (on_stand s) old new values e is given puts_in =
    (0, on_stand s, (refl, refl), λ working. change_stand old new s e is puts_in.effect.left working, put_fetches old new values (Err e) given puts_in)
insert_stopped (over_any seen) old new values e is given puts_in = (
  0,
  over_any new,
  (refl, inr (new, e, put_over old new values (Err e) given puts_in seen is, refl, refl)),
  refl,
  put_fetches old new values (Err e) given puts_in,
)

-- one number was left
pub number_left : (s o n m : ℕ) → s ≡ o → n ≡ o + 1 → n ≤ m + 1 → s ≤ m
number_left s o n m same next le = omega arith

-- where the table of a sound tree stands then
pub stand_row : (old new : TreeView) (s : Stand) (row : Row) → IsStandOf old s → IsInserted row old new → IsStandOf new (with_row row s)
stand_row old new s row is inserted = record {
  sound = inserted.sound;
  schema_is = is.schema_is ∙ sym inserted.schema;
  rows_are = inserted.table s.table.rows is.rows_are;
  regions_are = sym (inserted.regions_are ∙ ap (λ (x : Schema). insert x.dims x.page_rows row (regions old)) (sym is.schema_is)
      ∙ ap (λ (rs : List RegionRows). insert s.table.schema.dims s.table.schema.page_rows row rs) (sym is.regions_are));
  next_is = ap (λ (n : ℕ). n + 1) is.next_is ∙ sym inserted.next;
}

-- also where the row is made of values
stand_put : (old new : TreeView) (s : Stand) (values : List ℤ) → IsStandOf old s → IsInserted (row_of old.schema old.next values) old new
    → IsStandOf new (with_row (row_of s.table.schema s.next values) s)
stand_put old new s values is put =
    let row = row_of s.table.schema s.next values in
    let same : row_of old.schema old.next values ≡ row =
    ap (λ (x : Schema). row_of x old.next values) (sym is.schema_is) ∙ ap (λ (n : ℕ). row_of s.table.schema n values) (sym is.next_is) in
    stand_row old new s row is (subst (λ (r : Row). IsInserted r old new) same put)

-- the reply to it
pub insert_replies : (basis : Basis) (old new : TreeView) (values : List ℤ) (n : ℕ) (text : List ℕ) → IsBasisOf old basis → IsGiven old.schema (puts values)
    → PutsIn (row_of old.schema old.next values) old new (Ok n) → (IsSound old → IsInserted (row_of old.schema old.next values) old new)
    → text ≡ inserted_text old.next → Replies (IsInsertReply basis values) text false old new
insert_replies (on_stand s) old new values n text is given puts_in inserts e =
    let put = inserts is.sound in (
      0,
      1,
      on_stand (with_row (row_of s.table.schema s.next values) s),
      (
        with_row (row_of s.table.schema s.next values) s,
        record {
          given = subst (λ (x : Schema). IsGiven x (puts values)) (sym is.schema_is) given;
          left = number_left s.next old.next new.next MAX_ROW_NUMBER is.next_is put.next put.sound.last_next;
          reply_is = ap (λ (bytes : List ℕ). reply bytes 0 false 1) (e ∙ ap inserted_text (sym is.next_is));
          now_is = refl;
        },
        refl,
      ),
      stand_put old new s values is put,
      put_fetches old new values (Ok n) given puts_in,
    )
insert_replies (over_any seen) old new values n text is given puts_in inserts e =
    let next : old.next ≡ seen.next = ap (λ (t : TreeView). t.next) is in (
      0,
      1,
      over_any new,
      (
        new,
        record {
          put = subst (λ (k : ℕ). HasPutIn seen values (Ok k) new) (puts_in.number ∙ next) (put_over old new values (Ok n) given puts_in seen is);
          reply_is = ap (λ (bytes : List ℕ). reply bytes 0 false 1) (e ∙ ap inserted_text next);
        },
        refl,
      ),
      refl,
      put_fetches old new values (Ok n) given puts_in,
    )

-- ---- DELETE

-- memory was refused before anything was read
pub delete_unbegun : (basis : Basis) (t : TreeView) (q : Asked) → IsBasisOf t basis → Stops (IsCommandEnd basis (takes q) run.Memory) t t
delete_unbegun (on_stand s) t q is = (
  0,
  on_stand s,
  ((λ some. absurd (omega arith)), (0, ap on_stand (nothing_taken (selected_of q s) s))),
  rest_of t (on_stand s) is,
  refl,
)
  where
    nothing_taken : (rows : List Row) (s : Stand) → s ≡ without_rows (take 0 rows) s
    nothing_taken [] s = refl
    nothing_taken (row ∷ rows) s = refl
delete_unbegun (over_any seen) t q is = (0, over_any seen, ((λ some. refl), inl (refl, refl)), is, refl)

-- so many rows were taken out
abbrev answered : ℕ → Result ℕ ReadFault
answered count = Ok count

-- its plan is one of a deletion
deletion_of : (t : TreeView) (p : PlanView) (q : Asked) → IsSound t → p ≡ plan_of t.schema q → IsGiven t.schema (takes q) → IsDeletionOf t p
deletion_of t p q sound planned given =
    let same : p.asked ≡ q = ap (λ (plan : PlanView). plan.asked) planned in
    record {
      ready = ready_of t p q sound planned;
      plain = (
        ap (λ (asked : Asked). asked.group) same ∙ given.1.group,
        ap (λ (asked : Asked). asked.order) same ∙ given.1.order,
        ap (λ (asked : Asked). asked.limit) same ∙ given.1.limit,
      );
    }

module _ (old new : TreeView) (p : PlanView) (q : Asked) (planned : p ≡ plan_of old.schema q) (given : IsGiven old.schema (takes q)) where
  deletion : IsReady old p → IsDeletionOf old p
  deletion ready = deletion_of old p q ready.sound planned given

  asked_is : p.asked ≡ q
  asked_is = ap (λ (plan : PlanView). plan.asked) planned

  -- over any tree, whatever the trace
  taken_over : (seen : TreeView) (result : Result ℕ ReadFault) → IsSameBut seen old → ReadsFirst p (begun old) new result → Deletes old new result
      → (result ≡ Ok 0 → new ≡ record old { trace = new.trace }) → HasTakenOut seen q result new
  taken_over seen result same reads deletes untouched = record {
    old = old;
    same = same;
    reads = subst (λ (plan : PlanView). ReadsFirst plan (begun old) new result) (planned ∙ ap (λ (t : TreeView). plan_of t.schema q) same) reads;
    deletes = deletes;
    untouched = untouched;
  }

  -- a fault ended it
  pub delete_stopped : (basis : Basis) (e : ReadFault) → IsBasisOf old basis
      → ((s : Stand) → IsStandOf old s → IsDeletionOf old p → new.is_failed ≡ false → (j : ℕ) × IsStandOf new (without_rows (take j (selected_of p.asked s)) s))
      → (IsDeletionOf old p → (count : ℕ) × HasFetchedFirst p (begun old) new count) → ReadsFirst p (begun old) new (Err e) → Deletes old new (Err e)
      → Stops (IsCommandEnd basis (takes q) (fault_of_read e)) old new
  delete_stopped (on_stand s) e is stopped broken reads deletes =
      let (pages, some, fetched) = starts_of_plan {A = ℕ} (Err e) (on_stand s) old new p q is planned (λ ready. broken (deletion ready)) reads.notes in
      elim (cases_Bool new.is_failed) [
        | inl failed ↦ (
          pages,
          on_stand (without_rows (take 0 (selected_of q s)) s),
          (some, (0, refl)),
          (λ working. absurd (true≢false (sym failed ∙ working))),
          fetched,
        )
        | inr working ↦
            let (j, left) = subst (λ (asked : Asked). (j : ℕ) × IsStandOf new (without_rows (take j (selected_of asked s)) s)) asked_is
            (stopped s is (deletion_of old p q is.sound planned given) working) in
            (pages, on_stand (without_rows (take j (selected_of q s)) s), (some, (j, refl)), (λ also. left), fetched)
      ]
  delete_stopped (over_any seen) e is stopped broken reads deletes =
      let (pages, some, fetched) = starts_of_plan {A = ℕ} (Err e) (over_any seen) old new p q is planned (λ ready. broken (deletion ready)) reads.notes in
      (pages, over_any new, (some, inr (new, Err e, taken_over seen (Err e) is reads deletes (λ none. cc), refl, refl)), refl, fetched)

  module _ (count : ℕ)
      (deleted : (s : Stand) → IsStandOf old s → IsDeletionOf old p → (count ≡ length (selected_of p.asked s)) × IsStandOf new (without_selected p.asked s))
      (all : IsDeletionOf old p → HasFetched p (begun old) new) (reads : ReadsFirst p (begun old) new (Ok count)) (deletes : Deletes old new (Ok count))
      (untouched : answered count ≡ answered 0 → new ≡ record old { trace = new.trace }) where
    stand_taken : (s : Stand) → IsStandOf old s → (count ≡ length (selected_of q s)) × IsStandOf new (without_selected q s)
    stand_taken s is =
        subst (λ (asked : Asked). (count ≡ length (selected_of asked s)) × IsStandOf new (without_selected asked s)) asked_is
        (deleted s is (deletion_of old p q is.sound planned given))

    -- memory was refused for its line
    pub delete_untold : (basis : Basis) → IsBasisOf old basis → Stops (IsCommandEnd basis (takes q) run.Memory) old new
    delete_untold (on_stand s) is =
        let (pages, some, fetched) = starts_of_all {A = ℕ} (Ok count) (on_stand s) old new p q is planned (λ ready. all (deletion ready)) reads.notes in (
          pages,
          on_stand (without_selected q s),
          (
            some,
            (length (selected_of q s), ap (λ (rows : List Row). on_stand (without_rows rows s)) (sym (take_all (length (selected_of q s)) (selected_of q s) (omega arith)))),
          ),
          (λ working. (stand_taken s is).1),
          fetched,
        )
    delete_untold (over_any seen) is =
        let (pages, some, fetched) = starts_of_all {A = ℕ} (Ok count) (over_any seen) old new p q is planned (λ ready. all (deletion ready)) reads.notes in
        (pages, over_any new, (some, inr (new, Ok count, taken_over seen (Ok count) is reads deletes untouched, refl, refl)), refl, fetched)

    -- the reply to it
    pub delete_replies : (basis : Basis) (text : List ℕ) → IsBasisOf old basis → text ≡ deleted_text count → Replies (IsDeleteReply basis q) text false old new
    delete_replies (on_stand s) text is e =
        let by = all (deletion_of old p q is.sound planned given) in
        let (counted, stand) = stand_taken s is in (
          length by.visits,
          count,
          on_stand (without_selected q s),
          (
            without_selected q s,
            record {
              pages_are = pages_on old s p q by.visits (length by.visits) is planned by.visits_are refl;
              text_is = e;
              changed_is = counted;
              accepted = refl;
              now_is = refl;
            },
            refl,
          ),
          stand,
          by.fetches_are,
        )
    delete_replies (over_any seen) text is e = (
      length reads.notes.noted,
      count,
      over_any new,
      (
        new,
        record {
          taken = taken_over seen (Ok count) is reads deletes untouched;
          pages_are = sym (ap (λ (pages : List ℕ). length pages) reads.notes.trace_is);
          text_is = e;
          accepted = refl;
        },
        refl,
      ),
      refl,
      reads.notes.fetches_are,
    )

    -- it is a run
    pub runs_deleted : {T : Type 0} (x : T) → Runs old new (Ok x)
    runs_deleted x = record {
      schema = ap (λ (t : TreeView). t.schema) deletes.frame;
      sound = λ sound.
          let (s, is) = sound_trees_stand old sound in
          (stand_taken s is).1.sound;
      marked = deletes.marked;
      done = deletes.done;
      left = tt;
    }
