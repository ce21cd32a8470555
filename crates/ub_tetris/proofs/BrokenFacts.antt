-- A sweep that is ended by a fault, and one that has come to its end.
use Rattle.std.proofs.Common.{◌≡◌, ◌∙◌, ◌++◌, ◌∷◌, ℕ, Bool, false, List, [], Option, Some, None, Result, Ok, Contains, filter, map, inl, inr, refl, sym, ap, subst, append_assoc}
use Rattle.std.proofs.lemmas.List.Elements.{All-contains, Contains-append_right}
use Rattle.std.proofs.lemmas.List.Sorted.{Contains-permutation, IsPermutation-refl, IsPermutation-sym}
use Rattle.std.specs.List.{All, AllByRecursion}
use Rattle.std.specs.Prelude.{is_err}
use Rattle.ub_planning.specs.Plan.{PlanView}
use Rattle.ub_planning.specs.Visits.{Event}
use Rattle.ub_query.proofs.Laws.{contains_cases, contains_here, contains_later, contains_none}
use Rattle.ub_query.specs.Groups.{is_selected}
use Rattle.ub_store.specs.View.{Trace}
use Rattle.ub_table.specs.declared.row.Row.{Row}
use Rattle.ub_tetris.proofs.AheadFacts.{first_event}
use Rattle.ub_tetris.proofs.ArrangeFacts.{all_of}
use Rattle.ub_tetris.proofs.LargestFacts.{IsGoing}
use Rattle.ub_tetris.proofs.MachineFacts.{fetches, rest_past}
use Rattle.ub_tetris.proofs.StepFacts.{due_past, event_region, noted_more, sweep_over, sweeping_taken}
use Rattle.ub_tetris.specs.Awaited.{AwaitedRegion, AwaitedStretch}
use Rattle.ub_tetris.specs.Effects.{Rests}
use Rattle.ub_tetris.specs.Held.{HeldRow, rows_held}
use Rattle.ub_tetris.specs.Machine.{IsRowAlong}
use Rattle.ub_tetris.specs.Sweep.{AreNoted, HasBroken, SweepView}
use Rattle.ub_tetris.specs.declared.fault.SweepFault.{SweepFault}
use Rattle.ub_tetris.specs.declared.state.State.{State}
use Rattle.ub_tetris.specs.inner.Kept.{TakesFirst}
use Rattle.ub_tetris.specs.inner.Turns.{HasTakenNext, IsAskedFor, IsDue, IsNoneDue, view_by, view_of}
use Rattle.ub_tree.specs.Placed.{Placed, entry_of}
use Rattle.ub_tree.specs.Spans.{regions_of, Region}
use Rattle.ub_tree.specs.View.{TreeView, regions, spans_of}
use Rattle.ub_zaddr.specs.Address.{last_address}

-- the page that a region of a tree stands on
pub placed_of : (t : TreeView) (span : Region) → Contains (spans_of t) span → (p : Placed) × Contains t.placed p × (p.page ≡ span.page) × (p.region.first ≡ span.first)
placed_of t span there = among (last_address t.schema.dims) t.placed span there
  where
    among : (last : ℕ) (placed : List Placed) (span : Region) → Contains (regions_of last (map entry_of placed)) span
        → (p : Placed) × Contains placed p × (p.page ≡ span.page) × (p.region.first ≡ span.first)
    among last [] span there = absurd (contains_none span there)
    among last (p ∷ placed) span there = elim (contains_cases _ (regions_of last (map entry_of placed)) span there) [
      | inl same ↦ (p, contains_here p placed, ap (λ (s : Region). s.page) same, ap (λ (s : Region). s.first) same)
      | inr later ↦ let (q, here, page, first) = among last placed span later in (q, contains_later p placed q here, page, first)
    ]

pub all_right : {E : Type 0} (P : E → Type 0) (xs ys : List E) → All P (xs ++ ys) → All P ys
all_right P xs ys all = all_of P ys (λ x there. All-contains P (xs ++ ys) x all (Contains-append_right xs ys x there))

first_of : {E : Type 0} (xs ys : List E) (x : E) → xs ≡ x ∷ ys → Contains xs x
first_of xs ys x is = subst (λ (zs : List _). Contains zs x) (sym is) (contains_here x ys)

-- ---- a turn that is ended by a fault

-- no page was noted in it
pub noted_still : (t new : TreeView) (events : List Event) → AreNoted t events → new.placed ≡ t.placed → new.trace.pages ≡ t.trace.pages → AreNoted new events
noted_still t new events noted placed trace = record {
  placed = noted.placed;
  there = subst (λ (all : List Placed). AllByRecursion (Contains all) noted.placed) (sym placed) noted.there;
  regions_are = noted.regions_are;
  trace_is = trace ∙ noted.trace_is;
}

module _ (plan : PlanView) (t new : TreeView) (s : SweepView) (given rest : List Row) (fetched read left unread : List Event) (of : IsGoing plan t s given rest (fetched ++ read) left) (parts : unread ≡ read ++ left) (placed : new.placed ≡ t.placed) where
  broken_still : new.trace.pages ≡ t.trace.pages → HasBroken new s rest fetched unread
  broken_still trace = record {
    read = read;
    left = left;
    parts = parts;
    reached = λ row more is. all_right (λ event. ¬ (IsRowAlong s.dim s.is_descending row event.value)) fetched read
        (rest_past t.schema plan s.dim s.is_descending t.next (regions t) (rows_held s.held) given rest (fetched ++ read) left row
        (sweep_over plan t s given rest (fetched ++ read) left of) of.under_way (first_of rest more row is));
    noted = noted_still t new (fetched ++ read) of.noted placed trace;
  }

  -- the page of the next region was
  broken_next : (s_then : SweepView) (next : AwaitedStretch) → HasTakenNext s s_then next → next.stretch.level ≡ 0 → IsDue s next.value → new.trace.pages ≡ t.trace.pages ++ next.stretch.span.page ∷ []
      → HasBroken new s rest fetched unread
  broken_next s_then next taken lowest due trace =
      let a : AwaitedRegion = record { value = next.value; region = next.stretch.span } in
      let (event, more, one, is_awaited, is_ahead) =
      first_event t of.swept.sound plan.covering.boxes s.dim s.is_descending (fetched ++ read) left of.under_way.events next s_then.awaited
      (sweeping_taken plan t s s_then next given rest (fetched ++ read) left of taken) lowest taken.first in
      let under : IsGoing plan t s given rest (fetched ++ read) (event ∷ more) = subst (λ (events : List Event). IsGoing plan t s given rest (fetched ++ read) events) one of in
      let (p, there, page, begins) = placed_of t next.stretch.span is_awaited.there in
      let past : All (λ row. ¬ (IsRowAlong s.dim s.is_descending row event.value)) (rows_held s.held) =
      subst (λ (v : ℕ). All (λ row. ¬ (IsRowAlong s.dim s.is_descending row v)) (rows_held s.held)) is_awaited.value
      (due_past plan t s given rest (fetched ++ read) left next.value of due) in
      let over = sweep_over plan t s given rest (fetched ++ read) (event ∷ more) under in
      let whole : (fetched ++ read) ++ event ∷ [] ≡ fetched ++ (read ++ event ∷ []) = append_assoc fetched read (event ∷ []) in
      let then = fetches t.schema plan s.dim s.is_descending t.next (regions t) (rows_held s.held) (rows_held s.held ++ filter (is_selected t.schema plan.asked.filter) event.span.region.rows)
      given rest (fetched ++ read) event more over under.under_way past (IsPermutation-refl (rows_held s.held ++ filter (is_selected t.schema plan.asked.filter) event.span.region.rows)) in
      record {
        read = read ++ event ∷ [];
        left = more;
        parts = parts ∙ ap (λ (events : List Event). read ++ events) one ∙ sym (append_assoc read (event ∷ []) more);
        reached = λ row rows is. all_right (λ event. ¬ (IsRowAlong s.dim s.is_descending row event.value)) fetched (read ++ event ∷ [])
            (subst (λ (events : List Event). All (λ event. ¬ (IsRowAlong s.dim s.is_descending row event.value)) events) whole
            (rest_past t.schema plan s.dim s.is_descending t.next (regions t) _ given rest ((fetched ++ read) ++ event ∷ []) more row over then (first_of rest rows row is)));
        noted = subst (λ (events : List Event). AreNoted new events) whole
            (noted_more t new (fetched ++ read) event p under.noted placed there
            (event_region plan t s given rest (fetched ++ read) more event a p under is_awaited there begins)
            (trace ∙ ap (λ (number : ℕ). t.trace.pages ++ number ∷ []) (sym page)));
      }

  pub broken_by : (s_then : SweepView) (next : AwaitedStretch) → HasTakenNext s s_then next → IsDue s next.value → IsAskedFor t new next → HasBroken new s rest fetched unread
  broken_by s_then next taken due asked = elim asked [
    | inl kept ↦ broken_still (ap (λ (t : Trace). t.pages) kept)
    | inr noted ↦ broken_next s_then next taken noted.0 due noted.1.pages_are
  ]

-- of the sweep it says where it goes, and no more
pub broken_for : (t : TreeView) (s other : SweepView) (rest : List Row) (fetched unread : List Event) → (s.dim ≡ other.dim) × (s.is_descending ≡ other.is_descending)
    → HasBroken t s rest fetched unread → HasBroken t other rest fetched unread
broken_for t s other rest fetched unread (dim_is, down_is) broken = record {
  read = broken.read;
  left = broken.left;
  parts = broken.parts;
  reached = λ row more is. rw (← dim_is, ← down_is) (broken.reached row more is);
  noted = broken.noted;
}

-- ---- after the end

none_taken : (held left : List HeldRow) (row : Option Row) → held ≡ [] → TakesFirst held left row → (row ≡ None) × (left ≡ [])
none_taken held left None empty takes = (refl, takes.1)
none_taken held left (Some row) empty (first, same, is, least) =
    absurd (contains_none first (subst (λ (hs : List HeldRow). Contains hs first) empty
    (Contains-permutation (first ∷ left) held first (IsPermutation-sym held (first ∷ left) same) (contains_here first left))))

-- and then nothing is taken
pub rests_by : (t : TreeView) (s new_s : SweepView) (row : Option Row) → s.held ≡ [] → TakesFirst s.held new_s.held row → new_s ≡ record s { held = new_s.held } → Rests s new_s t t (Ok row)
rests_by t s new_s row empty takes kept =
    let (none, left) = none_taken s.held new_s.held row empty takes in
    record {
      none = ap (λ (o : Option Row). Ok o) none;
      sweep_is = kept ∙ ap (λ (held : List HeldRow). record s { held = held }) (left ∙ sym empty);
      tree_is = refl;
    }

-- where no row is left to take, no stretch is awaited
pub none_awaited : (s : SweepView) (left : List HeldRow) (row : Option Row) → IsNoneDue s → TakesFirst s.held left row → row ≡ None → s.awaited ≡ []
none_awaited s left (Some row) due takes none = cc
none_awaited s left None (inl empty) takes none = empty
none_awaited s left None (inr (next, there, first, other, is_first, past)) takes none =
    absurd (contains_none is_first.0 (subst (λ (held : List HeldRow). Contains held is_first.0) takes.0 is_first.1))

-- ---- what contracts see of a sweep that hasn't failed

pub same_view : (s : State) (is_failed : Bool) (view : SweepView) → view_by s is_failed ≡ view → is_failed ≡ false → view ≡ view_of s
same_view s is_failed view is working = sym is ∙ ap (λ (b : Bool). view_by s b) working

pub rests_seen : {A : Type 0} (result : Result (Option A) SweepFault) (s new_s : State) (view : SweepView) (has_failed : Bool) (old new : TreeView) → view ≡ view_of s → has_failed ≡ is_err result
    → Rests (view_of s) (view_of new_s) old new result → Rests view (view_by new_s has_failed) old new result
rests_seen result s new_s view has_failed old new same is rests = record {
  none = rests.none;
  sweep_is = ap (λ (b : Bool). view_by new_s b) (is ∙ ap (λ (r : Result (Option _) SweepFault). is_err r) rests.none) ∙ rests.sweep_is ∙ sym same;
  tree_is = rests.tree_is;
}
