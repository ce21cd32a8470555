-- The turns of a sweep, one after the other.
use Rattle.std.proofs.Common.{◌≡◌, ◌≢◌, ◌<◌, ◌≤◌, ◌+◌, ◌++◌, ◌∷◌, ◌∙◌, ℕ, suc, Bool, List, [], Option, Some, None, IfSome, IsPermutation, Result, Ok, Err, length, refl, sym, ap, subst, arith, append_assoc}
use Rattle.std.proofs.lemmas.List.{append-nil}
use Rattle.std.proofs.lemmas.List.Sorted.{IsPermutation-refl, length_permutation}
use Rattle.std.specs.Option.{option_map}
use Rattle.std.specs.Prelude.{OnErr}
use Rattle.ub_planning.specs.Plan.{PlanView}
use Rattle.ub_planning.specs.Visits.{Event}
use Rattle.ub_table.specs.declared.row.Row.{Row}
use Rattle.ub_tetris.proofs.AlongFacts.{keys_of}
use Rattle.ub_tetris.proofs.BrokenFacts.{broken_by, broken_for, none_awaited, rests_by}
use Rattle.ub_tetris.proofs.EffectFacts.{AwaitsThese, Sweeps-none, sweeps_then, swept_taken, swept_traced}
use Rattle.ub_tetris.proofs.FetchFacts.{few_come}
use Rattle.ub_tetris.proofs.FoundFacts.{gives_more, gives_none, gives_then, takes_row}
use Rattle.ub_tetris.proofs.LargestFacts.{IsGoing, going}
use Rattle.ub_tetris.proofs.StepFacts.{chain_step, come_step, last_step}
use Rattle.ub_tetris.specs.Awaited.{AwaitedStretch}
use Rattle.ub_tetris.specs.Effects.{GivesRows, HasAnswered, Rests, Sweeps, of_reading}
use Rattle.ub_tetris.specs.Held.{HeldRow, rows_held}
use Rattle.ub_tetris.specs.Sweep.{IsSweeping, HasBroken, HasStepped, SweepView, rows_left}
use Rattle.ub_tetris.specs.declared.state.State.{State}
use Rattle.ub_tetris.specs.inner.Events.{IsFirstAwaited}
use Rattle.ub_tetris.specs.inner.Kept.{HoldsAlso, TakesFirst}
use Rattle.ub_tetris.specs.inner.Turns.{AsksNext, HasComeTo, HasTakenNext, IsAskedFor, IsDue, IsNoneDue, view_of}
use Rattle.ub_tree.proofs.Laws.{IsTraced}
use Rattle.ub_tree.specs.View.{TreeView}
use Rattle.ub_tree.specs.declared.read_fault.ReadFault.{ReadFault}

at_most : (a b c : ℕ) → a ≤ b → b ≤ c → a ≤ c
at_most a b c h k = omega arith

-- what has been fetched since a sweep began its step
pub record Fetches (plan : PlanView) (t now : TreeView) (s s_now : State) : Type 0 where
  pub effect : Sweeps {A = Unit {0}} plan (view_of s) (view_of s_now) t now (Ok tt)
  pub sweeping : (given rest : List Row) (fetched unread : List Event) → IsSweeping plan t (view_of s) given rest fetched unread
      → (read left : List Event) × (unread ≡ read ++ left) × IsGoing plan now (view_of s_now) given rest (fetched ++ read) left
  pub still : (view_of s).awaited ≡ [] → (now ≡ t) × (view_of s_now ≡ view_of s)
  pub few : rows_left (view_of s_now) ≤ rows_left (view_of s)
  pub kept : GivesRows plan t (view_of s) (view_of s_now) []

pub Fetches-none : (plan : PlanView) (t : TreeView) (s : State) → Fetches plan t t s s
Fetches-none plan t s = record {
  effect = Sweeps-none plan tt (view_of s) t;
  sweeping = λ given rest fetched unread is.
      ([], unread, refl, subst (λ (events : List Event). IsGoing plan t (view_of s) given rest events unread) (sym (append-nil fetched)) (going is));
  still = λ none. (refl, refl);
  few = omega arith;
  kept = gives_none plan t (view_of s);
}

below : (a b c : ℕ) → a + 1 ≡ b → b ≤ c → a < c
below a b c h k = omega arith

still_left : (s new_s : SweepView) → new_s ≡ record s { held = new_s.held } → suc (length new_s.held) ≡ length s.held → rows_left new_s + 1 ≡ rows_left s
still_left s new_s same count =
    let left : rows_left new_s ≡ rows_left (record s { held = new_s.held }) = ap rows_left same in
    omega (arith, left, count)

-- a row that is taken leaves what is awaited
pub same_awaited : (s new_s : SweepView) → new_s ≡ record s { held = new_s.held } → s.awaited ≡ new_s.awaited
same_awaited s new_s same = sym (ap (λ (v : SweepView). v.awaited) same)

pub awaits_still : (s new_s : SweepView) → new_s ≡ record s { held = new_s.held } → AwaitsThese s new_s s.awaited
awaits_still s new_s same = (ap (λ (v : SweepView). v.dim) same, ap (λ (v : SweepView). v.is_descending) same, ap (λ (v : SweepView). v.awaited) same)

pub not_none : {E : Type 0} (x : E) (xs : List E) → x ∷ xs ≢ []
not_none x xs e = cc

-- the first of those awaited is so in the direction of the sweep without it
pub first_then : (s s_then : SweepView) (next : AwaitedStretch) → HasTakenNext s s_then next → IsFirstAwaited s_then.is_descending next s_then.awaited
first_then s s_then next taken = subst (λ (b : Bool). IsFirstAwaited b next s_then.awaited) (sym (ap (λ (v : SweepView). v.is_descending) taken.same)) taken.first

-- the regions stay, whatever was answered
pub placed_asked : {A : Type 0} (t new : TreeView) (plan : PlanView) (s new_s : SweepView) (next : AwaitedStretch) (r : Result A ReadFault) → IsFirstAwaited s.is_descending next s.awaited → AsksNext plan t new s new_s next r
    → new.placed ≡ t.placed
placed_asked t new plan s new_s next r first asks = ap (λ (v : TreeView). v.placed) (asks.effect first).same

pub none_taken_of : {X : Type 0} (s s_then : SweepView) (next : AwaitedStretch) → HasTakenNext s s_then next → s.awaited ≡ [] → X
none_taken_of s s_then next taken none =
    let long : suc (length s_then.awaited) ≡ length s.awaited = length_permutation s.awaited (next ∷ s_then.awaited) taken.parts in
    let short : length s.awaited ≡ 0 = ap length none in
    absurd (omega (arith, long, short))

module _ (plan : PlanView) (t now : TreeView) (s s_now : State) (so_far : Fetches plan t now s s_now) where
  pub same_schema : now.schema ≡ t.schema
  same_schema = ap (λ (v : TreeView). v.schema) so_far.effect.same

  traced : IsTraced t now
  traced = swept_traced plan tt (view_of s) (view_of s_now) t now so_far.effect

  awaits : AwaitsThese (view_of s) (view_of s_now) (view_of s_now).awaited
  awaits = (so_far.effect.still.0, so_far.effect.still.1, refl)

  module _ (s_then : State) (next : AwaitedStretch) (taken : HasTakenNext (view_of s_now) (view_of s_then) next) (due : IsDue (view_of s_now) next.value) where
    -- one is due only where one is awaited
    none_due : {X : Type 0} → (view_of s).awaited ≡ [] → X
    none_due none = none_taken_of (view_of s_now) (view_of s_then) next taken (ap (λ (v : SweepView). v.awaited) (so_far.still none).1 ∙ none)

    -- it was come to
    pub Fetches-more : (new : TreeView) (new_s : State) (rows : List Row) → HasComeTo plan now new (view_of s_then) (view_of new_s) next rows
        → HoldsAlso now.schema (keys_of plan.asked) rows s_then.held new_s.held → AsksNext {A = Unit {0}} plan now new (view_of s_then) (view_of new_s) next (Ok tt) → Fetches plan t new s new_s
    Fetches-more new new_s rows come holds asks =
        let effect = swept_taken plan (Ok tt) (view_of s_now) (view_of s_then) (view_of new_s) next now new taken (asks.effect (first_then (view_of s_now) (view_of s_then) next taken)) in
        record {
          effect = sweeps_then plan tt (Ok tt) (view_of s) (view_of s_now) (view_of new_s) t now new refl so_far.effect effect;
          sweeping = λ given rest fetched unread is.
              let (read, left, parts, under) = so_far.sweeping given rest fetched unread is in
              let (more, later, one, next_step) = come_step plan now new (view_of s_now) (view_of s_then) (view_of new_s) next rows given rest (fetched ++ read) left under taken come due holds in (
                read ++ more,
                later,
                parts ∙ ap (λ (events : List Event). read ++ events) one ∙ sym (append_assoc read more later),
                subst (λ (events : List Event). IsGoing plan new (view_of new_s) given rest events later) (append_assoc fetched read more) next_step,
              );
          still = λ none. none_due none;
          few = at_most (rows_left (view_of new_s)) (rows_left (view_of s_now)) (rows_left (view_of s))
              (few_come plan now new (view_of s_now) (view_of s_then) (view_of new_s) next rows (keys_of plan.asked) taken come holds) so_far.few;
          kept = gives_more plan t now new (view_of s) (view_of s_now) (view_of s_then) (view_of new_s) next rows traced awaits taken come holds so_far.kept;
        }

    -- or asked for, and that was ended by a fault
    pub step_broken : (new : TreeView) → IsAskedFor now new next → new.placed ≡ now.placed
        → (given rest : List Row) (fetched unread : List Event) → IsSweeping plan t (view_of s) given rest fetched unread → HasBroken new (view_of s) rest fetched unread
    step_broken new asked placed given rest fetched unread is =
        let (read, left, parts, under) = so_far.sweeping given rest fetched unread is in
        broken_for new (view_of s_now) (view_of s) rest fetched unread (so_far.effect.still.0, so_far.effect.still.1)
        (broken_by plan now new (view_of s_now) given rest fetched read left unread under parts placed (view_of s_then) next taken due asked)

    pub step_effect : {A : Type 0} (new : TreeView) (new_s : State) (e : ReadFault) → AsksNext {A = A} plan now new (view_of s_then) (view_of new_s) next (Err e)
        → Sweeps {A = A} plan (view_of s) (view_of new_s) t new (of_reading {A = A} (Err e))
    step_effect new new_s e asks =
        sweeps_then plan tt (of_reading (Err e)) (view_of s) (view_of s_now) (view_of new_s) t now new refl so_far.effect
        (swept_taken plan (of_reading (Err e)) (view_of s_now) (view_of s_then) (view_of new_s) next now new taken (asks.effect (first_then (view_of s_now) (view_of s_then) next taken)))

    -- which isn't so after the end
    pub end_unbroken : {X : Type 0} → (view_of s).awaited ≡ [] → X
    end_unbroken none = none_due none

  -- then the first row was taken
  module _ (new_s : State) (row : Option Row) (none : IsNoneDue (view_of s_now)) (takes : TakesFirst s_now.held new_s.held row) (kept : view_of new_s ≡ record (view_of s_now) { held = new_s.held }) where
    pub step_ends : (given rest : List Row) (fetched unread : List Event) → IsSweeping plan t (view_of s) given rest fetched unread → HasStepped plan now (view_of new_s) given rest fetched unread row
    step_ends given rest fetched unread is =
        let (read, left, parts, under) = so_far.sweeping given rest fetched unread is in
        chain_step plan now (view_of new_s) given rest fetched read left unread row parts (last_step plan now (view_of s_now) (view_of new_s) given rest (fetched ++ read) left row under none takes kept)

  -- a row that was taken is one less to give
  step_fewer : (new_s : State) (row : Option Row) → TakesFirst s_now.held new_s.held row → view_of new_s ≡ record (view_of s_now) { held = new_s.held }
      → IfSome row (λ _. rows_left (view_of new_s) < rows_left (view_of s))
  step_fewer new_s None takes kept = tt
  step_fewer new_s (Some row) (first, same, is, least) kept =
      let count : suc (length new_s.held) ≡ length s_now.held = length_permutation s_now.held (first ∷ new_s.held) same in
      let still : rows_left (view_of new_s) + 1 ≡ rows_left (view_of s_now) = still_left (view_of s_now) (view_of new_s) kept count in
      let few = so_far.few in
      below (rows_left (view_of new_s)) (rows_left (view_of s_now)) (rows_left (view_of s)) still few

  -- what it answers over any tree
  pub step_answers : (new_s : State) (row : Option Row) → IsNoneDue (view_of s_now) → TakesFirst s_now.held new_s.held row → view_of new_s ≡ record (view_of s_now) { held = new_s.held }
      → HasAnswered plan t (view_of s) (view_of new_s) (option_map (λ row. row ∷ []) row)
  step_answers new_s None due takes kept = (
    sym (same_awaited (view_of s_now) (view_of new_s) kept) ∙ none_awaited (view_of s_now) new_s.held None due takes refl,
    takes.1,
    gives_then plan t (view_of s) (view_of s_now) (view_of new_s) [] [] (same_awaited (view_of s_now) (view_of new_s) kept)
        (subst (λ (left : List HeldRow). IsPermutation (rows_held s_now.held) (rows_held left)) (takes.0 ∙ sym takes.1) (IsPermutation-refl (rows_held s_now.held))) so_far.kept,
  )
  step_answers new_s (Some row) due takes kept = (
    not_none row [],
    step_fewer new_s (Some row) takes kept,
    gives_then plan t (view_of s) (view_of s_now) (view_of new_s) [] (row ∷ []) (same_awaited (view_of s_now) (view_of new_s) kept) (takes_row s_now.held new_s.held row takes) so_far.kept,
  )

  -- after the end none is taken
  pub step_rests : (new_s : State) (row : Option Row) → TakesFirst s_now.held new_s.held row → view_of new_s ≡ record (view_of s_now) { held = new_s.held }
      → (view_of s).awaited ≡ [] → s.held ≡ [] → Rests (view_of s) (view_of new_s) t now (Ok row)
  step_rests new_s row takes kept none empty =
      let (same_tree, same) = so_far.still none in
      subst (λ (tree : TreeView). Rests (view_of s) (view_of new_s) t tree (Ok row)) (sym same_tree)
      (rests_by t (view_of s) (view_of new_s) row empty (subst (λ (v : SweepView). TakesFirst v.held new_s.held row) same takes)
      (subst (λ (v : SweepView). view_of new_s ≡ record v { held = new_s.held }) same kept))

-- what holds where there is a fault
pub on_err : {T E : Type 0} (r : Result T E) (P : Type 0) → P → OnErr r P
on_err (Ok x) P p = tt
on_err (Err e) P p = p
