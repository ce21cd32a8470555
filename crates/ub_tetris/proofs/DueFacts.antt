-- Whether the first of those awaited is due, and what is known of it once it was taken, opened or fetched.
use Rattle.std.proofs.Common.{◌≡◌, ◌≤◌, ◌∙◌, ◌∷◌, ℕ, Bool, true, false, not, List, [], Option, Some, None, Result, Ok, Err, Contains, IsPermutation, inl, inr, refl, sym, ap, subst, slice_index, arith}
use Rattle.std.proofs.lemmas.Bool.{true≢false}
use Rattle.std.proofs.lemmas.List.{append-nil}
use Rattle.std.proofs.lemmas.List.Sorted.{Contains-permutation, IsPermutation-refl, IsPermutation-sym}
use Rattle.std.specs.Prelude.{OnOk}
use Rattle.ub_bigmin.specs.Box.{Corners}
use Rattle.ub_planning.specs.Plan.{PlanView}
use Rattle.ub_planning.specs.Visits.{is_past}
use Rattle.ub_query.proofs.Laws.{all_at, contains_cases, contains_here}
use Rattle.ub_query.specs.declared.query.SortKey.{SortKey}
use Rattle.ub_table.specs.declared.row.Row.{Row}
use Rattle.ub_table.specs.declared.schema.Schema.{Schema}
use Rattle.ub_tetris.proofs.EventFacts.{queued_none}
use Rattle.ub_tetris.proofs.FetchFacts.{fewer_fetched, fewer_opened}
use Rattle.ub_tetris.proofs.HeldFacts.{HoldsAlso-none}
use Rattle.ub_tetris.proofs.NearFacts.{never_before, one_value}
use Rattle.ub_tetris.specs.Awaited.{AreValued, AwaitedStretch, HaveDimension, IsAwaitedBefore}
use Rattle.ub_tetris.specs.Held.{HeldRow}
use Rattle.ub_tetris.specs.Sweep.{HandsOver, SweepView}
use Rattle.ub_tetris.specs.declared.course.Course.{Course}
use Rattle.ub_tetris.specs.declared.event.Awaited.{Awaited}
use Rattle.ub_tetris.specs.declared.state.State.{State}
use Rattle.ub_tetris.specs.inner.Events.{Ahead, HasQueued, IsValueOfFirst, TakesNext, ahead_on, seen}
use Rattle.ub_tetris.specs.inner.Kept.{HoldsAlso, IsFirstOf}
use Rattle.ub_tetris.specs.inner.Turns.{HasComeTo, HasFetched, HasOpened, HasTakenNext, IsDueAs, TakesDue, view_of}
use Rattle.ub_tree.specs.Stretches.{ArePartsOf, Stretch, TakesThese}
use Rattle.ub_tree.specs.View.{TreeView}

-- ---- whether it is due

-- one is while it isn't past the first row held
pub due_row : (s : State) (course : Course) (row : Row) (last value : ℕ) (is_far : Bool) → s.ahead ≡ ahead_on course s.ahead.stretches → IsFirstOf s.held (Some row) → last ≡ slice_index row.dims course.dim
    → is_far ≡ is_past course.is_descending last value → IsDueAs (view_of s) value (not is_far)
due_row s course row last value is_far is first at far = (
  Some row,
  first,
  ap not far ∙ ap (λ (v : ℕ). not (is_past course.is_descending v value)) at ∙ ap (λ (a : Ahead). not (is_past a.is_descending (slice_index row.dims a.dim) value)) (sym is),
)

pub due_first : (s : State) (value : ℕ) → IsFirstOf s.held None → IsDueAs (view_of s) value true
due_first s value none = (None, none, refl)

not_true : (b : Bool) → false ≡ not b → b ≡ true
not_true true h = refl
not_true false h = absurd (true≢false (sym h))

-- ---- it is taken

-- none is awaited
pub none_ahead_due : (s : State) → IsValueOfFirst s.ahead None → TakesDue (view_of s) (view_of s) None
none_ahead_due s none = (refl, inl none)

-- the first is past the first row held
pub past_due : (s : State) (value : ℕ) → IsValueOfFirst s.ahead (Some value) → IsDueAs (view_of s) value false → TakesDue (view_of s) (view_of s) None
past_due s value (next, there, at, first) (None, none, due) = absurd (true≢false (sym due))
past_due s value (next, there, at, first) (Some row, is_first, due) =
    let past : is_past s.ahead.is_descending (slice_index row.dims s.ahead.dim) value ≡ true = not_true (is_past s.ahead.is_descending (slice_index row.dims s.ahead.dim) value) due in
    (refl, inr (next, there, first, row, is_first, subst (λ (v : ℕ). is_past s.ahead.is_descending (slice_index row.dims s.ahead.dim) v ≡ true) (sym at) past))

view_with : (s : State) (now : Ahead) → now ≡ record s.ahead { stretches = now.stretches } → view_of (record s { ahead = now }) ≡ record (view_of s) { awaited = now.stretches }
view_with s now same = ap (λ (a : Ahead). view_of (record s { ahead = a })) same

-- and else it is taken
pub takes_due : (s : State) (now : Ahead) (value : ℕ) (o : Option Awaited) → IsValueOfFirst s.ahead (Some value) → IsDueAs (view_of s) value true → TakesNext s.ahead now o
    → TakesDue (view_of s) (view_of (record s { ahead = now })) o
takes_due s now value None looked due (none, same) = (ap (λ (a : Ahead). view_of (record s { ahead = a })) same, inl none)
takes_due s now value (Some next) (x, there, at, is_first) due (same, parts, first) =
    let down : Bool = s.ahead.is_descending in
    let back : Contains s.ahead.stretches (seen next) =
    Contains-permutation (seen next ∷ now.stretches) s.ahead.stretches (seen next) (IsPermutation-sym s.ahead.stretches (seen next ∷ now.stretches) parts) (contains_here (seen next) now.stretches) in
    let sooner : ¬ (IsAwaitedBefore down (seen next) x) = all_at (λ (b : AwaitedStretch). ¬ (IsAwaitedBefore down b x)) s.ahead.stretches (seen next) is_first back in
    let later : ¬ (IsAwaitedBefore down x (seen next)) = elim (contains_cases (seen next) now.stretches x (Contains-permutation s.ahead.stretches (seen next ∷ now.stretches) x parts there)) [
      | inl one ↦ subst (λ (b : AwaitedStretch). ¬ (IsAwaitedBefore down b (seen next))) one (never_before down (seen next))
      | inr stays ↦ all_at (λ (b : AwaitedStretch). ¬ (IsAwaitedBefore down b (seen next))) now.stretches x first stays
    ] in
    let equal : value ≡ next.value = sym at ∙ one_value down x (seen next) later sooner in
    (record { same = view_with s now same; parts = parts; first = first }, subst (λ (v : ℕ). IsDueAs (view_of s) v true) equal due)

-- the first of those awaited was taken, whether or not it is due
pub takes_any : (s : State) (now : Ahead) (next : Awaited) → TakesNext s.ahead now (Some next) → HasTakenNext (view_of s) (view_of (record s { ahead = now })) (seen next)
takes_any s now next (same, parts, first) = record { same = view_with s now same; parts = parts; first = first }

-- ---- it is opened

module _ (plan : PlanView) (t new : TreeView) (s : State) (now : Ahead) (next : AwaitedStretch) (boxes : List Corners) (upper : 1 ≤ next.stretch.level) (same : new ≡ t) (boxes_are : boxes ≡ plan.covering.boxes) where
  -- its parts were put in
  pub parts_put : HaveDimension s.ahead.dim boxes
      → (parts : List Stretch) × ArePartsOf t boxes next.stretch parts × TakesThese (λ start taken put. HasQueued boxes start taken put) s.ahead now parts
      → HasComeTo plan t new (view_of s) (view_of (record s { ahead = now })) next []
  parts_put within (parts, are, takes) =
      let has : HasQueued plan.covering.boxes s.ahead parts now =
      subst (λ (bs : List Corners). HasQueued bs s.ahead parts now) boxes_are (takes s.ahead [] (queued_none boxes s.ahead within)) in
      let now_is : now ≡ record s.ahead { stretches = now.stretches } = rw (← has.course.0, ← has.course.1) refl in
      let opened : HasOpened plan t new (view_of s) (view_of (record s { ahead = now })) next = record {
        upper = upper;
        same = same;
        held = refl;
        queued = has.queued;
        now_are = has.now_are;
        valued = subst (λ (a : Ahead). AreValued plan.covering.boxes a.dim a.is_descending has.queued) now_is has.valued;
        parts = inl (subst (λ (ps : List Stretch). ArePartsOf t plan.covering.boxes next.stretch ps) (sym has.are) (subst (λ (bs : List Corners). ArePartsOf t bs next.stretch parts) boxes_are are));
      } in
      record {
        view_is = view_with s now now_is;
        how = inl (opened, refl);
        fewer = fewer_opened plan t new (view_of s) (view_of (record s { ahead = now })) next opened;
      }

-- or none are, where the boxes lack the dimension
pub parts_lack : (plan : PlanView) (t : TreeView) (s : State) (next : AwaitedStretch) → 1 ≤ next.stretch.level → ¬ (HaveDimension s.ahead.dim plan.covering.boxes)
    → HasComeTo plan t t (view_of s) (view_of s) next []
parts_lack plan t s next upper lacks =
    let awaited : List AwaitedStretch = s.ahead.stretches in
    let opened : HasOpened plan t t (view_of s) (view_of s) next = record {
      upper = upper;
      same = refl;
      held = refl;
      queued = [];
      now_are = subst (λ (those : List AwaitedStretch). IsPermutation those awaited) (sym (append-nil awaited)) (IsPermutation-refl awaited);
      valued = tt;
      parts = inr (refl, lacks);
    } in
    record { view_is = refl; how = inl (opened, refl); fewer = fewer_opened plan t t (view_of s) (view_of s) next opened }

-- what came of it is as of the tree that was opened in
pub opened_of : (plan : PlanView) (t new : TreeView) (s new_s : SweepView) (next : AwaitedStretch) → 1 ≤ next.stretch.level → HasComeTo plan t new s new_s next [] → HasOpened plan t new s new_s next
opened_of plan t new s new_s next upper come = elim come.how [
  | inl opened ↦ opened.0
  | inr has ↦ let none : 1 ≤ 0 = subst (λ (l : ℕ). 1 ≤ l) has.1.read.lowest upper in absurd (omega arith)
]

-- ---- the rows that came

-- of a stretch that was opened none did
pub none_held : {A E : Type 0} (r : Result A E) (plan : PlanView) (schema : Schema) (keys : List SortKey) (t new : TreeView) (s new_s : SweepView) (next : AwaitedStretch) → new_s.held ≡ s.held
    → OnOk r (HasComeTo plan t new s new_s next []) → OnOk r ((rows : List Row) × HasComeTo plan t new s new_s next rows × HoldsAlso schema keys rows s.held new_s.held)
none_held (Err e) plan schema keys t new s new_s next same come = tt
none_held (Ok x) plan schema keys t new s new_s next same come =
    ([], come, subst (λ (held : List HeldRow). HoldsAlso schema keys [] s.held held) (sym same) (HoldsAlso-none schema keys s.held))

pub none_handed : {A E K : Type 0} (r : Result A E) (HasTaken : K → List Row → K → Type 0) (plan : PlanView) (t new : TreeView) (s new_s : SweepView) (next : AwaitedStretch) (k : K)
    → OnOk r (HasComeTo plan t new s new_s next []) → OnOk r (HandsOver HasTaken k k (HasComeTo plan t new s new_s next))
none_handed (Err e) HasTaken plan t new s new_s next k come = tt
none_handed (Ok x) HasTaken plan t new s new_s next k come =
    ([], λ before taken has. subst (λ (rows : List Row). HasTaken before rows k) (sym (append-nil taken)) has, come)

-- those of a region
pub region_come : (plan : PlanView) (t new : TreeView) (s new_s : SweepView) (next : AwaitedStretch) (rows : List Row) → new_s ≡ record s { held = new_s.held; awaited = new_s.awaited } → new_s.awaited ≡ s.awaited
    → HasFetched plan t new next rows → HasComeTo plan t new s new_s next rows
region_come plan t new s new_s next rows same still has = record { view_is = same; how = inr (still, has); fewer = fewer_fetched next s.awaited new_s.awaited still }

-- ---- whether the boxes have the dimension

pub lacks_by : (course : Course) (ahead : Ahead) (boxes of_plan : List Corners) (have : Bool) → ahead ≡ ahead_on course ahead.stretches → boxes ≡ of_plan
    → (have ≡ true → HaveDimension course.dim boxes) × (HaveDimension course.dim boxes → have ≡ true) → have ≡ false → ¬ (HaveDimension ahead.dim of_plan)
lacks_by course ahead boxes of_plan have is same told none dims =
    true≢false (sym (told.1 (subst (λ (bs : List Corners). HaveDimension course.dim bs) (sym same) (subst (λ (a : Ahead). HaveDimension a.dim of_plan) is dims))) ∙ none)

pub within_by : (course : Course) (ahead : Ahead) (boxes again of_plan : List Corners) (have : Bool) → ahead ≡ ahead_on course ahead.stretches → boxes ≡ of_plan → again ≡ of_plan
    → (have ≡ true → HaveDimension course.dim boxes) × (HaveDimension course.dim boxes → have ≡ true) → have ≡ true → HaveDimension ahead.dim again
within_by course ahead boxes again of_plan have is same also told some =
    subst (λ (a : Ahead). HaveDimension a.dim again) (sym is) (subst (λ (bs : List Corners). HaveDimension course.dim bs) (same ∙ sym also) (told.0 some))
