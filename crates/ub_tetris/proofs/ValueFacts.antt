-- The rows of a value are given together: the first of them, and then those held of its coordinate, one after the other.
use Rattle.std.proofs.Common.{◌≡◌, ◌≢◌, ◌<◌, ◌≤◌, ◌∙◌, ◌++◌, ◌∷◌, ℕ, suc, Bool, List, [], Option, Some, None, Result, Ok, Err, Contains, length, map, slice_index, inl, inr, refl, sym, ap, subst, arith, append_assoc}
use Rattle.std.proofs.lemmas.List.{append-nil}
use Rattle.std.proofs.lemmas.List.Elements.{All-contains, All-from_recursion, Contains-append_right}
use Rattle.std.proofs.lemmas.List.Sorted.{Contains-permutation, IsPermutation-sym, length_permutation}
use Rattle.std.specs.List.{All, AllByRecursion}
use Rattle.ub_planning.specs.Plan.{PlanView}
use Rattle.ub_planning.specs.Visits.{Event, IsAlong}
use Rattle.ub_planning.specs.declared.planned.Kind.{Kind}
use Rattle.ub_planning.specs.declared.planned.Kind.TheVariants.{Sweep}
use Rattle.ub_query.proofs.Laws.{Rising, Rising-both, Rising-from_adjacent, Rising-mapped, adjacent-from_Rising, all_at, contains_cases, contains_from_map, contains_here, contains_map, contains_none}
use Rattle.ub_query.specs.Order.{IsRowBefore}
use Rattle.ub_query.specs.declared.query.SortKey.{SortKey}
use Rattle.ub_table.specs.Table.{IsInOrder}
use Rattle.ub_table.specs.declared.row.Row.{Row}
use Rattle.ub_tetris.proofs.AlongFacts.{IsUpTo, along_never, along_up_to, keys_of, led_plan, up_to_apart, up_to_both, value_numbers}
use Rattle.ub_tetris.proofs.ArrangeFacts.{all_of, rising_left, rising_right}
use Rattle.ub_tetris.proofs.BrokenFacts.{all_right}
use Rattle.ub_tetris.proofs.LargestFacts.{going}
use Rattle.ub_tetris.proofs.MachineFacts.{IsBeforeNext, given_up_to, held_in_rest, held_or_unread}
use Rattle.ub_tetris.proofs.NumberFacts.{asked-chain}
use Rattle.ub_tetris.proofs.StepFacts.{entry_past, sweep_over, taken_next}
use Rattle.ub_tetris.proofs.FoundFacts.{gives_then, takes_rows}
use Rattle.ub_tetris.proofs.StepsFacts.{not_none, same_awaited}
use Rattle.ub_tetris.specs.Effects.{HasAnswered, Rests}
use Rattle.ub_tetris.specs.Held.{HeldRow, rows_held}
use Rattle.ub_tetris.specs.Machine.{IsRowAlong, IsRowPast}
use Rattle.ub_tetris.specs.Sweep.{HasBroken, HasGiven, HasGivenValue, IsSweeping, SweepView, rows_left}
use Rattle.ub_tetris.specs.declared.fault.SweepFault.{SweepFault}
use Rattle.ub_tetris.specs.inner.Kept.{AreTakenAt, IsFirstElsewhere, IsFirstOf, IsHeldBefore, TakesFirst, TakesFirstAt, TakesValue}
use Rattle.ub_tree.specs.View.{TreeView, regions}

-- ---- what is taken out of those held

-- one row that is the first was looked at, and one that is the first was taken
pub takes_at : (dim value : ℕ) (held left : List HeldRow) (first : Row) (row : Option Row) → IsFirstOf held (Some first) → slice_index first.dims dim ≡ value → TakesFirst held left row
    → TakesFirstAt dim value held left row
takes_at dim value held left first None is_first at (none, still) = (still ∙ sym none, (None, none, tt))
takes_at dim value held left first (Some row) is_first at takes = ((first, is_first, at), takes)

-- one more was taken
pub AreTakenAt-more : (dim value : ℕ) (rows : List Row) (row : Row) (held mid left : List HeldRow) → AreTakenAt dim value held mid rows → TakesFirstAt dim value mid left (Some row)
    → AreTakenAt dim value held left (rows ++ row ∷ [])
AreTakenAt-more dim value [] row held mid left same takes = (left, subst (λ (hs : List HeldRow). TakesFirstAt dim value hs left (Some row)) same takes, refl)
AreTakenAt-more dim value (other ∷ rows) row held mid left (next, first, others) takes = (next, first, AreTakenAt-more dim value rows row next mid left others takes)

pub one_fewer : (dim value : ℕ) (held left : List HeldRow) (row : Row) → TakesFirstAt dim value held left (Some row) → length left < length held
one_fewer dim value held left row (found, (g, same, is, least)) = let one : suc (length left) ≡ length held = length_permutation held (g ∷ left) same in omega arith

pub taken_few : (dim value : ℕ) (rows : List Row) (held left : List HeldRow) → AreTakenAt dim value held left rows → length left ≤ length held
taken_few dim value [] held left same = let long : length left ≡ length held = ap length same in omega arith
taken_few dim value (row ∷ rows) held left (mid, (found, (g, same, is, least)), others) =
    let one : suc (length mid) ≡ length held = length_permutation held (g ∷ mid) same in
    let few = taken_few dim value rows mid left others in
    omega arith

-- ---- rows of one value

before_first : (dim : ℕ) (is_descending : Bool) (row : Row) (unread : List Event) → ((event : Event) → Contains unread event → IsRowAlong dim is_descending row event.value)
    → IsBeforeNext dim is_descending row unread
before_first dim is_descending row [] all = tt
before_first dim is_descending row (event ∷ unread) all = all event (contains_here event unread)

module _ (plan : PlanView) (t : TreeView) (s : SweepView) (given rest : List Row) (fetched unread : List Event) (of : IsSweeping plan t s given rest fetched unread) (value : ℕ) where
  -- the row that is taken has the coordinate of the one that was looked at
  taken_value : (left : List HeldRow) (row : Row) → TakesFirstAt s.dim value s.held left (Some row) → slice_index row.dims s.dim ≡ value
  taken_value left row ((first, (f, there, is, none), at), (g, same, is_row, least)) =
      let here : Contains s.held g = Contains-permutation (g ∷ left) s.held g (IsPermutation-sym s.held (g ∷ left) same) (contains_here g left) in
      let up : IsUpTo s.is_descending (slice_index f.row.dims s.dim) (slice_index g.row.dims s.dim) =
      entry_past plan t s given rest fetched unread g f (going of) here there (all_at (λ (other : HeldRow). ¬ (IsHeldBefore other f)) s.held g none here) in
      let down : IsUpTo s.is_descending (slice_index g.row.dims s.dim) (slice_index f.row.dims s.dim) =
      elim (contains_cases g left f (Contains-permutation s.held (g ∷ left) f same there)) [
        | inl one ↦ subst (λ (h : HeldRow). IsUpTo s.is_descending (slice_index g.row.dims s.dim) (slice_index h.row.dims s.dim)) one (along_never s.is_descending (slice_index g.row.dims s.dim))
        | inr later ↦ entry_past plan t s given rest fetched unread f g (going of) there here (all_at (λ (other : HeldRow). ¬ (IsHeldBefore other g)) left f least later)
      ] in
      ap (λ (r : Row). slice_index r.dims s.dim) (sym is_row) ∙ up_to_both s.is_descending (slice_index g.row.dims s.dim) (slice_index f.row.dims s.dim) down up
      ∙ ap (λ (r : Row). slice_index r.dims s.dim) is ∙ at

  -- where a row of this value was given last, and the first of those held isn't of it, none of those held is
  held_past : (last : Row) → Contains given last → slice_index last.dims s.dim ≡ value → IsFirstElsewhere s.dim value s.held
      → (h : HeldRow) → Contains s.held h → IsAlong s.is_descending value (slice_index h.row.dims s.dim)
  held_past last gone at (None, none, far) h here = absurd (contains_none h (subst (λ (hs : List HeldRow). Contains hs h) none here))
  held_past last gone at (Some row, (f, there, is, least), apart) h here =
      let over = sweep_over plan t s given rest fetched unread (going of) in
      let in_rest : Contains rest f.row =
      held_in_rest t.schema plan s.dim s.is_descending t.next (regions t) (rows_held s.held) given rest fetched unread f.row over of.under_way (contains_map (λ (h : HeldRow). h.row) s.held f there) in
      let up : IsUpTo s.is_descending value (slice_index f.row.dims s.dim) =
      subst (λ (v : ℕ). IsUpTo s.is_descending v (slice_index f.row.dims s.dim)) at
      (given_up_to t.schema plan s.dim s.is_descending t.next (regions t) (rows_held s.held) given rest fetched unread last f.row over of.under_way gone in_rest) in
      let strict : IsAlong s.is_descending value (slice_index f.row.dims s.dim) =
      up_to_apart s.is_descending value (slice_index f.row.dims s.dim) up
      (λ (e : slice_index f.row.dims s.dim ≡ value). apart (ap (λ (r : Row). slice_index r.dims s.dim) (sym is) ∙ e)) in
      along_up_to s.is_descending value (slice_index f.row.dims s.dim) (slice_index h.row.dims s.dim) strict
      (entry_past plan t s given rest fetched unread h f (going of) here there (all_at (λ (other : HeldRow). ¬ (IsHeldBefore other f)) s.held h least here))

  -- nor is any row still to be given, where no region is left that can have one
  past_value : (last : Row) → Contains given last → slice_index last.dims s.dim ≡ value → ((event : Event) → Contains unread event → IsAlong s.is_descending value event.value)
      → IsFirstElsewhere s.dim value s.held → All (λ row. IsRowPast s.dim s.is_descending value row) rest
  past_value last gone at before first =
      all_of (λ (row : Row). IsRowPast s.dim s.is_descending value row) rest
      (λ row there. elim (held_or_unread t.schema plan s.dim s.is_descending t.next (regions t) (rows_held s.held) given rest fetched unread row (sweep_over plan t s given rest fetched unread (going of)) of.under_way there) [
        | inl kept ↦
            let (h, here, same) = contains_from_map (λ (h : HeldRow). h.row) s.held row kept in
            subst (λ (r : Row). IsAlong s.is_descending value (slice_index r.dims s.dim)) same (held_past last gone at first h here)
        | inr will ↦
            let (event, is_event, up) = will in
            along_up_to s.is_descending value event.value (slice_index row.dims s.dim) (before event is_event) up
      ])

-- rows of one value that were taken one after the other are the next rows
values_taken : (plan : PlanView) (t : TreeView) (value : ℕ) (rows : List Row) (s : SweepView) (left : List HeldRow) (given rest : List Row) (fetched unread : List Event)
    → IsSweeping plan t s given rest fetched unread → ((event : Event) → Contains unread event → IsAlong s.is_descending value event.value) → AreTakenAt s.dim value s.held left rows
    → (more : List Row) × (rest ≡ rows ++ more) × AllByRecursion (λ row. slice_index row.dims s.dim ≡ value) rows
    × IsSweeping plan t (record s { held = left }) (given ++ rows) more fetched unread
values_taken plan t value [] s left given rest fetched unread of before same = (
  rest,
  refl,
  tt,
  subst (λ (held : List HeldRow). IsSweeping plan t (record s { held = held }) (given ++ []) rest fetched unread) (sym same)
      (subst (λ (rows : List Row). IsSweeping plan t s rows rest fetched unread) (sym (append-nil given)) of),
)
values_taken plan t value (row ∷ rows) s left given rest fetched unread of before (mid, (found, takes), others) =
    let at : slice_index row.dims s.dim ≡ value = taken_value plan t s given rest fetched unread of value mid row (found, takes) in
    let (more, next, reached, then) = taken_next plan t s mid given rest fetched unread row of takes
    (before_first s.dim s.is_descending row unread (λ event there. subst (λ (v : ℕ). IsAlong s.is_descending v event.value) (sym at) (before event there))) in
    let (later, parts, all, last) = values_taken plan t value rows (record s { held = mid }) left (given ++ row ∷ []) more fetched unread then before others in (
      later,
      next ∙ ap (λ (rs : List Row). row ∷ rs) parts,
      (at, all),
      subst (λ (rs : List Row). IsSweeping plan t (record s { held = left }) rs later fetched unread) (append_assoc given (row ∷ []) rows) last,
    )

-- given by the lead alone, they are given by number
value_in_order : (plan : PlanView) (t : TreeView) (s : SweepView) (value : ℕ) (given rows more : List Row) (fetched unread : List Event) → IsSweeping plan t s (given ++ rows) more fetched unread
    → plan.asked.group ≢ [] → AllByRecursion (λ row. slice_index row.dims s.dim ≡ value) rows → IsInOrder rows
value_in_order plan t s value given rows more fetched unread of some all =
    let order : List SortKey = keys_of plan.asked in
    let up : Rising (IsRowBefore t.schema order) ((given ++ rows) ++ more) =
    Rising-from_adjacent (IsRowBefore t.schema order) (asked-chain t.schema order) ((given ++ rows) ++ more) of.under_way.rows.ordered in
    let those : Rising (IsRowBefore t.schema order) rows = rising_right (IsRowBefore t.schema order) given rows (rising_left (IsRowBefore t.schema order) (given ++ rows) more up) in
    let led = led_plan t.schema plan s.dim s.is_descending of.swept.planned of.swept.kind in
    let numbers : Rising (λ a b. a.number < b.number) rows =
    Rising-both (IsRowBefore t.schema order) (λ a b. a.number < b.number) (λ row. slice_index row.dims s.dim ≡ value)
    (λ a b left right before. value_numbers t.schema plan.asked s.dim s.is_descending value a b led some left right before) rows all those in
    let mapped : Rising (λ x y. x < y) (map (λ (r : Row). r.number) rows) = Rising-mapped (λ x y. x < y) (λ (r : Row). r.number) rows numbers in
    λ k within. adjacent-from_Rising (λ x y. x < y) (map (λ (r : Row). r.number) rows) mapped k 0 within

-- ---- a step that gives a value

-- the first row was given, and then the others were taken
value_given : (plan : PlanView) (t : TreeView) (s : SweepView) (left : List HeldRow) (given rest : List Row) (fetched unread : List Event) (first : Row) (others : List Row) → plan.asked.group ≢ []
    → HasGiven plan t s given rest fetched unread first → AreTakenAt s.dim (slice_index first.dims s.dim) s.held left others → IsFirstElsewhere s.dim (slice_index first.dims s.dim) left
    → HasGivenValue plan t (record s { held = left }) given rest fetched unread (first ∷ others)
value_given plan t s left given rest fetched unread first others some step taken whole =
    let value : ℕ = slice_index first.dims s.dim in
    let before : (event : Event) → Contains step.left event → IsAlong s.is_descending value event.value =
    λ event there. All-contains (λ row. IsRowAlong s.dim s.is_descending row event.value) (given ++ first ∷ []) first
    (All-contains (λ event. All (λ row. IsRowAlong s.dim s.is_descending row event.value) (given ++ first ∷ [])) step.left event step.sweeping.under_way.given_before there)
    (Contains-append_right given (first ∷ []) first (contains_here first [])) in
    let (later, parts, all, last) = values_taken plan t value others s left (given ++ first ∷ []) step.more (fetched ++ step.read) step.left step.sweeping before taken in
    let sweeping : IsSweeping plan t (record s { held = left }) (given ++ first ∷ others) later (fetched ++ step.read) step.left =
    subst (λ (rows : List Row). IsSweeping plan t (record s { held = left }) rows later (fetched ++ step.read) step.left) (append_assoc given (first ∷ []) others) last in
    record {
      value = value;
      more = later;
      read = step.read;
      left = step.left;
      some = not_none first others;
      next = step.next ∙ ap (λ (rows : List Row). first ∷ rows) parts;
      of_value = All-from_recursion (λ row. slice_index row.dims s.dim ≡ value) (first ∷ others) (refl, all);
      past = past_value plan t (record s { held = left }) (given ++ first ∷ others) later (fetched ++ step.read) step.left sweeping value first
          (Contains-append_right given (first ∷ others) first (contains_here first others)) refl before whole;
      by_number = value_in_order plan t (record s { held = left }) value given (first ∷ others) later (fetched ++ step.read) step.left sweeping some (refl, all);
      parts = step.parts;
      reached = step.reached;
      sweeping = sweeping;
    }

pub value_step : (plan : PlanView) (t : TreeView) (s new_s : SweepView) (given rest : List Row) (fetched unread : List Event) (first : Row) (rows : List Row) → plan.asked.group ≢ []
    → HasGiven plan t s given rest fetched unread first → TakesValue s.dim first s.held new_s.held rows → new_s ≡ record s { held = new_s.held } → HasGivenValue plan t new_s given rest fetched unread rows
value_step plan t s new_s given rest fetched unread first rows some step takes still =
    subst (λ (rs : List Row). HasGivenValue plan t new_s given rest fetched unread rs) (sym takes.rows_are)
    (subst (λ (v : SweepView). HasGivenValue plan t v given rest fetched unread (first ∷ takes.others)) (sym still)
    (value_given plan t s new_s.held given rest fetched unread first takes.others some step takes.taken takes.whole))

-- ---- a step that is ended by a fault once the first row was given

same_course : (kind : Kind) (a c : ℕ) (b d : Bool) → kind ≡ Sweep a b → kind ≡ Sweep c d → (a ≡ c) × (b ≡ d)
same_course kind a c b d left right = let same : Sweep a b ≡ Sweep c d = sym left ∙ right in (cc, cc)

pub given_broken : (plan : PlanView) (t new : TreeView) (s now : SweepView) (given rest : List Row) (fetched unread : List Event) (row : Row) → IsSweeping plan t s given rest fetched unread
    → HasGiven plan new now given rest fetched unread row → HasBroken new s rest fetched unread
given_broken plan t new s now given rest fetched unread row of step =
    let (dim, down) = same_course plan.kind now.dim s.dim now.is_descending s.is_descending step.sweeping.swept.kind of.swept.kind in
    record {
      read = step.read;
      left = step.left;
      parts = step.parts;
      reached = λ other more next.
          let one : row ∷ step.more ≡ other ∷ more = sym step.next ∙ next in
          let first : row ≡ other = cc in
          subst (λ (r : Row). All (λ event. ¬ (IsRowAlong s.dim s.is_descending r event.value)) step.read) first
          (subst (λ (b : Bool). All (λ event. ¬ (IsRowAlong s.dim b row event.value)) step.read) down
          (subst (λ (d : ℕ). All (λ event. ¬ (IsRowAlong d now.is_descending row event.value)) step.read) dim
          (all_right (λ event. ¬ (IsRowAlong now.dim now.is_descending row event.value)) fetched step.read step.reached)));
      noted = step.sweeping.noted;
    }

-- ---- where it rests, and what is left

pub rests_still : {A B : Type 0} (r : Result (Option A) SweepFault) (s new_s : SweepView) (t new : TreeView) → Rests s new_s t new r → Rests {A = B} s new_s t new (Ok None)
rests_still r s new_s t new rests = record { none = refl; sweep_is = rests.sweep_is; tree_is = rests.tree_is }

pub never_rests : {A X : Type 0} (o : Option A) (x : A) (s new_s : SweepView) (t new : TreeView) → o ≡ Some x → Rests s new_s t new (Ok o) → X
never_rests o x s new_s t new is rests = let bad : Ok o ≡ Ok None = rests.none in absurd cc

pub never_rests_on : {A X : Type 0} (e : SweepFault) (s new_s : SweepView) (t new : TreeView) → Rests {A = A} s new_s t new (Err e) → X
never_rests_on e s new_s t new rests = let bad : Err e ≡ Ok None = rests.none in absurd cc

fewer_left : (s new_s : SweepView) → new_s ≡ record s { held = new_s.held } → length new_s.held ≤ length s.held → rows_left new_s ≤ rows_left s
fewer_left s new_s same few =
    let left : rows_left new_s ≡ rows_left (record s { held = new_s.held }) = ap rows_left same in
    omega (arith, left, few)

below : (a b c : ℕ) → a ≤ b → b < c → a < c
below a b c h k = omega arith

value_fewer : (s new_s : SweepView) (first : Row) (rows : List Row) (most : ℕ) → TakesValue s.dim first s.held new_s.held rows → new_s ≡ record s { held = new_s.held } → rows_left s < most
    → rows_left new_s < most
value_fewer s new_s first rows most takes still fewer =
    below (rows_left new_s) (rows_left s) most (fewer_left s new_s still (taken_few s.dim (slice_index first.dims s.dim) takes.others s.held new_s.held takes.taken)) fewer

-- what it answers over any tree
pub value_answers : (plan : PlanView) (t : TreeView) (s mid new_s : SweepView) (first : Row) (rows : List Row) → TakesValue mid.dim first mid.held new_s.held rows → new_s ≡ record mid { held = new_s.held }
    → HasAnswered plan t s mid (Some (first ∷ [])) → HasAnswered plan t s new_s (Some rows)
value_answers plan t s mid new_s first rows takes still (some, fewer, gives) =
    subst (λ (rs : List Row). HasAnswered plan t s new_s (Some rs)) (sym takes.rows_are) (
      not_none first takes.others,
      value_fewer mid new_s first rows (rows_left s) takes still fewer,
      gives_then plan t s mid new_s (first ∷ []) takes.others (same_awaited mid new_s still)
          (takes_rows mid.dim (slice_index first.dims mid.dim) takes.others mid.held new_s.held takes.taken) gives,
    )
