-- Each box of a sweep's plan has the sweep's dimension.
use Rattle.std.proofs.Common.{◌≡◌, ◌<◌, ◌≤◌, ◌+◌, ℕ, zero, suc, List, [], ◌∷◌, Bool, true, false, Option, length, map, take, slice_index_or, Contains, inl, inr, refl, sym, ap, ◌∙◌, subst, arith}
use Rattle.std.proofs.lemmas.Bool.{cases_Bool, true≢false}
use Rattle.std.proofs.lemmas.List.{length-replicate}
use Rattle.std.proofs.lemmas.List.Elements.{All-from_recursion}
use Rattle.std.specs.List.{All, AllByRecursion}
use Rattle.std.specs.Prelude.{IsTrue}
use Rattle.ub_bigmin.specs.Box.{Corners}
use Rattle.ub_boxes.proofs.Laws.{length-sides}
use Rattle.ub_boxes.specs.Boxes.{beside, boxes_of, boxes_on, is_wide, nowhere, runs, space}
use Rattle.ub_boxes.specs.Grid.{grid}
use Rattle.ub_boxes.specs.Truths.{covers}
use Rattle.ub_planning.specs.Plan.{PlanView, plan_of}
use Rattle.ub_planning.specs.declared.planned.Kind.TheVariants.{Sweep}
use Rattle.ub_query.proofs.Laws.{contains_cases, contains_none, contains_from_map}
use Rattle.ub_query.specs.Shape.{Shape}
use Rattle.ub_table.specs.declared.schema.Schema.{Schema}
use Rattle.ub_tetris.proofs.AlongFacts.{led_plan, sweep_boxes}
use Rattle.ub_tetris.proofs.ArrangeFacts.{all_of, from_part}

boxes_on-long : (test : List ℕ → Bool) (sides : List (List _)) (b : Corners) → Contains (boxes_on test sides) b → length b.lo ≡ length sides
boxes_on-long test [] b there = absurd (contains_none b there)
boxes_on-long test (side ∷ []) b there =
    let (run, here, same) = contains_from_map (λ (run : _). beside run nowhere) (runs (λ low. test (low ∷ [])) side) b there in
    sym (ap (λ (c : Corners). length c.lo) same)
boxes_on-long test (side ∷ next ∷ sides) b there =
    let (interval, here, within) = from_part (λ (interval : _). map (beside interval) (boxes_on (λ point. test (interval.low ∷ point)) (next ∷ sides))) side b there in
    let (c, in_rest, same) = contains_from_map (beside interval) (boxes_on (λ point. test (interval.low ∷ point)) (next ∷ sides)) b within in
    let rest = boxes_on-long (λ point. test (interval.low ∷ point)) (next ∷ sides) c in_rest in
    let lo : length (beside interval c).lo ≡ length b.lo = ap (λ (c : Corners). length c.lo) same in
    omega (arith, rest, lo)

boxes_of-long : (schema : Schema) (filter : Option Shape) (b : Corners) → Contains (boxes_of schema filter) b → length b.lo ≡ schema.dims
boxes_of-long schema filter b there = elim (cases_Bool (is_wide schema filter)) [
  | inl t ↦
      let one : Contains (space schema.dims ∷ []) b = rw t at there in
      elim (contains_cases (space schema.dims) [] b one) [
        | inl same ↦ sym (ap (λ (c : Corners). length c.lo) same) ∙ length-replicate schema.dims 0
        | inr none ↦ absurd (contains_none b none)
      ]
  | inr f ↦
      let some : Contains (boxes_on (covers schema filter) (grid schema filter)) b = rw f at there in
      boxes_on-long (covers schema filter) (grid schema filter) b some ∙ length-sides schema filter schema.dims
]

pub have_dimension : (schema : Schema) (plan : PlanView) (dim : ℕ) (is_descending : Bool) → plan ≡ plan_of schema plan.asked → plan.kind ≡ Sweep dim is_descending
    → All (λ b. dim < length b.lo) plan.covering.boxes
have_dimension schema plan dim is_descending planned kind =
    let led = led_plan schema plan dim is_descending planned kind in
    all_of (λ (b : Corners). dim < length b.lo) plan.covering.boxes
    (λ b there.
    let long = boxes_of-long schema plan.asked.filter b (subst (λ (boxes : List Corners). Contains boxes b) (sweep_boxes schema plan dim is_descending planned kind) there) in
    omega (arith, long, led.within))

-- ---- the boxes are asked one after the other

abbrev Has : ℕ → Corners → Type 0
Has dim b = dim < length b.lo

pub lacks_dimension : (boxes : List Corners) (dim k : ℕ) (b : Corners) (values : List ℕ) → k < length boxes → b ≡ slice_index_or boxes k b → values ≡ b.lo → length values ≤ dim
    → (IsTrue false → All (λ b. dim < length b.lo) boxes) × (All (λ b. dim < length b.lo) boxes → IsTrue false)
lacks_dimension boxes dim k b values within is lo few = (λ t. absurd (true≢false (sym t)), λ all. absurd (too_few (all k b within)))
  where
    too_few : dim < length (slice_index_or boxes k b).lo → ⊥
    too_few long =
        let here : dim < length b.lo = subst (λ (c : Corners). dim < length c.lo) (sym is) long in
        let same : length values ≡ length b.lo = ap length lo in
        omega arith

pub has_more : (boxes : List Corners) (dim k n : ℕ) (b : Corners) (values : List ℕ) → n ≡ k + 1 → k < length boxes → b ≡ slice_index_or boxes k b → values ≡ b.lo → dim < length values
    → AllByRecursion (λ b. dim < length b.lo) (take k boxes) → AllByRecursion (λ b. dim < length b.lo) (take n boxes)
has_more [] dim k n b values next within is lo long all = absurd (omega arith)
has_more (x ∷ boxes) dim zero n b values next within is lo long all =
    let one : n ≡ 1 = omega arith in
    subst (λ (m : ℕ). AllByRecursion (λ b. dim < length b.lo) (take m (x ∷ boxes))) (sym one) (subst (λ (vs : List ℕ). dim < length vs) (lo ∙ ap (λ (c : Corners). c.lo) is) long, tt)
has_more (x ∷ boxes) dim (suc k) zero b values next within is lo long all = absurd (omega arith)
has_more (x ∷ boxes) dim (suc k) (suc n) b values next within is lo long all = (all.0, has_more boxes dim k n b values (omega arith) (omega arith) is lo long all.1)

pub have_all : (boxes : List Corners) (dim k : ℕ) → length boxes ≤ k → AllByRecursion (λ b. dim < length b.lo) (take k boxes)
    → (IsTrue true → All (λ b. dim < length b.lo) boxes) × (All (λ b. dim < length b.lo) boxes → IsTrue true)
have_all boxes dim k past all = (λ t. All-from_recursion (Has dim) boxes (of_whole boxes k past all), λ every. refl)
  where
    of_whole : (boxes : List Corners) (k : ℕ) → length boxes ≤ k → AllByRecursion (Has dim) (take k boxes) → AllByRecursion (Has dim) boxes
    of_whole [] k past all = tt
    of_whole (x ∷ boxes) zero past all = absurd (omega arith)
    of_whole (x ∷ boxes) (suc k) past all = (all.0, of_whole boxes k (omega arith) all.1)
