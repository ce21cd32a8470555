-- The line of each box of a plan names every dimension.
use Rattle.std.proofs.Common.{◌≡◌, ◌≤◌, ◌+◌, ℕ, suc, List, [], ◌∷◌, Bool, Option, length, map, Contains, inl, inr, ap, ◌∙◌, refl, subst, arith}
use Rattle.std.proofs.lemmas.Bool.{cases_Bool}
use Rattle.std.proofs.lemmas.List.{length-replicate}
use Rattle.std.proofs.lemmas.List.Elements.{Contains-append_cases}
use Rattle.std.specs.List.{flat_map}
use Rattle.ub_bigmin.specs.Box.{Corners}
use Rattle.ub_boxes.proofs.Laws.{length-sides}
use Rattle.ub_boxes.specs.Boxes.{beside, boxes_of, boxes_on, cover_of, is_wide, nowhere, runs, space}
use Rattle.ub_table.specs.Value.{greatest}
use Rattle.ub_boxes.specs.Grid.{grid}
use Rattle.ub_boxes.specs.Truths.{covers}
use Rattle.ub_plan.specs.Explained.{sides}
use Rattle.ub_planning.specs.Plan.{kept_by, planned_kind, plan_of}
use Rattle.ub_planning.specs.declared.planned.Kind.{Kind}
use Rattle.ub_planning.specs.declared.planned.Kind.TheVariants.{Empty, Scan, Sweep}
use Rattle.ub_query.proofs.Laws.{contains_here, contains_later, contains_cases, contains_none, contains_from_map}
use Rattle.ub_query.specs.Shape.{Shape, Asked}
use Rattle.ub_table.specs.declared.schema.Schema.{Schema}

-- a box with so many coordinates
IsLong : ℕ → Corners → Type 0
IsLong n b = (length b.lo ≡ n) × (length b.hi ≡ n)

from_part : {X Y : Type 0} (f : X → List Y) (xs : List X) (y : Y) → Contains (flat_map f xs) y → (x : X) × Contains xs x × Contains (f x) y
from_part f [] y there = absurd (contains_none y there)
from_part f (x ∷ xs) y there = elim (Contains-append_cases (f x) (flat_map f xs) y there) [
  | inl here ↦ (x, contains_here x xs, here)
  | inr rest ↦ let (z, among, is) = from_part f xs y rest in (z, contains_later x xs z among, is)
]

beside-long : (interval : _) (b : Corners) (n : ℕ) → IsLong n b → IsLong (suc n) (beside interval b)
unfolding IsLong
beside-long interval b n long = (ap suc long.0, ap suc long.1)

on-long : (test : List ℕ → Bool) (sides : List (List _)) (b : Corners) → Contains (boxes_on test sides) b → IsLong (length sides) b
unfolding IsLong
on-long test [] b there = absurd (contains_none b there)
on-long test (side ∷ []) b there =
    let (run, here, same) = contains_from_map (λ (run : _). beside run nowhere) (runs (λ low. test (low ∷ [])) side) b there in
    subst (λ (c : Corners). IsLong 1 c) same (refl, refl)
on-long test (side ∷ next ∷ sides) b there =
    let (interval, here, within) = from_part (λ (interval : _). map (beside interval) (boxes_on (λ point. test (interval.low ∷ point)) (next ∷ sides))) side b there in
    let (c, in_rest, same) = contains_from_map (beside interval) (boxes_on (λ point. test (interval.low ∷ point)) (next ∷ sides)) b within in
    subst (λ (c : Corners). IsLong (length (side ∷ next ∷ sides)) c) same
    (beside-long interval c (length (next ∷ sides)) (on-long (λ point. test (interval.low ∷ point)) (next ∷ sides) c in_rest))

of-long : (schema : Schema) (filter : Option Shape) (b : Corners) → Contains (boxes_of schema filter) b → IsLong schema.dims b
unfolding IsLong
of-long schema filter b there = elim (cases_Bool (is_wide schema filter)) [
  | inl t ↦
      let one : Contains (space schema.dims ∷ []) b = rw t at there in
      elim (contains_cases (space schema.dims) [] b one) [
        | inl same ↦ subst (λ (c : Corners). IsLong schema.dims c) same (length-replicate schema.dims 0, length-replicate schema.dims greatest)
        | inr none ↦ absurd (contains_none b none)
      ]
  | inr f ↦
      let some : Contains (boxes_on (covers schema filter) (grid schema filter)) b = rw f at there in
      subst (λ (n : ℕ). IsLong n b) (length-sides schema filter schema.dims) (on-long (covers schema filter) (grid schema filter) b some)
]

kept_among : (kind : Kind) (schema : Schema) (filter : Option Shape) (b : Corners) → Contains (kept_by kind (cover_of schema filter)).boxes b → Contains (boxes_of schema filter) b
kept_among Empty schema filter b there = absurd (contains_none b there)
kept_among Scan schema filter b there = there
kept_among (Sweep dim t) schema filter b there = there

sides-long : (schema : Schema) (dim : ℕ) (names : List (List ℕ)) (lo hi : List ℕ) (n : ℕ) → length lo ≡ n → length hi ≡ n → n ≤ length names
    → length (sides schema dim names lo hi) ≡ n
sides-long schema dim [] lo hi n a b few = omega arith
sides-long schema dim (name ∷ names) [] hi n a b few = a
sides-long schema dim (name ∷ names) (low ∷ lo) [] n a b few = absurd (omega arith)
sides-long schema dim (name ∷ names) (low ∷ lo) (high ∷ hi) n a b few =
    let rest = sides-long schema (dim + 1) names lo hi (length lo) refl (omega arith) (omega arith) in
    ap suc rest ∙ a

pub each_dimension : (schema : Schema) (q : Asked) (b : Corners) → Contains (plan_of schema q).covering.boxes b → length (sides schema 0 schema.columns b.lo b.hi) ≡ schema.dims
unfolding IsLong
each_dimension schema q b there =
    let long = of-long schema q.filter b (kept_among (planned_kind schema q) schema q.filter b there) in
    let few = schema.counts.covers_dims in
    sides-long schema 0 schema.columns b.lo b.hi schema.dims long.0 long.1 few
