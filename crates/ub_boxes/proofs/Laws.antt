-- The laws of the boxes of a condition, as specs/Laws.antt states them.
use Rattle.std.proofs.Common.{◌≡◌, ◌<◌, ◌-◌, ℕ, zero, suc, List, [], ◌∷◌, Option, Some, None, Bool, true, false, not, ◌&&◌, nat_lt, int_le, slice_index, subst, take, get_or, refl, sym, ap, arith, ◌∙◌, inl, inr, rules}
use Rattle.std.proofs.lemmas.Bool.{cases_Bool}
use Rattle.ub_bigmin.specs.Box.{Corners}
use Rattle.ub_boxes.proofs.ApartFacts.{boxes-apart, pairs-apart, among-some, some-among}
use Rattle.ub_boxes.proofs.CellFacts.{Among, in_boxes}
use Rattle.ub_boxes.proofs.CountFacts.{points_counted}
use Rattle.ub_boxes.proofs.GridFacts.{are_sides}
use Rattle.ub_boxes.proofs.LinkFacts.{cut_lists, sides_are, length-cut_lists, all_cuts, cover-of_cells, is_over, space_has}
use Rattle.ub_boxes.proofs.OrderFacts.{boxes-ordered, pairs-ordered, boxes-joined, space-joined}
use Rattle.ub_boxes.proofs.TruthFacts.{IsAt, allows, known}
use Rattle.ub_boxes.proofs.TurnFacts.{Member, contained-member}
use Rattle.ub_boxes.specs.Boxes.{boxes_on, space, is_wide}
use Rattle.ub_boxes.specs.Grid.{grid}
use Rattle.ub_boxes.specs.Laws.{point_of, BoxesAreApart, BoxesAreTheCover, WideBoxesAreTheSpace, SelectedAreInBoxes, ExactBoxesSelect, BoxesAreInOrder, BoxesAreJoined, PointsAreCounted, BetweenCanBeAsTwo, Adjoin}
use Rattle.ub_boxes.specs.Truths.{covers, is_of_dimensions, known_as, conjoined}
use Rattle.ub_boxes.specs.declared.truths.Truths.{Truths}
use Rattle.ub_query.specs.Groups.{is_selected}
use Rattle.ub_query.specs.Shape.{Shape}
use Rattle.ub_table.specs.Table.{column_value}
use Rattle.ub_table.specs.Value.{value}
use Rattle.ub_table.specs.declared.row.Row.{Row}
use Rattle.ub_table.specs.declared.schema.Schema.{Schema}
use Rattle.ub_zaddr.specs.Address.{IsPoint}
pub use Rattle.ub_boxes.proofs.GridFacts.{length-sides}

pub boxes_are_apart : BoxesAreApart
boxes_are_apart schema filter = elim (cases_Bool (is_wide schema filter)) [
  | inl t ↦ rw t (pairs-apart (space schema.dims ∷ []) ((λ p i m. m), tt))
  | inr f ↦ rw f (pairs-apart _ (boxes-apart (covers schema filter) (grid schema filter) (are_sides schema filter)))
]

pub boxes_are_in_order : BoxesAreInOrder
boxes_are_in_order schema filter = elim (cases_Bool (is_wide schema filter)) [
  | inl t ↦ rw t (pairs-ordered (space schema.dims ∷ []) ((λ c m. absurd m), tt))
  | inr f ↦ rw f (pairs-ordered _ (boxes-ordered (covers schema filter) (grid schema filter) (are_sides schema filter)))
]

pub points_are_counted : PointsAreCounted
points_are_counted schema filter points differ are = points_counted schema filter points (boxes_are_apart schema filter) differ are

space_joined : (last dims : ℕ) (a b : Corners) → dims ≡ suc last → Member (space dims ∷ []) a → Member (space dims ∷ []) b → Adjoin last a b → ⊥
space_joined last dims a b e (inl p) (inl q) adjoin =
    space-joined last dims e
    (subst (λ (c : Corners). Adjoin last (space dims) c) (sym q) (subst (λ (c : Corners). Adjoin last c b) (sym p) adjoin))
space_joined last dims a b e (inr m) n adjoin = absurd m
space_joined last dims a b e m (inr n) adjoin = absurd n

pub boxes_are_joined : BoxesAreJoined
boxes_are_joined schema filter a b m n adjoin =
    let some = schema.counts.some_dims in
    let last : schema.dims ≡ suc (schema.dims - 1) = omega arith in
    elim (cases_Bool (is_wide schema filter)) [
      | inl t ↦
          let whole = space schema.dims ∷ [] in
          space_joined (schema.dims - 1) schema.dims a b last (contained-member whole a (rw t at m)) (contained-member whole b (rw t at n)) adjoin
      | inr f ↦
          let boxes = boxes_on (covers schema filter) (grid schema filter) in
          boxes-joined (covers schema filter) (grid schema filter) (are_sides schema filter) (schema.dims - 1)
          (length-sides schema filter schema.dims ∙ last) a b
          (contained-member boxes a (rw f at m)) (contained-member boxes b (rw f at n)) adjoin
    ]

-- what is known of both of two is what is known of each, put together
known_of_both : (a b : Bool) → known_as (Some (a && b)) ≡ conjoined (known_as (Some a)) (known_as (Some b))
known_of_both true true = refl
known_of_both true false = refl
known_of_both false true = refl
known_of_both false false = refl

pub between_can_be_as_two : BetweenCanBeAsTwo
between_can_be_as_two schema point column low high = elim (cases_Bool (nat_lt column schema.dims)) [
  | inl t ↦ rw t (known_of_both (int_le low (value schema column (slice_index point column))) (int_le (value schema column (slice_index point column)) high))
  | inr f ↦ rw f refl
]

in_cover : (schema : Schema) (filter : Option Shape) (point : List ℕ) → IsPoint schema.dims point
    → (Among (boxes_on (covers schema filter) (grid schema filter)) point → covers schema filter point ≡ true)
    × (covers schema filter point ≡ true → Among (boxes_on (covers schema filter) (grid schema filter)) point)
in_cover schema filter point is =
    let some = schema.counts.some_dims in
    let long = length-cut_lists schema filter schema.dims in
    rw (sides_are schema filter schema.dims)
    (in_boxes (covers schema filter) (cut_lists schema filter schema.dims) point (omega arith) (all_cuts schema filter schema.dims)
    (cover-of_cells schema filter) (is_over (cut_lists schema filter schema.dims) point (is.0 ∙ sym long) is.1))

pub boxes_are_the_cover : BoxesAreTheCover
boxes_are_the_cover schema filter point is narrow =
    let both = in_cover schema filter point is in
    rw narrow ((λ h. both.0 (some-among _ point h)), (λ e. among-some _ point (both.1 e)))

pub wide_boxes_are_the_space : WideBoxesAreTheSpace
wide_boxes_are_the_space schema filter point is wide = rw wide (among-some (space schema.dims ∷ []) point (inl (space_has schema.dims point is)))

get_or-taken : (xs : List ℕ) (n k : ℕ) → k < n → get_or (take n xs) k 0 ≡ get_or xs k 0
get_or-taken xs zero k lt = absurd (omega arith)
get_or-taken [] (suc n) k lt = refl
get_or-taken (x ∷ xs) (suc n) zero lt = refl
get_or-taken (x ∷ xs) (suc n) (suc k) lt = get_or-taken xs n k (omega arith)

row-at : (schema : Schema) (row : Row) → IsAt schema (column_value schema row) (point_of schema row)
row-at schema row column lt =
    let t : nat_lt column schema.dims ≡ true = search (rules, lt) in
    rw (t, get_or-taken row.dims schema.dims column lt) refl

selected-covered : (schema : Schema) (filter : Option Shape) (row : Row) → is_selected schema filter row ≡ true → covers schema filter (point_of schema row) ≡ true
selected-covered schema None row e = refl
selected-covered schema (Some c) row e = (allows schema (column_value schema row) (point_of schema row) (row-at schema row) c).0 e

pub selected_are_in_boxes : SelectedAreInBoxes
selected_are_in_boxes schema filter row is e = elim (cases_Bool (is_wide schema filter)) [
  | inl t ↦ wide_boxes_are_the_space schema filter (point_of schema row) is t
  | inr f ↦ (boxes_are_the_cover schema filter (point_of schema row) is f).1 (selected-covered schema filter row e)
]

and-parts : (a b : Bool) → (not a && b) ≡ true → (a ≡ false) × (b ≡ true)
and-parts true b e = absurd (search (rules, e))
and-parts false b e = (refl, e)

covered-is : (schema : Schema) (filter : Option Shape) (row : Row) → is_of_dimensions schema filter ≡ true → covers schema filter (point_of schema row) ≡ is_selected schema filter row
covered-is schema None row e = refl
covered-is schema (Some c) row e =
    ap (λ (t : Truths). t.can_be_true) (known schema (column_value schema row) (point_of schema row) (row-at schema row) c e)

pub exact_boxes_select : ExactBoxesSelect
exact_boxes_select schema filter row is e =
    let parts = and-parts (is_wide schema filter) (is_of_dimensions schema filter) e in
    rw (← covered-is schema filter row parts.1) (boxes_are_the_cover schema filter (point_of schema row) is parts.0)
