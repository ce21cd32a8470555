-- By what rows are told: which lie in the boxes, and what is asked of them.
use Rattle.std.proofs.Common.{◌≡◌, ◌≢◌, ◌<◌, ◌+◌, ◌↔◌, ◌&&◌, inl, inr, ℕ, zero, suc, Bool, true, false, List, [], ◌∷◌, ◌++◌, Contains, Option, Some, filter, take, length, slice_get, get_or, bit_or, max, ◌≤◌, ◌⊎◌, IsTrue, refl, sym, ap, ◌∙◌, subst, arith}
use Rattle.std.proofs.lemmas.Nat.Bits.{bit_at_or, bit_at-lt, bit_at-zero, bit_at_ones}
use Rattle.std.proofs.lemmas.List.{append-nil, take_all, take_more}
use Rattle.std.proofs.lemmas.Option.{slice_get_cases, slice_get_within, get_or_from_slice_get}
use Rattle.std.proofs.lemmas.List.Elements.{filter-append, Contains-append_cases, Contains-append_left, Contains-push}
use Rattle.std.specs.Int.{bit_at}
use Rattle.std.specs.List.{AllByRecursion}
use Rattle.ub_bigmin.specs.Box.{Corners, IsInside}
use Rattle.ub_boxes.specs.Laws.{point_of, IsInSome}
use Rattle.ub_filter.specs.Choice.{IsFit, is_candidate, recheck_by, is_chosen}
use Rattle.ub_filter.specs.declared.choice.Choice.{Choice}
use Rattle.ub_filter.specs.declared.choice.Choice.TheVariants.{Boxes, Condition}
use Rattle.ub_planning.proofs.Laws.{in_some, from_in_some, row_is_told, rows_are_points}
use Rattle.ub_planning.specs.Plan.{PlanView, plan_of}
use Rattle.ub_query.proofs.Laws.{contains_none, contains_cases, contains_here, contains_later}
use Rattle.ub_query.specs.Groups.{is_selected}
use Rattle.ub_query.specs.Shape.{Asked, Shape}
use Rattle.ub_region.proofs.Laws.{chain_of}
use Rattle.ub_region.specs.Regions.{AreRegions, rows_of}
use Rattle.ub_table.specs.Region.{RegionRows}
use Rattle.ub_table.specs.declared.row.Row.{Row}
use Rattle.ub_table.specs.declared.schema.Schema.{Schema}

-- ---- the bits of rows that lie in a box

pub no_bit : (i : ℕ) → ¬ (bit_at 0 i ≡ 1)
no_bit i e = let zero = bit_at-zero i in absurd (omega arith)

-- a row lies in a box where its bit says so
pub by_mask : (bit : ℕ) (rows : List Row) (i : ℕ) (row : Row) (dims : ℕ) (b : Corners) → slice_get rows i ≡ Some row
    → (bit ≡ 1) ↔ ((r : Row) × (slice_get rows i ≡ Some r) × IsInside b (take dims r.dims)) → (bit ≡ 1) ↔ IsInside b (take dims row.dims)
by_mask bit rows i row dims b at iff = (
  λ one. let (r, there, inside) = iff.0 one in let same : r ≡ row = cc in subst (λ (x : Row). IsInside b (take dims x.dims)) same inside,
  λ inside. iff.1 (row, at, inside),
)

-- one box more
pub in_more : (boxes : List Corners) (k : ℕ) (next : Corners) (point : List ℕ) → k < length boxes → next ≡ get_or boxes k next
    → IsInSome (take (k + 1) boxes) point ↔ (IsInSome (take k boxes) point ⊎ IsInside next point)
in_more boxes k next point below at =
    let front = take k boxes in
    let whole : take (k + 1) boxes ≡ front ++ next ∷ [] = take_more boxes k next below ∙ ap (λ (b : Corners). front ++ b ∷ []) (sym at) in (
      λ some. among (subst (λ (bs : List Corners). IsInSome bs point) whole some),
      λ either. subst (λ (bs : List Corners). IsInSome bs point) (sym whole) (elim either [
        | inl some ↦ (some.0, Contains-append_left front (next ∷ []) some.0 some.1, some.2)
        | inr inside ↦ (next, Contains-push front next, inside)
      ]),
    )
  where
    among : IsInSome (take k boxes ++ next ∷ []) point → IsInSome (take k boxes) point ⊎ IsInside next point
    among (c, there, inside) = elim (Contains-append_cases (take k boxes) (next ∷ []) c there) [
      | inl before ↦ inl (c, before, inside)
      | inr last ↦ inr (elim (contains_cases next [] c last) [
        | inl same ↦ subst (λ (b : Corners). IsInside b point) (sym same) inside
        | inr none ↦ absurd (contains_none c none)
      ])
    ]

one_of : (a b : ℕ) → a < 2 → b < 2 → max a b ≡ 1 → (a ≡ 1) ⊎ (b ≡ 1)
one_of zero b la lb e = inr (omega arith)
one_of (suc zero) b la lb e = inl refl
one_of (suc (suc a)) b la lb e = absurd (omega arith)

left_one : (a b : ℕ) → b < 2 → a ≡ 1 → max a b ≡ 1
left_one a zero lb e = rw e refl
left_one a (suc zero) lb e = rw e refl
left_one a (suc (suc b)) lb e = absurd (omega arith)

right_one : (a b : ℕ) → a < 2 → b ≡ 1 → max a b ≡ 1
right_one zero b la e = rw e refl
right_one (suc zero) b la e = rw e refl
right_one (suc (suc a)) b la e = absurd (omega arith)

-- the bits joined
pub more_bits : (mask more i : ℕ) (P Q R : Type 0) → (bit_at mask i ≡ 1) ↔ P → (bit_at more i ≡ 1) ↔ Q → R ↔ (P ⊎ Q) → (bit_at (bit_or mask more) i ≡ 1) ↔ R
more_bits mask more i P Q R p q r =
    let joined = bit_at_or mask more i in (
      λ one. elim (one_of (bit_at mask i) (bit_at more i) (bit_at-lt mask i) (bit_at-lt more i) (sym joined ∙ one)) [
        | inl a ↦ r.1 (inl (p.0 a))
        | inr b ↦ r.1 (inr (q.0 b))
      ],
      λ h. elim (r.0 h) [
        | inl a ↦ joined ∙ left_one (bit_at mask i) (bit_at more i) (bit_at-lt more i) (p.1 a)
        | inr b ↦ joined ∙ right_one (bit_at mask i) (bit_at more i) (bit_at-lt mask i) (q.1 b)
      ],
    )

-- in none of no boxes
pub in_none : (i : ℕ) (boxes : List Corners) (point : List ℕ) → (bit_at 0 i ≡ 1) ↔ IsInSome (take 0 boxes) point
in_none i boxes point = (λ e. absurd (no_bit i e), λ some. absurd (contains_none some.0 some.1))

pub in_all : (bit : ℕ) (boxes : List Corners) (k : ℕ) (point : List ℕ) → length boxes ≤ k → (bit ≡ 1) ↔ IsInSome (take k boxes) point → (bit ≡ 1) ↔ IsInSome boxes point
in_all bit boxes k point past iff = subst (λ (bs : List Corners). (bit ≡ 1) ↔ IsInSome bs point) (take_all k boxes past) iff

pub there_is : (rows : List Row) (k : ℕ) → k < length rows → (row : Row) × (slice_get rows k ≡ Some row)
there_is rows k below = elim ((slice_get_cases rows k).1) [
  | inl some ↦ (some.0, some.2)
  | inr past ↦ let far = past.0 in absurd (omega arith)
]

-- ---- which rows are near

pub near_by_boxes : (choice : Choice) (bit : ℕ) (schema : Schema) (dims : ℕ) (boxes others : List Corners) (row : Row) → choice ≡ Boxes → dims ≡ schema.dims → others ≡ boxes
    → (bit ≡ 1) ↔ IsInSome others (take dims row.dims) → (bit ≡ 1) ↔ IsTrue (is_candidate choice schema boxes row)
near_by_boxes choice bit schema dims boxes others row is same_dims same iff = rw is (
  λ one. from_in_some (point_of schema row) boxes (there.0 one),
  λ near. there.1 (in_some (point_of schema row) boxes near),
)
  where
    there : (bit ≡ 1) ↔ IsInSome boxes (point_of schema row)
    there = subst (λ (n : ℕ). (bit ≡ 1) ↔ IsInSome boxes (take n row.dims)) same_dims (subst (λ (bs : List Corners). (bit ≡ 1) ↔ IsInSome bs (take dims row.dims)) same iff)

pub candidate_by_condition : (choice : Choice) (i : ℕ) (schema : Schema) (boxes : List Corners) (row : Row) → choice ≡ Condition → i < 64
    → (bit_at 18446744073709551615 i ≡ 1) ↔ IsTrue (is_candidate choice schema boxes row)
candidate_by_condition choice i schema boxes row is below = rw is (λ one. refl, λ near. bit_at_ones 64 i below)

-- the boxes of a table's plan can be asked
pub fit_boxes : (choice : Choice) (schema : Schema) (plan : PlanView) (dims : ℕ) (boxes : List Corners) → choice ≡ Boxes → dims ≡ schema.dims → boxes ≡ plan.covering.boxes → IsFit schema plan choice
    → AllByRecursion (λ b. length b.lo ≡ dims) boxes
fit_boxes choice schema plan dims boxes is same_dims same fit =
    subst (λ (n : ℕ). AllByRecursion (λ b. length b.lo ≡ n) boxes) (sym same_dims) (subst (λ (bs : List Corners). AllByRecursion (λ b. length b.lo ≡ schema.dims) bs) (sym same) (rw is at fit))

-- ---- the chosen ones of the rows so far, and of one more

module _ (choice : Choice) (schema : Schema) (plan : PlanView) (rows : List Row) (i : ℕ) where
  abbrev f : Row → Bool
  f = is_chosen choice schema plan

  one_more : (row : Row) → slice_get rows i ≡ Some row → filter f (take (i + 1) rows) ≡ filter f (take i rows) ++ filter f (row ∷ [])
  one_more row at =
      ap (filter f) (take_more rows i row (slice_get_within rows i row at) ∙ ap (λ (r : Row). take i rows ++ r ∷ []) (get_or_from_slice_get rows i row row at))
      ∙ filter-append f (take i rows) (row ∷ [])

  with_next : (row : Row) → slice_get rows i ≡ Some row → f row ≡ true → filter f (take (i + 1) rows) ≡ filter f (take i rows) ++ row ∷ []
  with_next row at is = one_more row at ∙ ap (λ (rs : List Row). filter f (take i rows) ++ rs) (kept f row is)
    where
      kept : (g : Row → Bool) (r : Row) → g r ≡ true → filter g (r ∷ []) ≡ r ∷ []
      kept g r is = rw is refl

  without_next : (row : Row) → slice_get rows i ≡ Some row → f row ≡ false → filter f (take (i + 1) rows) ≡ filter f (take i rows)
  without_next row at is = one_more row at ∙ ap (λ (rs : List Row). filter f (take i rows) ++ rs) (left_out f row is) ∙ append-nil (filter f (take i rows))
    where
      left_out : (g : Row → Bool) (r : Row) → g r ≡ false → filter g (r ∷ []) ≡ []
      left_out g r is = rw is refl

  -- what is asked isn't true of the next row
  pub next_fails : (row : Row) (asked : Option Shape) → slice_get rows i ≡ Some row → asked ≡ recheck_by choice plan
      → false ≡ is_selected schema asked row → filter f (take (i + 1) rows) ≡ filter f (take i rows)
  next_fails row asked at is fails =
      without_next row at (rw (sym is, sym fails) (and_false (is_candidate choice schema plan.covering.boxes row)))
    where
      and_false : (b : Bool) → (b && false) ≡ false
      and_false true = refl
      and_false false = refl

  module _ (mask : ℕ) (told : (row : Row) → slice_get rows i ≡ Some row → (bit_at mask i ≡ 1) ↔ IsTrue (is_candidate choice schema plan.covering.boxes row)) where
    -- the next row is near, and what is asked is true of it
    pub next_chosen : (row : Row) (asked : Option Shape) → slice_get rows i ≡ Some row → asked ≡ recheck_by choice plan → bit_at mask i ≡ 1
        → true ≡ is_selected schema asked row → filter f (take (i + 1) rows) ≡ filter f (take i rows) ++ row ∷ []
    next_chosen row asked at is near holds = with_next row at (rw ((told row at).0 near, sym is, sym holds) refl)

    -- it isn't near
    pub next_far : i < length rows → ¬ (bit_at mask i ≡ 1) → filter f (take (i + 1) rows) ≡ filter f (take i rows)
    next_far below far =
        let (row, at) = there_is rows i below in
        without_next row at (by_truth row (is_candidate choice schema plan.covering.boxes row) refl (λ near. far ((told row at).1 near)))
      where
        by_truth : (row : Row) (b : Bool) → is_candidate choice schema plan.covering.boxes row ≡ b → ¬ (is_candidate choice schema plan.covering.boxes row ≡ true) → f row ≡ false
        by_truth row true e no_near = absurd (no_near e)
        by_truth row false e no_near = rw e refl

-- ---- the chosen rows are the selected ones

-- of rows on which two tests agree the same ones are told
filter_same : (f g : Row → Bool) (rows : List Row) → ((row : Row) → Contains rows row → f row ≡ g row) → filter f rows ≡ filter g rows
filter_same f g [] alike = refl
filter_same f g (row ∷ rows) alike =
    let rest = filter_same f g rows (λ r there. alike r (contains_later row rows r there)) in
    let first = alike row (contains_here row rows) in
    rw (first, rest) refl

one_is_selected : (choice : Choice) (schema : Schema) (q : Asked) (next : ℕ) (regions : List RegionRows) → q.limit ≢ Some 0 → AreRegions schema next regions
    → (row : Row) → Contains (rows_of regions) row → is_chosen choice schema (plan_of schema q) row ≡ is_selected schema q.filter row
one_is_selected Boxes schema q next regions some are row there =
    row_is_told schema q row some (rows_are_points schema regions row (chain_of schema regions are.each are.ascending are.apart) there)
one_is_selected Condition schema q next regions some are row there = refl

pub chosen_selected : (choice : Choice) (schema : Schema) (q : Asked) (next : ℕ) (regions : List RegionRows) (rows : List Row) → q.limit ≢ Some 0 → AreRegions schema next regions
    → ((row : Row) → Contains rows row → Contains (rows_of regions) row) → filter (is_chosen choice schema (plan_of schema q)) rows ≡ filter (is_selected schema q.filter) rows
chosen_selected choice schema q next regions rows some are among =
    filter_same (is_chosen choice schema (plan_of schema q)) (is_selected schema q.filter) rows (λ row there. one_is_selected choice schema q next regions some are row (among row there))
