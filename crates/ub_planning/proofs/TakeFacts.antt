-- A plan that isn't empty takes the selected rows, and their regions meet its boxes.
use Rattle.std.proofs.Common.{◌≡◌, ◌≢◌, List, [], Bool, true, false, ◌&&◌, if◌then◌else◌, Option, Some, None, Contains, inl, inr, refl, sym, ap, ◌∙◌, subst, take}
use Rattle.std.proofs.lemmas.Bool.{true≢false, and_parts}
use Rattle.ub_bigmin.specs.Box.{Corners}
use Rattle.ub_boxes.specs.Boxes.{Covering, boxes_of, cover_of}
use Rattle.ub_boxes.specs.Laws.{IsInSome}
use Rattle.ub_boxes.proofs.Laws.{selected_are_in_boxes, exact_boxes_select}
use Rattle.ub_planning.proofs.InsideFacts.{in_some, from_in_some}
use Rattle.ub_planning.proofs.KindFacts.{kind_cases}
use Rattle.ub_planning.proofs.SpanFacts.{of_span, of_some_span, rows_are_points}
use Rattle.ub_planning.specs.Plan.{PlanView, planned_kind, kept_by, plan_of, reads, residual_by, residual_of, is_in_any, takes}
use Rattle.ub_planning.specs.Visits.{Span, Meets, spans_of}
use Rattle.ub_planning.specs.declared.planned.Kind.{Kind}
use Rattle.ub_planning.specs.declared.planned.Kind.TheVariants.{Empty, Scan, Sweep}
use Rattle.ub_query.proofs.Laws.{contains_none}
use Rattle.ub_query.specs.Groups.{is_selected}
use Rattle.ub_query.specs.Shape.{Shape, Asked}
use Rattle.ub_region.proofs.Laws.{IsChain}
use Rattle.ub_table.specs.Region.{RegionRows}
use Rattle.ub_table.specs.declared.row.Row.{Row}
use Rattle.ub_table.specs.declared.schema.Schema.{Schema}
use Rattle.ub_zaddr.specs.Address.{IsPoint, address, last_address}

pub empty_boxes : (kind : Kind) (covering : Covering) → kind ≡ Empty → (kept_by kind covering).boxes ≡ []
empty_boxes Empty covering is = refl
empty_boxes Scan covering is = cc
empty_boxes (Sweep dim is_descending) covering is = cc

-- ---- what a plan takes

-- two truth values of which each is true where the other is
same_truth : (a b : Bool) → (a ≡ true → b ≡ true) → (b ≡ true → a ≡ true) → a ≡ b
same_truth true b f g = sym (f refl)
same_truth false true f g = g refl
same_truth false false f g = refl

-- what is taken of the rows in the boxes, by whether the cover is exact
taken_by : Schema → List Corners → Option Shape → Row → Bool → Bool
taken_by schema boxes filter row exact = is_in_any schema boxes row && is_selected schema (if exact then None else filter) row

exact_takes : (schema : Schema) (filter : Option Shape) (row : Row) → IsPoint schema.dims (take schema.dims row.dims) → (cover_of schema filter).exact ≡ true
    → taken_by schema (boxes_of schema filter) filter row true ≡ is_selected schema filter row
unfolding taken_by
exact_takes schema filter row point exact =
    let iff = exact_boxes_select schema filter row point exact in
    same_truth _ (is_selected schema filter row)
    (λ t. iff.0 (in_some (take schema.dims row.dims) (boxes_of schema filter) (and_parts (is_in_any schema (boxes_of schema filter) row) true t).0))
    (λ t. rw (from_in_some (take schema.dims row.dims) (boxes_of schema filter) (iff.1 t)) refl)

asked_takes : (schema : Schema) (filter : Option Shape) (row : Row) → IsPoint schema.dims (take schema.dims row.dims)
    → taken_by schema (boxes_of schema filter) filter row false ≡ is_selected schema filter row
unfolding taken_by
asked_takes schema filter row point =
    same_truth _ (is_selected schema filter row)
    (λ t. (and_parts (is_in_any schema (boxes_of schema filter) row) (is_selected schema filter row) t).1)
    (λ t. rw (from_in_some (take schema.dims row.dims) (boxes_of schema filter) (selected_are_in_boxes schema filter row point t), t) refl)

read_takes : (schema : Schema) (filter : Option Shape) (row : Row) → IsPoint schema.dims (take schema.dims row.dims)
    → (exact : Bool) → (cover_of schema filter).exact ≡ exact → taken_by schema (boxes_of schema filter) filter row exact ≡ is_selected schema filter row
read_takes schema filter row point true e = exact_takes schema filter row point e
read_takes schema filter row point false e = asked_takes schema filter row point

-- whether a row lies in one of the boxes of a plan, and the residual is true of it
abbrev pub is_told : Schema → PlanView → Row → Bool
is_told schema plan row = is_in_any schema plan.covering.boxes row && is_selected schema (residual_of plan) row

-- the same by the kind of the plan
taken_as : Schema → Asked → Row → Kind → Bool
taken_as schema q row kind =
    is_in_any schema (kept_by kind (cover_of schema q.filter)).boxes row
    && is_selected schema (residual_by kind (kept_by kind (cover_of schema q.filter)).exact q.filter) row

taken_is : (schema : Schema) (q : Asked) (row : Row) → IsPoint schema.dims (take schema.dims row.dims)
    → (kind : Kind) → reads kind ≡ true → taken_as schema q row kind ≡ is_selected schema q.filter row
unfolding taken_as taken_by
taken_is schema q row point Empty read = absurd (true≢false (sym read))
taken_is schema q row point Scan read = read_takes schema q.filter row point (cover_of schema q.filter).exact refl
taken_is schema q row point (Sweep dim is_descending) read = read_takes schema q.filter row point (cover_of schema q.filter).exact refl

-- a plan that reads regions takes exactly the selected rows
told_selected : (schema : Schema) (q : Asked) (row : Row) → IsPoint schema.dims (take schema.dims row.dims)
    → reads (planned_kind schema q) ≡ true → is_told schema (plan_of schema q) row ≡ is_selected schema q.filter row
unfolding taken_as
told_selected schema q row point read = taken_is schema q row point (planned_kind schema q) read

takes_selected : (schema : Schema) (q : Asked) (row : Row) → IsPoint schema.dims (take schema.dims row.dims)
    → reads (planned_kind schema q) ≡ true → takes schema (plan_of schema q) row ≡ is_selected schema q.filter row
takes_selected schema q row point read =
    ap (λ (b : Bool). b && is_told schema (plan_of schema q) row) read ∙ told_selected schema q row point read

-- the span of a row's region meets the boxes where the row's point lies in one
pub meets : (schema : Schema) (boxes : List Corners) (regions : List RegionRows) (span : Span) (row : Row) → IsChain schema regions
    → Contains (spans_of schema regions) span → Contains span.region.rows row → IsInSome boxes (take schema.dims row.dims) → Meets boxes span.from span.to
meets schema boxes regions span row chain there has (b, here, is) =
    let of = of_span schema (last_address schema.dims) regions span row refl chain there has in
    (address (take schema.dims row.dims), (b, here, (take schema.dims row.dims, is, refl)), of.from, of.to)

read_boxes : (kind : Kind) (covering : Covering) → reads kind ≡ true → covering.boxes ≡ (kept_by kind covering).boxes
read_boxes Empty covering read = absurd (true≢false (sym read))
read_boxes Scan covering read = refl
read_boxes (Sweep dim is_descending) covering read = refl

-- the span of a selected row meets the boxes of a plan that reads regions
pub selected_meets : (schema : Schema) (q : Asked) (regions : List RegionRows) (span : Span) (row : Row) → IsChain schema regions
    → Contains (spans_of schema regions) span → Contains span.region.rows row → reads (planned_kind schema q) ≡ true → is_selected schema q.filter row ≡ true
    → Meets (plan_of schema q).covering.boxes span.from span.to
selected_meets schema q regions span row chain there has read t =
    let boxes = read_boxes (planned_kind schema q) (cover_of schema q.filter) read in
    let among = of_some_span (last_address schema.dims) regions span row there has in
    subst (λ (bs : List Corners). Meets bs span.from span.to) boxes
    (meets schema (boxes_of schema q.filter) regions span row chain there has (selected_are_in_boxes schema q.filter row (rows_are_points schema regions row chain among) t))

-- ---- unless the limit is 0

-- a selected row lies in a box, so the plan reads regions
read_where : (schema : Schema) (q : Asked) (row : Row) → q.limit ≢ Some 0 → IsPoint schema.dims (take schema.dims row.dims) → is_selected schema q.filter row ≡ true → reads (planned_kind schema q) ≡ true
read_where schema q row limit point t = elim (kind_cases schema q) [
  | inl read ↦ read
  | inr empty ↦ elim empty.1 [
    | inl none ↦
        let some = selected_are_in_boxes schema q.filter row point t in
        absurd (contains_none some.0 (subst (λ (boxes : List Corners). Contains boxes some.0) none some.1))
    | inr zero ↦ absurd (limit zero)
  ]
]

pub row_meets : (schema : Schema) (q : Asked) (regions : List RegionRows) (span : Span) (row : Row) → q.limit ≢ Some 0 → IsChain schema regions
    → Contains (spans_of schema regions) span → Contains span.region.rows row → is_selected schema q.filter row ≡ true → Meets (plan_of schema q).covering.boxes span.from span.to
row_meets schema q regions span row limit chain there has t =
    let point = rows_are_points schema regions row chain (of_some_span (last_address schema.dims) regions span row there has) in
    selected_meets schema q regions span row chain there has (read_where schema q row limit point t) t

told_none : (schema : Schema) (plan : PlanView) (row : Row) → plan.covering.boxes ≡ [] → is_told schema plan row ≡ false
told_none schema plan row none = rw none refl

never : (a b : Bool) → b ≡ false → (a && b) ≡ false
never true b f = f
never false b f = refl

pub in_none : (schema : Schema) (plan : PlanView) (row : Row) → plan.covering.boxes ≡ [] → takes schema plan row ≡ false
in_none schema plan row none = never (reads plan.kind) (is_told schema plan row) (told_none schema plan row none)

-- a row isn't selected where the plan is empty
unselected : (schema : Schema) (q : Asked) (row : Row) → q.limit ≢ Some 0 → IsPoint schema.dims (take schema.dims row.dims) → planned_kind schema q ≡ Empty
    → is_selected schema q.filter row ≡ false
unselected schema q row limit point empty =
    same_truth (is_selected schema q.filter row) false
    (λ t. sym (ap reads empty) ∙ read_where schema q row limit point t)
    (λ bad. absurd (true≢false (sym bad)))

pub row_is_told : (schema : Schema) (q : Asked) (row : Row) → q.limit ≢ Some 0 → IsPoint schema.dims (take schema.dims row.dims)
    → is_told schema (plan_of schema q) row ≡ is_selected schema q.filter row
row_is_told schema q row limit point = elim (kind_cases schema q) [
  | inl read ↦ told_selected schema q row point read
  | inr empty ↦
      told_none schema (plan_of schema q) row (empty_boxes (planned_kind schema q) (cover_of schema q.filter) empty.0)
      ∙ sym (unselected schema q row limit point empty.0)
]

pub row_is_taken : (schema : Schema) (q : Asked) (row : Row) → q.limit ≢ Some 0 → IsPoint schema.dims (take schema.dims row.dims)
    → takes schema (plan_of schema q) row ≡ is_selected schema q.filter row
row_is_taken schema q row limit point = elim (kind_cases schema q) [
  | inl read ↦ takes_selected schema q row point read
  | inr empty ↦
      in_none schema (plan_of schema q) row (empty_boxes (planned_kind schema q) (cover_of schema q.filter) empty.0)
      ∙ sym (unselected schema q row limit point empty.0)
]
