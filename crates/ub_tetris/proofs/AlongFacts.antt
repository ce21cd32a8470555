-- Coordinates along a sweep, event values, and the order in which a sweep gives rows: its first key is the sweep's dimension.
use Rattle.std.proofs.Common.{◌≡◌, ◌≢◌, ◌<◌, ◌+◌, ◌⊎◌, ℕ, List, [], ◌∷◌, Bool, true, false, nat_lt, Some, length, get_or, slice_get, slice_index, inl, inr, refl, sym, ap, ◌∙◌, subst, arith}
use Rattle.std.proofs.lemmas.Bool.{lt-ltb}
use Rattle.std.proofs.lemmas.Int.{ints}
use Rattle.std.specs.List.{AllAdjacentBelow}
use Rattle.ub_boxes.specs.Boxes.{Covering, boxes_of, cover_of}
use Rattle.ub_planning.proofs.Laws.{plans_are_empty, sweeps_are_led}
pub use Rattle.ub_planning.proofs.Laws.{IsUpTo, along_chain, along_never, along_up_to, up_to_along, up_to_apart, up_to_both, up_to_chain}
use Rattle.ub_planning.specs.Plan.{PlanView, kept_by, planned_kind, plan_of}
use Rattle.ub_planning.specs.Visits.{Event, IsAlong, IsEventBefore}
use Rattle.ub_planning.specs.declared.planned.Kind.{Kind}
use Rattle.ub_planning.specs.declared.planned.Kind.TheVariants.{Empty, Scan, Sweep}
use Rattle.ub_query.proofs.Laws.{Rising, Rising-from_adjacent}
use Rattle.ub_query.specs.Cells.{row_cell}
use Rattle.ub_query.specs.Lead.{group_lead, swept_order}
use Rattle.ub_query.specs.Order.{IsAhead, IsRowBefore}
use Rattle.ub_query.specs.Posed.{IsGroupQuery}
use Rattle.ub_query.specs.Shape.{Asked}
use Rattle.ub_query.specs.declared.cell.Cell.{Cell}
use Rattle.ub_query.specs.declared.query.Item.TheVariants.{Column}
use Rattle.ub_query.specs.declared.query.SortKey.{SortKey}
use Rattle.ub_table.specs.declared.row.Row.{Row}
use Rattle.ub_table.specs.declared.schema.Schema.{Schema}
use Rattle.ub_tetris.proofs.NumberFacts.{asked-never}

-- ---- event values

value_up_to : (down : Bool) (a b : Event) → IsEventBefore down a b → IsUpTo down a.value b.value
value_up_to down a b (inl along) back = along_never down a.value (along_chain down a.value b.value a.value along back)
value_up_to down a b (inr same) back = along_never down b.value (subst (λ (v : ℕ). IsAlong down b.value v) same.0 back)

pub values_rise : (down : Bool) (events : List Event) → AllAdjacentBelow (IsEventBefore down) events (length events)
    → Rising (λ a b. IsUpTo down a.value b.value) events
values_rise down events next =
    Rising-from_adjacent (λ a b. IsUpTo down a.value b.value) (λ a b c g h. up_to_chain down a.value b.value c.value g h) events
    (λ k d within. value_up_to down (get_or events k d) (get_or events (k + 1) d) (next k d within))

-- ---- the query of a sweep

-- the keys by which a sweep gives rows
abbrev pub keys_of : Asked → List SortKey
keys_of q = swept_order q.group q.order

-- the first of them is the dimension
pub record IsLed (schema : Schema) (q : Asked) (dim : ℕ) (is_descending : Bool) : Type 0 where
  pub first : SortKey
  pub keys : List SortKey
  pub order : keys_of q ≡ first ∷ keys
  pub item : first.item ≡ Column dim
  pub descending : first.is_descending ≡ is_descending
  pub within : dim < schema.dims

led_by : (schema : Schema) (q : Asked) (dim : ℕ) (is_descending : Bool) (keys : List SortKey) → keys_of q ≡ keys → dim < schema.dims
    → slice_get keys 0 ≡ Some (record { item = Column dim; is_descending = is_descending }) → IsLed schema q dim is_descending
led_by schema q dim is_descending [] same within is = absurd cc
led_by schema q dim is_descending (key ∷ keys) same within is =
    let first : key ≡ record { item = Column dim; is_descending = is_descending } = cc in
    record {
      first = key;
      keys = keys;
      order = same;
      item = ap (λ (k : SortKey). k.item) first;
      descending = ap (λ (k : SortKey). k.is_descending) first;
      within = within;
    }

no_sweep_of_none : (kind : Kind) (dim : ℕ) (is_descending : Bool) → kind ≡ Sweep dim is_descending → kind ≢ Empty
no_sweep_of_none kind dim is_descending is none = let same : Empty ≡ Sweep dim is_descending = sym none ∙ is in absurd cc

-- that of a query of rows is its first order key, that of groups their lead
swept_first : (group : List ℕ) (order : List SortKey) (key : SortKey)
    → ((group ≡ []) × (slice_get order 0 ≡ Some key)) ⊎ (group_lead group order ≡ Some key) → slice_get (swept_order group order) 0 ≡ Some key
swept_first [] order key (inl h) = h.1
swept_first [] order key (inr h) = absurd cc
swept_first (column ∷ group) order key (inl h) = let bad : column ∷ group ≡ [] = h.0 in absurd cc
swept_first (column ∷ group) order key (inr h) = h

no_group : (q : Asked) (group : List ℕ) → q.group ≡ group → ¬ (IsGroupQuery q) → group ≡ []
no_group q [] is plain = refl
no_group q (column ∷ group) is plain = absurd (plain (inl (λ (none : q.group ≡ []). let bad : column ∷ group ≡ [] = sym is ∙ none in cc)))

pub led : (schema : Schema) (q : Asked) (dim : ℕ) (is_descending : Bool) → planned_kind schema q ≡ Sweep dim is_descending → IsLed schema q dim is_descending
led schema q dim is_descending is =
    let (within, leads) = (sweeps_are_led schema q dim is_descending (no_sweep_of_none (planned_kind schema q) dim is_descending is)).0 is in
    led_by schema q dim is_descending (keys_of q) refl within
    (swept_first q.group q.order (record { item = Column dim; is_descending = is_descending }) (elim leads [
      | inl rows ↦ inl (no_group q q.group refl rows.0, rows.1)
      | inr groups ↦ inr groups
    ]))

-- without GROUP BY the query gives rows
pub led_is_plain : (schema : Schema) (q : Asked) (dim : ℕ) (is_descending : Bool) → planned_kind schema q ≡ Sweep dim is_descending → q.group ≡ [] → ¬ (IsGroupQuery q)
led_is_plain schema q dim is_descending is none =
    let (within, leads) = (sweeps_are_led schema q dim is_descending (no_sweep_of_none (planned_kind schema q) dim is_descending is)).0 is in
    elim leads [
      | inl rows ↦ rows.0
      | inr groups ↦ absurd (no_lead q.group q.order (record { item = Column dim; is_descending = is_descending }) none groups)
    ]
  where
    no_lead : (group : List ℕ) (order : List SortKey) (key : SortKey) → group ≡ [] → group_lead group order ≡ Some key → ⊥
    no_lead [] order key none is = cc
    no_lead (column ∷ group) order key none is = cc

kept_boxes : (kind : Kind) (covering : Covering) (dim : ℕ) (is_descending : Bool) → kind ≡ Sweep dim is_descending → (kept_by kind covering).boxes ≡ covering.boxes
kept_boxes Empty covering dim is_descending is = absurd cc
kept_boxes Scan covering dim is_descending is = refl
kept_boxes (Sweep d b) covering dim is_descending is = refl

pub sweep_boxes : (schema : Schema) (plan : PlanView) (dim : ℕ) (is_descending : Bool) → plan ≡ plan_of schema plan.asked → plan.kind ≡ Sweep dim is_descending
    → plan.covering.boxes ≡ boxes_of schema plan.asked.filter
sweep_boxes schema plan dim is_descending planned kind =
    ap (λ (p : PlanView). p.covering.boxes) planned
    ∙ kept_boxes (planned_kind schema plan.asked) (cover_of schema plan.asked.filter) dim is_descending (sym (ap (λ (p : PlanView). p.kind) planned) ∙ kind)

kind_planned : (schema : Schema) (plan : PlanView) (dim : ℕ) (is_descending : Bool) → plan ≡ plan_of schema plan.asked → plan.kind ≡ Sweep dim is_descending
    → planned_kind schema plan.asked ≡ Sweep dim is_descending
kind_planned schema plan dim is_descending planned kind = sym (ap (λ (p : PlanView). p.kind) planned) ∙ kind

pub led_plan : (schema : Schema) (plan : PlanView) (dim : ℕ) (is_descending : Bool) → plan ≡ plan_of schema plan.asked → plan.kind ≡ Sweep dim is_descending
    → IsLed schema plan.asked dim is_descending
led_plan schema plan dim is_descending planned kind = led schema plan.asked dim is_descending (kind_planned schema plan dim is_descending planned kind)

pub plan_is_plain : (schema : Schema) (plan : PlanView) (dim : ℕ) (is_descending : Bool) → plan ≡ plan_of schema plan.asked → plan.kind ≡ Sweep dim is_descending
    → plan.asked.group ≡ [] → ¬ (IsGroupQuery plan.asked)
plan_is_plain schema plan dim is_descending planned kind none = led_is_plain schema plan.asked dim is_descending (kind_planned schema plan dim is_descending planned kind) none

-- ---- the order in which rows are given

led_before : (schema : Schema) (dim : ℕ) (is_descending : Bool) (key : SortKey) (keys : List SortKey) (a b : Row) → key.item ≡ Column dim → key.is_descending ≡ is_descending → nat_lt dim schema.dims ≡ true
    → IsAlong is_descending (slice_index a.dims dim) (slice_index b.dims dim) → IsRowBefore schema (key ∷ keys) a b
led_before schema dim false key keys a b item descending within along = rw (item, descending, within) (inl (omega (arith, ints)))
led_before schema dim true key keys a b item descending within along = rw (item, descending, within) (inl (omega (arith, ints)))

pub along_before : (schema : Schema) (q : Asked) (dim : ℕ) (is_descending : Bool) (a b : Row) → IsLed schema q dim is_descending
    → IsAlong is_descending (slice_index a.dims dim) (slice_index b.dims dim) → IsRowBefore schema (keys_of q) a b
along_before schema q dim is_descending a b of along =
    subst (λ (order : List SortKey). IsRowBefore schema order a b) (sym of.order)
    (led_before schema dim is_descending of.first of.keys a b of.item of.descending (lt-ltb dim schema.dims of.within) along)

-- rows of one coordinate are given by number where they are given by the lead alone
lead_numbers : (schema : Schema) (dim value : ℕ) (key : SortKey) (a b : Row) → key.item ≡ Column dim → nat_lt dim schema.dims ≡ true → slice_index a.dims dim ≡ value → slice_index b.dims dim ≡ value
    → IsRowBefore schema (key ∷ []) a b → a.number < b.number
lead_numbers schema dim value key a b item within left right (inl ahead) =
    let same : row_cell schema a key.item ≡ row_cell schema b key.item = rw (item, within, left, right) refl in
    absurd (asked-never schema (key ∷ []) b (inl (subst (λ (c : Cell). IsAhead key.is_descending c (row_cell schema b key.item)) same ahead)))
lead_numbers schema dim value key a b item within left right (inr tied) = tied.1

lead_alone : (group : List ℕ) (order : List SortKey) (key : SortKey) (keys : List SortKey) → group ≢ [] → swept_order group order ≡ key ∷ keys → keys ≡ []
lead_alone [] order key keys some is = absurd (some refl)
lead_alone (column ∷ group) order key [] some is = refl
lead_alone (column ∷ group) order key (other ∷ keys) some is = absurd cc

pub value_numbers : (schema : Schema) (q : Asked) (dim : ℕ) (is_descending : Bool) (value : ℕ) (a b : Row) → IsLed schema q dim is_descending → q.group ≢ []
    → slice_index a.dims dim ≡ value → slice_index b.dims dim ≡ value → IsRowBefore schema (keys_of q) a b → a.number < b.number
value_numbers schema q dim is_descending value a b of some left right before =
    let one : keys_of q ≡ of.first ∷ [] = of.order ∙ ap (λ (keys : List SortKey). of.first ∷ keys) (lead_alone q.group q.order of.first of.keys some of.order) in
    lead_numbers schema dim value of.first a b of.item (lt-ltb dim schema.dims of.within) left right (subst (λ (order : List SortKey). IsRowBefore schema order a b) one before)

-- ---- a plan that is a sweep

-- it asks for a row at least
pub led_asks : (schema : Schema) (plan : PlanView) (dim : ℕ) (is_descending : Bool) → plan ≡ plan_of schema plan.asked → plan.kind ≡ Sweep dim is_descending → plan.asked.limit ≢ Some 0
led_asks schema plan dim is_descending planned kind zero =
    no_sweep_of_none plan.kind dim is_descending kind
    (ap (λ (p : PlanView). p.kind) planned ∙ (plans_are_empty schema plan.asked).1 (inr zero))
