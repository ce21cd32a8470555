-- Which plan a query has: the rule, read from what the plan is and from what the query asks.
use Rattle.std.proofs.Common.{◌≡◌, ◌≢◌, ◌<◌, ◌↔◌, ◌==◌, ◌||◌, ◌&&◌, nat_lt, ℕ, List, [], ◌∷◌, length, Bool, true, false, not, cond, Option, Some, None, slice_get, ◌⊎◌, inl, inr, ⊎_elim, refl, sym, ap, ◌∙◌, subst, arith}
use Rattle.std.specs.List.{list_any}
use Rattle.std.proofs.lemmas.Bool.{cases_Bool, cond_both, eqb-true, lt-ltb, ltb-true, or_right, true≢false}
use Rattle.std.proofs.lemmas.List.{nil_from_length}
use Rattle.ub_bigmin.specs.Box.{Corners}
use Rattle.ub_boxes.specs.Boxes.{boxes_of}
use Rattle.ub_planning.specs.Laws.{PlansAreEmpty, SweepsAreLed}
use Rattle.ub_planning.specs.Plan.{along, along_item, is_zero, planned_kind, reads}
use Rattle.ub_planning.specs.declared.planned.Kind.{Kind}
use Rattle.ub_planning.specs.declared.planned.Kind.TheVariants.{Empty, Scan, Sweep}
use Rattle.ub_query.proofs.Laws.{group_queries_are_told}
use Rattle.ub_query.specs.Lead.{group_lead, is_one_entry, swept_order}
use Rattle.ub_query.specs.Posed.{IsGroupQuery, has_groups, is_aggregate}
use Rattle.ub_query.specs.Shape.{Asked}
use Rattle.ub_query.specs.declared.query.Item.{Item}
use Rattle.ub_query.specs.declared.query.Item.TheVariants.{Column, Count, Aggregate}
use Rattle.ub_query.specs.declared.query.SortKey.{SortKey}
use Rattle.ub_table.specs.declared.schema.Schema.{Schema}

-- ---- where there is something to read

-- how the regions are read where there is something to read
abbrev read_kind : Schema → Asked → Kind
read_kind schema q = cond (is_one_entry q) Scan (along schema.dims (slice_get (swept_order q.group q.order) 0))

item_reads : (dims : ℕ) (item : Item) (is_descending : Bool) → reads (along_item dims item is_descending) ≡ true
item_reads dims (Column column) is_descending =
    cond_both (nat_lt column dims) (Sweep column is_descending) Scan (λ (kind : Kind). reads kind ≡ true) (λ e. refl) (λ e. refl)
item_reads dims Count is_descending = refl
item_reads dims (Aggregate taken column) is_descending = refl

along_reads : (dims : ℕ) (key : Option SortKey) → reads (along dims key) ≡ true
along_reads dims None = refl
along_reads dims (Some key) = item_reads dims key.item key.is_descending

read_reads : (schema : Schema) (q : Asked) → reads (read_kind schema q) ≡ true
read_reads schema q =
    let first = slice_get (swept_order q.group q.order) 0 in
    cond_both (is_one_entry q) Scan (along schema.dims first) (λ (kind : Kind). reads kind ≡ true) (λ e. refl)
    (λ e. along_reads schema.dims first)

-- ---- where there is not

zero_limit : (limit : Option ℕ) → is_zero limit ≡ true → limit ≡ Some 0
zero_limit None t = absurd (true≢false (sym t))
zero_limit (Some n) t = ap (λ (m : ℕ). Some m) (eqb-true n 0 t)

nothing_there : (boxes : List Corners) (limit : Option ℕ) → (length boxes == 0 || is_zero limit) ≡ true → (boxes ≡ []) ⊎ (limit ≡ Some 0)
nothing_there boxes limit t =
    ⊎_elim (λ (none : (length boxes == 0) ≡ true). inl (nil_from_length boxes (eqb-true (length boxes) 0 none)))
    (λ (some : (length boxes == 0) ≡ false). inr (zero_limit limit (rw some at t)))
    (cases_Bool (length boxes == 0))

told_nothing : (boxes : List Corners) (limit : Option ℕ) → (boxes ≡ []) ⊎ (limit ≡ Some 0) → (length boxes == 0 || is_zero limit) ≡ true
told_nothing boxes limit (inl none) = rw none refl
told_nothing boxes limit (inr zero) = or_right (length boxes == 0) (is_zero limit) (rw zero refl)

-- the kind of a plan, by whether there is nothing to read
abbrev Nothing : Schema → Asked → Bool → Type 0
Nothing schema q b = (length (boxes_of schema q.filter) == 0 || is_zero q.limit) ≡ b

kind_by : (schema : Schema) (q : Asked) (b : Bool) → Nothing schema q b → planned_kind schema q ≡ cond b Empty (read_kind schema q)
kind_by schema q b is = ap (λ (b : Bool). cond b Empty (read_kind schema q)) is

-- a plan reads regions, or it is empty, and there is no box or the limit is 0
pub kind_cases : (schema : Schema) (q : Asked)
    → (reads (planned_kind schema q) ≡ true) ⊎ ((planned_kind schema q ≡ Empty) × ((boxes_of schema q.filter ≡ []) ⊎ (q.limit ≡ Some 0)))
kind_cases schema q =
    ⊎_elim (λ (t : Nothing schema q true). inr (kind_by schema q true t, nothing_there (boxes_of schema q.filter) q.limit t))
    (λ (f : Nothing schema q false). inl (ap reads (kind_by schema q false f) ∙ read_reads schema q))
    (cases_Bool (length (boxes_of schema q.filter) == 0 || is_zero q.limit))

pub plans_are_empty : PlansAreEmpty
plans_are_empty schema q = (
  λ empty. ⊎_elim (λ (read : reads (planned_kind schema q) ≡ true). absurd (true≢false (sym read ∙ ap reads empty)))
      (λ (none : (planned_kind schema q ≡ Empty) × ((boxes_of schema q.filter ≡ []) ⊎ (q.limit ≡ Some 0))). none.1)
      (kind_cases schema q),
  λ none. kind_by schema q true (told_nothing (boxes_of schema q.filter) q.limit none),
)

-- ---- sweeps

item_sweeps : (dims : ℕ) (item : Item) (down : Bool) (dim : ℕ) (is_descending : Bool) → along_item dims item down ≡ Sweep dim is_descending
    → (item ≡ Column dim) × (down ≡ is_descending) × (dim < dims)
item_sweeps dims (Column column) down dim is_descending is = elim (cases_Bool (nat_lt column dims)) [
  | inl t ↦
      let same : Sweep column down ≡ Sweep dim is_descending = rw t at is in
      let at : column ≡ dim = cc in
      (ap Column at, cc, subst (λ (d : ℕ). d < dims) at (ltb-true column dims t))
  | inr f ↦ let same : Scan ≡ Sweep dim is_descending = rw f at is in absurd cc
]
item_sweeps dims Count down dim is_descending is = absurd cc
item_sweeps dims (Aggregate taken column) down dim is_descending is = absurd cc

same_key : (key : SortKey) (dim : ℕ) (is_descending : Bool) → key.item ≡ Column dim → key.is_descending ≡ is_descending
    → key ≡ record { item = Column dim; is_descending = is_descending }
same_key key dim is_descending item down =
    ap (λ (i : Item). record { item = i; is_descending = key.is_descending }) item
    ∙ ap (λ (b : Bool). record { item = Column dim; is_descending = b }) down

along_sweeps : (dims : ℕ) (key : Option SortKey) (dim : ℕ) (is_descending : Bool) → along dims key ≡ Sweep dim is_descending
    → (dim < dims) × (key ≡ Some (record { item = Column dim; is_descending = is_descending }))
along_sweeps dims None dim is_descending is = absurd cc
along_sweeps dims (Some key) dim is_descending is =
    let parts = item_sweeps dims key.item key.is_descending dim is_descending is in
    (parts.2, ap (λ (k : SortKey). Some k) (same_key key dim is_descending parts.0 parts.1))

read_sweeps : (schema : Schema) (q : Asked) (dim : ℕ) (is_descending : Bool) → read_kind schema q ≡ Sweep dim is_descending
    → (is_one_entry q ≡ false) × (along schema.dims (slice_get (swept_order q.group q.order) 0) ≡ Sweep dim is_descending)
read_sweeps schema q dim is_descending is = elim (cases_Bool (is_one_entry q)) [
  | inl t ↦ let same : Scan ≡ Sweep dim is_descending = rw t at is in absurd cc
  | inr f ↦ (f, rw f at is)
]

-- a query of rows is one that the test doesn't tell
plain : (q : Asked) → (has_groups q ≡ false) ↔ (¬ IsGroupQuery q)
plain q = (
  λ f grouped. true≢false (sym ((group_queries_are_told q).1 grouped) ∙ f),
  λ none. ⊎_elim (λ (t : has_groups q ≡ true). absurd (none ((group_queries_are_told q).0 t)))
      (λ (f : has_groups q ≡ false). f)
      (cases_Bool (has_groups q)),
)

is_read : (schema : Schema) (q : Asked) → planned_kind schema q ≢ Empty → planned_kind schema q ≡ read_kind schema q
is_read schema q some =
    ⊎_elim (λ (t : Nothing schema q true). absurd (some (kind_by schema q true t)))
    (λ (f : Nothing schema q false). kind_by schema q false f)
    (cases_Bool (length (boxes_of schema q.filter) == 0 || is_zero q.limit))

-- ---- what leads: of rows the first order key, of groups their lead

some_columns : (column : ℕ) (group : List ℕ) → (length (column ∷ group) == 0) ≡ false
some_columns column group = elim (cases_Bool (length (column ∷ group) == 0)) [
  | inl t ↦ let none = eqb-true (length (column ∷ group)) 0 t in absurd (omega arith)
  | inr f ↦ f
]

-- this key leads a query with these columns of GROUP BY, these order keys and these items
abbrev Leads : List ℕ → List SortKey → List Item → SortKey → Type 0
Leads group order items key =
    (((not (length group == 0) || list_any is_aggregate items) ≡ false) × (slice_get order 0 ≡ Some key)) ⊎ (group_lead group order ≡ Some key)

-- it stands first in the order in which a sweep gives rows, and the result isn't one entry
abbrev StandsFirst : List ℕ → List SortKey → List Item → SortKey → Type 0
StandsFirst group order items key =
    (((length group == 0) && list_any is_aggregate items) ≡ false) × (slice_get (swept_order group order) 0 ≡ Some key)

first_leads : (group : List ℕ) (order : List SortKey) (items : List Item) (key : SortKey) → StandsFirst group order items key → Leads group order items key
first_leads [] order items key h = inl h
first_leads (column ∷ group) order items key h = inr h.1

leads_first : (group : List ℕ) (order : List SortKey) (items : List Item) (key : SortKey) → Leads group order items key → StandsFirst group order items key
leads_first [] order items key (inl h) = h
leads_first [] order items key (inr h) = absurd cc
leads_first (column ∷ group) order items key (inl h) =
    absurd (true≢false (sym (ap (λ (b : Bool). not b || list_any is_aggregate items) (some_columns column group)) ∙ h.0))
leads_first (column ∷ group) order items key (inr h) = (ap (λ (b : Bool). b && list_any is_aggregate items) (some_columns column group), h)

-- the order key that is a dimension
abbrev dimension_key : ℕ → Bool → SortKey
dimension_key dim is_descending = record { item = Column dim; is_descending = is_descending }

-- the key leads as the law says it
abbrev IsLedBy : Asked → SortKey → Type 0
IsLedBy q key = ((¬ IsGroupQuery q) × (slice_get q.order 0 ≡ Some key)) ⊎ (group_lead q.group q.order ≡ Some key)

led_as : (q : Asked) (key : SortKey) → Leads q.group q.order q.items key → IsLedBy q key
led_as q key (inl h) = inl ((plain q).0 h.0, h.1)
led_as q key (inr h) = inr h

led_from : (q : Asked) (key : SortKey) → IsLedBy q key → Leads q.group q.order q.items key
led_from q key (inl h) = inl ((plain q).1 h.0, h.1)
led_from q key (inr h) = inr h

pub sweeps_are_led : SweepsAreLed
sweeps_are_led schema q dim is_descending some =
    let read = is_read schema q some in
    let first = slice_get (swept_order q.group q.order) 0 in (
      λ is.
          let parts = read_sweeps schema q dim is_descending (sym read ∙ is) in
          let led = along_sweeps schema.dims first dim is_descending parts.1 in
          (led.0, led_as q (dimension_key dim is_descending) (first_leads q.group q.order q.items (dimension_key dim is_descending) (parts.0, led.1))),
      λ h.
          let stands = leads_first q.group q.order q.items (dimension_key dim is_descending) (led_from q (dimension_key dim is_descending) h.1) in
          read
          ∙ ap (λ (b : Bool). cond b Scan (along schema.dims first)) stands.0
          ∙ ap (λ (key : Option SortKey). along schema.dims key) stands.1
          ∙ ap (λ (b : Bool). cond b (Sweep dim is_descending) Scan) (lt-ltb dim schema.dims h.0),
    )
