-- A sweep of groups goes along their lead.
use Rattle.std.proofs.Common.{◌≡◌, ◌≢◌, ◌<◌, ◌∙◌, ◌++◌, ℤ, ◌<ℤ◌, ℕ, Bool, true, false, nat_lt, List, [], ◌∷◌, Some, Contains, length, slice_index, inl, inr, sym, ap, subst, arith}
use Rattle.std.proofs.lemmas.Bool.{lt-ltb}
use Rattle.std.proofs.lemmas.Int.{ints}
use Rattle.std.proofs.lemmas.List.Elements.{All-contains}
use Rattle.std.specs.List.{All, AllAdjacentBelow, AllByRecursion}
use Rattle.ub_planning.proofs.Laws.{sweeps_are_led}
use Rattle.ub_planning.specs.Plan.{PlanView, plan_of}
use Rattle.ub_planning.specs.Visits.{AreArranged, IsAlong}
use Rattle.ub_planning.specs.declared.planned.Kind.{Kind}
use Rattle.ub_planning.specs.declared.planned.Kind.TheVariants.{Empty, Sweep}
use Rattle.ub_query.proofs.Laws.{Rising, Rising-from_adjacent, all_weaker, before-chain, contains_here, numbers-chain}
use Rattle.ub_query.specs.Cells.{row_cell}
use Rattle.ub_query.specs.Lead.{group_lead, lead_by, swept_order}
use Rattle.ub_query.specs.Order.{IsAhead, IsRowBefore}
use Rattle.ub_query.specs.Posed.{IsGrouped, IsPosed}
use Rattle.ub_query.specs.Shape.{Asked}
use Rattle.ub_query.specs.declared.cell.Cell.TheVariants.{Number}
use Rattle.ub_query.specs.declared.query.Item.{Item}
use Rattle.ub_query.specs.declared.query.Item.TheVariants.{Column}
use Rattle.ub_query.specs.declared.query.SortKey.{SortKey}
use Rattle.ub_table.specs.Table.{column_value}
use Rattle.ub_table.specs.Value.{value}
use Rattle.ub_table.specs.declared.row.Row.{Row}
use Rattle.ub_table.specs.declared.schema.Schema.{Schema}

-- the key of a dimension
abbrev pub key_of : ℕ → Bool → SortKey
key_of dim is_descending = record { item = Column dim; is_descending = is_descending }

-- the lead of a query's groups is a dimension, in which they are swept
pub record IsLedBy (schema : Schema) (q : Asked) (dim : ℕ) (is_descending : Bool) : Type 0 where
  pub some : q.group ≢ []
  pub within : dim < schema.dims
  pub lead : group_lead q.group q.order ≡ Some (key_of dim is_descending)
  pub there : Contains q.group dim

pub no_sweep : {X : Type 0} (kind : Kind) (dim : ℕ) (is_descending : Bool) → kind ≡ Sweep dim is_descending → kind ≡ Empty → X
no_sweep kind dim is_descending is none = let same : Empty ≡ Sweep dim is_descending = sym none ∙ is in absurd cc

-- a column by which is grouped
in_group : (group : List ℕ) (order : List SortKey) (items : List Item) (dim : ℕ) (is_descending : Bool) → group_lead group order ≡ Some (key_of dim is_descending)
    → All (λ key. Contains items key.item) order → All (λ item. IsGrouped group item) items → Contains group dim
in_group [] order items dim is_descending lead selected grouped = absurd cc
in_group (column ∷ group) [] items dim is_descending lead selected grouped =
    let key : record { item = Column column; is_descending = false } ≡ key_of dim is_descending = cc in
    let item : Column column ≡ Column dim = ap (λ (k : SortKey). k.item) key in
    let same : column ≡ dim = cc in
    subst (λ (c : ℕ). Contains (column ∷ group) c) same (contains_here column group)
in_group (column ∷ group) (key ∷ keys) items dim is_descending lead selected grouped =
    let same : key ≡ key_of dim is_descending = cc in
    let item : key.item ≡ Column dim = ap (λ (k : SortKey). k.item) same in
    let there : Contains items key.item = All-contains (λ key. Contains items key.item) (key ∷ keys) key selected (contains_here key keys) in
    let is : IsGrouped (column ∷ group) key.item = All-contains (λ item. IsGrouped (column ∷ group) item) items key.item grouped there in
    subst (λ (item : Item). IsGrouped (column ∷ group) item) item is

pub led_by : (schema : Schema) (plan : PlanView) (columns dim : ℕ) (is_descending : Bool) → IsPosed columns plan.asked → plan ≡ plan_of schema plan.asked
    → plan.kind ≡ Sweep dim is_descending → plan.asked.group ≢ [] → IsLedBy schema plan.asked dim is_descending
led_by schema plan columns dim is_descending posed planned kind some =
    let is = sym (ap (λ (p : PlanView). p.kind) planned) ∙ kind in
    let (within, either) = (sweeps_are_led schema plan.asked dim is_descending (no_sweep _ dim is_descending is)).0 is in
    let lead : group_lead plan.asked.group plan.asked.order ≡ Some (key_of dim is_descending) = elim either [
      | inl rows ↦ absurd (rows.0 (inl some))
      | inr lead ↦ lead
    ] in
    record {
      some = some;
      within = within;
      lead = lead;
      there = in_group plan.asked.group plan.asked.order plan.asked.items dim is_descending lead (posed.selected (inl some)) (posed.grouped (inl some));
    }

-- ---- rows along the lead

-- its value in a dimension comes first where its coordinate does
pub ahead : (schema : Schema) (dim : ℕ) (is_descending : Bool) (a b : Row) → dim < schema.dims → IsAlong is_descending (slice_index a.dims dim) (slice_index b.dims dim)
    → IsAhead is_descending (row_cell schema a (Column dim)) (row_cell schema b (Column dim))
ahead schema dim is_descending a b within along = by_way is_descending (lt-ltb dim schema.dims within) along
  where
    by_way : (down : Bool) → nat_lt dim schema.dims ≡ true → IsAlong down (slice_index a.dims dim) (slice_index b.dims dim)
        → IsAhead down (row_cell schema a (Column dim)) (row_cell schema b (Column dim))
    by_way false is along = rw is (omega (arith, ints))
    by_way true is along = rw is (omega (arith, ints))

number_of : (x y : ℤ) → Number x ≡ Number y → x ≡ y
number_of x y h = cc

behind_not : (schema : Schema) (dim : ℕ) (down : Bool) (a b : Row) → nat_lt dim schema.dims ≡ true → IsRowBefore schema (key_of dim down ∷ []) a b
    → ¬ (IsAlong down (slice_index b.dims dim) (slice_index a.dims dim))
behind_not schema dim false a b is (inl before) along =
    let below : value schema dim (slice_index a.dims dim) <ℤ value schema dim (slice_index b.dims dim) = rw is at before in omega (arith, ints, below, along)
behind_not schema dim true a b is (inl before) along =
    let below : value schema dim (slice_index b.dims dim) <ℤ value schema dim (slice_index a.dims dim) = rw is at before in omega (arith, ints, below, along)
behind_not schema dim false a b is (inr (same, later)) along =
    let equal : value schema dim (slice_index a.dims dim) ≡ value schema dim (slice_index b.dims dim) = rw is at (number_of (column_value schema a dim) (column_value schema b dim) same) in
    omega (arith, ints, equal, along)
behind_not schema dim true a b is (inr (same, later)) along =
    let equal : value schema dim (slice_index a.dims dim) ≡ value schema dim (slice_index b.dims dim) = rw is at (number_of (column_value schema a dim) (column_value schema b dim) same) in
    omega (arith, ints, equal, along)

-- the order in which they are given is that of the lead alone
lead_alone : (group : List ℕ) (order : List SortKey) (key : SortKey) → group_lead group order ≡ Some key → swept_order group order ≡ key ∷ []
lead_alone [] order key is = absurd cc
lead_alone (column ∷ group) order key is = let same : lead_by column order ≡ key = cc in ap (λ (k : SortKey). k ∷ []) same

rising_right : {E : Type 0} (R : E → E → Type 0) (xs ys : List E) → Rising R (xs ++ ys) → Rising R ys
rising_right R [] ys up = up
rising_right R (x ∷ xs) ys up = rising_right R xs ys up.1

-- none of the rows to come lies before the first of them
pub none_before_first : (schema : Schema) (plan : PlanView) (dim : ℕ) (is_descending : Bool) (selected given more : List Row) (first : Row) → IsLedBy schema plan.asked dim is_descending
    → AreArranged schema plan selected (given ++ first ∷ more) → AllByRecursion (λ row. ¬ (IsAlong is_descending (slice_index row.dims dim) (slice_index first.dims dim))) more
none_before_first schema plan dim is_descending selected given more first led are =
    let keys = key_of dim is_descending ∷ [] in
    let ordered : AllAdjacentBelow (IsRowBefore schema keys) (given ++ first ∷ more) (length (given ++ first ∷ more)) =
    subst (λ (order : List SortKey). AllAdjacentBelow (IsRowBefore schema order) (given ++ first ∷ more) (length (given ++ first ∷ more)))
    (lead_alone plan.asked.group plan.asked.order (key_of dim is_descending) led.lead) are.ordered in
    let up : Rising (IsRowBefore schema keys) (first ∷ more) = rising_right (IsRowBefore schema keys) given (first ∷ more)
    (Rising-from_adjacent (IsRowBefore schema keys) (before-chain (row_cell schema) (λ a b. a.number < b.number) numbers-chain keys) (given ++ first ∷ more) ordered) in
    all_weaker (λ row. IsRowBefore schema keys first row) (λ row. ¬ (IsAlong is_descending (slice_index row.dims dim) (slice_index first.dims dim)))
    (λ row before. behind_not schema dim is_descending first row (lt-ltb dim schema.dims led.within) before) more up.0
