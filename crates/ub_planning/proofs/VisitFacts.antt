-- The rows of the regions that meet a plan's boxes that are selected are the selected rows of the table.
use Rattle.std.proofs.Common.{true, ◌≡◌, ◌≢◌, ◌<◌, ◌++◌, ℕ, List, [], ◌∷◌, false, nat_eq, map, filter, Some, Contains, IsPermutation, ◌⊎◌, inl, inr, refl, sym, ap, ◌∙◌, subst, arith}
use Rattle.std.proofs.lemmas.Bool.{cases_lt, eqb-false}
use Rattle.std.proofs.lemmas.List.Sorted.{Contains-permutation, IsPermutation-refl, IsPermutation-sym}
use Rattle.std.specs.List.{AllByRecursion, IsDistinct}
use Rattle.ub_bigmin.specs.Box.{Corners}
use Rattle.ub_planning.proofs.MeaningFacts.{table_of}
use Rattle.ub_planning.proofs.SpanFacts.{rows_are_points}
use Rattle.ub_planning.proofs.TakeFacts.{row_is_taken, row_meets}
use Rattle.ub_planning.proofs.ThoseFacts.{filter_none, filter_same, parts_among, parts_back, those_parts}
use Rattle.ub_planning.specs.Plan.{plan_of, takes}
use Rattle.ub_planning.specs.Visits.{Span, Meets, AreMeeting, fetched_rows, selected_rows, spans_of, spans_up_to}
use Rattle.ub_query.proofs.Laws.{Rising, Rising-filter, Rising-from_adjacent, Rising-one, an_arrangement, contains_filter, contains_from_filter, rows-rising, numbers-never, numbers-chain, selected_are_in_order}
use Rattle.ub_query.specs.Groups.{is_selected, selected}
use Rattle.ub_query.specs.Shape.{Asked}
use Rattle.ub_region.proofs.Laws.{chain_of}
use Rattle.ub_region.specs.Regions.{AreRegions, AreTableRows, rows_of}
use Rattle.ub_table.specs.Region.{RegionRows}
use Rattle.ub_table.specs.Table.{IsInOrder}
use Rattle.ub_table.specs.declared.row.Row.{Row}
use Rattle.ub_table.specs.declared.schema.Schema.{Schema}
use Rattle.ub_zaddr.specs.Address.{last_address}

abbrev pub Differ : Row → Row → Type 0
Differ a b = (a.number < b.number) ⊎ (b.number < a.number)

differ : (a b : ℕ) → nat_eq a b ≡ false → (a < b) ⊎ (b < a)
differ a b f = elim (cases_lt a b) [
  | inl lt ↦ inl lt
  | inr ge ↦ elim (cases_lt b a) [
    | inl lt ↦ inr lt
    | inr le ↦ absurd (eqb-false a b f (omega arith))
  ]
]

numbers_differ : (row : Row) (rows : List Row) → AllByRecursion (λ m. nat_eq row.number m ≡ false) (map (λ r. r.number) rows) → AllByRecursion (λ other. Differ row other) rows
numbers_differ row [] h = tt
numbers_differ row (other ∷ rows) h = (differ row.number other.number h.0, numbers_differ row rows h.1)

pub rows_differ : (rows : List Row) → IsDistinct nat_eq (map (λ r. r.number) rows) → Rising (λ a b. Differ a b) rows
unfolding IsDistinct
rows_differ [] h = tt
rows_differ (row ∷ rows) h = (numbers_differ row rows h.0, rows_differ rows h.1)

-- rows of different numbers are a permutation of the rows in order that have the same elements
permuted : (xs ys : List Row) → Rising (λ a b. Differ a b) xs → IsInOrder ys → ((row : Row) → Contains xs row → Contains ys row) → ((row : Row) → Contains ys row → Contains xs row) → IsPermutation xs ys
permuted xs ys differ up there back =
    let (zs, arranged) = an_arrangement (λ a b. a.number < b.number) numbers-chain xs differ in
    let same : zs ≡ ys = Rising-one (λ a b. a.number < b.number) numbers-never numbers-chain zs ys
    (Rising-from_adjacent (λ a b. a.number < b.number) numbers-chain zs arranged.ordered) (rows-rising ys up)
    (λ row c. there row (Contains-permutation zs xs row (IsPermutation-sym xs zs arranged.same) c))
    (λ row c. Contains-permutation xs zs row arranged.same (back row c)) in
    subst (λ (rows : List Row). IsPermutation xs rows) same arranged.same

rows_in_spans : (last : ℕ) (regions : List RegionRows) → fetched_rows (spans_up_to last regions) ≡ rows_of regions
rows_in_spans last [] = refl
rows_in_spans last (region ∷ regions) = ap (λ (rows : List Row). region.rows ++ rows) (rows_in_spans last regions)

-- the selected rows of the regions that meet are those of all regions, in the same order
held_same : (schema : Schema) (q : Asked) (next : ℕ) (regions : List RegionRows) (meeting : List Span) → q.limit ≢ Some 0
    → AreRegions schema next regions → AreMeeting schema (plan_of schema q).covering.boxes regions meeting
    → filter (is_selected schema q.filter) (fetched_rows meeting) ≡ selected_rows schema (plan_of schema q) regions
held_same schema q next regions meeting limit are those =
    let chain = chain_of schema regions are.each are.ascending are.apart in
    those_parts (λ (span : Span). Meets (plan_of schema q).covering.boxes span.from span.to) (λ (span : Span). span.region.rows) (is_selected schema q.filter) (spans_of schema regions) meeting those
    (λ span there out. filter_none (is_selected schema q.filter) span.region.rows (λ row has t. out (row_meets schema q regions span row limit chain there has t)))
    ∙ ap (λ (rs : List Row). filter (is_selected schema q.filter) rs) (rows_in_spans (last_address schema.dims) regions)

pub meeting_hold : (schema : Schema) (q : Asked) (next : ℕ) (regions : List RegionRows) (meeting : List Span) → q.limit ≢ Some 0
    → AreRegions schema next regions → AreMeeting schema (plan_of schema q).covering.boxes regions meeting
    → IsPermutation (filter (is_selected schema q.filter) (fetched_rows meeting)) (selected_rows schema (plan_of schema q) regions)
meeting_hold schema q next regions meeting limit are those =
    subst (λ (rs : List Row). IsPermutation rs (selected_rows schema (plan_of schema q) regions)) (sym (held_same schema q next regions meeting limit are those))
    (IsPermutation-refl (selected_rows schema (plan_of schema q) regions))

pub meeting_hold_tables : (schema : Schema) (q : Asked) (next : ℕ) (regions : List RegionRows) (rows : List Row) (meeting : List Span) → q.limit ≢ Some 0
    → AreRegions schema next regions → AreTableRows regions rows → AreMeeting schema (plan_of schema q).covering.boxes regions meeting
    → IsPermutation (filter (is_selected schema q.filter) (fetched_rows meeting)) (selected (table_of schema rows) q.filter)
meeting_hold_tables schema q next regions rows meeting limit are table those =
    subst (λ (rs : List Row). IsPermutation rs (selected (table_of schema rows) q.filter)) (sym (held_same schema q next regions meeting limit are those))
    (permuted (filter (is_selected schema q.filter) (rows_of regions)) (selected (table_of schema rows) q.filter)
    (Rising-filter (λ a b. Differ a b) (is_selected schema q.filter) (rows_of regions) (rows_differ (rows_of regions) are.distinct))
    (selected_are_in_order (table_of schema rows) q.filter table.ascending)
    (λ row c. let k = contains_from_filter (is_selected schema q.filter) (rows_of regions) row c in contains_filter (is_selected schema q.filter) rows row ((table.same row).1 k.0) k.1)
    (λ row c. let k = contains_from_filter (is_selected schema q.filter) rows row c in contains_filter (is_selected schema q.filter) (rows_of regions) row ((table.same row).0 k.0) k.1))

-- the rows of the regions that meet are rows of the regions
fetched_among : (schema : Schema) (boxes : List Corners) (regions : List RegionRows) (meeting : List Span) (row : Row) → AreMeeting schema boxes regions meeting → Contains (fetched_rows meeting) row → Contains (rows_of regions) row
fetched_among schema boxes regions meeting row those c =
    subst (λ (rs : List Row). Contains rs row) (rows_in_spans (last_address schema.dims) regions)
    (parts_among (λ (span : Span). Meets boxes span.from span.to) (λ (span : Span). span.region.rows) row (spans_of schema regions) meeting those c)

-- and the plan takes the selected ones of them
pub meeting_taken : (schema : Schema) (q : Asked) (next : ℕ) (regions : List RegionRows) (rows : List Row) (meeting : List Span) → q.limit ≢ Some 0
    → AreRegions schema next regions → AreTableRows regions rows → AreMeeting schema (plan_of schema q).covering.boxes regions meeting
    → IsPermutation (filter (takes schema (plan_of schema q)) (fetched_rows meeting)) (selected (table_of schema rows) q.filter)
meeting_taken schema q next regions rows meeting limit are table those =
    let chain = chain_of schema regions are.each are.ascending are.apart in
    let same : filter (takes schema (plan_of schema q)) (fetched_rows meeting) ≡ filter (is_selected schema q.filter) (fetched_rows meeting) =
    filter_same (takes schema (plan_of schema q)) (is_selected schema q.filter) (fetched_rows meeting)
    (λ row c. row_is_taken schema q row limit (rows_are_points schema regions row chain (fetched_among schema (plan_of schema q).covering.boxes regions meeting row those c))) in
    subst (λ (rs : List Row). IsPermutation rs (selected (table_of schema rows) q.filter)) (sym same) (meeting_hold_tables schema q next regions rows meeting limit are table those)

pub row_is_met : (schema : Schema) (q : Asked) (next : ℕ) (regions : List RegionRows) (meeting : List Span) (row : Row) → q.limit ≢ Some 0
    → AreRegions schema next regions → AreMeeting schema (plan_of schema q).covering.boxes regions meeting → Contains (rows_of regions) row → is_selected schema q.filter row ≡ true
    → Contains (fetched_rows meeting) row
row_is_met schema q next regions meeting row limit are those c t =
    let chain = chain_of schema regions are.each are.ascending are.apart in
    parts_back (λ (span : Span). Meets (plan_of schema q).covering.boxes span.from span.to) (λ (span : Span). span.region.rows) row (spans_of schema regions) meeting those
    (λ span there has. row_meets schema q regions span row limit chain there has t)
    (subst (λ (rs : List Row). Contains rs row) (sym (rows_in_spans (last_address schema.dims) regions)) c)
