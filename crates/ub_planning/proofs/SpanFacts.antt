-- The spans of a table's regions: each row's address lies in the span of its region.
use Rattle.std.proofs.Common.{◌≡◌, ◌<◌, ◌≤◌, ◌^◌, ℕ, zero, suc, List, [], ◌∷◌, take, Contains, ◌⊎◌, inl, inr, sym, subst, arith}
use Rattle.std.proofs.lemmas.Bool.{cases_lt}
use Rattle.std.proofs.lemmas.List.{length-take-le}
use Rattle.std.proofs.lemmas.List.Elements.{All-take, Contains-append_cases, Contains-append_left, Contains-append_right}
use Rattle.ub_planning.specs.Visits.{Span, spans_up_to}
use Rattle.ub_query.proofs.Laws.{all_at, contains_here, contains_later, contains_cases, contains_none}
use Rattle.ub_region.proofs.Laws.{IsBelow, IsChain, row_first, all_of_keys}
use Rattle.ub_region.specs.Regions.{firsts_of, rows_of}
use Rattle.ub_region.specs.Spans.{address_before, span_end}
use Rattle.ub_table.proofs.Laws.{before_from, before_parts}
use Rattle.ub_table.specs.Keys.{IsBefore}
use Rattle.ub_table.specs.Region.{RegionRows, IsRow, key_of, measures_of}
use Rattle.ub_table.specs.declared.row.Key.{Key}
use Rattle.ub_table.specs.declared.row.Row.{Row}
use Rattle.ub_table.specs.declared.schema.Schema.{Schema}
use Rattle.ub_zaddr.specs.Address.{IsPoint, last_address}

-- a key that is before another has an address of the span before it
before_address : (key next : Key) → IsBefore key next → key.z ≤ address_before next.z next.number
before_address key next before = by_number next.z next.number (before_parts key next before)
  where
    by_number : (y n : ℕ) → (key.z < y) ⊎ ((key.z ≡ y) × (key.number < n)) → key.z ≤ address_before y n
    by_number y zero (inl lt) = omega arith
    by_number y zero (inr both) = let none = both.1 in absurd (omega arith)
    by_number y (suc n) (inl lt) = omega arith
    by_number y (suc n) (inr both) = let same = both.0 in omega arith

from_address : (a b : Key) → ¬ (IsBefore a b) → b.z ≤ a.z
from_address a b h = elim (cases_lt a.z b.z) [
  | inl lt ↦ absurd (h (before_from a b (inl lt)))
  | inr ge ↦ ge
]

up_to_end : (schema : Schema) (last : ℕ) (region : RegionRows) (regions : List RegionRows) (row : Row) → last ≡ last_address schema.dims → IsRow schema.dims (measures_of schema) row
    → IsBelow schema.dims region regions → Contains region.rows row → (key_of schema.dims row).z ≤ span_end last (firsts_of regions)
up_to_end schema last region [] row is good below here =
    let most = (row_first schema.dims (measures_of schema) row schema.counts.few_dims good).0 in omega arith
up_to_end schema last region (next ∷ regions) row is good below here =
    before_address (key_of schema.dims row) next.first
    (all_at (λ row. IsBefore (key_of schema.dims row) next.first) region.rows row (all_of_keys schema.dims (λ k. IsBefore k next.first) region.rows below.1) here)

-- what the span of a row's region is to the row
pub record IsOf (z : ℕ) (row : Row) (span : Span) : Type 0 where
  pub from : span.from ≤ z
  pub to : z ≤ span.to
  pub has : Contains span.region.rows row

-- a span that is the first, or one of the others
pub of_span : (schema : Schema) (last : ℕ) (regions : List RegionRows) (span : Span) (row : Row) → last ≡ last_address schema.dims → IsChain schema regions
    → Contains (spans_up_to last regions) span → Contains span.region.rows row → IsOf (key_of schema.dims row).z row span
of_span schema last [] span row is chain there has = absurd (contains_none span there)
of_span schema last (region ∷ regions) span row is chain there has = elim (contains_cases _ (spans_up_to last regions) span there) [
  | inl same ↦ subst (λ (s : Span). Contains s.region.rows row → IsOf (key_of schema.dims row).z row s) same
      (λ here. record {
        from = from_address (key_of schema.dims row) region.first
            (all_at (λ row. ¬ (IsBefore (key_of schema.dims row) region.first)) region.rows row (all_of_keys schema.dims (λ k. ¬ (IsBefore k region.first)) region.rows chain.0.within) here);
        to = up_to_end schema last region regions row is (all_at (IsRow schema.dims (measures_of schema)) region.rows row chain.0.rows here) chain.1 here;
        has = here;
      }) has
  | inr rest ↦ of_span schema last regions span row is chain.2 rest has
]

-- each row of the regions is one of some span's region
pub in_some_span : (last : ℕ) (regions : List RegionRows) (row : Row) → Contains (rows_of regions) row → (span : Span) × Contains (spans_up_to last regions) span × Contains span.region.rows row
in_some_span last [] row c = absurd (contains_none row c)
in_some_span last (region ∷ regions) row c = elim (Contains-append_cases region.rows (rows_of regions) row c) [
  | inl here ↦ (record { region = region; from = region.first.z; to = span_end last (firsts_of regions) }, contains_here _ (spans_up_to last regions), here)
  | inr rest ↦ let (span, there, has) = in_some_span last regions row rest in (span, contains_later _ (spans_up_to last regions) span there, has)
]

-- a row of a span's region is a row of the regions
pub of_some_span : (last : ℕ) (regions : List RegionRows) (span : Span) (row : Row) → Contains (spans_up_to last regions) span → Contains span.region.rows row → Contains (rows_of regions) row
of_some_span last [] span row there has = absurd (contains_none span there)
of_some_span last (region ∷ regions) span row there has = elim (contains_cases _ (spans_up_to last regions) span there) [
  | inl same ↦ Contains-append_left region.rows (rows_of regions) row (subst (λ (s : Span). Contains s.region.rows row) (sym same) has)
  | inr rest ↦ Contains-append_right region.rows (rows_of regions) row (of_some_span last regions span row rest has)
]

-- each row has a point
point_is : (dims measures : ℕ) (row : Row) → dims ≤ 4 → IsRow dims measures row → IsPoint dims (take dims row.dims)
point_is dims measures row few good =
    let four = good.dims_rest.0 in
    (length-take-le dims row.dims (omega arith), All-take (λ x. x < 2 ^ 32) dims row.dims good.dims_words)

pub rows_are_points : (schema : Schema) (regions : List RegionRows) (row : Row) → IsChain schema regions → Contains (rows_of regions) row → IsPoint schema.dims (take schema.dims row.dims)
rows_are_points schema [] row chain c = absurd (contains_none row c)
rows_are_points schema (region ∷ regions) row chain c = elim (Contains-append_cases region.rows (rows_of regions) row c) [
  | inl here ↦ point_is schema.dims (measures_of schema) row schema.counts.few_dims (all_at (IsRow schema.dims (measures_of schema)) region.rows row chain.0.rows here)
  | inr rest ↦ rows_are_points schema regions row chain.2 rest
]
