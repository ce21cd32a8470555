-- The spans of regions: each address lies in one, and each row's address in its region's.
use Rattle.std.proofs.Common.{rules, ◌≡◌, ◌<◌, ◌≤◌, inl, inr, ℕ, zero, suc, List, [], ◌∷◌, Some, drop, refl, arith, slice_get, subst}
use Rattle.std.proofs.lemmas.Bool.{cases_lt}
use Rattle.std.specs.List.{AllByRecursion}
use Rattle.ub_region.proofs.ChainFacts.{IsBelow, IsChain, row_first}
use Rattle.ub_region.proofs.KeyLists.{all_both, all_more}
use Rattle.ub_region.proofs.RowFacts.{all_of_keys}
use Rattle.ub_region.specs.Regions.{firsts_of}
use Rattle.ub_region.specs.Spans.{address_before, span_end}
use Rattle.ub_table.specs.Keys.{IsBefore}
use Rattle.ub_table.specs.Region.{RegionRows, IsRegion, IsRow, key_of, measures_of}
use Rattle.ub_table.specs.declared.row.Key.{Key}
use Rattle.ub_table.specs.declared.schema.Schema.{Schema}
use Rattle.ub_zaddr.specs.Address.{last_address}

-- a key that is before another has an address of the span before it
pub before_address : (key next : Key) → IsBefore key next → key.z ≤ address_before next.z next.number
before_address key next h = search rules

-- a key that isn't before another has no lesser address
pub from_address : (a b : Key) → ¬ (IsBefore a b) → b.z ≤ a.z
from_address a b h = search rules

-- an address lies in the span of a region that begins with this key, before regions with those first keys
abbrev pub IsWithin : ℕ → Key → List Key → ℕ → Type 0
IsWithin last first firsts z = (first.z ≤ z) × (z ≤ span_end last firsts)

-- each row's address lies in the span of its region, where those that follow begin after it
pub rows_within : (schema : Schema) (last : ℕ) (region : RegionRows) (regions : List RegionRows) → last ≡ last_address schema.dims → IsRegion schema region
    → IsBelow schema.dims region regions → AllByRecursion (λ row. IsWithin last region.first (firsts_of regions) (key_of schema.dims row).z) region.rows
rows_within schema last region regions is good below =
    all_both (λ row. region.first.z ≤ (key_of schema.dims row).z) (λ row. (key_of schema.dims row).z ≤ span_end last (firsts_of regions))
    (λ row. IsWithin last region.first (firsts_of regions) (key_of schema.dims row).z) (λ row low high. (low, high)) region.rows lower (upper regions below)
  where
    lower : AllByRecursion (λ row. region.first.z ≤ (key_of schema.dims row).z) region.rows
    lower = all_more (λ row. ¬ (IsBefore (key_of schema.dims row) region.first)) (λ row. region.first.z ≤ (key_of schema.dims row).z)
        (λ row h. from_address (key_of schema.dims row) region.first h) region.rows (all_of_keys schema.dims (λ k. ¬ (IsBefore k region.first)) region.rows good.within)

    upper : (others : List RegionRows) → IsBelow schema.dims region others → AllByRecursion (λ row. (key_of schema.dims row).z ≤ span_end last (firsts_of others)) region.rows
    upper [] h = all_more (IsRow schema.dims (measures_of schema)) (λ row. (key_of schema.dims row).z ≤ last)
        (λ row fine. let most = (row_first schema.dims (measures_of schema) row schema.counts.few_dims fine).0 in omega arith) region.rows good.rows
    upper (next ∷ others) h = all_more (λ row. IsBefore (key_of schema.dims row) next.first) (λ row. (key_of schema.dims row).z ≤ address_before next.first.z next.first.number)
        (λ row before. before_address (key_of schema.dims row) next.first before) region.rows (all_of_keys schema.dims (λ k. IsBefore k next.first) region.rows h.1)

-- the same of the region at an index
pub rows_within_at : (schema : Schema) (last : ℕ) (regions : List RegionRows) (i : ℕ) (region : RegionRows) → last ≡ last_address schema.dims → IsChain schema regions → slice_get regions i ≡ Some region
    → AllByRecursion (λ row. IsWithin last region.first (firsts_of (drop (suc i) regions)) (key_of schema.dims row).z) region.rows
rows_within_at schema last [] i region is chain at = cc
rows_within_at schema last (r ∷ regions) (suc i) region is chain at = rows_within_at schema last regions i region is chain.2 at
rows_within_at schema last (r ∷ regions) zero region is chain at =
    let same : r ≡ region = cc in
    subst (λ (x : RegionRows). AllByRecursion (λ row. IsWithin last x.first (firsts_of regions) (key_of schema.dims row).z) x.rows) same (rows_within schema last r regions is chain.0 chain.1)

-- from the first span on no address is left out
pub within_one : (last : ℕ) (region : RegionRows) (regions : List RegionRows) (z : ℕ) → region.first.z ≤ z → z ≤ last
    → (i : ℕ) × (r : RegionRows) × (slice_get (region ∷ regions) i ≡ Some r) × IsWithin last r.first (firsts_of (drop (suc i) (region ∷ regions))) z
within_one last region [] z from upto = (0, region, refl, (from, upto))
within_one last region (next ∷ regions) z from upto = elim (cases_lt (address_before next.first.z next.first.number) z) [
  | inl past ↦ let (i, r, at, both) = within_one last next regions z (begun next.first.z next.first.number past) upto in (suc i, r, at, both)
  | inr ends ↦ (0, region, refl, (from, ends))
]
  where
    begun : (y n : ℕ) → address_before y n < z → y ≤ z
    begun y zero lt = omega arith
    begun y (suc n) lt = omega arith
