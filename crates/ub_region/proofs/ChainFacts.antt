-- Regions in order, each before the next.
use Rattle.std.proofs.lemmas.Grind.{common_steps}
use Rattle.std.proofs.Common.{rules, ◌≡◌, ◌<◌, ◌≤◌, ℕ, zero, suc, List, [], ◌∷◌, ◌++◌, Some, length, take, drop, get_or, ap, refl, arith, slice_get, append_assoc}
use Rattle.std.proofs.lemmas.List.{length-take-le}
use Rattle.std.specs.List.{AllByRecursion}
use Rattle.ub_table.specs.Keys.{IsBefore, AreKeysAscending}
use Rattle.ub_table.specs.Region.{RegionRows, IsRegion, IsRow, IsFirst, key_of, keys_of}
use Rattle.ub_table.specs.declared.row.Key.{Key}
use Rattle.ub_table.specs.declared.row.Row.{Row}
use Rattle.ub_table.specs.declared.schema.Schema.{Schema}
use Rattle.ub_zaddr.proofs.Laws.{address-le}
use Rattle.ub_region.specs.Regions.{firsts_of, rows_of, AreApart}

-- a region is before those that follow, if there are any
abbrev pub IsBelow : ℕ → RegionRows → List RegionRows → Type 0
IsBelow dims region [] = Unit {0}
IsBelow dims region (next ∷ regions) = IsBefore region.first next.first × AllByRecursion (λ key. IsBefore key next.first) (keys_of dims region.rows)

abbrev pub IsChain : Schema → List RegionRows → Type 0
IsChain schema [] = Unit {0}
IsChain schema (region ∷ regions) = IsRegion schema region × IsBelow schema.dims region regions × IsChain schema regions

pub chain_of : (schema : Schema) (regions : List RegionRows) → AllByRecursion (IsRegion schema) regions → AreKeysAscending (firsts_of regions) → AreApart schema.dims regions → IsChain schema regions
chain_of schema [] each up apart = tt
chain_of schema (a ∷ []) each up apart = (each.0, tt, tt)
chain_of schema (a ∷ b ∷ regions) each up apart = (each.0, (up.0, apart.0), chain_of schema (b ∷ regions) each.1 up.1 apart.1)

pub each_of : (schema : Schema) (regions : List RegionRows) → IsChain schema regions → AllByRecursion (IsRegion schema) regions
each_of schema [] h = tt
each_of schema (region ∷ regions) h = (h.0, each_of schema regions h.2)

pub firsts_up : (schema : Schema) (regions : List RegionRows) → IsChain schema regions → AreKeysAscending (firsts_of regions)
firsts_up schema [] h = tt
firsts_up schema (a ∷ []) h = tt
firsts_up schema (a ∷ b ∷ regions) h = (h.1.0, firsts_up schema (b ∷ regions) h.2)

pub apart_of : (schema : Schema) (regions : List RegionRows) → IsChain schema regions → AreApart schema.dims regions
apart_of schema [] h = tt
apart_of schema (a ∷ []) h = tt
apart_of schema (a ∷ b ∷ regions) h = (h.1.1, apart_of schema (b ∷ regions) h.2)

-- the first region begins with this key
abbrev pub BeginsWith : Key → List RegionRows → Type 0
BeginsWith key regions = slice_get (firsts_of regions) 0 ≡ Some key

pub below_same : (dims : ℕ) (region : RegionRows) (first : Key) (xs ys : List RegionRows) → BeginsWith first xs → BeginsWith first ys → IsBelow dims region xs → IsBelow dims region ys
below_same dims region first [] ys bx by h = cc
below_same dims region first (x ∷ xs) [] bx by h = tt
below_same dims region first (x ∷ xs) (y ∷ ys) bx by h =
    let same : x.first ≡ y.first = cc in
    rw same at h

-- the first key of rows in range is in range
pub row_first : (dims measures : ℕ) (row : Row) → dims ≤ 4 → IsRow dims measures row → IsFirst dims (key_of dims row)
row_first dims measures row h k = search (rules, address-le, length-take-le)

pub key_in_range : (dims measures : ℕ) (rows : List Row) (o : Key) (n : ℕ) → dims ≤ 4 → AllByRecursion (IsRow dims measures) rows → n < length rows → IsFirst dims (get_or (keys_of dims rows) n o)
key_in_range dims measures [] o n few h lt = absurd (omega arith)
key_in_range dims measures (row ∷ rows) o zero few h lt = row_first dims measures row few h.0
key_in_range dims measures (row ∷ rows) o (suc n) few h lt = key_in_range dims measures rows o n few h.1 (omega arith)

pub length-keys_of : (dims : ℕ) (rows : List Row) → length (keys_of dims rows) ≡ length rows
length-keys_of dims rows = grind (arith, common_steps)

pub keys_take : (dims n : ℕ) (rows : List Row) → keys_of dims (take n rows) ≡ take n (keys_of dims rows)
keys_take dims zero [] = refl
keys_take dims zero (row ∷ rows) = refl
keys_take dims (suc n) [] = refl
keys_take dims (suc n) (row ∷ rows) = ap (λ (ks : List Key). key_of dims row ∷ ks) (keys_take dims n rows)

pub keys_drop : (dims n : ℕ) (rows : List Row) → keys_of dims (drop n rows) ≡ drop n (keys_of dims rows)
keys_drop dims zero [] = refl
keys_drop dims zero (row ∷ rows) = refl
keys_drop dims (suc n) [] = refl
keys_drop dims (suc n) (row ∷ rows) = keys_drop dims n rows

pub keys_append : (dims : ℕ) (xs ys : List Row) → keys_of dims (xs ++ ys) ≡ keys_of dims xs ++ keys_of dims ys
keys_append dims xs ys = grind (arith, common_steps)

pub rows_append : (xs ys : List RegionRows) → rows_of (xs ++ ys) ≡ rows_of xs ++ rows_of ys
rows_append xs ys = grind (arith, common_steps, append_assoc)
