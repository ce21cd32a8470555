-- Removal keeps the regions of a table, and takes its row from theirs.
use Rattle.std.proofs.Common.{rules, ◌≡◌, ◌<◌, ◌+◌, inl, inr, ℕ, zero, suc, List, [], ◌∷◌, ◌++◌, Bool, true, false, ◌||◌, length, map, drop, nat_eq, ◌∙◌, sym, ap, refl, arith, slice_get, append_assoc, subst}
use Rattle.std.proofs.lemmas.Bool.{cases_Bool, leb-true}
use Rattle.std.proofs.lemmas.List.{length-append}
use Rattle.std.proofs.lemmas.List.Elements.{All-from_recursion, recursion_from_All}
use Rattle.std.proofs.lemmas.List.Sorted.{IsPermutation-trans, IsPermutation-middle, IsPermutation-append_left, IsPermutation-append_right, IsPermutation-map, All-permutation}
use Rattle.std.proofs.lemmas.Map.Keys.{IsDistinct-IsPermutation, IsDistinct-tail}
use Rattle.std.specs.List.{AllByRecursion}
use Rattle.std.specs.List.Sorted.{IsPermutation}
use Rattle.ub_table.proofs.Laws.{before_of, precedes_of, before_trans}
use Rattle.ub_table.specs.Keys.{IsBefore, precedes, is_same}
use Rattle.ub_table.specs.Region.{RegionRows, IsRegion, IsRow, key_of, keys_of, measures_of}
use Rattle.ub_table.specs.declared.row.Key.{Key}
use Rattle.ub_table.specs.declared.row.Row.{Row}
use Rattle.ub_table.specs.declared.schema.Schema.{Schema}
use Rattle.ub_region.specs.Rows.{has_key, remove_row}
use Rattle.ub_region.specs.Regions.{firsts_of, rows_of, AreRegions, index_holding, change_from, remove_first, fits_next, join_first, join_before, settle, remove}
use Rattle.ub_region.proofs.KeyLists.{all_more, all_append, up_append}
use Rattle.ub_region.proofs.RowFacts.{all_keys, all_of_keys, all_remove, up_remove, length-remove_row, moved_remove, has_append, has_none}
use Rattle.ub_region.proofs.ChainFacts.{IsBelow, IsChain, chain_of, each_of, firsts_up, apart_of, below_same, keys_append}
use Rattle.ub_region.proofs.InsertFacts.{nat_eq_flips}

-- regions in order, of which the first begins as that of the old ones
pub record IsChanged (schema : Schema) (old new : List RegionRows) : Type 0 where
  pub chain : IsChain schema new
  pub begins : slice_get (firsts_of new) 0 ≡ slice_get (firsts_of old) 0

below_changed : (dims : ℕ) (region : RegionRows) (old new : List RegionRows) → slice_get (firsts_of new) 0 ≡ slice_get (firsts_of old) 0 → IsBelow dims region old → IsBelow dims region new
below_changed dims region old new h k = search (rules, below_same)

-- a region put before regions that are changed
changed_after : (schema : Schema) (region : RegionRows) (old new : List RegionRows) → IsChain schema (region ∷ old) → IsChanged schema old new → IsChanged schema (region ∷ old) (region ∷ new)
changed_after schema region old new h k = search (rules, below_changed)

changed_twice : (schema : Schema) (a b c : List RegionRows) → IsChanged schema a b → IsChanged schema b c → IsChanged schema a c
changed_twice schema a b c h k = record { chain = k.chain; begins = k.begins ∙ h.begins }

-- a row less in the region at an index
without_row : (schema : Schema) (key : Key) (index : ℕ) (regions : List RegionRows) → IsChain schema regions → IsChanged schema regions (change_from index (remove_first schema.dims key) regions)
without_row schema key zero [] chain = record { chain = tt; begins = refl }
without_row schema key (suc index) [] chain = record { chain = tt; begins = refl }
without_row schema key zero (region ∷ regions) chain = record {
  chain = (region_without, below_without regions chain.1, chain.2);
  begins = refl;
}
  where
    region_without : IsRegion schema (record { first = region.first; rows = remove_row schema.dims key region.rows })
    region_without = let few = chain.0.few in record {
      few = omega (arith, length-remove_row schema.dims key region.rows);
      first = chain.0.first;
      rows = all_remove schema.dims key (IsRow schema.dims (measures_of schema)) region.rows chain.0.rows;
      ascending = up_remove schema.dims key region.rows chain.0.ascending;
      within = all_keys schema.dims (λ k. ¬ (IsBefore k region.first)) (remove_row schema.dims key region.rows)
          (all_remove schema.dims key (λ other. ¬ (IsBefore (key_of schema.dims other) region.first)) region.rows (all_of_keys schema.dims (λ k. ¬ (IsBefore k region.first)) region.rows chain.0.within));
    }

    below_without : (regions : List RegionRows) → IsBelow schema.dims region regions → IsBelow schema.dims (record { first = region.first; rows = remove_row schema.dims key region.rows }) regions
    below_without [] h = tt
    below_without (next ∷ regions) h = (
      h.0,
      all_keys schema.dims (λ k. IsBefore k next.first) (remove_row schema.dims key region.rows)
          (all_remove schema.dims key (λ other. IsBefore (key_of schema.dims other) next.first) region.rows (all_of_keys schema.dims (λ k. IsBefore k next.first) region.rows h.1)),
    )
without_row schema key (suc index) (region ∷ regions) chain =
    changed_after schema region regions (change_from index (remove_first schema.dims key) regions) chain (without_row schema key index regions chain.2)

-- the region at an index joined with the next
joined : (schema : Schema) (index : ℕ) (regions : List RegionRows) → IsChain schema regions → fits_next schema.page_rows (drop index regions) ≡ true
    → IsChanged schema regions (change_from index join_first regions)
joined schema zero [] chain fits = cc
joined schema (suc index) [] chain fits = cc
joined schema zero (a ∷ []) chain fits = cc
joined schema zero (a ∷ b ∷ regions) chain fits = record {
  chain = (region_joined, below_joined regions chain.2.1, chain.2.2);
  begins = refl;
}
  where
    b_within : AllByRecursion (λ key. ¬ (IsBefore key a.first)) (keys_of schema.dims b.rows)
    b_within = all_more (λ key. ¬ (IsBefore key b.first)) (λ key. ¬ (IsBefore key a.first)) (λ key from back. from (before_trans key a.first b.first back chain.1.0)) (keys_of schema.dims b.rows) chain.2.0.within

    region_joined : IsRegion schema (record { first = a.first; rows = a.rows ++ b.rows })
    region_joined = let both = leb-true (length a.rows + length b.rows) schema.page_rows fits in record {
      few = omega (arith, length-append a.rows b.rows);
      first = chain.0.first;
      rows = all_append (IsRow schema.dims (measures_of schema)) a.rows b.rows chain.0.rows chain.2.0.rows;
      ascending = rw (keys_append schema.dims a.rows b.rows) (up_append b.first (keys_of schema.dims a.rows) (keys_of schema.dims b.rows) chain.0.ascending chain.2.0.ascending chain.1.1 chain.2.0.within);
      within = rw (keys_append schema.dims a.rows b.rows) (all_append (λ key. ¬ (IsBefore key a.first)) (keys_of schema.dims a.rows) (keys_of schema.dims b.rows) chain.0.within b_within);
    }

    below_joined : (regions : List RegionRows) → IsBelow schema.dims b regions → IsBelow schema.dims (record { first = a.first; rows = a.rows ++ b.rows }) regions
    below_joined [] h = tt
    below_joined (next ∷ regions) h = (
      before_trans a.first b.first next.first chain.1.0 h.0,
      rw (keys_append schema.dims a.rows b.rows) (all_append (λ key. IsBefore key next.first) (keys_of schema.dims a.rows) (keys_of schema.dims b.rows)
          (all_more (λ key. IsBefore key b.first) (λ key. IsBefore key next.first) (λ key lt. before_trans key b.first next.first lt h.0) (keys_of schema.dims a.rows) chain.1.1) h.1),
    )
joined schema (suc index) (region ∷ regions) chain fits =
    changed_after schema region regions (change_from index join_first regions) chain (joined schema index regions chain.2 fits)

joined_rows : (index : ℕ) (regions : List RegionRows) → rows_of (change_from index join_first regions) ≡ rows_of regions
joined_rows zero [] = refl
joined_rows (suc index) [] = refl
joined_rows zero (a ∷ []) = refl
joined_rows zero (a ∷ b ∷ regions) = append_assoc a.rows b.rows (rows_of regions)
joined_rows (suc index) (region ∷ regions) = ap (λ (rows : List Row). region.rows ++ rows) (joined_rows index regions)

-- a region with few rows finds another, or stays
pub record IsSettled (schema : Schema) (old new : List RegionRows) : Type 0 where
  pub changed : IsChanged schema old new
  pub rows : rows_of new ≡ rows_of old

settled_none : (schema : Schema) (regions : List RegionRows) → IsChain schema regions → IsSettled schema regions regions
settled_none schema regions chain = record { changed = record { chain = chain; begins = refl }; rows = refl }

settled_join : (schema : Schema) (index : ℕ) (regions : List RegionRows) → IsChain schema regions → fits_next schema.page_rows (drop index regions) ≡ true
    → IsSettled schema regions (change_from index join_first regions)
settled_join schema index regions chain fits = record { changed = joined schema index regions chain fits; rows = joined_rows index regions }

settled_before : (schema : Schema) (index : ℕ) (regions : List RegionRows) → IsChain schema regions → IsSettled schema regions (join_before schema.page_rows index regions)
settled_before schema index regions h = search (rules, cases_Bool, settled_join, settled_none)

pub settled : (schema : Schema) (index : ℕ) (regions : List RegionRows) → IsChain schema regions → IsSettled schema regions (settle schema.page_rows index regions)
settled schema index regions h = grind (arith, cases_Bool, settled_before, settled_join, settled_none)

-- no row of regions in order is before the first key
pub all_from : (schema : Schema) (region : RegionRows) (regions : List RegionRows) → IsChain schema (region ∷ regions)
    → AllByRecursion (λ row. ¬ (IsBefore (key_of schema.dims row) region.first)) (rows_of (region ∷ regions))
all_from schema region [] chain = search (rules, all_append, all_more, all_of_keys)
all_from schema region (next ∷ regions) chain = search (rules, (all_from schema next regions chain.2), all_append, all_more, all_of_keys, before_trans)

same_keys : (a b : Key) → is_same a b ≡ true → a ≡ b
same_keys a b h = search rules

pub other_key : (P : Key → Type 0) (a b : Key) → P a → ¬ (P b) → is_same a b ≡ false
other_key P a b h k = search rules

left_true : (a b : Bool) → (a || b) ≡ true → b ≡ false → a ≡ true
left_true a b h k = search rules

right_true : (a b : Bool) → (a || b) ≡ true → a ≡ false → b ≡ true
right_true a b h k = search rules

-- a row with the key stands in the region that holds the key
module _ (schema : Schema) (key : Key) where
  pub record IsTaken (old new : List Row) : Type 0 where
    pub row : Row
    pub key_is : key_of schema.dims row ≡ key
    pub rows : IsPermutation old (row ∷ new)

  taken_here : (region : RegionRows) (others : List Row) → has_key schema.dims key region.rows ≡ true → IsTaken (region.rows ++ others) (remove_row schema.dims key region.rows ++ others)
  taken_here region others has =
      let found = moved_remove schema.dims key region.rows has in
      record {
        row = found.0;
        key_is = sym (same_keys key (key_of schema.dims found.0) found.1);
        rows = IsPermutation-append_left others region.rows (found.0 ∷ remove_row schema.dims key region.rows) found.2;
      }

  taken : (region : RegionRows) (regions : List RegionRows) → IsChain schema (region ∷ regions) → has_key schema.dims key (rows_of (region ∷ regions)) ≡ true
      → IsTaken (rows_of (region ∷ regions)) (rows_of (change_from (index_holding key (firsts_of (region ∷ regions))) (remove_first schema.dims key) (region ∷ regions)))
  taken region [] chain has = taken_here region [] (left_true (has_key schema.dims key region.rows) false (sym (has_append schema.dims key region.rows []) ∙ has) refl)
  taken region (next ∷ regions) chain has =
      let either : (has_key schema.dims key region.rows || has_key schema.dims key (rows_of (next ∷ regions))) ≡ true = sym (has_append schema.dims key region.rows (rows_of (next ∷ regions))) ∙ has in
      elim (cases_Bool (precedes key next.first)) [
        | inl t ↦
            let before = before_of key next.first t in
            let others = has_none schema.dims key (rows_of (next ∷ regions)) (all_more (λ row. ¬ (IsBefore (key_of schema.dims row) next.first)) (λ row. is_same key (key_of schema.dims row) ≡ false)
            (λ row from. other_key (λ k. IsBefore k next.first) key (key_of schema.dims row) before from) (rows_of (next ∷ regions)) (all_from schema next regions chain.2)) in
            rw t (taken_here region (rows_of (next ∷ regions)) (left_true (has_key schema.dims key region.rows) (has_key schema.dims key (rows_of (next ∷ regions))) either others))
        | inr f ↦
            let later : ¬ (IsBefore key next.first) = (λ h. let t = precedes_of key next.first h in cc) in
            let here = has_none schema.dims key region.rows (all_more (λ row. IsBefore (key_of schema.dims row) next.first) (λ row. is_same key (key_of schema.dims row) ≡ false)
            (λ row lt. other_key (λ k. ¬ (IsBefore k next.first)) key (key_of schema.dims row) later (λ back. back lt)) region.rows (all_of_keys schema.dims (λ k. IsBefore k next.first) region.rows chain.1.1)) in
            let rest = taken next regions chain.2 (right_true (has_key schema.dims key region.rows) (has_key schema.dims key (rows_of (next ∷ regions))) either here) in
            let new = rows_of (change_from (index_holding key (firsts_of (next ∷ regions))) (remove_first schema.dims key) (next ∷ regions)) in
            rw f (record {
              row = rest.row;
              key_is = rest.key_is;
              rows = IsPermutation-trans (region.rows ++ rows_of (next ∷ regions)) (region.rows ++ rest.row ∷ new) (rest.row ∷ (region.rows ++ new))
                  (IsPermutation-append_right region.rows (rows_of (next ∷ regions)) (rest.row ∷ new) rest.rows)
                  (IsPermutation-middle region.rows rest.row new);
            })
      ]

-- removal keeps the regions of a table
pub remove_none : (dims c : ℕ) (key : Key) (regions : List RegionRows) → has_key dims key (rows_of regions) ≡ false → remove dims c key regions ≡ regions
remove_none dims c key regions f = rw f refl

pub remove_rows : (schema : Schema) (next : ℕ) (key : Key) (regions : List RegionRows) → AreRegions schema next regions → has_key schema.dims key (rows_of regions) ≡ true
    → IsChanged schema regions (remove schema.dims schema.page_rows key regions) × IsTaken schema key (rows_of regions) (rows_of (remove schema.dims schema.page_rows key regions))
remove_rows schema next key regions h k = search (rules, chain_of, changed_twice, settled, taken, without_row)

pub remove_keeps : (schema : Schema) (next : ℕ) (key : Key) (regions : List RegionRows) → AreRegions schema next regions → AreRegions schema next (remove schema.dims schema.page_rows key regions)
remove_keeps schema next key regions h = elim (cases_Bool (has_key schema.dims key (rows_of regions))) [
  | inl t ↦
      let new = remove schema.dims schema.page_rows key regions in
      let both = remove_rows schema next key regions h t in
      let changed = both.0 in
      let taken = both.1 in
      let numbers = λ (r : Row). r.number in
      record {
        begins = changed.begins ∙ h.begins;
        ascending = firsts_up schema new changed.chain;
        each = each_of schema new changed.chain;
        apart = apart_of schema new changed.chain;
        distinct = IsDistinct-tail nat_eq taken.row.number (map numbers (rows_of new))
            (IsDistinct-IsPermutation nat_eq nat_eq_flips (map numbers (rows_of regions)) (map numbers (taken.row ∷ rows_of new))
            (IsPermutation-map numbers (rows_of regions) (taken.row ∷ rows_of new) taken.rows) h.distinct);
        numbered = (recursion_from_All (λ (r : Row). r.number < next) (taken.row ∷ rows_of new)
            (All-permutation (λ (r : Row). r.number < next) (rows_of regions) (taken.row ∷ rows_of new) taken.rows (All-from_recursion (λ (r : Row). r.number < next) (rows_of regions) h.numbered))).1;
      }
  | inr f ↦ subst (λ (rs : List RegionRows). AreRegions schema next rs) (sym (remove_none schema.dims schema.page_rows key regions f)) h
]
