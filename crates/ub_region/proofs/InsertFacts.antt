-- Insertion keeps the regions of a table, and adds its row to theirs.
use Rattle.std.proofs.Common.{rules, ◌≡◌, ◌≢◌, ◌<◌, ◌≤◌, ◌+◌, ◌-◌, inl, inr, ℕ, zero, suc, List, [], ◌∷◌, ◌++◌, false, Some, length, map, take, drop, get_or, nat_eq, nat_le, ◌∙◌, sym, ap, refl, arith, subst}
use Rattle.std.proofs.lemmas.Bool.{cases_Bool, leb-true, leb-false, ne_eqb}
use Rattle.std.proofs.lemmas.List.{length-take, length-drop, take-append-drop, append-nil}
use Rattle.std.proofs.lemmas.List.Elements.{All-from_recursion, recursion_from_All}
use Rattle.std.proofs.lemmas.List.Sorted.{IsPermutation-sym, IsPermutation-trans, IsPermutation-middle, IsPermutation-append_left, IsPermutation-append_right, IsPermutation-map, All-permutation}
use Rattle.std.proofs.lemmas.Map.Keys.{IsDistinct-IsPermutation, IsDistinct-cons}
use Rattle.std.specs.List.{AllByRecursion}
use Rattle.std.specs.List.Sorted.{IsPermutation}
use Rattle.ub_table.proofs.Laws.{before_of, precedes_of, not_before_origin}
use Rattle.ub_table.specs.Keys.{IsBefore, AreKeysAscending, origin, precedes}
use Rattle.ub_table.specs.Region.{RegionRows, IsRegion, IsRow, IsFirst, AreFrom, key_of, keys_of, measures_of}
use Rattle.ub_table.specs.declared.row.Key.{Key}
use Rattle.ub_table.specs.declared.row.Row.{Row}
use Rattle.ub_table.specs.declared.schema.Schema.{Schema}
use Rattle.ub_region.specs.Rows.{insert_row, left_half, separator, cut}
use Rattle.ub_region.specs.Regions.{firsts_of, rows_of, AreRegions, IsFree, two_regions, split_region, insert_first, insert}
use Rattle.ub_region.proofs.KeyLists.{all_more, all_left, all_right, all_take, all_drop, upto_before, upto_upto, IsBeforeNext, up_take, up_drop, IsCut, is_cut}
use Rattle.ub_region.proofs.RowFacts.{all_keys, all_of_keys, all_insert, up_insert, length-insert_row, moved_insert}
use Rattle.ub_region.proofs.ChainFacts.{IsBelow, IsChain, BeginsWith, chain_of, each_of, firsts_up, apart_of, below_same, key_in_range, length-keys_of, keys_take, keys_drop, rows_append}

-- the separator is after the left key, not after the right one, and in range
separator_is : (dims : ℕ) (left right : Key) → IsBefore left right → IsFirst dims right → IsBefore left (separator left right) × (¬ (IsBefore right (separator left right))) × IsFirst dims (separator left right)
separator_is dims left right h k = search rules

-- a region with a row too many, perhaps
pub record IsFilled (schema : Schema) (region : RegionRows) : Type 0 where
  pub most : length region.rows ≤ schema.page_rows + 1
  pub first : IsFirst schema.dims region.first
  pub rows : AllByRecursion (IsRow schema.dims (measures_of schema)) region.rows
  pub ascending : AreKeysAscending (keys_of schema.dims region.rows)
  pub within : AreFrom region.first (keys_of schema.dims region.rows)

-- a cut after suc n rows makes two regions
module _ (schema : Schema) (region : RegionRows) (filled : IsFilled schema region) (n : ℕ) (within : suc n < length region.rows) (left_fits : suc n ≤ schema.page_rows)
    (right_fits : length region.rows ≤ schema.page_rows + suc n) where
  abbrev dims : ℕ
  dims = schema.dims

  abbrev keys : List Key
  keys = keys_of dims region.rows

  abbrev left_key : Key
  left_key = get_or keys n origin

  abbrev right_key : Key
  right_key = get_or keys (suc n) origin

  abbrev first : Key
  first = separator left_key right_key

  the_cut : IsCut left_key right_key (suc n) keys
  the_cut = is_cut origin n keys (let long = length-keys_of dims region.rows in omega arith) filled.ascending

  parted : IsBefore left_key first × (¬ (IsBefore right_key first)) × IsFirst dims first
  parted = separator_is dims left_key right_key the_cut.before (key_in_range dims (measures_of schema) region.rows origin (suc n) schema.counts.few_dims filled.rows within)

  first_before : IsBefore region.first first
  first_before = search (rules, All-from_recursion, length-keys_of, parted, upto_before)

  left_region : IsRegion schema (record { first = region.first; rows = take (suc n) region.rows })
  left_region = record {
    few = omega (arith, length-take (suc n) region.rows);
    first = filled.first;
    rows = all_take (IsRow dims (measures_of schema)) (suc n) region.rows filled.rows;
    ascending = rw (keys_take dims (suc n) region.rows) (up_take (suc n) keys filled.ascending);
    within = rw (keys_take dims (suc n) region.rows) (all_take (λ (key : Key). ¬ (IsBefore key region.first)) (suc n) keys filled.within);
  }

  right_region : IsRegion schema (record { first = first; rows = drop (suc n) region.rows })
  right_region = grind (arith, all_drop, all_more, keys_drop, length-drop, parted, the_cut, up_drop, upto_upto)

  left_below : AllByRecursion (λ key. IsBefore key first) (keys_of dims (take (suc n) region.rows))
  left_below = grind (arith, all_more, keys_take, parted, the_cut, upto_before)

  right_below : (regions : List RegionRows) → IsBelow dims region regions → IsBelow dims (record { first = first; rows = drop (suc n) region.rows }) regions
  right_below regions h = search (rules, All-from_recursion, all_drop, keys_drop, length-keys_of, parted, upto_before)

  pub two_chain : (regions : List RegionRows) → IsBelow dims region regions → IsChain schema regions
      → IsChain schema (record { first = region.first; rows = take (suc n) region.rows } ∷ record { first = first; rows = drop (suc n) region.rows } ∷ regions)
  two_chain regions below chain = (left_region, (first_before, left_below), (right_region, right_below regions below, chain))

-- a region that is filled, split where it holds a row too many
split_chain : (schema : Schema) (region : RegionRows) (regions : List RegionRows) → IsFilled schema region → IsBelow schema.dims region regions → IsChain schema regions
    → IsChain schema (split_region schema.dims schema.page_rows region ++ regions)
split_chain schema region regions filled below chain = elim (cases_Bool (nat_le (length region.rows) schema.page_rows)) [
  | inl t ↦
      let few = leb-true (length region.rows) schema.page_rows t in
      rw t (record { few = few; first = filled.first; rows = filled.rows; ascending = filled.ascending; within = filled.within }, below, chain)
  | inr f ↦
      let many = leb-false (length region.rows) schema.page_rows f in
      let most = filled.most in
      let some = schema.counts.some_rows in
      rw f (halves (left_half schema.page_rows) (omega arith) (omega arith) (omega arith) (omega arith))
]
  where
    halves : (n : ℕ) → 1 ≤ n → n < length region.rows → n ≤ schema.page_rows → length region.rows ≤ schema.page_rows + n
        → IsChain schema (two_regions region.first (cut schema.dims n region.rows) ++ regions)
    halves zero one lt left right = absurd (omega arith)
    halves (suc n) one lt left right =
        let same : suc n - 1 ≡ n = omega arith in
        rw same (two_chain schema region filled n lt left right regions below chain)

split_begins : (dims c : ℕ) (region : RegionRows) (regions : List RegionRows) → BeginsWith region.first (split_region dims c region ++ regions)
split_begins dims c region regions = search rules

split_rows : (dims c : ℕ) (region : RegionRows) → rows_of (split_region dims c region) ≡ region.rows
split_rows dims c region = search (rules, append-nil, cases_Bool, take-append-drop)

module _ (schema : Schema) (row : Row) (good : IsRow schema.dims (measures_of schema) row) where
  abbrev key : Key
  key = key_of schema.dims row

  filled_insert : (region : RegionRows) → IsRegion schema region → ¬ (IsBefore key region.first) → AllByRecursion (λ other. other.number ≢ row.number) region.rows
      → IsFilled schema (record { first = region.first; rows = insert_row schema.dims row region.rows })
  filled_insert region h k j = search (rules, all_insert, all_keys, all_of_keys, length-insert_row, up_insert)

  below_insert : (region : RegionRows) (regions : List RegionRows) → IsBelow schema.dims region regions → IsBeforeNext key (firsts_of regions)
      → IsBelow schema.dims (record { first = region.first; rows = insert_row schema.dims row region.rows }) regions
  below_insert region regions h k = search (rules, all_insert, all_keys, all_of_keys)

  -- what insertion does to regions of which the first begins with a key
  pub record IsInserted (first : Key) (old new : List RegionRows) : Type 0 where
    pub chain : IsChain schema new
    pub begins : BeginsWith first new
    pub rows : IsPermutation (row ∷ rows_of old) (rows_of new)

  insert_here : (region : RegionRows) (regions : List RegionRows) → IsChain schema (region ∷ regions) → ¬ (IsBefore key region.first) → AllByRecursion (λ other. other.number ≢ row.number) (rows_of (region ∷ regions))
      → IsBeforeNext key (firsts_of regions) → IsInserted region.first (region ∷ regions) (insert_first schema.dims schema.page_rows row (region ∷ regions))
  insert_here region regions chain upto numbers before =
      let filled = filled_insert region chain.0 upto (all_left (λ other. other.number ≢ row.number) region.rows (rows_of regions) numbers) in
      let whole : RegionRows = record { first = region.first; rows = insert_row schema.dims row region.rows } in
      let same : rows_of (split_region schema.dims schema.page_rows whole ++ regions) ≡ insert_row schema.dims row region.rows ++ rows_of regions =
      rows_append (split_region schema.dims schema.page_rows whole) regions ∙ ap (λ (rows : List Row). rows ++ rows_of regions) (split_rows schema.dims schema.page_rows whole) in
      record {
        chain = split_chain schema whole regions filled (below_insert region regions chain.1 before) chain.2;
        begins = split_begins schema.dims schema.page_rows whole regions;
        rows = subst (λ (rows : List Row). IsPermutation (row ∷ (region.rows ++ rows_of regions)) rows) (sym same)
            (IsPermutation-append_left (rows_of regions) (row ∷ region.rows) (insert_row schema.dims row region.rows) (moved_insert schema.dims row region.rows));
      }

  pub inserted : (region : RegionRows) (regions : List RegionRows) → IsChain schema (region ∷ regions) → ¬ (IsBefore key region.first) → AllByRecursion (λ other. other.number ≢ row.number) (rows_of (region ∷ regions))
      → IsInserted region.first (region ∷ regions) (insert schema.dims schema.page_rows row (region ∷ regions))
  inserted region [] chain upto numbers = insert_here region [] chain upto numbers tt
  inserted region (next ∷ regions) chain upto numbers = elim (cases_Bool (precedes key next.first)) [
    | inl t ↦ rw t (insert_here region (next ∷ regions) chain upto numbers (before_of key next.first t))
    | inr f ↦
        let later : ¬ (IsBefore key next.first) = (λ h. let t = precedes_of key next.first h in cc) in
        let rest = inserted next regions chain.2 later (all_right (λ other. other.number ≢ row.number) region.rows (rows_of (next ∷ regions)) numbers) in
        rw f (record {
          chain = (chain.0, below_same schema.dims region next.first (next ∷ regions) (insert schema.dims schema.page_rows row (next ∷ regions)) refl rest.begins chain.1, rest.chain);
          begins = refl;
          rows = IsPermutation-trans (row ∷ (region.rows ++ rows_of (next ∷ regions))) (region.rows ++ row ∷ rows_of (next ∷ regions)) (region.rows ++ rows_of (insert schema.dims schema.page_rows row (next ∷ regions)))
              (IsPermutation-sym (region.rows ++ row ∷ rows_of (next ∷ regions)) (row ∷ (region.rows ++ rows_of (next ∷ regions))) (IsPermutation-middle region.rows row (rows_of (next ∷ regions))))
              (IsPermutation-append_right region.rows (row ∷ rows_of (next ∷ regions)) (rows_of (insert schema.dims schema.page_rows row (next ∷ regions))) rest.rows);
        })
  ]

-- the number of a row is that of no other
pub other_numbers : (n : ℕ) (rows : List Row) → AllByRecursion (λ row. row.number ≢ n) rows → AllByRecursion (λ m. nat_eq n m ≡ false) (map (λ row. row.number) rows)
other_numbers n [] h = tt
other_numbers n (row ∷ rows) h = (ne_eqb n row.number (λ e. h.0 (sym e)), other_numbers n rows h.1)

pub nat_eq_flips : (a b : ℕ) → nat_eq a b ≡ nat_eq b a
nat_eq_flips a b = search rules

-- insertion of a row with a number that no other one has keeps regions, of which the next row has a later number then
pub insert_keeps_new : (schema : Schema) (next later : ℕ) (row : Row) (regions : List RegionRows) → AreRegions schema next regions → IsRow schema.dims (measures_of schema) row
    → IsFree row.number regions → next ≤ later → row.number < later
    → AreRegions schema later (insert schema.dims schema.page_rows row regions) × IsPermutation (row ∷ rows_of regions) (rows_of (insert schema.dims schema.page_rows row regions))
insert_keeps_new schema next later row [] h good free upper lt = let none = h.begins in cc
insert_keeps_new schema next later row (region ∷ regions) h good free upper lt =
    let first : region.first ≡ origin = (let begins = h.begins in cc) in
    let upto : ¬ (IsBefore (key_of schema.dims row) region.first) = (λ before. not_before_origin (key_of schema.dims row) (subst (λ (k : Key). IsBefore (key_of schema.dims row) k) first before)) in
    let new = inserted schema row good region regions (chain_of schema (region ∷ regions) h.each h.ascending h.apart) upto free in
    let after = insert schema.dims schema.page_rows row (region ∷ regions) in
    let numbers = λ (r : Row). r.number in (
      record {
        begins = new.begins ∙ ap (λ (k : Key). Some k) first;
        ascending = firsts_up schema after new.chain;
        each = each_of schema after new.chain;
        apart = apart_of schema after new.chain;
        distinct = IsDistinct-IsPermutation nat_eq nat_eq_flips (map numbers (row ∷ rows_of (region ∷ regions))) (map numbers (rows_of after))
            (IsPermutation-map numbers (row ∷ rows_of (region ∷ regions)) (rows_of after) new.rows)
            (IsDistinct-cons nat_eq row.number (map numbers (rows_of (region ∷ regions))) (other_numbers row.number (rows_of (region ∷ regions)) free) h.distinct);
        numbered = recursion_from_All (λ (r : Row). r.number < later) (rows_of after)
            (All-permutation (λ (r : Row). r.number < later) (row ∷ rows_of (region ∷ regions)) (rows_of after) new.rows
            (All-from_recursion (λ (r : Row). r.number < later) (row ∷ rows_of (region ∷ regions))
            (lt, all_more (λ (r : Row). r.number < next) (λ (r : Row). r.number < later) (λ r less. omega arith) (rows_of (region ∷ regions)) h.numbered)));
      },
      new.rows,
    )

-- the number of a table's next row is that of no row
pub next_free : (schema : Schema) (next n : ℕ) (regions : List RegionRows) → AreRegions schema next regions → next ≤ n → IsFree n regions
next_free schema next n regions h upper = all_more (λ (r : Row). r.number < next) (λ (r : Row). r.number ≢ n) (λ r less same. omega arith) (rows_of regions) h.numbered

-- insertion of the next row of a table keeps its regions
pub insert_keeps : (schema : Schema) (next : ℕ) (row : Row) (regions : List RegionRows) → AreRegions schema next regions → IsRow schema.dims (measures_of schema) row → row.number ≡ next
    → AreRegions schema (next + 1) (insert schema.dims schema.page_rows row regions) × IsPermutation (row ∷ rows_of regions) (rows_of (insert schema.dims schema.page_rows row regions))
insert_keeps schema next row regions h good is = insert_keeps_new schema next (next + 1) row regions h good (next_free schema next row.number regions h (omega arith)) (omega arith) (omega arith)
