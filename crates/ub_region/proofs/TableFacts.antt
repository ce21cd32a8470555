-- What an insertion and a removal make of a table's rows.
use Rattle.std.proofs.Common.{rules, ◌≡◌, ◌<◌, inl, inr, ℕ, zero, suc, List, [], ◌∷◌, ◌++◌, Bool, true, false, not, length, map, get_or, nat_eq, ◌∙◌, sym, ap, refl, arith, subst, filter}
use Rattle.std.proofs.lemmas.Bool.{cases_Bool, cases_lt, eq-eqb, not-true, not_from_false}
use Rattle.std.proofs.lemmas.List.{map-append, length-append, get_or_append_left}
use Rattle.std.proofs.lemmas.List.Elements.{All-contains, All-from_recursion, recursion_from_All, Contains-append_cases, Contains-append_left, Contains-append_right, Contains-push_cases, Contains-push}
use Rattle.std.proofs.lemmas.List.Kept.{IsStrictlyIncreasing-filter}
use Rattle.std.proofs.lemmas.List.Sorted.{Contains-permutation, IsPermutation-sym, IsPermutation-map}
use Rattle.std.proofs.lemmas.Map.Keys.{IsDistinct-IsPermutation, IsDistinct-head}
use Rattle.std.proofs.Math.Seq.{get_or-append_seam}
use Rattle.std.specs.List.{All, AllByRecursion, Contains}
use Rattle.std.specs.List.Sorted.{IsStrictlyIncreasing}
use Rattle.ub_bigmin.proofs.BoxLaws.{contains_one, one_contains}
use Rattle.ub_table.specs.Region.{RegionRows, IsRow, measures_of}
use Rattle.ub_table.specs.declared.row.Key.{Key}
use Rattle.ub_table.specs.declared.row.Row.{Row}
use Rattle.ub_table.specs.declared.schema.Schema.{Schema}
use Rattle.ub_region.specs.Regions.{rows_of, AreRegions, AreTableRows, without_number, insert, remove}
use Rattle.ub_region.specs.Rows.{has_key}
use Rattle.ub_region.proofs.InsertFacts.{insert_keeps, nat_eq_flips}
use Rattle.ub_region.proofs.RemoveFacts.{remove_rows}

increasing_push : (xs : List ℕ) (n : ℕ) → IsStrictlyIncreasing xs → All (λ x. x < n) xs → IsStrictlyIncreasing (xs ++ n ∷ [])
increasing_push xs n h k = search (rules, cases_lt, get_or-append_seam, get_or_append_left, length-append)

all_map : (P : ℕ → Type 0) (rows : List Row) → AllByRecursion (λ row. P row.number) rows → AllByRecursion P (map (λ row. row.number) rows)
all_map P [] h = tt
all_map P (row ∷ rows) h = (h.0, all_map P rows h.1)

-- the rows of the table are in no other number than the regions'
numbers_below : (n : ℕ) (rows others : List Row) → ((row : Row) → Contains rows row → Contains others row) → AllByRecursion (λ row. row.number < n) others → AllByRecursion (λ row. row.number < n) rows
numbers_below n rows others inner below =
    recursion_from_All (λ row. row.number < n) rows (by_row rows (λ row c. All-contains (λ (r : Row). r.number < n) others row (All-from_recursion (λ (r : Row). r.number < n) others below) (inner row c)))
  where
    by_row : (rows : List Row) → ((row : Row) → Contains rows row → row.number < n) → All (λ row. row.number < n) rows
    by_row rows h k d lt = h (get_or rows k d) (k, lt, default rows k d (get_or rows k d) lt)
      where
        default : (rows : List Row) (k : ℕ) (d e : Row) → k < length rows → get_or rows k e ≡ get_or rows k d
        default [] k d e lt = absurd (omega arith)
        default (x ∷ rows) zero d e lt = refl
        default (x ∷ rows) (suc k) d e lt = default rows k d e (omega arith)

-- the table has its new row at the end
pub insert_table : (schema : Schema) (next : ℕ) (row : Row) (regions : List RegionRows) (rows : List Row) → AreRegions schema next regions → AreTableRows regions rows
    → IsRow schema.dims (measures_of schema) row → row.number ≡ next → AreTableRows (insert schema.dims schema.page_rows row regions) (rows ++ row ∷ [])
insert_table schema next row regions rows h table good is =
    let new = rows_of (insert schema.dims schema.page_rows row regions) in
    let moved = (insert_keeps schema next row regions h good is).1 in
    let below = subst (λ (n : ℕ). AllByRecursion (λ (r : Row). r.number < n) rows) (sym is) (numbers_below next rows (rows_of regions) (λ r c. (table.same r).0 c) h.numbered) in
    record {
      ascending = rw (map-append (λ (r : Row). r.number) rows (row ∷ [])) (increasing_push (map (λ r. r.number) rows) row.number table.ascending
          (All-from_recursion (λ n. n < row.number) (map (λ r. r.number) rows) (all_map (λ n. n < row.number) rows below)));
      same = λ r. (
        λ c. Contains-permutation (row ∷ rows_of regions) new r moved (elim (Contains-push_cases rows row r c) [
          | inl old ↦ Contains-append_right (row ∷ []) (rows_of regions) r ((table.same r).0 old)
          | inr same ↦ Contains-append_left (row ∷ []) (rows_of regions) r (subst (λ (x : Row). Contains (row ∷ []) x) same (contains_one row))
        ]),
        λ c. elim (Contains-append_cases (row ∷ []) (rows_of regions) r (Contains-permutation new (row ∷ rows_of regions) r (IsPermutation-sym (row ∷ rows_of regions) new moved) c)) [
          | inl one ↦ subst (λ (x : Row). Contains (rows ++ row ∷ []) x) (one_contains row r one) (Contains-push rows row)
          | inr old ↦ Contains-append_left rows (row ∷ []) r ((table.same r).1 old)
        ],
      );
    }

module _ {X : Type 0} (p : X → Bool) where
  contains_filter : (xs : List X) (y : X) → p y ≡ true → Contains xs y → Contains (filter p xs) y
  contains_filter [] y t c = let lt = c.1 in absurd (omega arith)
  contains_filter (x ∷ xs) y t c = elim (Contains-append_cases (x ∷ []) xs y c) [
    | inl one ↦ let same = one_contains x y one in let here : p x ≡ true = ap p same ∙ t in
        rw here (subst (λ (z : X). Contains (x ∷ filter p xs) z) same (Contains-append_left (x ∷ []) (filter p xs) x (contains_one x)))
    | inr rest ↦ let more = contains_filter xs y t rest in elim (cases_Bool (p x)) [
      | inl here ↦ rw here (Contains-append_right (x ∷ []) (filter p xs) y more)
      | inr out ↦ rw out more
    ]
  ]

  filter_contains : (xs : List X) (y : X) → Contains (filter p xs) y → Contains xs y × (p y ≡ true)
  filter_contains [] y c = let lt = c.1 in absurd (omega arith)
  filter_contains (x ∷ xs) y c = elim (cases_Bool (p x)) [
    | inl here ↦ elim (Contains-append_cases (x ∷ []) (filter p xs) y (rw here at c)) [
      | inl one ↦ let same = one_contains x y one in (Contains-append_left (x ∷ []) xs y one, ap p (sym same) ∙ here)
      | inr rest ↦ let more = filter_contains xs y rest in (Contains-append_right (x ∷ []) xs y more.0, more.1)
    ]
    | inr out ↦ let more = filter_contains xs y (rw out at c) in (Contains-append_right (x ∷ []) xs y more.0, more.1)
  ]

map_filter : (p : ℕ → Bool) (rows : List Row) → map (λ row. row.number) (filter (λ row. p row.number) rows) ≡ filter p (map (λ row. row.number) rows)
map_filter p [] = refl
map_filter p (row ∷ rows) = search (rules, (map_filter p rows), cases_Bool)

-- the table has all rows but the one of the key
pub remove_table : (schema : Schema) (next : ℕ) (key : Key) (regions : List RegionRows) (rows : List Row) → AreRegions schema next regions → AreTableRows regions rows
    → has_key schema.dims key (rows_of regions) ≡ true → AreTableRows (remove schema.dims schema.page_rows key regions) (without_number key.number rows)
remove_table schema next key regions rows h table has =
    let new = rows_of (remove schema.dims schema.page_rows key regions) in
    let taken = (remove_rows schema next key regions h has).1 in
    let numbers = λ (r : Row). r.number in
    let is : taken.row.number ≡ key.number = ap (λ (k : Key). k.number) taken.key_is in
    let apart = IsDistinct-head nat_eq taken.row.number (map numbers new)
    (IsDistinct-IsPermutation nat_eq nat_eq_flips (map numbers (rows_of regions)) (map numbers (taken.row ∷ new)) (IsPermutation-map numbers (rows_of regions) (taken.row ∷ new) taken.rows) h.distinct) in
    record {
      ascending = rw (map_filter (λ n. not (nat_eq n key.number)) rows) (IsStrictlyIncreasing-filter (λ n. not (nat_eq n key.number)) (map numbers rows) table.ascending);
      same = λ r. (
        λ c.
            let kept = filter_contains (λ (row : Row). not (nat_eq row.number key.number)) rows r c in
            elim (Contains-append_cases (taken.row ∷ []) new r (Contains-permutation (rows_of regions) (taken.row ∷ new) r taken.rows ((table.same r).0 kept.0))) [
              | inl one ↦
                  let same : r.number ≡ key.number = ap numbers (sym (one_contains taken.row r one)) ∙ is in
                  let f = not-true (nat_eq r.number key.number) kept.1 in
                  let t = eq-eqb r.number key.number same in
                  cc
              | inr rest ↦ rest
            ],
        λ c. contains_filter (λ (row : Row). not (nat_eq row.number key.number)) rows r
            (other_number new r c (subst (λ (n : ℕ). AllByRecursion (λ m. nat_eq n m ≡ false) (map numbers new)) is apart))
            ((table.same r).1 (Contains-permutation (taken.row ∷ new) (rows_of regions) r (IsPermutation-sym (rows_of regions) (taken.row ∷ new) taken.rows) (Contains-append_right (taken.row ∷ []) new r c))),
      );
    }
  where
    other_number : (new : List Row) (r : Row) → Contains new r → AllByRecursion (λ m. nat_eq key.number m ≡ false) (map (λ row. row.number) new) → not (nat_eq r.number key.number) ≡ true
    other_number [] r c h = let lt = c.1 in absurd (omega arith)
    other_number (x ∷ new) r c h = elim (Contains-append_cases (x ∷ []) new r c) [
      | inl one ↦ let same = one_contains x r one in
          not_from_false (nat_eq r.number key.number) (nat_eq_flips r.number key.number ∙ ap (λ (y : Row). nat_eq key.number y.number) (sym same) ∙ h.0)
      | inr rest ↦ other_number new r rest h.1
    ]
