-- What a region's page reads as.
use Rattle.std.proofs.lemmas.Grind.{common_steps}
use Rattle.std.proofs.Common.{rules, ◌≡◌, ◌≤◌, ◌<◌, ◌+◌, ◌-◌, ◌*◌, ◌^◌, ℕ, zero, suc, List, [], ◌∷◌, ◌++◌, length, map, take, drop, replicate, get_or, refl, sym, ap, arith, ◌∙◌, append_assoc, Some}
use Rattle.std.specs.Prelude.{ℤ, pos, FitsSigned}
use Rattle.std.specs.Int.{w64, cast_signed, cast_unsigned}
use Rattle.byteorder.specs.Numbers.{big_from-lt}
use Rattle.std.proofs.Math.Facts.{Fits-lt-pow, Fits-of_lt, Fits-of_z, sfits_lit, sfits_to_z, to_z-of_z}
use Rattle.std.proofs.Math.Seq.{drop-append_seam}
use Rattle.std.proofs.lemmas.List.Elements.{All-append, All-replicate}
use Rattle.std.proofs.lemmas.List.FromFn.{length-map-range_with_len, get_or-map-range_with_len}
use Rattle.std.specs.List.{All, AllByRecursion, flat_map, range_with_len, slice_get}
use Rattle.std.proofs.lemmas.List.{length-append, get_or-drop, length-replicate}
use Rattle.ub_bytes.specs.Bytes.{number_bytes, number_at, layout}
use Rattle.ub_region.specs.RegionPage.{RegionView, column, columns, dim_of, measure_of, head_fields, region_page, places, row_on, region_on, IsRegionKind, HasCounts, HasRows, HasOrder, HasFirst, IsRegionFault}
use Rattle.ub_region.proofs.AddressFacts.{small_address}
use Rattle.ub_bytes.proofs.BytesFacts.{length-number_bytes, read_at, layout_read, length-layout, AllFit}
use Rattle.ub_table.specs.Region.{RegionRows, measures_of, HasRest, IsRow, IsRegion, IsNumbered}
use Rattle.ub_table.specs.declared.fault.PageFault.{PageFault}
use Rattle.ub_table.specs.declared.row.Row.{Row}
use Rattle.ub_table.specs.declared.schema.Schema.{Schema}

-- each row's number takes no more than so many bytes
abbrev pub FitIn : ℕ → (Row → ℕ) → List Row → Type 0
FitIn width number rows = AllByRecursion (λ row. number row < 256 ^ width) rows

pub length-column : (width : ℕ) (number : Row → ℕ) (rows : List Row) → length (column width number rows) ≡ width * length rows
length-column width number [] = omega arith
length-column width number (row ∷ rows) = search (rules, (length-column width number rows), length-append, length-number_bytes)

-- a row's number is read from its column
column_read : (width : ℕ) (number : Row → ℕ) (rows : List Row) (page front rest : List ℕ) (offset : ℕ) → offset ≡ length front → FitIn width number rows
    → page ≡ front ++ (column width number rows ++ rest)
    → (i at : ℕ) (row : Row) → slice_get rows i ≡ Some row → at ≡ offset + width * i → number_at width at page ≡ number row
column_read width number [] page front rest offset is fit e i at row there eq = absurd (cc)
column_read width number (r ∷ rows) page front rest offset is fit e zero at row there eq =
    let whole : page ≡ front ++ (number_bytes width (number r) ++ (column width number rows ++ rest)) = e ∙ ap (λ (s : List ℕ). front ++ s) (append_assoc (number_bytes width (number r)) (column width number rows) rest) in
    let same : r ≡ row = cc in
    read_at page front (column width number rows ++ rest) at width (number r) (omega arith) fit.0 whole ∙ ap number same
column_read width number (r ∷ rows) page front rest offset is fit e (suc i) at row there eq =
    let bytes = number_bytes width (number r) in
    let whole : page ≡ front ++ (bytes ++ (column width number rows ++ rest)) = e ∙ ap (λ (s : List ℕ). front ++ s) (append_assoc bytes (column width number rows) rest) in
    let behind : page ≡ (front ++ bytes) ++ (column width number rows ++ rest) = whole ∙ sym (append_assoc front bytes _) in
    let next : offset + width ≡ length (front ++ bytes) = omega (arith, length-append front bytes, length-number_bytes width (number r)) in
    column_read width number rows page (front ++ bytes) rest (offset + width) next fit.1 behind i at row there (omega arith)

-- a row's number is read from one column of several
columns_read : (width : ℕ) (number : ℕ → Row → ℕ) (rows : List Row) (page front rest : List ℕ) (offset a n : ℕ) → offset ≡ length front → ((j : ℕ) → FitIn width (number j) rows)
    → page ≡ front ++ (flat_map (λ i. column width (number i) rows) (range_with_len a n) ++ rest)
    → (j : ℕ) → j < n → (i at : ℕ) (row : Row) → slice_get rows i ≡ Some row → at ≡ offset + width * (length rows * j + i) → number_at width at page ≡ number (a + j) row
columns_read width number rows page front rest offset a zero is fit e j less i at row there eq = absurd (omega arith)
columns_read width number rows page front rest offset a (suc n) is fit e zero less i at row there eq =
    let first = column width (number a) rows in
    let others = flat_map (λ i. column width (number i) rows) (range_with_len (a + 1) n) in
    let whole : page ≡ front ++ (first ++ (others ++ rest)) = e ∙ ap (λ (s : List ℕ). front ++ s) (append_assoc first others rest) in
    let same : a ≡ a + 0 = omega arith in
    column_read width (number a) rows page front (others ++ rest) offset is (fit a) whole i at row there (omega arith) ∙ ap (λ (k : ℕ). number k row) same
columns_read width number rows page front rest offset a (suc n) is fit e (suc j) less i at row there eq =
    let first = column width (number a) rows in
    let others = flat_map (λ i. column width (number i) rows) (range_with_len (a + 1) n) in
    let whole : page ≡ front ++ (first ++ (others ++ rest)) = e ∙ ap (λ (s : List ℕ). front ++ s) (append_assoc first others rest) in
    let behind : page ≡ (front ++ first) ++ (others ++ rest) = whole ∙ sym (append_assoc front first _) in
    let next : offset + width * length rows ≡ length (front ++ first) = omega (arith, length-append front first, length-column width (number a) rows) in
    let same : a + 1 + j ≡ a + suc j = omega arith in
    columns_read width number rows page (front ++ first) rest (offset + width * length rows) (a + 1) n next fit behind j (omega arith) i at row there (omega arith)
    ∙ ap (λ (k : ℕ). number k row) same

columns_at : (width : ℕ) (number : ℕ → Row → ℕ) (rows : List Row) (page front rest : List ℕ) (offset n : ℕ) → offset ≡ length front → ((j : ℕ) → FitIn width (number j) rows)
    → page ≡ front ++ (columns width number n rows ++ rest)
    → (j : ℕ) → j < n → (i : ℕ) (row : Row) → slice_get rows i ≡ Some row → number_at width (offset + width * (length rows * j + i)) page ≡ number j row
columns_at width number rows page front rest offset n h k l j m i row o = grind (arith, columns_read)

pub length-columns : (width : ℕ) (number : ℕ → Row → ℕ) (a n : ℕ) (rows : List Row)
    → length (flat_map (λ i. column width (number i) rows) (range_with_len a n)) ≡ width * (length rows * n)
length-columns width number a zero rows = omega arith
length-columns width number a (suc n) rows = search (rules, (length-columns width number (a + 1) n rows), length-append, length-column)

-- a list is read from what stands at each of its places
rows_read : (f : ℕ → Row) (rows : List Row) (a : ℕ) → ((i : ℕ) (row : Row) → slice_get rows i ≡ Some row → f (a + i) ≡ row) → map f (range_with_len a (length rows)) ≡ rows
rows_read f [] a h = refl
rows_read f (row ∷ rows) a h =
    let here : a + 0 ≡ a = omega arith in
    let first : f a ≡ row = ap f (sym here) ∙ h 0 row refl in
    let rest : map f (range_with_len (a + 1) (length rows)) ≡ rows
    = rows_read f rows (a + 1) (λ i r there. let same : a + 1 + i ≡ a + suc i = omega arith in ap f same ∙ h (suc i) r there) in
    rw (first, rest) refl

all_rows_read : (f : ℕ → Row) (rows : List Row) → ((i : ℕ) (row : Row) → slice_get rows i ≡ Some row → f i ≡ row) → map f (range_with_len 0 (length rows)) ≡ rows
all_rows_read f rows h = rows_read f rows 0 (λ i row there. let same : 0 + i ≡ i = omega arith in ap f same ∙ h i row there)

front_read : {A : Type 0} (f : ℕ → A) (rest : A) (xs : List A) (a n : ℕ) → n ≤ length xs → ((i : ℕ) → i < n → f (a + i) ≡ get_or xs i rest) → map f (range_with_len a n) ≡ take n xs
front_read f rest xs a zero long h = refl
front_read f rest [] a (suc n) long h = absurd (omega arith)
front_read f rest (x ∷ xs) a (suc n) long h =
    let here : a + 0 ≡ a = omega arith in
    let first : f a ≡ x = ap f (sym here) ∙ h 0 (omega arith) in
    let more = front_read f rest xs (a + 1) n (omega arith) (λ i less. let same : a + 1 + i ≡ a + suc i = omega arith in ap f same ∙ h (suc i) (omega arith)) in
    rw (first, more) refl

-- four places are read from those that are used
places_read : {A : Type 0} (rest : A) (f : ℕ → A) (used : ℕ) (xs : List A) → used ≤ 4 → HasRest rest used xs → ((i : ℕ) → i < used → f i ≡ get_or xs i rest) → places rest f used ≡ xs
places_read rest f used xs h k j = search rules

-- what holds of each, and of what stands past the end, holds at any index
at_any : {A : Type 0} (P : A → Type 0) (rest : A) (xs : List A) → All P xs → P rest → (i : ℕ) → P (get_or xs i rest)
at_any P rest xs h k i = grind (arith, common_steps)

-- what follows of each row follows of all
all_weaker : (P Q : Row → Type 0) → ((row : Row) → P row → Q row) → (rows : List Row) → AllByRecursion P rows → AllByRecursion Q rows
all_weaker P Q f [] all = tt
all_weaker P Q f (row ∷ rows) all = (f row all.0, all_weaker P Q f rows all.1)

row_there : (P : Row → Type 0) (rows : List Row) → AllByRecursion P rows → (i : ℕ) (row : Row) → slice_get rows i ≡ Some row → P row
row_there P [] all i row there = absurd (cc)
row_there P (r ∷ rows) all zero row there = let same : r ≡ row = cc in rw same at all.0
row_there P (r ∷ rows) all (suc i) row there = row_there P rows all.1 i row there

-- a measure takes eight bytes, and is read back
measure_fits : (z : ℤ) → FitsSigned w64 z → cast_unsigned w64 z < 256 ^ 8
measure_fits z fits = let small : cast_unsigned w64 z < 2 ^ 64 = Fits-lt-pow (Fits-of_z fits) in omega arith

number_fits : (dims measures : ℕ) (row : Row) → IsRow dims measures row → row.number < 256 ^ 4
number_fits dims measures row is = let most = is.number.1 in omega arith

dim_fits : (dims measures d : ℕ) (row : Row) → IsRow dims measures row → dim_of d row < 256 ^ 4
dim_fits dims measures d row is = at_any (λ x. x < 2 ^ 32) 0 row.dims is.dims_words (omega arith) d

zero_fits : FitsSigned w64 (pos 0)
zero_fits = sfits_lit tt

measure_of_fits : (dims measures m : ℕ) (row : Row) → IsRow dims measures row → measure_of m row < 256 ^ 8
measure_of_fits dims measures m row is = measure_fits (get_or row.measures m (pos 0)) (at_any (λ z. FitsSigned w64 z) (pos 0) row.measures is.measures_words zero_fits m)

-- a row is read from its columns
row_read : (dims measures count : ℕ) (page : List ℕ) (row : Row) (i : ℕ) → dims ≤ 4 → measures ≤ 4 → IsRow dims measures row
    → number_at 4 (24 + 4 * i) page ≡ row.number
    → ((d : ℕ) → d < dims → number_at 4 (24 + 4 * count + 4 * (count * d + i)) page ≡ dim_of d row)
    → ((m : ℕ) → m < measures → number_at 8 (24 + 4 * count + 4 * (count * dims) + 8 * (count * m + i)) page ≡ measure_of m row)
    → row_on dims measures count page i ≡ row
unfolding row_on
row_read dims measures count page row i few_dims few_measures is number ds ms =
    let dims_read = places_read 0 (λ d. number_at 4 (24 + 4 * count + 4 * (count * d + i)) page) dims row.dims few_dims is.dims_rest ds in
    let measures_read = places_read (pos 0) (λ m. cast_signed w64 (number_at 8 (24 + 4 * count + 4 * (count * dims) + 8 * (count * m + i)) page)) measures row.measures few_measures is.measures_rest
    (λ m less. ap (cast_signed w64) (ms m less) ∙ to_z-of_z (at_any (λ z. FitsSigned w64 z) (pos 0) row.measures is.measures_words zero_fits m)) in
    rw (number, dims_read, measures_read) refl

pub record HasRegion (schema : Schema) (region : RegionRows) (page : List ℕ) : Type 0 where
  pub kind : IsRegionKind page
  pub counts : HasCounts schema page
  pub on : region_on schema page ≡ region

-- what a page was written of is what stands on it
pub parts : (schema : Schema) (region : RegionRows) (page : List ℕ) → IsRegion schema region → page ≡ region_page schema region → HasRegion schema region page
unfolding region_page
parts schema region page is e =
    let dims = schema.dims in
    let measures : ℕ = measures_of schema in
    let rows = region.rows in
    let count : ℕ = length rows in
    let head = head_fields dims measures count region.first in
    let numbers = column 4 (λ row. row.number) rows in
    let ds = columns 4 dim_of dims rows in
    let ms = columns 8 measure_of measures rows in
    let zeros : List ℕ = replicate (4096 - length (layout head ++ (numbers ++ (ds ++ ms)))) 0 in
    let whole : page ≡ layout head ++ ((numbers ++ (ds ++ ms)) ++ zeros) = e ∙ append_assoc (layout head) (numbers ++ (ds ++ ms)) zeros in
    let few_dims = schema.counts.few_dims in
    let few_columns = schema.counts.few_measures in
    let few_measures : measures ≤ 4 = omega arith in
    let few_rows = schema.counts.few_rows in
    let few = is.few in
    let number = is.first.1 in
    let fit : AllFit head = (omega arith, (omega arith, (omega arith, (omega arith, (small_address dims region.first.z few_dims is.first.0, (omega arith, tt)))))) in
    let ats = layout_read head page [] ((numbers ++ (ds ++ ms)) ++ zeros) 0 refl fit whole in
    let after_head : page ≡ layout head ++ (numbers ++ ((ds ++ ms) ++ zeros)) = whole ∙ ap (λ (s : List ℕ). layout head ++ s) (append_assoc numbers (ds ++ ms) zeros) in
    let after_numbers : page ≡ (layout head ++ numbers) ++ (ds ++ (ms ++ zeros))
    = after_head ∙ ap (λ (s : List ℕ). layout head ++ (numbers ++ s)) (append_assoc ds ms zeros) ∙ sym (append_assoc (layout head) numbers (ds ++ (ms ++ zeros))) in
    let after_dims : page ≡ ((layout head ++ numbers) ++ ds) ++ (ms ++ zeros) = after_numbers ∙ sym (append_assoc (layout head ++ numbers) ds (ms ++ zeros)) in
    let head_len : 24 ≡ length (layout head) = sym (length-layout head) in
    let numbers_len : 24 + 4 * count ≡ length (layout head ++ numbers) = omega (arith, length-append (layout head) numbers, length-column 4 (λ row. row.number) rows) in
    let dims_len : 24 + 4 * count + 4 * (count * dims) ≡ length ((layout head ++ numbers) ++ ds) = omega (arith, length-append (layout head ++ numbers) ds, length-columns 4 dim_of 0 dims rows) in
    let numbers_fit : FitIn 4 (λ row. row.number) rows = all_weaker _ (λ row. row.number < 256 ^ 4) (number_fits dims measures) rows is.rows in
    let dims_fit : (d : ℕ) → FitIn 4 (dim_of d) rows = λ d. all_weaker _ (λ row. dim_of d row < 256 ^ 4) (dim_fits dims measures d) rows is.rows in
    let measures_fit : (m : ℕ) → FitIn 8 (measure_of m) rows = λ m. all_weaker _ (λ row. measure_of m row < 256 ^ 8) (measure_of_fits dims measures m) rows is.rows in
    let read : map (row_on dims measures count page) (range_with_len 0 count) ≡ rows = all_rows_read (row_on dims measures count page) rows
    (λ i row there. row_read dims measures count page row i few_dims few_measures (row_there (IsRow dims measures) rows is.rows i row there)
    (column_read 4 (λ row. row.number) rows page (layout head) ((ds ++ ms) ++ zeros) 24 head_len numbers_fit after_head i (24 + 4 * i) row there refl)
    (λ d less. columns_at 4 dim_of rows page (layout head ++ numbers) (ms ++ zeros) (24 + 4 * count) dims numbers_len dims_fit after_numbers d less i row there)
    (λ m less. columns_at 8 measure_of rows page ((layout head ++ numbers) ++ ds) zeros (24 + 4 * count + 4 * (count * dims)) measures dims_len measures_fit after_dims m less i row there)) in
    let counted = ats.1.1.1.0 in
    record {
      kind = ats.0;
      counts = (ats.1.0, ats.1.1.0, rw counted few);
      on = rw (ats.1.1.1.1.0, ats.1.1.1.1.1.0, counted, read) refl;
    }

-- what stands in n bytes is a number of n bytes
pub number_lt : (n offset : ℕ) (page : List ℕ) → ((k : ℕ) → get_or page k 0 < 256) → number_at n offset page < 256 ^ n
unfolding number_at
number_lt n offset page bytes = big_from-lt 0 n (drop offset page) (λ k. rw (get_or-drop offset page k 0) (bytes (offset + k)))

all_map : {A : Type 0} (P : A → Type 0) (f : ℕ → A) → ((i : ℕ) → P (f i)) → (a n : ℕ) → All P (map f (range_with_len a n))
all_map P f h a n = search (rules, get_or-map-range_with_len, length-map-range_with_len)

-- four places, of which those that are not used hold a value of the same kind
places_hold : {A : Type 0} (P : A → Type 0) (rest : A) (f : ℕ → A) (used : ℕ) → used ≤ 4 → P rest → ((i : ℕ) → P (f i)) → HasRest rest used (places rest f used) × All P (places rest f used)
places_hold {A} P rest f used few ends each =
    let front : List A = map f (range_with_len 0 used) in
    let back : List A = replicate (4 - used) rest in
    let long : used ≡ length front = sym (length-map-range_with_len f 0 used) in
    let four : length (front ++ back) ≡ 4 = omega (arith, length-append front back, length-replicate {A = A} (4 - used) rest) in
    let behind : drop used (front ++ back) ≡ back = ap (λ (k : ℕ). drop k (front ++ back)) long ∙ drop-append_seam front back in
    ((four, behind), All-append P front back (all_map P f each 0 used) (All-replicate P (4 - used) rest ends))

-- a row that stands on a page is one, where its number is in range
row_is : (dims measures count : ℕ) (page : List ℕ) (i : ℕ) → dims ≤ 4 → measures ≤ 4 → ((k : ℕ) → get_or page k 0 < 256) → IsNumbered (row_on dims measures count page i)
    → IsRow dims measures (row_on dims measures count page i)
unfolding row_on
row_is dims measures count page i few_dims few_measures bytes number =
    let ds = places_hold (λ x. x < 2 ^ 32) 0 (λ d. number_at 4 (24 + 4 * count + 4 * (count * d + i)) page) dims few_dims (omega arith) (λ d. number_lt 4 _ page bytes) in
    let ms = places_hold (λ z. FitsSigned w64 z) (pos 0) (λ m. cast_signed w64 (number_at 8 (24 + 4 * count + 4 * (count * dims) + 8 * (count * m + i)) page)) measures few_measures zero_fits
    (λ m. sfits_to_z (Fits-of_lt (number_lt 8 _ page bytes))) in
    record { number = number; dims_rest = ds.0; dims_words = ds.1; measures_rest = ms.0; measures_words = ms.1 }

rows_are : (dims measures count : ℕ) (page : List ℕ) (a n : ℕ) → dims ≤ 4 → measures ≤ 4 → ((k : ℕ) → get_or page k 0 < 256)
    → AllByRecursion IsNumbered (map (row_on dims measures count page) (range_with_len a n)) → AllByRecursion (IsRow dims measures) (map (row_on dims measures count page) (range_with_len a n))
rows_are dims measures count page a zero few_dims few_measures bytes all = tt
rows_are dims measures count page a (suc n) few_dims few_measures bytes all = search (rules, (rows_are dims measures count page (a + 1) n few_dims few_measures bytes all.1), row_is)

-- what stands on a page is a region, where that is in range and in order
pub is_region : (schema : Schema) (page : List ℕ) → ((k : ℕ) → get_or page k 0 < 256) → HasCounts schema page → HasRows schema page → HasOrder schema page → HasFirst schema page
    → IsRegion schema (region_on schema page)
is_region schema page h k j l m = search (rules, length-map-range_with_len, rows_are)

-- the page of a region is not refused
pub not_refused : (schema : Schema) (region : RegionRows) (page : List ℕ) → IsRegion schema region → page ≡ region_page schema region → (e : PageFault) → IsRegionFault schema page e → ⊥
not_refused schema region page h k e j = search (rules, all_weaker, parts)

pub same_view : (view : RegionView) (dims : ℕ) (region : RegionRows) → view.dims ≡ dims → view.region ≡ region → view ≡ record { dims = dims; region = region }
same_view view dims region a b = rw (← a, ← b) refl
