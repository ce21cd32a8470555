-- What the columns of a region hold at an index.
use Rattle.std.proofs.Common.{rules, ◌≡◌, ◌<◌, ◌≤◌, ◌+◌, ◌-◌, ◌*◌, inl, inr, ℕ, ℤ, pos, zero, suc, List, [], ◌∷◌, length, map, take, replicate, get_or, Some, refl, sym, ap, arith, ◌∙◌}
use Rattle.std.proofs.Math.Seq.{get_or-take}
use Rattle.std.proofs.lemmas.Bool.{cases_order}
use Rattle.std.proofs.lemmas.List.{ext_get_or, length-take-le, get_or_append_left, get_or-append_right, get_or-replicate, length-replicate}
use Rattle.std.proofs.lemmas.List.FromFn.{length-map-range_with_len, get_or-map-range_with_len}
use Rattle.std.proofs.lemmas.Option.{slice_get-get_or, slice_get-map}
use Rattle.std.specs.Option.{option_map}
use Rattle.std.proofs.lemmas.Simd.{map-map}
use Rattle.std.specs.Int.{w64, cast_signed}
use Rattle.std.specs.List.{range_with_len, slice_get}
use Rattle.ub_region.proofs.LaneFacts.{sorted}
use Rattle.ub_bytes.specs.Bytes.{number_at}
use Rattle.ub_region.proofs.BlankRow.{blank_row}
use Rattle.ub_region.specs.Columns.{block, blank_dims, blank_measures, across, point_in, values_in, row_in, key_in}
use Rattle.ub_region.specs.RegionPage.{places, row_on}
use Rattle.ub_table.specs.Region.{key_of, keys_of}
use Rattle.ub_table.specs.declared.row.Row.{Row}

module _ {A : Type 0} where
  -- an index that holds a value
  pub block_at : (total : ℕ) (blank : A) (f : ℕ → A) (n i : ℕ) (d : A) → i < n → get_or (block total blank f n) i d ≡ f i
  block_at total blank f n i d h = search (rules, get_or-map-range_with_len, get_or_append_left, length-map-range_with_len)

  -- two functions that agree below n
  pub map_same : (f g : ℕ → A) (a n : ℕ) → ((i : ℕ) → i < n → f (a + i) ≡ g (a + i)) → map f (range_with_len a n) ≡ map g (range_with_len a n)
  map_same f g a zero h = refl
  map_same f g a (suc n) h =
      let here : a + 0 ≡ a = omega arith in
      let first : f a ≡ g a = ap f (sym here) ∙ h 0 (omega arith) ∙ ap g here in
      let more = map_same f g (a + 1) n (λ i less. let same : a + 1 + i ≡ a + suc i = omega arith in ap f same ∙ h (suc i) (omega arith) ∙ ap g (sym same)) in
      rw (first, more) refl

  pub all_same : (f g : ℕ → A) (n : ℕ) → ((i : ℕ) → i < n → f i ≡ g i) → map f (range_with_len 0 n) ≡ map g (range_with_len 0 n)
  all_same f g n h = map_same f g 0 n (λ i less. let same : 0 + i ≡ i = omega arith in ap f same ∙ h i less ∙ ap g (sym same))

  four : {a b c d e f g h : A} → a ≡ e → b ≡ f → c ≡ g → d ≡ h → a ∷ b ∷ c ∷ d ∷ [] ≡ e ∷ f ∷ g ∷ h ∷ []
  four p q r s = rw (p, q, r, s) refl

  -- the first columns hold, at an index, the values of those columns, and the others a blank one
  pub across_block : (rest : A) (g : ℕ → ℕ → A) (used i : ℕ) → used ≤ 4 → i < 64
      → across rest (block 4 (replicate 64 rest) (λ d. map (g d) (range_with_len 0 64)) used) i ≡ places rest (λ d. g d i) used
  across_block rest g used i few less = by_number used few
    where
      blank : get_or (replicate 64 rest) i rest ≡ rest
      blank = get_or-replicate 64 i rest rest less

      held : (d : ℕ) → get_or (map (g d) (range_with_len 0 64)) i rest ≡ g d i
      held d = get_or-map-range_with_len (g d) 0 64 i i rest less (omega arith)

      by_number : (used : ℕ) → used ≤ 4 → across rest (block 4 (replicate 64 rest) (λ d. map (g d) (range_with_len 0 64)) used) i ≡ places rest (λ d. g d i) used
      by_number zero few = four blank blank blank blank
      by_number (suc zero) few = four (held 0) blank blank blank
      by_number (suc (suc zero)) few = four (held 0) (held 1) blank blank
      by_number (suc (suc (suc zero))) few = four (held 0) (held 1) (held 2) blank
      by_number (suc (suc (suc (suc zero)))) few = four (held 0) (held 1) (held 2) (held 3)
      by_number (suc (suc (suc (suc (suc used))))) few = absurd (omega arith)

-- each column has so many places
pub columns_long : (g : ℕ → ℕ → ℕ) (used d : ℕ) → used ≤ 4 → d < 4 → length (get_or (block 4 blank_dims (λ d. map (g d) (range_with_len 0 64)) used) d []) ≡ 64
columns_long g used d few less = elim (sorted d used (cases_order d used)) [
  | inl held ↦
      ap length (get_or_append_left columns blanks [] d (omega (arith, many)) ∙ get_or-map-range_with_len (λ d. map (g d) (range_with_len 0 64)) 0 used d d [] held (omega arith))
      ∙ length-map-range_with_len (g d) 0 64
  | inr behind ↦
      ap length (get_or-append_right columns blanks used d [] many behind ∙ get_or-replicate (4 - used) (d - used) blank_dims [] (omega arith))
      ∙ length-replicate {A = ℕ} 64 0
]
  where
    columns : List (List ℕ)
    columns = map (λ d. map (g d) (range_with_len 0 64)) (range_with_len 0 used)

    blanks : List (List ℕ)
    blanks = replicate (4 - used) blank_dims

    many : length columns ≡ used
    many = length-map-range_with_len (λ d. map (g d) (range_with_len 0 64)) 0 used

-- the columns hold what stands on a page that tells of so many rows
pub record AreRead (dims measures count : ℕ) (page : List ℕ) (numbers : List ℕ) (points : List (List ℕ)) (values : List (List ℤ)) : Type 0 where
  pub few_dims : dims ≤ 4
  pub few_measures : measures ≤ 4
  pub few : count ≤ 64
  pub numbers_are : numbers ≡ map (λ i. number_at 4 (24 + 4 * i) page) (range_with_len 0 64)
  pub points_are : points ≡ block 4 blank_dims (λ d. map (λ i. number_at 4 (24 + 4 * count + 4 * (count * d + i)) page) (range_with_len 0 64)) dims
  pub values_are : values
      ≡ block 4 blank_measures (λ m. map (λ i. cast_signed w64 (number_at 8 (24 + 4 * count + 4 * (count * dims) + 8 * (count * m + i)) page)) (range_with_len 0 64)) measures

-- the same with each number under the name that the code has for it
pub are_read : (dims measures count used many : ℕ) (page : List ℕ) (numbers : List ℕ) (points : List (List ℕ)) (values : List (List ℤ)) → dims ≤ 4 → measures ≤ 4 → count ≤ 64
    → used ≡ dims → many ≡ measures
    → numbers ≡ map (λ i. number_at 4 (24 + 4 * i) page) (range_with_len 0 64)
    → points ≡ block 4 blank_dims (λ d. map (λ i. number_at 4 (24 + 4 * count + 4 * (count * d + i)) page) (range_with_len 0 64)) used
    → values ≡ block 4 blank_measures (λ m. map (λ i. cast_signed w64 (number_at 8 (24 + 4 * count + 4 * (count * used) + 8 * (count * m + i)) page)) (range_with_len 0 64)) many
    → AreRead dims measures count page numbers points values
are_read dims measures count used many page numbers points values h k j l m p q r = search rules

row_read : (dims measures count : ℕ) (page : List ℕ) (numbers : List ℕ) (points : List (List ℕ)) (values : List (List ℤ)) → AreRead dims measures count page numbers points values
    → (i : ℕ) → i < count → row_in numbers points values i ≡ row_on dims measures count page i
unfolding row_on
row_read dims measures count page numbers points values read i less =
    let few = read.few in
    let place : i < 64 = omega arith in
    let number : get_or numbers i 0 ≡ number_at 4 (24 + 4 * i) page
    = ap (λ (ns : List ℕ). get_or ns i 0) read.numbers_are ∙ get_or-map-range_with_len (λ i. number_at 4 (24 + 4 * i) page) 0 64 i i 0 place (omega arith) in
    let point : point_in points i ≡ places 0 (λ d. number_at 4 (24 + 4 * count + 4 * (count * d + i)) page) dims
    = ap (λ (ps : List (List ℕ)). point_in ps i) read.points_are ∙ across_block 0 (λ d i. number_at 4 (24 + 4 * count + 4 * (count * d + i)) page) dims i read.few_dims place in
    let value : values_in values i ≡ places (pos 0) (λ m. cast_signed w64 (number_at 8 (24 + 4 * count + 4 * (count * dims) + 8 * (count * m + i)) page)) measures
    = ap (λ (vs : List (List ℤ)). values_in vs i) read.values_are
    ∙ across_block (pos 0) (λ m i. cast_signed w64 (number_at 8 (24 + 4 * count + 4 * (count * dims) + 8 * (count * m + i)) page)) measures i read.few_measures place in
    rw (number, point, value) refl

-- the rows in the columns are those on the page
pub rows_read : (dims measures count : ℕ) (page : List ℕ) (numbers : List ℕ) (points : List (List ℕ)) (values : List (List ℤ)) → AreRead dims measures count page numbers points values
    → map (row_in numbers points values) (range_with_len 0 count) ≡ map (row_on dims measures count page) (range_with_len 0 count)
rows_read dims measures count page numbers points values h = search (rules, all_same, row_read)

-- a row is that of its columns
pub row_there : (numbers : List ℕ) (points : List (List ℕ)) (values : List (List ℤ)) (count i : ℕ) → i < length (map (row_in numbers points values) (range_with_len 0 count))
    → slice_get (map (row_in numbers points values) (range_with_len 0 count)) i ≡ Some (row_in numbers points values i)
row_there numbers points values count i less =
    let long : length (map (row_in numbers points values) (range_with_len 0 count)) ≡ count = length-map-range_with_len (row_in numbers points values) 0 count in
    slice_get-get_or (map (row_in numbers points values) (range_with_len 0 count)) i blank_row less
    ∙ ap Some (get_or-map-range_with_len (row_in numbers points values) 0 count i i blank_row (omega arith) (omega arith))

-- and so is its key
pub key_there_in : (dims : ℕ) (numbers : List ℕ) (points : List (List ℕ)) (values : List (List ℤ)) (count i : ℕ) → i < length (map (row_in numbers points values) (range_with_len 0 count))
    → slice_get (keys_of dims (map (row_in numbers points values) (range_with_len 0 count))) i ≡ Some (key_in dims numbers points i)
key_there_in dims numbers points values count i less =
    slice_get-map (key_of dims) (map (row_in numbers points values) (range_with_len 0 count)) i
    ∙ ap (option_map (key_of dims)) (row_there numbers points values count i less)

-- the keys of all rows, and their numbers
pub keys_in : (dims : ℕ) (numbers : List ℕ) (points : List (List ℕ)) (values : List (List ℤ)) (count : ℕ)
    → keys_of dims (map (row_in numbers points values) (range_with_len 0 count)) ≡ map (key_in dims numbers points) (range_with_len 0 count)
keys_in dims numbers points values count = map-map (key_of dims) (row_in numbers points values) (range_with_len 0 count)

pub numbers_in : (numbers : List ℕ) (points : List (List ℕ)) (values : List (List ℤ)) (count : ℕ) → count ≤ length numbers
    → take count numbers ≡ map (λ (row : Row). row.number) (map (row_in numbers points values) (range_with_len 0 count))
numbers_in numbers points values count few =
    ext_get_or 0 (take count numbers) (map (λ i. get_or numbers i 0) (range_with_len 0 count))
    (length-take-le count numbers few ∙ sym (length-map-range_with_len (λ i. get_or numbers i 0) 0 count))
    (λ i lt. let less : i < count = omega (arith, length-take-le count numbers few) in
    get_or-take count numbers i 0 less ∙ sym (get_or-map-range_with_len (λ i. get_or numbers i 0) 0 count i i 0 less (omega arith)))
    ∙ sym (map-map (λ (row : Row). row.number) (row_in numbers points values) (range_with_len 0 count))
