-- A page whose other bytes are zero is spelled by what stands on it.
use Rattle.std.proofs.lemmas.Grind.{common_steps}
use Rattle.std.proofs.Common.{rules, ◌≡◌, ◌<◌, ◌≤◌, ◌+◌, ◌-◌, ◌*◌, ◌/◌, ◌%◌, ◌^◌, ◌++◌, ℕ, zero, suc, List, [], ◌∷◌, length, map, take, drop, replicate, get_or, slice_index, refl, sym, ap, arith, ◌∙◌, append_assoc}
use Rattle.byteorder.specs.Endian.{big_number, big_from}
use Rattle.byteorder.specs.Numbers.{big_from-cons, big_from-lt}
use Rattle.std.proofs.Math.Nat.{mul-le-mul_left, mul_assoc, mul_comm, pow-suc, mod-eq_of_lt, mul-add-mod_self_right, mul-add-div_right}
use Rattle.std.proofs.Math.Seq.{take-add}
use Rattle.std.proofs.lemmas.Int.{of_z-to_z}
use Rattle.std.proofs.lemmas.List.{length-append, length-drop, length-take-le, get_or-drop, drop-drop, take-append-drop}
use Rattle.std.proofs.lemmas.List.FromFn.{length-map-range_with_len}
use Rattle.std.proofs.lemmas.Nat.{div-mul-add}
use Rattle.std.specs.Int.{byte_at, bytes_high_first}
use Rattle.std.specs.List.{flat_map, range_with_len}
use Rattle.ub_bytes.proofs.BytesFacts.{AreAt, layout_len, length-layout}
use Rattle.ub_region.proofs.ColumnFacts.{block_at}
use Rattle.ub_bytes.proofs.DraftFacts.{of_front, same_count}
use Rattle.ub_region.proofs.RegionFacts.{parts, number_lt, length-column, length-columns}
use Rattle.ub_bytes.specs.Bytes.{number_bytes, number_at, layout}
use Rattle.ub_region.specs.Columns.{end_with}
use Rattle.ub_region.specs.RegionPage.{column, columns, dim_of, measure_of, head_fields, region_page, row_on, region_on, IsRegionKind, HasCounts, HasRows, HasOrder, HasFirst, IsRegionFault}
use Rattle.ub_table.specs.Region.{RegionRows, measures_of, IsRegion}
use Rattle.ub_table.specs.declared.fault.PageFault.TheVariants.{BadPadding}
use Rattle.ub_table.specs.declared.row.Row.{Row}
use Rattle.ub_table.specs.declared.schema.Schema.{Schema}

byte_is : (i n : ℕ) → byte_at i n ≡ n / 256 ^ i % 256
byte_is i n = search rules

power_pos : (k : ℕ) → 0 < 256 ^ k
power_pos zero = omega arith
power_pos (suc k) = let p = power_pos k in rw pow-suc (omega arith)

-- what stands above k bytes doesn't show in them
low_bytes : (k a r : ℕ) → bytes_high_first k (a * 256 ^ k + r) ≡ bytes_high_first k r
low_bytes zero a r = refl
low_bytes (suc k) a r = grind (arith, common_steps, (low_bytes k (a * 256) r), byte_is, mul-add-div_right, mul-add-mod_self_right, mul_assoc, mul_comm, pow-suc, power_pos)

bytes-big_number : (n : ℕ) (xs : List ℕ) → n ≤ length xs → ((i : ℕ) → slice_index xs i < 256) → bytes_high_first n (big_number n xs) ≡ take n xs
bytes-big_number zero xs h small = refl
bytes-big_number (suc n) [] h small = absurd (omega arith)
bytes-big_number (suc n) (x ∷ xs) h small =
    let r = big_from-cons 0 n x xs in
    let below = big_from-lt 0 n xs (λ i. small (suc i)) in
    let head : byte_at n (x * 256 ^ n + big_from 0 n xs) ≡ x =
    byte_is n _ ∙ ap (λ (y : ℕ). y % 256) (div-mul-add x (256 ^ n) (big_from 0 n xs) below) ∙ mod-eq_of_lt (small 0) in
    let rest : bytes_high_first n (x * 256 ^ n + big_from 0 n xs) ≡ take n xs = low_bytes n x (big_from 0 n xs) ∙ bytes-big_number n xs (omega arith) (λ i. small (suc i)) in
    rw (r, head, rest) refl

-- a number that stands in some bytes is spelled by them
bytes_back : (n offset : ℕ) (page : List ℕ) → offset + n ≤ length page → ((k : ℕ) → get_or page k 0 < 256) → number_bytes n (number_at n offset page) ≡ take n (drop offset page)
unfolding number_bytes number_at
bytes_back n offset page within small = bytes-big_number n (drop offset page) (omega (arith, length-drop offset page)) (λ k. rw (get_or-drop offset page k 0) (small (offset + k)))

-- the bytes from an offset on, some and then more
pub joined : (offset m n next : ℕ) (page xs ys : List ℕ) → next ≡ offset + m → xs ≡ take m (drop offset page) → ys ≡ take n (drop next page) → xs ++ ys ≡ take (m + n) (drop offset page)
joined offset m n next page xs ys at first rest = search (rules, drop-drop, take-add)

pub layout_back : (fields : List (ℕ × ℕ)) (offset : ℕ) (page : List ℕ) → ((k : ℕ) → get_or page k 0 < 256) → offset + layout_len fields ≤ length page → AreAt offset fields page
    → layout fields ≡ take (layout_len fields) (drop offset page)
layout_back [] offset page small within there = refl
layout_back (field ∷ fields) offset page small within there = search (rules, (layout_back fields (offset + field.0) page small (omega arith) there.1), bytes_back, joined, layout_len)

column_back : (width offset : ℕ) (number : Row → ℕ) (f : ℕ → Row) (page : List ℕ) (a n : ℕ) → ((k : ℕ) → get_or page k 0 < 256)
    → ((i : ℕ) → number (f i) ≡ number_at width (offset + width * i) page) → offset + width * (a + n) ≤ length page
    → column width number (map f (range_with_len a n)) ≡ take (width * n) (drop (offset + width * a) page)
column_back width offset number f page a zero small is within = search (rules, bytes_back, joined)
column_back width offset number f page a (suc n) small is within = search (rules, (column_back width offset number f page (a + 1) n small is (omega arith)), bytes_back, joined)

columns_back : (width offset count : ℕ) (number : ℕ → Row → ℕ) (rows : List Row) (page : List ℕ) (a n : ℕ)
    → ((d : ℕ) → d < a + n → column width (number d) rows ≡ take (width * count) (drop (offset + width * (count * d)) page))
    → flat_map (λ i. column width (number i) rows) (range_with_len a n) ≡ take (width * (count * n)) (drop (offset + width * (count * a)) page)
columns_back width offset count number rows page a zero each = grind (arith, common_steps, joined)
columns_back width offset count number rows page a (suc n) each = grind (arith, common_steps, (columns_back width offset count number rows page (a + 1) n (λ d less. each d (omega arith))), joined)

-- a row's values are those on the page
dim_on : (dims measures count i d : ℕ) (page : List ℕ) → d < dims → dim_of d (row_on dims measures count page i) ≡ number_at 4 (24 + 4 * count + 4 * (count * d + i)) page
unfolding row_on
dim_on dims measures count i d page less = block_at 4 0 (λ d. number_at 4 (24 + 4 * count + 4 * (count * d + i)) page) dims d 0 less

number_on : (dims measures count i : ℕ) (page : List ℕ) → (row_on dims measures count page i).number ≡ number_at 4 (24 + 4 * i) page
unfolding row_on
number_on dims measures count i page = refl

measure_on : (dims measures count i m : ℕ) (page : List ℕ) → ((k : ℕ) → get_or page k 0 < 256) → m < measures
    → measure_of m (row_on dims measures count page i) ≡ number_at 8 (24 + 4 * count + 4 * (count * dims) + 8 * (count * m + i)) page
unfolding row_on
measure_on dims measures count i m page h k = search (rules, block_at, number_lt, of_z-to_z)

four_parts : (a b c d : List ℕ) → a ++ (b ++ (c ++ d)) ≡ ((a ++ b) ++ c) ++ d
four_parts a b c d = simp append_assoc

-- the fields of a region have room on a page
room_for : (dims measures count : ℕ) → dims ≤ 4 → measures ≤ 4 → count ≤ 64 → 24 + 4 * count + 4 * (count * dims) + 8 * (count * measures) ≤ 4096
room_for dims measures count h k j = search rules

room_for_one : (used count d : ℕ) → d < used → count * d + count ≤ count * used
room_for_one used count d less = let a : count * (d + 1) ≤ count * used = mul-le-mul_left count (omega arith) in omega arith

-- all bytes up to the end of the last field
fields_back : (schema : Schema) (page : List ℕ) → length page ≡ 4096 → ((k : ℕ) → get_or page k 0 < 256) → IsRegionKind page → HasCounts schema page
    → layout (head_fields schema.dims (measures_of schema) (length (region_on schema page).rows) (region_on schema page).first)
    ++ (column 4 (λ row. row.number) (region_on schema page).rows ++ (columns 4 dim_of schema.dims (region_on schema page).rows ++ columns 8 measure_of (measures_of schema) (region_on schema page).rows))
    ≡ take (end_with schema (number_at 1 3 page)) page
fields_back schema page long small kind counts =
    let dims = schema.dims in
    let measures : ℕ = measures_of schema in
    let count : ℕ = number_at 1 3 page in
    let row = row_on dims measures count page in
    let rows : List Row = map row (range_with_len 0 count) in
    let few_dims = schema.counts.few_dims in
    let few_columns = schema.counts.few_measures in
    let few_rows = schema.counts.few_rows in
    let few = counts.2 in
    let room = room_for dims measures count few_dims (omega arith) (omega arith) in
    let counted : count ≡ length rows = sym (length-map-range_with_len row 0 count) in
    let head = head_fields dims measures (length rows) (region_on schema page).first in
    let heads : layout head ≡ take 24 (drop 0 page) = layout_back head 0 page small (omega arith) (kind, (counts.0, (counts.1, (counted, (refl, (refl, tt)))))) in
    let numbers : column 4 (λ row. row.number) rows ≡ take (4 * count) (drop 24 page) =
    column_back 4 24 (λ row. row.number) row page 0 count small (λ i. number_on dims measures count i page) (omega arith) in
    let points : columns 4 dim_of dims rows ≡ take (4 * (count * dims)) (drop (24 + 4 * count) page) =
    columns_back 4 (24 + 4 * count) count dim_of rows page 0 dims
    (λ d less. column_back 4 (24 + 4 * count + 4 * (count * d)) (dim_of d) row page 0 count small
    (λ i. dim_on dims measures count i d page (omega arith) ∙ ap (λ (k : ℕ). number_at 4 k page) (omega arith)) (omega (arith, room_for_one dims count d (omega arith)))
    ∙ ap (λ (k : ℕ). take (4 * count) (drop k page)) (omega arith))
    ∙ ap (λ (k : ℕ). take (4 * (count * dims)) (drop k page)) (omega arith) in
    let values : columns 8 measure_of measures rows ≡ take (8 * (count * measures)) (drop (24 + 4 * count + 4 * (count * dims)) page) =
    columns_back 8 (24 + 4 * count + 4 * (count * dims)) count measure_of rows page 0 measures
    (λ m less. column_back 8 (24 + 4 * count + 4 * (count * dims) + 8 * (count * m)) (measure_of m) row page 0 count small
    (λ i. measure_on dims measures count i m page small (omega arith) ∙ ap (λ (k : ℕ). number_at 8 k page) (omega arith)) (omega (arith, room_for_one measures count m (omega arith)))
    ∙ ap (λ (k : ℕ). take (8 * count) (drop k page)) (omega arith))
    ∙ ap (λ (k : ℕ). take (8 * (count * measures)) (drop k page)) (omega arith) in
    four_parts (layout head) (column 4 (λ row. row.number) rows) (columns 4 dim_of dims rows) (columns 8 measure_of measures rows)
    ∙ joined 0 (24 + 4 * count + 4 * (count * dims)) (8 * (count * measures)) (24 + 4 * count + 4 * (count * dims)) page _ _ (omega arith)
    (joined 0 (24 + 4 * count) (4 * (count * dims)) (24 + 4 * count) page _ _ (omega arith) (joined 0 24 (4 * count) 24 page _ _ refl heads numbers) points) values

-- a page that is blank behind its last field is spelled by what stands on it
pub spelled : (schema : Schema) (page : List ℕ) → length page ≡ 4096 → ((k : ℕ) → get_or page k 0 < 256) → IsRegionKind page → HasCounts schema page
    → drop (end_with schema (number_at 1 3 page)) page ≡ replicate (4096 - end_with schema (number_at 1 3 page)) 0 → page ≡ region_page schema (region_on schema page)
unfolding region_page
spelled schema page h k j l m = grind (arith, fields_back, length-take-le, room_for, take-append-drop)

-- a page of a region is blank behind its last field
pub blank_behind : (schema : Schema) (region : RegionRows) (page : List ℕ) → IsRegion schema region → page ≡ region_page schema region
    → drop (end_with schema (number_at 1 3 page)) page ≡ replicate (4096 - end_with schema (number_at 1 3 page)) 0
unfolding region_page
blank_behind schema region page is e =
    let dims = schema.dims in
    let measures : ℕ = measures_of schema in
    let rows = region.rows in
    let count : number_at 1 3 page ≡ length rows =
    sym (length-map-range_with_len (row_on dims measures (number_at 1 3 page) page) 0 (number_at 1 3 page)) ∙ ap (λ (r : RegionRows). length r.rows) ((parts schema region page is e).on) in
    let head = head_fields dims measures (length rows) region.first in
    let numbers = column 4 (λ row. row.number) rows in
    let points = columns 4 dim_of dims rows in
    let values = columns 8 measure_of measures rows in
    let bytes = layout head ++ (numbers ++ (points ++ values)) in
    let at : end_with schema (length rows) ≡ length bytes =
    omega (
      arith,
      length-append (layout head) (numbers ++ (points ++ values)),
      length-append numbers (points ++ values),
      length-append points values,
      length-layout head,
      length-column 4 (λ row. row.number) rows,
      length-columns 4 dim_of 0 dims rows,
      length-columns 8 measure_of 0 measures rows,
    ) in
    rw count ((of_front bytes (replicate (4096 - length bytes) 0) page (end_with schema (length rows)) at e).0 ∙ same_count (4096 - length bytes) (4096 - end_with schema (length rows)) 0 (omega arith))

-- a page that isn't has none that spells it
pub padding_fault : (schema : Schema) (page : List ℕ) → IsRegionKind page → HasCounts schema page → HasRows schema page → HasOrder schema page → HasFirst schema page
    → ((drop (end_with schema (number_at 1 3 page)) page ≡ replicate (4096 - end_with schema (number_at 1 3 page)) 0) → ⊥) → IsRegionFault schema page BadPadding
padding_fault schema page kind counts rows order first other = (kind, counts, rows, order, first, λ r is e. other (blank_behind schema r page is e))

-- the end of the fields is told by the page
pub end_is : (schema : Schema) (page : List ℕ) (region : RegionRows) (len end : ℕ) → region ≡ region_on schema page → len ≡ length region.rows → end ≡ end_with schema len
    → end ≡ end_with schema (number_at 1 3 page)
end_is schema page region len end h k j = search (rules, length-map-range_with_len)
