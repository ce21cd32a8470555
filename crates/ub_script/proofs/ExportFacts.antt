-- That an export is loaded again as the same table.
use Rattle.std.proofs.Common.{◌≡◌, ◌≤◌, ◌<◌, ◌+◌, ◌-◌, ◌==◌, ◌||◌, ℕ, zero, suc, ℤ, pos, negsuc, neg_ℤ, Bool, true, false, not, if◌then◌else◌, nat_lt, FitsSigned, List, [], ◌∷◌, ◌++◌, length, map, filter, take, drop, reverse, replicate, slice_get, slice_index, slice_index_or, Option, Some, None, inl, inr, decimal, refl, sym, ap, subst, ◌∙◌, append_assoc, append-nil, ne_eqb, lt-ltb, le-ltb, arith}
use Rattle.std.proofs.Math.Seq.{take-append_seam, drop-append_seam}
use Rattle.std.proofs.lemmas.Bool.{and_parts, and_from, cases_Bool}
use Rattle.std.proofs.lemmas.Bool.Decides.{nat_tests}
use Rattle.std.proofs.lemmas.Fmt.{decimal_is_IsNumeral}
use Rattle.std.proofs.lemmas.List.{get_or-take, length-append, length-map, length-take-le, map-append, reverse-append, reverse-reverse, take-append-drop}
use Rattle.std.proofs.lemmas.List.Elements.{All-take, recursion_from_All}
use Rattle.std.proofs.lemmas.List.FromFn.{length-enumerate_from}
use Rattle.std.proofs.lemmas.Slice.Eq.{bytes_eq-Decides}
use Rattle.std.specs.Fmt.{signed_decimal}
use Rattle.std.specs.Int.{w64}
use Rattle.std.specs.List.{AllByRecursion, enumerate_from, flat_map, join_with_byte, list_all, list_any}
use Rattle.std.specs.List.Sorted.{IsStrictlyIncreasing}
use Rattle.std.specs.Str.{bytes_eq}
use Rattle.std.specs.Str.Parse.{IsNumeral, digits_value, without_leading_sign}
use Rattle.csv.proofs.RoundTrip.{read-write}
use Rattle.csv.specs.Machine.{next_record}
use Rattle.csv.specs.Reading.{default_config, records, records_from, records_next, strip_bom}
use Rattle.csv.specs.Writing.{default_writer, field_text, fields_text, is_blank, needs_byte, quoted, row_body, row_text}
use Rattle.csv.specs.declared.parser.State.TheVariants as st
use Rattle.ub_load.proofs.FieldFacts.{fits_from, fits_to, number_from}
use Rattle.ub_load.proofs.HeaderFacts.{header_with_names, name_fine, never_true}
use Rattle.ub_load.proofs.RefusalFacts.{content_is_of_fields, enumerate_from-append, first-skip, record_is_fine}
use Rattle.ub_load.specs.Field.{after_spaces, is_number, number_of, trimmed}
use Rattle.ub_load.specs.LoadedTable.{coordinate_of, coordinates_of, measures_of, records_of, row_of, rows_of}
use Rattle.ub_load.specs.Refusals.{field_refusal, first_of, first_refusal, header_refusals, name_refusal, record_refusals, refusals}
use Rattle.ub_load.specs.declared.fault.LoadFault.{LoadFault}
use Rattle.ub_parser.specs.Sense.{all_columns}
use Rattle.ub_query.proofs.Laws.{plain_queries_mean, queries_have_one_meaning}
use Rattle.ub_query.specs.Cells.{name_of, row_cell, title}
use Rattle.ub_query.specs.Groups.{is_selected, selected}
use Rattle.ub_query.specs.Meaning.{IsMeaning, titles}
use Rattle.ub_query.specs.Posed.{IsAggregate, IsGroupQuery}
use Rattle.ub_query.specs.declared.cell.Cell.{Cell}
use Rattle.ub_query.specs.declared.query.Item.{Item}
use Rattle.ub_query.specs.declared.query.Item.TheVariants.{Column, Count, Aggregate}
use Rattle.ub_script.proofs.AnswerFacts.{AreHigh, after, answers_are_their_lines, decimal_high, line_split, name_high}
use Rattle.ub_script.specs.Exports.{all_rows, renumbered}
use Rattle.ub_script.specs.Laws.{ExportsAreLoaded}
use Rattle.ub_script.specs.Parts.{answers_in}
use Rattle.ub_script.specs.Text.{answer_text, cell_text, comma_line, row_line}
use Rattle.ub_table.proofs.Laws.{coordinates_are_values, fits_some_measure}
use Rattle.ub_table.specs.Name.{IsName, is_name, is_word_byte}
use Rattle.ub_table.specs.Region.{IsRow, measures_of as measure_count}
use Rattle.ub_table.specs.Schema.{AreDistinct}
use Rattle.ub_table.specs.Table.{Table, IsInOrder, column_value}
use Rattle.ub_table.specs.Value.{axes_of, coordinate_at, fits_at, fits_measure, value_at}
use Rattle.ub_table.specs.declared.axes.Axes.{Axes}
use Rattle.ub_table.specs.declared.row.Row.{Row}
use Rattle.ub_table.specs.declared.schema.Schema.{Schema}
use Rattle.ub_tree.specs.Change.{numbered}

-- ---- the bytes of texts

-- none of the bytes is less than `-`
abbrev AreFrom45 : List ℕ → Type 0
AreFrom45 bytes = AllByRecursion (λ b. 45 ≤ b) bytes

from_high : (bytes : List ℕ) → AreHigh bytes → AreFrom45 bytes
from_high [] h = tt
from_high (b ∷ bytes) h = (let low = h.0 in omega (arith, low), from_high bytes h.1)

text_from : (v : ℤ) → AreFrom45 (signed_decimal v)
text_from (pos n) = from_high (decimal n) (decimal_high n)
text_from (negsuc n) = (omega arith, from_high (decimal (suc n)) (decimal_high (suc n)))

from_append : (xs ys : List ℕ) → AreFrom45 xs → AreFrom45 ys → AreFrom45 (xs ++ ys)
from_append [] ys h k = k
from_append (x ∷ xs) ys h k = (h.0, from_append xs ys h.1 k)

from_reverse : (xs : List ℕ) → AreFrom45 xs → AreFrom45 (reverse xs)
from_reverse [] h = tt
from_reverse (x ∷ xs) h = subst AreFrom45 (sym (reverse-append (x ∷ []) xs)) (from_append (reverse xs) (x ∷ []) (from_reverse xs h.1) (h.0, tt))

no_space_first : (xs : List ℕ) → AreFrom45 xs → after_spaces xs ≡ xs
no_space_first [] h = refl
no_space_first (x ∷ xs) h = let other : (x == 32) ≡ false = ne_eqb x 32 (λ e. let low = h.0 in omega (arith, e, low)) in rw other refl

-- nothing is trimmed
pub untrimmed : (xs : List ℕ) → AreFrom45 xs → trimmed xs ≡ xs
unfolding trimmed
untrimmed xs h =
    ap (λ (s : List ℕ). reverse (after_spaces (reverse s))) (no_space_first xs h) ∙ ap reverse (no_space_first (reverse xs) (from_reverse xs h)) ∙ reverse-reverse xs

all_untrimmed : (names : List (List ℕ)) → AllByRecursion IsName names → map trimmed names ≡ names
all_untrimmed [] h = refl
all_untrimmed (name ∷ names) h =
    let first : trimmed name ≡ name = untrimmed name (from_high name (name_high name h.0)) in
    let rest = all_untrimmed names h.1 in
    λ i. first i ∷ rest i

-- ---- lines as `csv` writes them

-- the text is written without quotes
abbrev IsPlain : List ℕ → Type 0
IsPlain text = list_any (needs_byte default_writer) text ≡ false

neither : (a b : Bool) → a ≡ false → b ≡ false → (a || b) ≡ false
neither a b none nor = rw (none, nor) refl

plain_byte : (b : ℕ) → 45 ≤ b → needs_byte default_writer b ≡ false
plain_byte b low =
    let comma : (b == 44) ≡ false = ne_eqb b 44 (λ e. omega (arith, e, low)) in
    let quote : (b == 34) ≡ false = ne_eqb b 34 (λ e. omega (arith, e, low)) in
    let carriage : (b == 13) ≡ false = ne_eqb b 13 (λ e. omega (arith, e, low)) in
    let feed : (b == 10) ≡ false = ne_eqb b 10 (λ e. omega (arith, e, low)) in
    rw (comma, quote, carriage, feed) refl

plain_text : (text : List ℕ) → AreFrom45 text → IsPlain text
plain_text [] h = refl
plain_text (b ∷ text) h = neither (needs_byte default_writer b) (list_any (needs_byte default_writer) text) (plain_byte b h.0) (plain_text text h.1)

unquoted : (needs : Bool) (with_quotes text : List ℕ) → needs ≡ false → (if needs then with_quotes else text) ≡ text
unquoted needs with_quotes text none = rw none refl

field_is : (text : List ℕ) → IsPlain text → field_text default_writer text ≡ text
field_is text plain = unquoted (list_any (needs_byte default_writer) text) (quoted default_writer text) text plain

body_is : (x : List ℕ) (xs : List (List ℕ)) → AllByRecursion IsPlain (x ∷ xs) → row_body default_writer (x ∷ xs) ≡ join_with_byte 44 (x ∷ xs)
unfolding fields_text
body_is x [] h = append-nil (field_text default_writer x) ∙ field_is x h.0
body_is x (y ∷ ys) h =
    let first = field_is x h.0 in
    let rest = body_is y ys h.1 in
    λ i. first i ++ (44 ∷ rest i)

not_blank : (x : List ℕ) (xs : List (List ℕ)) → IsPlain x → 0 < length x → is_blank default_writer (x ∷ xs) ≡ false
unfolding is_blank
not_blank x [] plain some = ap (λ (text : List ℕ). length text == 0) (field_is x plain) ∙ ne_eqb (length x) 0 (λ e. omega (arith, e, some))
not_blank x (y ∷ ys) plain some = refl

-- some texts, none of which is written with quotes, and the first has bytes
abbrev IsPlainRow : List (List ℕ) → Type 0
IsPlainRow [] = ⊥
IsPlainRow (x ∷ xs) = (0 < length x) × AllByRecursion IsPlain (x ∷ xs)

row_is : (x : List ℕ) (xs : List (List ℕ)) → IsPlainRow (x ∷ xs) → row_text default_writer (x ∷ xs) ≡ comma_line (x ∷ xs)
row_is x xs h =
    let body = body_is x xs h.1 in
    let blank = not_blank x xs h.1.0 h.0 in
    let tail : (if is_blank default_writer (x ∷ xs) then 34 ∷ 34 ∷ [] else []) ++ 10 ∷ [] ≡ 10 ∷ [] = ap (λ (b : Bool). (if b then 34 ∷ 34 ∷ [] else []) ++ 10 ∷ []) blank in
    λ i. body i ++ tail i

-- so such a line is read back
line_read : (texts : List (List ℕ)) (rest : List ℕ) → IsPlainRow texts → next_record default_config st.StartRecord [] [] (comma_line texts ++ rest) ≡ Some (texts, st.StartRecord, rest)
line_read [] rest h = absurd h
line_read (x ∷ xs) rest h =
    ap (λ (text : List ℕ). next_record default_config st.StartRecord [] [] (text ++ rest)) (sym (row_is x xs h)) ∙ read-write (x ∷ xs) rest

no_more : next_record default_config st.StartRecord [] [] [] ≡ None
unfolding next_record
no_more = refl

-- and lines are
lines_read : (n : ℕ) (rows : List (List (List ℕ))) → length rows ≤ n → AllByRecursion IsPlainRow rows
    → records_from default_config n st.StartRecord (flat_map comma_line rows) ≡ rows
unfolding records_from
lines_read zero [] few h = refl
lines_read (suc n) [] few h = ap (records_next (records_from default_config n)) no_more
lines_read zero (row ∷ rows) few h = absurd (omega (arith, few))
lines_read (suc n) (row ∷ rows) few h =
    ap (records_next (records_from default_config n)) (line_read row (flat_map comma_line rows) h.0)
    ∙ ap (λ (others : List (List (List ℕ))). row ∷ others) (lines_read n rows (omega (arith, few)) h.1)

-- each line has a byte at least
many_bytes : (rows : List (List (List ℕ))) → length rows ≤ length (flat_map comma_line rows)
many_bytes [] = omega arith
many_bytes (row ∷ rows) =
    let more = many_bytes rows in
    let whole = length-append (comma_line row) (flat_map comma_line rows) in
    let line = length-append (join_with_byte 44 row) (10 ∷ []) in
    omega (arith, more, whole, line)

all_read : (rows : List (List (List ℕ))) → AllByRecursion IsPlainRow rows → records default_config (flat_map comma_line rows) ≡ rows
all_read rows h = lines_read (length (flat_map comma_line rows) + 1) rows (let many = many_bytes rows in omega (arith, many)) h

-- ---- the first byte

word_byte_low : (c : ℕ) → is_word_byte c ≡ true → c ≤ 122
word_byte_low c h = grind (arith, nat_tests)

name_first : (c : ℕ) (rest : List ℕ) → IsName (c ∷ rest) → c ≤ 122
unfolding is_name
name_first c rest is = word_byte_low c (and_parts (is_word_byte c) (list_all is_word_byte rest) (and_parts _ _ (and_parts _ _ is).0).1).0

no_name : IsName [] → ⊥
unfolding is_name
no_name is = cc

some_name : (name : List ℕ) → IsName name → 0 < length name
some_name [] is = absurd (no_name is)
some_name (c ∷ rest) is = omega arith

strip_none : (a : ℕ) (rest : List ℕ) → (a == 239) ≡ false → strip_bom (a ∷ rest) ≡ a ∷ rest
unfolding strip_bom
strip_none a [] h = refl
strip_none a (b ∷ []) h = refl
strip_none a (b ∷ c ∷ rest) h = rw h refl

-- nothing is dropped before the names
pub unstripped : (names : List (List ℕ)) (rest : List ℕ) → 0 < length names → AllByRecursion IsName names → strip_bom (comma_line names ++ rest) ≡ comma_line names ++ rest
unstripped [] rest some h = absurd (omega (arith, some))
unstripped ([] ∷ names) rest some h = absurd (no_name h.0)
unstripped ((c ∷ name) ∷ names) rest some h =
    let low = name_first c name h.0 in
    subst (λ (line : List ℕ). strip_bom (line ++ rest) ≡ line ++ rest) (sym (line_split (c ∷ name) names))
    (strip_none c ((name ++ after names) ++ rest) (ne_eqb c 239 (λ e. omega (arith, e, low))))

-- ---- numbers and their texts

digit_no_sign : (c : ℕ) → 48 ≤ c → ((c == 45) ≡ false) × ((c == 43) ≡ false)
digit_no_sign c low = (ne_eqb c 45 (λ e. omega (arith, e, low)), ne_eqb c 43 (λ e. omega (arith, e, low)))

unsigned : (ds : List ℕ) → AreHigh ds → without_leading_sign ds ≡ ds
unsigned [] h = refl
unsigned (c ∷ ds) h = let sign = digit_no_sign c h.0 in rw (sign.0, sign.1) refl

number_high : (ds : List ℕ) → AreHigh ds → number_of ds ≡ pos (digits_value 10 ds)
unfolding number_of
number_high [] h = refl
number_high (c ∷ ds) h = let sign = digit_no_sign c h.0 in rw (sign.0, sign.1) refl

number_minus : (ds : List ℕ) → number_of (45 ∷ ds) ≡ neg_ℤ (pos (digits_value 10 ds))
unfolding number_of
number_minus ds = refl

numeral : (n : ℕ) → n ≤ 9223372036854775808 → IsNumeral 10 (decimal n) × (digits_value 10 (decimal n) ≡ n)
numeral n le = decimal_is_IsNumeral n (omega (arith, le))

least : (n : ℕ) → fits_measure (pos n) ≡ true → n ≤ 9223372036854775808
least n fits = let l : n < 9223372036854775808 = (fits_to (pos n) fits).sfits in omega (arith, l)

least_below : (n : ℕ) → fits_measure (negsuc n) ≡ true → suc n ≤ 9223372036854775808
least_below n fits = let l : n < 9223372036854775808 = (fits_to (negsuc n) fits).sfits in omega (arith, l)

text_is_number : (v : ℤ) → fits_measure v ≡ true → is_number (signed_decimal v) ≡ true
text_is_number (pos n) fits = number_from (decimal n) (subst (IsNumeral 10) (sym (unsigned (decimal n) (decimal_high n))) (numeral n (least n fits)).0)
text_is_number (negsuc n) fits = number_from (45 ∷ decimal (suc n)) (numeral (suc n) (least_below n fits)).0

text_number : (v : ℤ) → fits_measure v ≡ true → number_of (signed_decimal v) ≡ v
text_number (pos n) fits = number_high (decimal n) (decimal_high n) ∙ ap pos (numeral n (least n fits)).1
text_number (negsuc n) fits = number_minus (decimal (suc n)) ∙ ap (λ (m : ℕ). neg_ℤ (pos m)) (numeral (suc n) (least_below n fits)).1

some_text : (v : ℤ) → fits_measure v ≡ true → 0 < length (signed_decimal v)
some_text (pos n) fits = (numeral n (least n fits)).0.0
some_text (negsuc n) fits = omega arith

-- a field reads as the number that it was written of
field_number : (v : ℤ) → fits_measure v ≡ true → number_of (trimmed (signed_decimal v)) ≡ v
field_number v fits = ap number_of (untrimmed (signed_decimal v) (text_from v)) ∙ text_number v fits

field_fine : (axes : Axes) (row a : ℕ) (v : ℤ) → fits_at axes a v ≡ true → field_refusal axes row (a, signed_decimal v) ≡ None
field_fine axes row a v fits =
    let small = fits_some_measure axes a v fits in
    rw (untrimmed (signed_decimal v) (text_from v), text_is_number v small, text_number v small, fits) refl

-- ---- some values, and their texts

first_none : (o : Option LoadFault) (rest : List (Option LoadFault)) → o ≡ None → first_of rest ≡ None → first_of (o ∷ rest) ≡ None
first_none o rest none nor = rw none nor

texts_plain : (vs : List ℤ) → AllByRecursion IsPlain (map signed_decimal vs)
texts_plain [] = tt
texts_plain (v ∷ vs) = (plain_text (signed_decimal v) (text_from v), texts_plain vs)

module _ (axes : Axes) where
  -- what coordinates stand for, in the dimensions from one on
  abbrev values_from : ℕ → List ℕ → List ℤ
  values_from a xs = map (λ p. value_at axes p.0 p.1) (enumerate_from a xs)

  -- the columns from one on can hold these
  abbrev Fit : ℕ → List ℤ → Type 0
  Fit a vs = AllByRecursion (λ p. fits_at axes p.0 p.1 ≡ true) (enumerate_from a vs)

  coordinate_is : (a x : ℕ) → x < 4294967296 → coordinate_at axes a (value_at axes a x) ≡ Some x
  coordinate_is a x word = let most : x ≤ 4294967295 = omega (arith, word) in (coordinates_are_values axes a x (value_at axes a x)).1 (most, refl)

  value_fits : (a x : ℕ) → a < axes.dims → x < 4294967296 → fits_at axes a (value_at axes a x) ≡ true
  value_fits a x dim word = rw (lt-ltb a axes.dims dim, coordinate_is a x word) refl

  dims_fit : (a : ℕ) (xs : List ℕ) → a + length xs ≤ axes.dims → AllByRecursion (λ x. x < 4294967296) xs → Fit a (values_from a xs)
  dims_fit a [] few h = tt
  dims_fit a (x ∷ xs) few h = (value_fits a x (omega (arith, few)) h.0, dims_fit (a + 1) xs (omega (arith, few)) h.1)

  measures_fit : (a : ℕ) (vs : List ℤ) → axes.dims ≤ a → AllByRecursion (λ v. FitsSigned w64 v) vs → Fit a vs
  measures_fit a [] past h = tt
  measures_fit a (v ∷ vs) past h = (rw (le-ltb a axes.dims past) (fits_from v h.0), measures_fit (a + 1) vs (omega (arith, past)) h.1)

  fit-append : (a b : ℕ) (us vs : List ℤ) → a + length us ≡ b → Fit a us → Fit b vs → Fit a (us ++ vs)
  fit-append a b [] vs at h k = let same : b ≡ a = omega (arith, at) in subst (λ (c : ℕ). Fit c vs) same k
  fit-append a b (u ∷ us) vs at h k = (h.0, fit-append (a + 1) b us vs (omega (arith, at)) h.1 k)

  fields_fine : (row a : ℕ) (vs : List ℤ) → Fit a vs → first_of (map (field_refusal axes row) (enumerate_from a (map signed_decimal vs))) ≡ None
  fields_fine row a [] h = refl
  fields_fine row a (v ∷ vs) h =
      first_none (field_refusal axes row (a, signed_decimal v)) (map (field_refusal axes row) (enumerate_from (a + 1) (map signed_decimal vs)))
      (field_fine axes row a v h.0) (fields_fine row (a + 1) vs h.1)

  plain_row : (a : ℕ) (vs : List ℤ) → 0 < length vs → Fit a vs → IsPlainRow (map signed_decimal vs)
  plain_row a [] some h = omega (arith, some)
  plain_row a (v ∷ vs) some h = (some_text v (fits_some_measure axes a v h.0), texts_plain (v ∷ vs))

  coordinate_back : (a x : ℕ) → a < axes.dims → x < 4294967296 → coordinate_of axes (a, signed_decimal (value_at axes a x)) ≡ x
  coordinate_back a x dim word =
      let small = fits_some_measure axes a (value_at axes a x) (value_fits a x dim word) in
      rw (field_number (value_at axes a x) small, coordinate_is a x word) refl

  coordinates_back : (a : ℕ) (xs : List ℕ) → a + length xs ≤ axes.dims → AllByRecursion (λ x. x < 4294967296) xs
      → map (coordinate_of axes) (enumerate_from a (map signed_decimal (values_from a xs))) ≡ xs
  coordinates_back a [] few h = refl
  coordinates_back a (x ∷ xs) few h =
      let first = coordinate_back a x (omega (arith, few)) h.0 in
      let rest = coordinates_back (a + 1) xs (omega (arith, few)) h.1 in
      λ i. first i ∷ rest i

measures_back : (vs : List ℤ) → AllByRecursion (λ v. FitsSigned w64 v) vs → map (λ f. number_of (trimmed f)) (map signed_decimal vs) ≡ vs
measures_back [] h = refl
measures_back (v ∷ vs) h =
    let first = field_number v (fits_from v h.0) in
    let rest = measures_back vs h.1 in
    λ i. first i ∷ rest i

-- ---- items with their places

seconds : {X : Type 0} (a : ℕ) (xs : List X) → map (λ (p : ℕ × X). p.1) (enumerate_from a xs) ≡ xs
seconds a [] = refl
seconds {X = X} a (x ∷ xs) = ap (λ (ys : List X). x ∷ ys) (seconds (a + 1) xs)

module _ {N X A : Type 0} (f : ℕ → A) (g : ℕ × X → A) (z : X) where
  -- what is made of places is what is made of the items there
  matched : (a : ℕ) (names : List N) (xs : List X) → length names ≡ length xs → ((i : ℕ) → i < length xs → f (a + i) ≡ g (a + i, slice_index_or xs i z))
      → map (λ (c : ℕ × N). f c.0) (enumerate_from a names) ≡ map g (enumerate_from a xs)
  matched a [] [] long h = refl
  matched a [] (x ∷ xs) long h = absurd (omega (arith, long))
  matched a (n ∷ names) [] long h = absurd (omega (arith, long))
  matched a (n ∷ names) (x ∷ xs) long h =
      let at : a + 0 ≡ a = omega arith in
      let here : f a ≡ g (a, x) = subst (λ (k : ℕ). f k ≡ g (k, x)) at (h 0 (omega arith)) in
      let rest = matched (a + 1) names xs (omega (arith, long)) (λ i lt.
      let next : a + suc i ≡ a + 1 + i = omega arith in
      subst (λ (k : ℕ). f k ≡ g (k, slice_index_or xs i z)) next (h (suc i) (omega (arith, lt)))) in
      λ i. here i ∷ rest i

-- ---- the text of an export

all_selected : (schema : Schema) (rows : List Row) → filter (is_selected schema None) rows ≡ rows
all_selected schema [] = refl
all_selected schema (row ∷ rows) = ap (λ (others : List Row). row ∷ others) (all_selected schema rows)

module _ (schema : Schema) where
  -- the texts of a row's cells
  abbrev texts : Row → List (List ℕ)
  texts row = map cell_text (map (row_cell schema row) (all_columns schema))

  no_group_from : (a : ℕ) (names : List (List ℕ)) (k : ℕ) (item : Item) → k < length (map (λ (c : ℕ × List ℕ). Column c.0) (enumerate_from a names))
      → slice_index_or (map (λ (c : ℕ × List ℕ). Column c.0) (enumerate_from a names)) k item ≡ item → IsAggregate item → ⊥
  no_group_from a [] k item lt is bad = omega (arith, lt)
  no_group_from a (n ∷ names) zero (Column c) lt is bad = bad
  no_group_from a (n ∷ names) zero Count lt is bad = cc
  no_group_from a (n ∷ names) zero (Aggregate taken c) lt is bad = cc
  no_group_from a (n ∷ names) (suc k) item lt is bad = no_group_from (a + 1) names k item (omega (arith, lt)) is bad

  no_groups : ¬ IsGroupQuery (all_rows schema)
  no_groups (inl some) = some refl
  no_groups (inr (item, (k, lt, is), bad)) = no_group_from 0 schema.columns k item lt is bad

  titles_from : (a : ℕ) (names : List (List ℕ)) → map (title schema) (map (λ (c : ℕ × List ℕ). Column c.0) (enumerate_from a names)) ≡ map (λ (c : ℕ × List ℕ). name_of schema c.0) (enumerate_from a names)
  titles_from a [] = refl
  titles_from a (n ∷ names) = ap (λ (others : List (List ℕ)). name_of schema a ∷ others) (titles_from (a + 1) names)

  titles_are : titles schema (all_rows schema) ≡ schema.columns
  titles_are =
      titles_from 0 schema.columns
      ∙ matched (name_of schema) (λ (p : ℕ × List ℕ). p.1) [] 0 schema.columns schema.columns refl (λ i lt. let at : 0 + i ≡ i = omega arith in ap (name_of schema) at)
      ∙ seconds 0 schema.columns

  texts_from : (row : Row) (a : ℕ) (names : List (List ℕ)) → map cell_text (map (row_cell schema row) (map (λ (c : ℕ × List ℕ). Column c.0) (enumerate_from a names)))
      ≡ map signed_decimal (map (λ (c : ℕ × List ℕ). column_value schema row c.0) (enumerate_from a names))
  texts_from row a [] = refl
  texts_from row a (n ∷ names) = ap (λ (others : List (List ℕ)). signed_decimal (column_value schema row a) ∷ others) (texts_from row (a + 1) names)

  rows_text : (rows : List Row) → flat_map row_line (map (λ row. map (row_cell schema row) (all_columns schema)) rows) ≡ flat_map comma_line (map texts rows)
  rows_text [] = refl
  rows_text (row ∷ rows) = ap (λ (others : List ℕ). comma_line (texts row) ++ others) (rows_text rows)

-- ---- a row of an export

module _ (schema : Schema) (row : Row) (is : IsRow schema.dims (measure_count schema) row) where
  abbrev coordinates : List ℕ
  coordinates = take schema.dims row.dims

  abbrev measures : List ℤ
  measures = take (measure_count schema) row.measures

  -- the values of the row's columns
  abbrev row_values : List ℤ
  row_values = values_from (axes_of schema) 0 coordinates ++ measures

  coordinates_long : length coordinates ≡ schema.dims
  coordinates_long = length-take-le schema.dims row.dims (let few = schema.counts.few_dims in let long = is.dims_rest.0 in omega (arith, few, long))

  measures_long : length measures ≡ length schema.columns - schema.dims
  measures_long =
      length-take-le (length schema.columns - schema.dims) row.measures (let few = schema.counts.few_measures in let long = is.measures_rest.0 in omega (arith, few, long))

  values_long : length (values_from (axes_of schema) 0 coordinates) ≡ schema.dims
  values_long = length-map (enumerate_from 0 coordinates) (λ p. value_at (axes_of schema) p.0 p.1) ∙ length-enumerate_from 0 coordinates ∙ coordinates_long

  words : AllByRecursion (λ x. x < 4294967296) coordinates
  words = recursion_from_All (λ x. x < 4294967296) coordinates (All-take (λ x. x < 4294967296) schema.dims row.dims is.dims_words)

  wide : AllByRecursion (λ v. FitsSigned w64 v) measures
  wide = recursion_from_All (λ v. FitsSigned w64 v) measures (All-take (λ v. FitsSigned w64 v) (measure_count schema) row.measures is.measures_words)

  values_fit : Fit (axes_of schema) 0 row_values
  values_fit =
      let long = values_long in let dims = coordinates_long in
      fit-append (axes_of schema) 0 schema.dims (values_from (axes_of schema) 0 coordinates) measures (omega (arith, long))
      (dims_fit (axes_of schema) 0 coordinates (omega (arith, dims)) words) (measures_fit (axes_of schema) schema.dims measures (omega arith) wide)

  dim_value : (i : ℕ) → i < length coordinates → column_value schema row (0 + i) ≡ value_at (axes_of schema) (0 + i) (slice_index_or coordinates i 0)
  dim_value i lt =
      let at : 0 + i ≡ i = omega arith in
      let dims = coordinates_long in
      let inside : i < schema.dims = omega (arith, lt, dims) in
      rw (at, lt-ltb i schema.dims inside, get_or-take schema.dims row.dims i 0 inside) refl

  measure_value : (i : ℕ) → i < length measures → column_value schema row (schema.dims + i) ≡ slice_index_or measures i (pos 0)
  measure_value i lt =
      let past : nat_lt (schema.dims + i) schema.dims ≡ false = le-ltb (schema.dims + i) schema.dims (omega arith) in
      let place : schema.dims + i - schema.dims ≡ i = omega arith in
      let long = measures_long in
      let inside : i < length schema.columns - schema.dims = omega (arith, lt, long) in
      rw (past, place, get_or-take (length schema.columns - schema.dims) row.measures i (pos 0) inside) refl

  -- what a row has in the columns of some names, from one on
  abbrev among : ℕ → List (List ℕ) → List ℤ
  among a names = map (λ (c : ℕ × List ℕ). column_value schema row c.0) (enumerate_from a names)

  values_are : among 0 schema.columns ≡ row_values
  values_are =
      let first : List (List ℕ) = take schema.dims schema.columns in
      let others : List (List ℕ) = drop schema.dims schema.columns in
      let covers = schema.counts.covers_dims in
      let front : length first ≡ schema.dims = length-take-le schema.dims schema.columns covers in
      let joined : first ++ others ≡ schema.columns = take-append-drop schema.dims schema.columns in
      let total : length (first ++ others) ≡ length schema.columns = ap length joined in
      let sum = length-append first others in
      let at : 0 + length first ≡ schema.dims = omega (arith, front) in
      let dims = coordinates_long in let long = measures_long in
      let split : enumerate_from 0 (first ++ others) ≡ enumerate_from 0 first ++ enumerate_from schema.dims others =
      enumerate_from-append 0 first others ∙ ap (λ (k : ℕ). enumerate_from 0 first ++ enumerate_from k others) at in
      let same : among 0 (first ++ others) ≡ among 0 first ++ among schema.dims others =
      ap (map (λ (c : ℕ × List ℕ). column_value schema row c.0)) split ∙ map-append (λ (c : ℕ × List ℕ). column_value schema row c.0) (enumerate_from 0 first) (enumerate_from schema.dims others) in
      let a : among 0 first ≡ values_from (axes_of schema) 0 coordinates =
      matched (column_value schema row) (λ (p : ℕ × ℕ). value_at (axes_of schema) p.0 p.1) 0 0 first coordinates (front ∙ sym dims) dim_value in
      let b : among schema.dims others ≡ measures =
      matched (column_value schema row) (λ (p : ℕ × ℤ). p.1) (pos 0) schema.dims others measures (omega (arith, total, sum, front, long)) measure_value ∙ seconds schema.dims measures in
      ap (among 0) (sym joined) ∙ same ∙ (λ i. a i ++ b i)

  texts_are : texts schema row ≡ map signed_decimal row_values
  texts_are = texts_from schema row 0 schema.columns ∙ ap (map signed_decimal) values_are

  texts_long : length (texts schema row) ≡ length schema.columns
  texts_long =
      length-map (map (row_cell schema row) (all_columns schema)) cell_text ∙ length-map (all_columns schema) (row_cell schema row)
      ∙ length-map (enumerate_from 0 schema.columns) (λ (c : ℕ × List ℕ). Column c.0) ∙ length-enumerate_from 0 schema.columns

  -- its line is written without quotes
  row_plain : IsPlainRow (texts schema row)
  row_plain =
      let some = schema.counts.some_dims in
      let long = values_long in
      let sum = length-append (values_from (axes_of schema) 0 coordinates) measures in
      subst IsPlainRow (sym texts_are) (plain_row (axes_of schema) 0 row_values (omega (arith, some, long, sum)) values_fit)

  -- nothing is wrong with it
  row_fine : (k : ℕ) → k ≤ 16777215 → first_of (record_refusals (axes_of schema) (length schema.columns) (k, texts schema row)) ≡ None
  row_fine k few =
      record_is_fine (axes_of schema) (length schema.columns) (k, texts schema row) few
      (content_is_of_fields (axes_of schema) (length schema.columns) k (texts schema row) texts_long
      ∙ ap (λ (fields : List (List ℕ)). first_of (map (field_refusal (axes_of schema) k) (enumerate_from 0 fields))) texts_are
      ∙ fields_fine (axes_of schema) k 0 row_values values_fit)

  parted : texts schema row ≡ map signed_decimal (values_from (axes_of schema) 0 coordinates) ++ map signed_decimal measures
  parted = texts_are ∙ map-append signed_decimal (values_from (axes_of schema) 0 coordinates) measures

  front_long : length (map signed_decimal (values_from (axes_of schema) 0 coordinates)) ≡ schema.dims
  front_long = length-map (values_from (axes_of schema) 0 coordinates) signed_decimal ∙ values_long

  front_is : take schema.dims (texts schema row) ≡ map signed_decimal (values_from (axes_of schema) 0 coordinates)
  front_is =
      ap (take schema.dims) parted
      ∙ ap (λ (n : ℕ). take n (map signed_decimal (values_from (axes_of schema) 0 coordinates) ++ map signed_decimal measures)) (sym front_long)
      ∙ take-append_seam (map signed_decimal (values_from (axes_of schema) 0 coordinates)) (map signed_decimal measures)

  back_is : drop schema.dims (texts schema row) ≡ map signed_decimal measures
  back_is =
      ap (drop schema.dims) parted
      ∙ ap (λ (n : ℕ). drop n (map signed_decimal (values_from (axes_of schema) 0 coordinates) ++ map signed_decimal measures)) (sym front_long)
      ∙ drop-append_seam (map signed_decimal (values_from (axes_of schema) 0 coordinates)) (map signed_decimal measures)

  dims_read : coordinates_of (axes_of schema) (texts schema row) ≡ row.dims
  dims_read =
      let dims = coordinates_long in
      let back = coordinates_back (axes_of schema) 0 coordinates (omega (arith, dims)) words in
      ap (λ (fields : List (List ℕ)). map (coordinate_of (axes_of schema)) (enumerate_from 0 fields) ++ replicate (4 - length fields) 0) front_is
      ∙ (λ i. back i ++ replicate (4 - front_long i) 0)
      ∙ ap (λ (rest : List ℕ). coordinates ++ rest) (sym is.dims_rest.1)
      ∙ take-append-drop schema.dims row.dims

  measures_read : measures_of schema.dims (texts schema row) ≡ row.measures
  measures_read =
      let back = measures_back measures wide in
      let long : length (map signed_decimal measures) ≡ measure_count schema = length-map measures signed_decimal ∙ measures_long in
      ap (λ (fields : List (List ℕ)). map (λ f. number_of (trimmed f)) fields ++ replicate (4 - length fields) (pos 0)) back_is
      ∙ (λ i. back i ++ replicate (4 - long i) (pos 0))
      ∙ ap (λ (rest : List ℤ). measures ++ rest) (sym is.measures_rest.1)
      ∙ take-append-drop (measure_count schema) row.measures

  -- it is read as the same row
  row_back : (k : ℕ) → numbered k row ≡ row_of (axes_of schema) (k, texts schema row)
  unfolding row_of
  row_back k = λ i. record { number = k; dims = sym dims_read i; measures = sym measures_read i }

-- ---- the header

found_in : (n : List ℕ) (names : List (List ℕ)) → list_any (bytes_eq n) names ≡ true → (j : ℕ) × (j < length names) × (slice_get names j ≡ Some n)
found_in n [] h = cc
found_in n (x ∷ names) h = elim (cases_Bool (bytes_eq n x)) [
  | inl t ↦ let same : n ≡ x = (bytes_eq-Decides n x).0 t in (0, omega arith, ap (λ (y : List ℕ). Some y) (sym same))
  | inr f ↦ let more = found_in n names (rw f at h) in (suc more.0, let lt = more.1 in omega (arith, lt), more.2)
]

get_before : (xs ys : List (List ℕ)) (j : ℕ) → j < length xs → slice_get (xs ++ ys) j ≡ slice_get xs j
get_before [] ys j lt = absurd (omega (arith, lt))
get_before (x ∷ xs) ys zero lt = refl
get_before (x ∷ xs) ys (suc j) lt = get_before xs ys j (omega (arith, lt))

get_seam : (xs ys : List (List ℕ)) (y : List ℕ) → slice_get (xs ++ (y ∷ ys)) (length xs) ≡ Some y
get_seam [] ys y = refl
get_seam (x ∷ xs) ys y = get_seam xs ys y

named_after : (front : List (List ℕ)) (name : List ℕ) (rest : List (List ℕ)) → AllByRecursion IsName (front ++ (name ∷ rest)) → IsName name
named_after [] name rest h = h.0
named_after (x ∷ front) name rest h = named_after front name rest h.1

module _ (names : List (List ℕ)) (named : AllByRecursion IsName names) (distinct : AreDistinct names) where
  name_here : (front : List (List ℕ)) (name : List ℕ) (rest : List (List ℕ)) → names ≡ front ++ (name ∷ rest) → name_refusal names (length front, name) ≡ None
  name_here front name rest is =
      let own : IsName name = named_after front name rest (subst (AllByRecursion IsName) is named) in
      let long : length names ≡ length (front ++ (name ∷ rest)) = ap length is in
      let sum = length-append front (name ∷ rest) in
      let seam : slice_get names (length front) ≡ Some name = ap (λ (ns : List (List ℕ)). slice_get ns (length front)) is ∙ get_seam front rest name in
      let none : list_any (bytes_eq name) front ≡ false = never_true (list_any (bytes_eq name) front) (λ t.
      let there = found_in name front t in
      let lt = there.1 in
      let at : slice_get names there.0 ≡ Some name = ap (λ (ns : List (List ℕ)). slice_get ns there.0) is ∙ get_before front (name ∷ rest) there.0 lt ∙ there.2 in
      distinct there.0 (length front) lt (omega (arith, long, sum)) (at ∙ sym seam)) in
      name_fine names (length front) name front (sym (ap (take (length front)) is ∙ take-append_seam front (name ∷ rest)))
      (and_from (is_name name) (not (list_any (bytes_eq name) front)) own (ap not none))

  names_from : (front rest : List (List ℕ)) → names ≡ front ++ rest → first_of (map (name_refusal names) (enumerate_from (length front) rest)) ≡ None
  names_from front [] is = refl
  names_from front (name ∷ rest) is =
      let next : length (front ++ name ∷ []) ≡ length front + 1 = length-append front (name ∷ []) in
      first_none (name_refusal names (length front, name)) (map (name_refusal names) (enumerate_from (length front + 1) rest)) (name_here front name rest is)
      (subst (λ (k : ℕ). first_of (map (name_refusal names) (enumerate_from k rest)) ≡ None) next
      (names_from (front ++ name ∷ []) rest (is ∙ sym (append_assoc front (name ∷ []) rest))))

  names_fine : first_of (map (name_refusal names) (enumerate_from 0 names)) ≡ None
  names_fine = names_from [] names refl

names_plain : (names : List (List ℕ)) → AllByRecursion IsName names → AllByRecursion IsPlain names
names_plain [] h = tt
names_plain (name ∷ names) h = (plain_text name (from_high name (name_high name h.0)), names_plain names h.1)

header_plain : (names : List (List ℕ)) → 0 < length names → AllByRecursion IsName names → IsPlainRow names
header_plain [] some h = omega (arith, some)
header_plain (name ∷ names) some h = (some_name name h.0, names_plain (name ∷ names) h)

-- ---- all rows

at_least : (xs : List ℕ) → IsStrictlyIncreasing xs → 1 ≤ slice_index xs 0 → (k : ℕ) → k < length xs → k + 1 ≤ slice_index xs k
at_least xs rise first zero lt = first
at_least xs rise first (suc k) lt =
    let before = at_least xs rise first k (omega (arith, lt)) in
    let next : k + 1 ≡ suc k = omega arith in
    let step : slice_index xs k < slice_index xs (suc k) = subst (λ (j : ℕ). slice_index xs k < slice_index xs j) next (rise k (omega (arith, lt))) in
    omega (arith, before, step)

module _ (schema : Schema) where
  abbrev AreRows : List Row → Type 0
  AreRows rows = AllByRecursion (IsRow schema.dims (measure_count schema)) rows

  number_at : (rows : List Row) (k : ℕ) → k < length rows → AreRows rows → (1 ≤ slice_index (map (λ (r : Row). r.number) rows) k) × (slice_index (map (λ (r : Row). r.number) rows) k ≤ 16777215)
  number_at [] k lt h = absurd (omega (arith, lt))
  number_at (row ∷ rows) zero lt h = h.0.number
  number_at (row ∷ rows) (suc k) lt h = number_at rows k (omega (arith, lt)) h.1

  -- rows in order are no more than there are numbers
  few_rows : (rows : List Row) → IsInOrder rows → AreRows rows → length rows ≤ 16777215
  few_rows [] order h = omega arith
  few_rows (row ∷ rows) order h =
      let long = length-map (row ∷ rows) (λ (r : Row). r.number) in
      let first = (number_at (row ∷ rows) 0 (omega arith) h).0 in
      let last = (number_at (row ∷ rows) (length rows) (omega arith) h).1 in
      let risen = at_least (map (λ (r : Row). r.number) (row ∷ rows)) order first (length rows) (omega (arith, long)) in
      omega (arith, risen, last)

  rows_plain : (rows : List Row) → AreRows rows → AllByRecursion IsPlainRow (map (texts schema) rows)
  rows_plain [] h = tt
  rows_plain (row ∷ rows) h = (row_plain schema row h.0, rows_plain rows h.1)

  rows_fine : (n : ℕ) (rows : List Row) → n + length rows ≤ 16777216 → AreRows rows
      → first_of (flat_map (record_refusals (axes_of schema) (length schema.columns)) (enumerate_from n (map (texts schema) rows))) ≡ None
  rows_fine n [] few h = refl
  rows_fine n (row ∷ rows) few h =
      first-skip (record_refusals (axes_of schema) (length schema.columns) (n, texts schema row)) _ (row_fine schema row h.0 n (omega (arith, few)))
      ∙ rows_fine (n + 1) rows (omega (arith, few)) h.1

  rows_back : (n : ℕ) (rows : List Row) → AreRows rows → map (λ (r : ℕ × Row). numbered r.0 r.1) (enumerate_from n rows) ≡ map (row_of (axes_of schema)) (enumerate_from n (map (texts schema) rows))
  rows_back n [] h = refl
  rows_back n (row ∷ rows) h =
      let first = row_back schema row h.0 n in
      let rest = rows_back (n + 1) rows h.1 in
      λ i. first i ∷ rest i

  renumbered_back : (rows : List Row) → AreRows rows → renumbered rows ≡ rows_of (axes_of schema) (map (texts schema) rows)
  unfolding rows_of
  renumbered_back rows h = rows_back 1 rows h

  text_fine : (name : List ℕ) (rows : List Row) → IsName name → AllByRecursion IsName schema.columns → IsInOrder rows → AreRows rows
      → first_refusal (axes_of schema) name (schema.columns ∷ map (texts schema) rows) ≡ None
  unfolding refusals
  text_fine name rows is named order h =
      let few = few_rows rows order h in
      let same : map trimmed schema.columns ≡ schema.columns = all_untrimmed schema.columns named in
      let head : first_of (header_refusals schema.dims name (map trimmed schema.columns)) ≡ None =
      ap (λ (names : List (List ℕ)). first_of (header_refusals schema.dims name names)) same
      ∙ header_with_names schema.dims name schema.columns None schema.counts.covers_dims schema.counts.few_measures is (names_fine schema.columns named schema.distinct) in
      first-skip (header_refusals schema.dims name (map trimmed schema.columns)) _ head ∙ rows_fine 1 rows (omega (arith, few)) h

-- the lines of an export
export_is : (table : Table) (rows : List (List Cell)) (pages : ℕ) → AllByRecursion IsName table.schema.columns → IsInOrder table.rows
    → IsMeaning table (all_rows table.schema) rows
    → answers_in (answer_text table.schema (all_rows table.schema) rows pages) ≡ flat_map comma_line (table.schema.columns ∷ map (texts table.schema) table.rows)
export_is table rows pages named order means =
    let q = all_rows table.schema in
    let plain = plain_queries_mean table q order (no_groups table.schema) refl in
    let same : rows ≡ map (λ row. map (row_cell table.schema row) (all_columns table.schema)) (selected table None) = queries_have_one_meaning table q rows _ means plain in
    (answers_are_their_lines table.schema q rows pages named).0
    ∙ ap (λ (names : List (List ℕ)). comma_line names ++ flat_map row_line rows) (titles_are table.schema)
    ∙ ap (λ (cells : List (List Cell)). comma_line table.schema.columns ++ flat_map row_line cells) same
    ∙ ap (λ (kept : List Row). comma_line table.schema.columns ++ flat_map row_line (map (λ row. map (row_cell table.schema row) (all_columns table.schema)) kept)) (all_selected table.schema table.rows)
    ∙ ap (λ (text : List ℕ). comma_line table.schema.columns ++ text) (rows_text table.schema table.rows)

pub exports_are_loaded : ExportsAreLoaded
exports_are_loaded table rows pages named order are means =
    let schema = table.schema in
    let text = export_is table rows pages named.1 order means in
    let some : 0 < length schema.columns = (let dims = schema.counts.some_dims in let covers = schema.counts.covers_dims in omega (arith, dims, covers)) in
    let body : List ℕ = flat_map comma_line (map (texts schema) table.rows) in
    record {
      header = schema.columns;
      rest = map (texts schema) table.rows;
      records = ap records_of text
          ∙ ap (records default_config) (unstripped schema.columns body some named.1)
          ∙ all_read (schema.columns ∷ map (texts schema) table.rows) (header_plain schema.columns some named.1, rows_plain schema table.rows are);
      accepted = text_fine schema schema.name table.rows named.0 named.1 order are;
      name_is = refl;
      columns_are = sym (all_untrimmed schema.columns named.1);
      axes_are = refl;
      page_rows_are = refl;
      rows_are = renumbered_back schema table.rows are;
    }
