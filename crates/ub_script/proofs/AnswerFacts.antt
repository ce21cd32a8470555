-- That of the lines of an answer the last one tells, and no other one.
use Rattle.std.proofs.Common.{◌≡◌, ◌≤◌, ◌+◌, ◌/◌, ◌%◌, ◌==◌, ◌||◌, ℕ, zero, suc, pos, negsuc, Bool, true, false, if◌then◌else◌, nat_lt, List, [], ◌∷◌, ◌++◌, length, map, slice_index_or, codes, decimal, refl, sym, ap, ◌∙◌, append_assoc, append-nil, ne_eqb, arith}
use Rattle.std.proofs.lemmas.Bool.{and_parts}
use Rattle.std.proofs.lemmas.Bool.Decides.{nat_tests}
use Rattle.std.specs.Fmt.{digit_glyph, digits, digits_onto}
use Rattle.std.specs.List.{AllByRecursion, flat_map, join_with_byte, list_all, list_any}
use Rattle.ub_query.specs.Cells.{name_of, title}
use Rattle.ub_query.specs.Meaning.{titles}
use Rattle.ub_query.specs.declared.cell.Cell.{Cell}
use Rattle.ub_query.specs.declared.cell.Cell.TheVariants.{Number, Null}
use Rattle.ub_query.specs.declared.query.Aggregate.TheVariants.{Sum, Min, Max}
use Rattle.ub_query.specs.declared.query.Item.{Item}
use Rattle.ub_query.specs.declared.query.Item.TheVariants.{Column, Count, Aggregate}
use Rattle.ub_script.proofs.PartFacts.{IsInLine, in_line-append, answer_first, note_first, answers-none, notes-none}
use Rattle.ub_script.specs.Laws.{AnswersAreTheirLines}
use Rattle.ub_script.specs.Parts.{answers_in, is_note, notes_in}
use Rattle.ub_script.specs.Text.{answer_text, cell_text, comma_line, counts_line, row_line}
use Rattle.ub_table.specs.Name.{IsName, is_name, is_word_byte}
use Rattle.ub_table.specs.declared.schema.Schema.{Schema}

-- ---- bytes

-- the bytes are no less than a digit is
abbrev pub AreHigh : List ℕ → Type 0
AreHigh bytes = AllByRecursion (λ b. 48 ≤ b) bytes

in_line-high : (bytes : List ℕ) → AreHigh bytes → IsInLine bytes
in_line-high [] h = tt
in_line-high (b ∷ bytes) h = (ne_eqb b 10 (λ e. let low = h.0 in omega (arith, e, low)), in_line-high bytes h.1)

-- of words that are written out it computes
in_line-test : (bytes : List ℕ) → list_any (λ b. b == 10) bytes ≡ false → IsInLine bytes
in_line-test [] h = tt
in_line-test (b ∷ bytes) h = let p = neither (b == 10) (list_any (λ c. c == 10) bytes) h in (p.0, in_line-test bytes p.1)
  where
    neither : (a c : Bool) → (a || c) ≡ false → (a ≡ false) × (c ≡ false)
    neither true c e = cc
    neither false c e = (refl, e)

glyph_high : (is_one : Bool) (d : ℕ) → 48 ≤ (if is_one then 48 + d else (if false then 55 + d else 87 + d))
glyph_high true d = omega arith
glyph_high false d = omega arith

either_high : (b : Bool) (xs ys : List ℕ) → AreHigh xs → AreHigh ys → AreHigh (if b then xs else ys)
either_high true xs ys h k = h
either_high false xs ys h k = k

digits_high : (k n : ℕ) (acc : List ℕ) → AreHigh acc → AreHigh (digits_onto k 10 false n acc)
digits_high zero n acc h = h
digits_high (suc k) n acc h =
    let more : AreHigh (digit_glyph false (n % 10) ∷ acc) = (glyph_high (nat_lt (n % 10) 10) (n % 10), h) in
    either_high (n / 10 == 0) (digit_glyph false (n % 10) ∷ acc) (digits_onto k 10 false (n / 10) (digit_glyph false (n % 10) ∷ acc)) more
    (digits_high k (n / 10) (digit_glyph false (n % 10) ∷ acc) more)

-- a number's digits
pub decimal_high : (n : ℕ) → AreHigh (decimal n)
unfolding digits
decimal_high n = digits_high 64 n [] tt

word_byte_high : (c : ℕ) → is_word_byte c ≡ true → 48 ≤ c
word_byte_high c h = grind (arith, nat_tests)

word_high : (text : List ℕ) → list_all is_word_byte text ≡ true → AreHigh text
word_high [] h = tt
word_high (c ∷ text) h = let p = and_parts (is_word_byte c) (list_all is_word_byte text) h in (word_byte_high c p.0, word_high text p.1)

-- a name's bytes
pub name_high : (text : List ℕ) → IsName text → AreHigh text
unfolding is_name
name_high text is = word_high text (and_parts _ _ (and_parts _ _ is).0).1

-- what stands for a column among names; past them that is no text
pub column_high : (names : List (List ℕ)) (i : ℕ) → AllByRecursion IsName names → AreHigh (slice_index_or names i [])
column_high [] i h = tt
column_high (name ∷ names) zero h = name_high name h.0
column_high (name ∷ names) (suc i) h = column_high names i h.1

-- ---- the first bytes of a line

-- what stands in a line after its first text
abbrev pub after : List (List ℕ) → List ℕ
after [] = 10 ∷ []
after (y ∷ ys) = 44 ∷ comma_line (y ∷ ys)

pub line_split : (x : List ℕ) (xs : List (List ℕ)) → comma_line (x ∷ xs) ≡ x ++ after xs
line_split x [] = refl
line_split x (y ∷ ys) = append_assoc x (44 ∷ join_with_byte 44 (y ∷ ys)) (10 ∷ [])

-- no line tells whose first text is this
abbrev BeginsNone : List ℕ → Type 0
BeginsNone x = (xs : List (List ℕ)) → is_note (x ++ after xs) ≡ false

no_mark : (c : ℕ) (rest : List ℕ) → (45 == c) ≡ false → (33 == c) ≡ false → is_note (c ∷ rest) ≡ false
no_mark c rest minus mark = rw (minus, mark) refl

one_minus : (c : ℕ) (rest : List ℕ) → (45 == c) ≡ false → is_note (45 ∷ c ∷ rest) ≡ false
one_minus c rest minus = rw minus refl

apart : (n c : ℕ) → n ≤ 47 → 48 ≤ c → (n == c) ≡ false
apart n c low high = ne_eqb n c (λ e. omega (arith, e, low, high))

high_begins : (x : List ℕ) → AreHigh x → BeginsNone x
high_begins [] h [] = refl
high_begins [] h (y ∷ ys) = refl
high_begins (c ∷ x) h xs = no_mark c (x ++ after xs) (apart 45 c (omega arith) h.0) (apart 33 c (omega arith) h.0)

minus_begins : (x : List ℕ) → AreHigh x → BeginsNone (45 ∷ x)
minus_begins [] h [] = refl
minus_begins [] h (y ∷ ys) = refl
minus_begins (c ∷ x) h xs = one_minus c (x ++ after xs) (apart 45 c (omega arith) h.0)

-- ---- titles and cells

module _ (schema : Schema) (named : AllByRecursion IsName schema.columns) where
  in_parentheses : (keyword : List ℕ) (column : ℕ) → IsInLine keyword → IsInLine (keyword ++ codes "(" ++ name_of schema column ++ codes ")")
  in_parentheses keyword column h =
      in_line-append (keyword ++ codes "(" ++ name_of schema column) (codes ")")
      (in_line-append (keyword ++ codes "(") (name_of schema column)
      (in_line-append keyword (codes "(") h (in_line-test (codes "(") refl)) (in_line-high (name_of schema column) (column_high schema.columns column named)))
      (in_line-test (codes ")") refl)

  title_in_line : (item : Item) → IsInLine (title schema item)
  title_in_line (Column column) = in_line-high (name_of schema column) (column_high schema.columns column named)
  title_in_line Count = in_line-test (codes "COUNT(*)") refl
  title_in_line (Aggregate Sum column) = in_parentheses (codes "SUM") column (in_line-test (codes "SUM") refl)
  title_in_line (Aggregate Min column) = in_parentheses (codes "MIN") column (in_line-test (codes "MIN") refl)
  title_in_line (Aggregate Max column) = in_parentheses (codes "MAX") column (in_line-test (codes "MAX") refl)

  title_begins : (item : Item) → BeginsNone (title schema item)
  title_begins (Column column) xs = high_begins (name_of schema column) (column_high schema.columns column named) xs
  title_begins Count xs = refl
  title_begins (Aggregate Sum column) xs = refl
  title_begins (Aggregate Min column) xs = refl
  title_begins (Aggregate Max column) xs = refl

  titles_in_line : (items : List Item) → AllByRecursion IsInLine (map (title schema) items)
  titles_in_line [] = tt
  titles_in_line (item ∷ items) = (title_in_line item, titles_in_line items)

  titles_tell_none : (items : List Item) → is_note (comma_line (map (title schema) items)) ≡ false
  titles_tell_none [] = refl
  titles_tell_none (item ∷ items) = ap is_note (line_split (title schema item) (map (title schema) items)) ∙ title_begins item (map (title schema) items)

cell_in_line : (cell : Cell) → IsInLine (cell_text cell)
cell_in_line (Number (pos n)) = in_line-high (decimal n) (decimal_high n)
cell_in_line (Number (negsuc n)) = (refl, in_line-high (decimal (suc n)) (decimal_high (suc n)))
cell_in_line Null = in_line-test (codes "NULL") refl

cell_begins : (cell : Cell) → BeginsNone (cell_text cell)
cell_begins (Number (pos n)) xs = high_begins (decimal n) (decimal_high n) xs
cell_begins (Number (negsuc n)) xs = minus_begins (decimal (suc n)) (decimal_high (suc n)) xs
cell_begins Null xs = refl

cells_in_line : (cells : List Cell) → AllByRecursion IsInLine (map cell_text cells)
cells_in_line [] = tt
cells_in_line (cell ∷ cells) = (cell_in_line cell, cells_in_line cells)

cells_tell_none : (cells : List Cell) → is_note (row_line cells) ≡ false
cells_tell_none [] = refl
cells_tell_none (cell ∷ cells) = ap is_note (line_split (cell_text cell) (map cell_text cells)) ∙ cell_begins cell (map cell_text cells)

-- ---- lines

join_in_line : (texts : List (List ℕ)) → AllByRecursion IsInLine texts → IsInLine (join_with_byte 44 texts)
join_in_line [] h = tt
join_in_line (x ∷ []) h = h.0
join_in_line (x ∷ y ∷ ys) h = in_line-append x (44 ∷ join_with_byte 44 (y ∷ ys)) h.0 (refl, join_in_line (y ∷ ys) h.1)

-- a line of texts is an answer, where it doesn't tell
line_parts : (texts : List (List ℕ)) (rest : List ℕ) → AllByRecursion IsInLine texts → is_note (comma_line texts) ≡ false
    → (answers_in (comma_line texts ++ rest) ≡ comma_line texts ++ answers_in rest) × (notes_in (comma_line texts ++ rest) ≡ notes_in rest)
line_parts texts rest h none =
    let same : comma_line texts ++ rest ≡ join_with_byte 44 texts ++ 10 ∷ rest = append_assoc (join_with_byte 44 texts) (10 ∷ []) rest in
    let first = answer_first (join_with_byte 44 texts) rest (join_in_line texts h) none in
    (ap answers_in same ∙ first.0, ap notes_in same ∙ first.1)

rows_parts : (rows : List (List Cell)) (rest : List ℕ)
    → (answers_in (flat_map row_line rows ++ rest) ≡ flat_map row_line rows ++ answers_in rest) × (notes_in (flat_map row_line rows ++ rest) ≡ notes_in rest)
rows_parts [] rest = (refl, refl)
rows_parts (row ∷ rows) rest =
    let same : flat_map row_line (row ∷ rows) ++ rest ≡ row_line row ++ (flat_map row_line rows ++ rest) = append_assoc (row_line row) (flat_map row_line rows) rest in
    let first = line_parts (map cell_text row) (flat_map row_line rows ++ rest) (cells_in_line row) (cells_tell_none row) in
    let others = rows_parts rows rest in (
      ap answers_in same ∙ first.0 ∙ ap (λ (bytes : List ℕ). row_line row ++ bytes) others.0 ∙ sym (append_assoc (row_line row) (flat_map row_line rows) (answers_in rest)),
      ap notes_in same ∙ first.1 ∙ others.1,
    )

-- the line of counts without its line feed
abbrev counts : ℕ → ℕ → List ℕ
counts rows pages = codes "-- rows " ++ decimal rows ++ codes ", pages " ++ decimal pages

counts_in_line : (rows pages : ℕ) → IsInLine (counts rows pages)
counts_in_line rows pages =
    in_line-append (codes "-- rows " ++ decimal rows ++ codes ", pages ") (decimal pages)
    (in_line-append (codes "-- rows " ++ decimal rows) (codes ", pages ")
    (in_line-append (codes "-- rows ") (decimal rows) (in_line-test (codes "-- rows ") refl) (in_line-high (decimal rows) (decimal_high rows)))
    (in_line-test (codes ", pages ") refl))
    (in_line-high (decimal pages) (decimal_high pages))

counts_parts : (rows pages : ℕ) → (answers_in (counts_line rows pages) ≡ []) × (notes_in (counts_line rows pages) ≡ counts_line rows pages)
counts_parts rows pages =
    let last = note_first (counts rows pages) [] (counts_in_line rows pages) refl in (
      last.0 ∙ answers-none,
      last.1 ∙ ap (λ (bytes : List ℕ). (counts rows pages ++ 10 ∷ []) ++ bytes) notes-none ∙ append-nil (counts rows pages ++ 10 ∷ []),
    )

pub answers_are_their_lines : AnswersAreTheirLines
unfolding answer_text
answers_are_their_lines schema q rows pages named =
    let whole = append_assoc (comma_line (titles schema q)) (flat_map row_line rows) (counts_line (length rows) pages) in
    let last = counts_parts (length rows) pages in
    let middle = rows_parts rows (counts_line (length rows) pages) in
    let first = line_parts (titles schema q) (flat_map row_line rows ++ counts_line (length rows) pages) (titles_in_line schema named q.items) (titles_tell_none schema named q.items) in (
      ap answers_in whole ∙ first.0 ∙ ap (λ (bytes : List ℕ). comma_line (titles schema q) ++ bytes)
          (middle.0 ∙ ap (λ (bytes : List ℕ). flat_map row_line rows ++ bytes) last.0 ∙ append-nil (flat_map row_line rows)),
      ap notes_in whole ∙ first.1 ∙ middle.1 ∙ last.1,
    )
