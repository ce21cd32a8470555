-- What stands at a place of a source, from the run, the sign or the byte that was found there.
use Rattle.std.proofs.Common.{◌≡◌, ◌≢◌, ◌≤◌, ◌<◌, ◌+◌, ◌-◌, ◌==◌, ◌&&◌, ℕ, Bool, true, false, not, suc, List, [], ◌∷◌, ◌++◌, length, take, drop, get_or, slice_index, slice_range, None, Some, IsTrue, codes, refl, sym, ap, arith, ◌∙◌, subst, inl, inr, ◌⊎◌, nat_le}
use Rattle.std.specs.List.{AllPass}
use Rattle.std.specs.Char.{is_ascii_digit, is_ascii_alphabetic}
use Rattle.std.proofs.Math.Seq.{take-append-add}
use Rattle.std.proofs.lemmas.Bool.{false≢true, or_cases, or_parts, or_left, or_right, not-false, and_parts, eqb-true, eq-eqb, not-true, leb-true, both_ways}
use Rattle.std.proofs.lemmas.List.{get_or-drop, length-drop, drop_all, drop_more, length-append, length-take-le, get_or_at}
use Rattle.std.proofs.lemmas.List.Elements.{All-head, All-tail, All-weaker, All-cons, All-get_or}
use Rattle.ub_lexer.specs.Text.{is_separator, is_letter, is_word_byte, IsSpelling}
use Rattle.ub_lexer.specs.Tokens.{separator, comment, token}
use Rattle.ub_lexer.specs.Pieces.{IsRun, IsPair, IsPieceAt, goes_on}
use Rattle.ub_lexer.specs.declared.lexer.Run.TheVariants.{OfComment}
use Rattle.ub_lexer.specs.declared.token.TokenKind.{TokenKind}
use Rattle.ub_lexer.specs.declared.token.TokenKind.TheVariants.{Word, Number, Comma, OpenParenthesis, CloseParenthesis, Star, Semicolon, Equal, NotEqual, Less, AtMost, Greater, AtLeast, Minus, Bad}

-- the forms of a text with a spelling: a word, a number, one byte, or a sign of two
abbrev pub Shape : ℕ → List ℕ → Type 0
Shape c more =
    (IsTrue (is_letter c) × AllPass is_word_byte more)
    ⊎ ((IsTrue (is_ascii_digit c) × AllPass is_ascii_digit more)
    ⊎ ((more ≡ []) ⊎ ((d : ℕ) × (more ≡ d ∷ []) × IsPair c d)))

pub shape : (kind : TokenKind) (c : ℕ) (more : List ℕ) → IsSpelling kind (c ∷ more) → Shape c more
shape Word c more h = inl (h.1, All-tail (λ x. is_word_byte x ≡ true) c more h.2)
shape Number c more h = inr (inl (All-head (λ x. is_ascii_digit x ≡ true) c more h.1, All-tail (λ x. is_ascii_digit x ≡ true) c more h.1))
shape Comma c more h = inr (inr (inl (cc)))
shape OpenParenthesis c more h = inr (inr (inl (cc)))
shape CloseParenthesis c more h = inr (inr (inl (cc)))
shape Star c more h = inr (inr (inl (cc)))
shape Semicolon c more h = inr (inr (inl (cc)))
shape Equal c more h = inr (inr (inl (cc)))
shape NotEqual c more h = elim h [
  | inl e ↦ inr (inr (inr (62, (cc), inl (cc))))
  | inr e ↦ inr (inr (inr (61, (cc), inr (inl (cc)))))
]
shape Less c more h = inr (inr (inl (cc)))
shape AtMost c more h = inr (inr (inr (61, (cc), inr (inr (inl (cc))))))
shape Greater c more h = inr (inr (inl (cc)))
shape AtLeast c more h = inr (inr (inr (61, (cc), inr (inr (inr (cc))))))
shape Minus c more h = inr (inr (inl (cc)))
shape Bad c more h = let e = h.1 in inr (inr (inl (cc)))

-- a sign of two bytes begins with neither a letter, a digit, a separator nor a minus
pub pair_first : (c d : ℕ) → IsPair c d → (is_word_byte c ≡ false) × (is_separator c ≡ false) × (c ≢ 45)
pair_first c d h = elim h [
  | inl e ↦ at 60 (cc) (refl, refl, λ x. cc)
  | inr g ↦ elim g [
    | inl e ↦ at 33 (cc) (refl, refl, λ x. cc)
    | inr k ↦ elim k [
      | inl e ↦ at 60 (cc) (refl, refl, λ x. cc)
      | inr e ↦ at 62 (cc) (refl, refl, λ x. cc)
    ]
  ]
]
  where
    at : (n : ℕ) → c ≡ n → (is_word_byte n ≡ false) × (is_separator n ≡ false) × (n ≢ 45) → (is_word_byte c ≡ false) × (is_separator c ≡ false) × (c ≢ 45)
    at n e h = rw e h

pub letter_not_digit : (c : ℕ) → is_letter c ≡ true → is_ascii_digit c ≡ true → ⊥
letter_not_digit c l d = elim (or_cases (is_ascii_alphabetic c) (c == 95) l) [
  | inl a ↦ elim (or_cases (nat_le 65 c && nat_le c 90) (nat_le 97 c && nat_le c 122) a) [
    | inl u ↦ let low = leb-true 65 c (and_parts (nat_le 65 c) (nat_le c 90) u).0 in let high = leb-true c 57 (and_parts (nat_le 48 c) (nat_le c 57) d).1 in omega arith
    | inr u ↦ let low = leb-true 97 c (and_parts (nat_le 97 c) (nat_le c 122) u).0 in let high = leb-true c 57 (and_parts (nat_le 48 c) (nat_le c 57) d).1 in omega arith
  ]
  | inr e ↦ let same = eqb-true c 95 e in let high = leb-true c 57 (and_parts (nat_le 48 c) (nat_le c 57) d).1 in omega arith
]

-- no longer text is spelled, where none has one of the forms
longer : (c : ℕ) (more rest : List ℕ) → ((r : ℕ) (rs : List ℕ) → rest ≡ r ∷ rs → (k : ℕ) → Shape c (more ++ r ∷ take k rs) → ⊥)
    → (kind : TokenKind) (n : ℕ) → length (c ∷ more) < n → n ≤ length ((c ∷ more) ++ rest) → IsSpelling kind (take n ((c ∷ more) ++ rest)) → ⊥
longer c more [] none kind n lt le s = absurd (omega (arith, length-append (c ∷ more) []))
longer c more (r ∷ rs) none kind n lt le s =
    let k : ℕ = n - suc (suc (length more)) in
    let is : n ≡ length (c ∷ more) + suc k = omega arith in
    let cut : take n ((c ∷ more) ++ (r ∷ rs)) ≡ c ∷ (more ++ r ∷ take k rs) =
    ap (λ (m : ℕ). take m ((c ∷ more) ++ (r ∷ rs))) is ∙ take-append-add (c ∷ more) (r ∷ rs) (suc k) in
    none r rs refl k (shape kind c (more ++ r ∷ take k rs) (subst (IsSpelling kind) cut s))

same_take : (m n : ℕ) (xs : List ℕ) → m ≡ n → take m xs ≡ take n xs
same_take m n xs e = ap (λ (k : ℕ). take k xs) e

-- the first byte of a part of the source
part_more : (s : List ℕ) (from to : ℕ) → from < to → from < length s → slice_range s from to ≡ slice_index s from ∷ slice_range s (from + 1) to
part_more s from to lt inside =
    same_take (to - from) (suc (to - (from + 1))) (drop from s) (omega arith)
    ∙ ap (λ (xs : List ℕ). take (suc (to - (from + 1))) xs) (drop_more s from 0 inside)

part_none : (s : List ℕ) (from : ℕ) → slice_range s from from ≡ []
part_none s from = same_take (from - from) 0 (drop from s) (omega arith)

length_part : (s : List ℕ) (from to : ℕ) → from ≤ to → to ≤ length s → from + length (slice_range s from to) ≡ to
length_part s from to ordered within = omega (arith, length-take-le (to - from) (drop from s) (omega (arith, length-drop from s)))

-- the byte at which the rest begins
front : (s rs : List ℕ) (to r : ℕ) → drop to s ≡ r ∷ rs → (to < length s) × (slice_index s to ≡ r)
front s rs to r e =
    let long : length (drop to s) ≡ suc (length rs) = ap length e in (
      omega (arith, length-drop to s),
      ap (λ (i : ℕ). get_or s i 0) (let z : to ≡ to + 0 = omega arith in z) ∙ sym (get_or-drop to s 0 0) ∙ ap (λ (xs : List ℕ). get_or xs 0 0) e,
    )

-- the byte at which the rest after a run begins does not pass
stops_before : (pass : ℕ → Bool) (s rs : List ℕ) (from to r : ℕ) → IsRun pass s from to → drop to s ≡ r ∷ rs → pass r ≡ true → ⊥
stops_before pass s rs from to r run e passes =
    let (inside, is) = front s rs to r e in
    elim run.stops [
      | inl end ↦ absurd (omega arith)
      | inr none ↦ false≢true (sym none ∙ ap pass is ∙ passes)
    ]

-- the byte behind some bytes that pass
passes_at : (pass : ℕ → Bool) (xs ys : List ℕ) (r : ℕ) → AllPass pass (xs ++ r ∷ ys) → pass r ≡ true
passes_at pass xs ys r all =
    let at : get_or (xs ++ r ∷ ys) (length xs) 0 ≡ r = get_or_at xs r ys 0 (length xs) refl in
    sym (ap pass at) ∙ All-get_or (λ x. pass x ≡ true) (xs ++ r ∷ ys) (length xs) 0 (omega (arith, length-append xs (r ∷ ys))) all

not_nil : (xs ys : List ℕ) (r : ℕ) → xs ++ r ∷ ys ≡ [] → ⊥
not_nil xs ys r e = let n : length (xs ++ r ∷ ys) ≡ 0 = ap length e in omega (arith, length-append xs (r ∷ ys))

-- a token stands where its text does, if nothing longer does
token_piece : (s : List ℕ) (from to c : ℕ) (more : List ℕ) (kind : TokenKind) → from ≤ to → to ≤ length s → slice_range s from to ≡ c ∷ more
    → IsSpelling kind (c ∷ more) → (take 2 ((c ∷ more) ++ drop to s) ≢ codes "--")
    → ((r : ℕ) (rs : List ℕ) → drop to s ≡ r ∷ rs → (k : ℕ) → Shape c (more ++ r ∷ take k rs) → ⊥)
    → IsPieceAt s from (Some kind) to
token_piece s from to c more kind ordered within is spelling dashes none = (
  token kind (c ∷ more),
  sym is,
  ap (λ (xs : List ℕ). from + length xs) (sym is) ∙ length_part s from to ordered within,
  refl,
  within,
  (spelling, (dashes, longer c more (drop to s) none)),
)

-- a separator
pub separator_piece : (s : List ℕ) (at : ℕ) → at < length s → is_separator (slice_index s at) ≡ true → IsPieceAt s at None (at + 1)
separator_piece s at inside is = (
  separator (slice_index s at),
  sym (part_more s at (at + 1) (omega arith) inside ∙ ap (λ (xs : List ℕ). slice_index s at ∷ xs) (part_none s (at + 1))),
  refl,
  refl,
  omega arith,
  is,
)

-- a word: a run of letters and digits that begins with a letter
pub word_piece : (s : List ℕ) (at to : ℕ) → at < length s → is_letter (slice_index s at) ≡ true → IsRun is_word_byte s (at + 1) to → IsPieceAt s at (Some Word) to
word_piece s at to inside letter run =
    let c = slice_index s at in
    let more = slice_range s (at + 1) to in
    let ordered = run.ordered in
    let first : is_word_byte c ≡ true = or_left (is_letter c) (is_ascii_digit c) letter in
    token_piece s at to c more Word (omega arith) run.within (part_more s at to (omega arith) inside)
    (omega arith, letter, All-cons (λ x. is_word_byte x ≡ true) c more first run.passes)
    (λ e. let dash : c ≡ 45 = cc in false≢true (rw dash at letter))
    (λ r rs e k h. elim h [
      | inl w ↦ stops_before is_word_byte s rs (at + 1) to r run e (passes_at is_word_byte more (take k rs) r w.1)
      | inr g ↦ elim g [
        | inl n ↦ letter_not_digit c letter n.0
        | inr k2 ↦ elim k2 [
          | inl nil ↦ not_nil more (take k rs) r nil
          | inr two ↦ both_ways (is_word_byte c) (pair_first c two.0 two.2).0 first
        ]
      ]
    ])

-- a number: a run of digits
pub number_piece : (s : List ℕ) (at to : ℕ) → at < length s → is_ascii_digit (slice_index s at) ≡ true → IsRun is_ascii_digit s (at + 1) to → IsPieceAt s at (Some Number) to
number_piece s at to inside digit run =
    let c = slice_index s at in
    let more = slice_range s (at + 1) to in
    let ordered = run.ordered in
    token_piece s at to c more Number (omega arith) run.within (part_more s at to (omega arith) inside)
    (omega arith, All-cons (λ x. is_ascii_digit x ≡ true) c more digit run.passes)
    (λ e. let dash : c ≡ 45 = cc in false≢true (rw dash at digit))
    (λ r rs e k h. elim h [
      | inl w ↦ letter_not_digit c w.0 digit
      | inr g ↦ elim g [
        | inl n ↦ stops_before is_ascii_digit s rs (at + 1) to r run e (passes_at is_ascii_digit more (take k rs) r n.1)
        | inr k2 ↦ elim k2 [
          | inl nil ↦ not_nil more (take k rs) r nil
          | inr two ↦ both_ways (is_word_byte c) (pair_first c two.0 two.2).0 (or_right (is_letter c) (is_ascii_digit c) digit)
        ]
      ]
    ])

-- a comment: two dashes and a run that ends before a line feed
pub comment_piece : (s : List ℕ) (at to : ℕ) → at + 1 < length s → slice_index s at ≡ 45 → slice_index s (at + 1) ≡ 45
    → IsRun (goes_on OfComment) s (at + 2) to → IsPieceAt s at None to
comment_piece s at to inside first second run =
    let body = slice_range s (at + 2) to in
    let ordered = run.ordered in
    let next : at + 1 + 1 ≡ at + 2 = omega arith in
    let is : slice_range s at to ≡ 45 ∷ 45 ∷ body =
    part_more s at to (omega arith) (omega arith) ∙ ap (λ (x : ℕ). x ∷ slice_range s (at + 1) to) first
    ∙ ap (λ (xs : List ℕ). 45 ∷ xs) (part_more s (at + 1) to (omega arith) inside ∙ ap (λ (x : ℕ). x ∷ slice_range s (at + 1 + 1) to) second ∙ ap (λ (i : ℕ). 45 ∷ slice_range s i to) next) in (
      comment body,
      sym is,
      ap (λ (xs : List ℕ). at + length xs) (sym is) ∙ length_part s at to (omega arith) run.within,
      refl,
      run.within,
      (
        All-weaker (λ x. not (x == 10) ≡ true) (λ x. x ≢ 10) (λ x h e. both_ways (x == 10) (not-true (x == 10) h) (eq-eqb x 10 e)) body run.passes,
        elim run.stops [
          | inl end ↦ inl (drop_all to s (omega arith))
          | inr none ↦ inr (get_or-drop to s 0 0 ∙ ap (λ (i : ℕ). get_or s i 0) (let z : to + 0 ≡ to = omega arith in z) ∙ eqb-true (slice_index s to) 10 (line (slice_index s to == 10) none))
        ],
      ),
    )
  where
    line : (b : Bool) → not b ≡ false → b ≡ true
    line b h = not-false b h

-- a sign of two bytes
pub pair_piece : (s : List ℕ) (at : ℕ) (kind : TokenKind) → at + 1 < length s → IsPair (slice_index s at) (slice_index s (at + 1))
    → IsSpelling kind (slice_index s at ∷ slice_index s (at + 1) ∷ []) → IsPieceAt s at (Some kind) (at + 2)
pair_piece s at kind inside pair spelling =
    let c = slice_index s at in
    let d = slice_index s (at + 1) in
    let next : at + 1 + 1 ≡ at + 2 = omega arith in
    let says = pair_first c d pair in
    let is : slice_range s at (at + 2) ≡ c ∷ d ∷ [] =
    part_more s at (at + 2) (omega arith) (omega arith)
    ∙ ap (λ (xs : List ℕ). c ∷ xs) (part_more s (at + 1) (at + 2) (omega arith) inside ∙ ap (λ (i : ℕ). d ∷ slice_range s i (at + 2)) next ∙ ap (λ (xs : List ℕ). d ∷ xs) (part_none s (at + 2))) in
    token_piece s at (at + 2) c (d ∷ []) kind (omega arith) (omega arith) is spelling
    (λ e. says.2 (cc))
    (λ r rs e k h. elim h [
      | inl w ↦ both_ways (is_letter c) (or_parts (is_letter c) (is_ascii_digit c) says.0).0 w.0
      | inr g ↦ elim g [
        | inl n ↦ both_ways (is_ascii_digit c) (or_parts (is_letter c) (is_ascii_digit c) says.0).1 n.0
        | inr k2 ↦ elim k2 [
          | inl nil ↦ cc
          | inr two ↦ let t = two.1 in cc
        ]
      ]
    ])

-- a token of one byte, which the next byte doesn't make longer
pub single_piece : (s : List ℕ) (at : ℕ) (kind : TokenKind) → at < length s → is_word_byte (slice_index s at) ≡ false
    → IsSpelling kind (slice_index s at ∷ []) → (IsPair (slice_index s at) (slice_index s (at + 1)) → ⊥)
    → (slice_index s at ≡ 45 → slice_index s (at + 1) ≡ 45 → ⊥) → IsPieceAt s at (Some kind) (at + 1)
single_piece s at kind inside word spelling pair dashes =
    let c = slice_index s at in
    let is : slice_range s at (at + 1) ≡ c ∷ [] =
    part_more s at (at + 1) (omega arith) inside ∙ ap (λ (xs : List ℕ). c ∷ xs) (part_none s (at + 1)) in
    token_piece s at (at + 1) c [] kind (omega arith) (omega arith) is spelling
    (λ e. two_dashes (drop (at + 1) s) refl e)
    (λ r rs e k h. elim h [
      | inl w ↦ both_ways (is_letter c) (or_parts (is_letter c) (is_ascii_digit c) word).0 w.0
      | inr g ↦ elim g [
        | inl n ↦ both_ways (is_ascii_digit c) (or_parts (is_letter c) (is_ascii_digit c) word).1 n.0
        | inr k2 ↦ elim k2 [
          | inl nil ↦ cc
          | inr two ↦ let t = two.1 in let d : two.0 ≡ slice_index s (at + 1) = cc ((front s rs (at + 1) r e).1) in pair (subst (IsPair c) d two.2)
        ]
      ]
    ])
  where
    two_dashes : (rest : List ℕ) → drop (at + 1) s ≡ rest → slice_index s at ∷ take 1 rest ≡ codes "--" → ⊥
    two_dashes [] is e = cc
    two_dashes (r ∷ rs) is e = let f = (front s rs (at + 1) r is).1 in dashes (cc) (cc)

-- the second byte of a sign isn't 0
pub pair_second : (c d : ℕ) → IsPair c d → 0 < d
pair_second c d h = elim h [
  | inl e ↦ at 62 (cc) (omega arith)
  | inr g ↦ elim g [
    | inl e ↦ at 61 (cc) (omega arith)
    | inr k ↦ elim k [ inl e ↦ at 61 (cc) (omega arith) | inr e ↦ at 61 (cc) (omega arith) ]
  ]
]
  where
    at : (n : ℕ) → d ≡ n → 0 < n → 0 < d
    at n e h = omega arith
