-- A source is a row of pieces in one way only.
use Rattle.std.proofs.Common.{◌≡◌, ◌≢◌, ◌<◌, ◌+◌, ◌==◌, ◌||◌, ℕ, true, false, cond, List, [], ◌∷◌, ◌++◌, length, take, slice_index, All, refl, sym, ap, arith, ◌∙◌, subst, inl, inr, ◌⊎◌}
use Rattle.std.specs.List.{flat_map}
use Rattle.std.specs.Char.{is_ascii_digit}
use Rattle.std.proofs.lemmas.Bool.{false≢true, or_cases, or_parts, eqb-true, both_ways, false_from_ne_true, cases_order}
use Rattle.std.proofs.lemmas.List.{length-append, take_at, append_cancel_left}
use Rattle.std.proofs.lemmas.List.Elements.{All-head, All-tail, All-get_or}
use Rattle.ub_lexer.specs.Text.{is_separator, is_letter, is_word_byte, is_sign, IsSpelling}
use Rattle.ub_lexer.specs.Tokens.{Piece, separator, comment, token, spelled, StandsBefore, IsLongest, AreInRow, tokens_from, AreTokens}
use Rattle.ub_lexer.specs.declared.token.TokenKind.{TokenKind}
use Rattle.ub_lexer.specs.declared.token.TokenKind.TheVariants.{Word, Number, Comma, OpenParenthesis, CloseParenthesis, Star, Semicolon, Equal, NotEqual, Less, AtMost, Greater, AtLeast, Minus, Bad}
use Rattle.ub_lexer.specs.declared.token.Token.{Token}
use Rattle.ub_lexer.proofs.Pieces.{letter_not_digit}
use Rattle.ub_lexer.proofs.Spans.{length-spelling}

-- the one kind that a text of these first two bytes can have
abbrev kind_by : ℕ → ℕ → TokenKind
kind_by c d =
    cond (is_letter c) Word (cond (is_ascii_digit c) Number
    (cond (d == 61) (cond (c == 60) AtMost (cond (c == 62) AtLeast NotEqual))
    (cond (d == 62) NotEqual
    (cond (c == 44) Comma (cond (c == 40) OpenParenthesis (cond (c == 41) CloseParenthesis
    (cond (c == 42) Star (cond (c == 59) Semicolon (cond (c == 61) Equal
    (cond (c == 60) Less (cond (c == 62) Greater (cond (c == 45) Minus Bad))))))))))))

bad_kind : (c : ℕ) → is_word_byte c ≡ false → is_sign c ≡ false → kind_by c 0 ≡ Bad
bad_kind c word sign =
    let w = or_parts (is_letter c) (is_ascii_digit c) word in
    let a = or_parts (c == 44) _ sign in
    let b = or_parts (c == 40) _ a.1 in
    let d = or_parts (c == 41) _ b.1 in
    let e = or_parts (c == 42) _ d.1 in
    let f = or_parts (c == 59) _ e.1 in
    let g = or_parts (c == 61) _ f.1 in
    let h = or_parts (c == 60) _ g.1 in
    let i = or_parts (c == 62) _ h.1 in
    let j = or_parts (c == 45) _ i.1 in
    rw (w.0, w.1, a.0, b.0, d.0, e.0, f.0, g.0, h.0, i.0, j.0) refl

kind_by-spelling : (kind : TokenKind) (text : List ℕ) → IsSpelling kind text → kind_by (slice_index text 0) (slice_index text 1) ≡ kind
kind_by-spelling Word text h = rw h.1 refl
kind_by-spelling Number text h =
    let digit : is_ascii_digit (slice_index text 0) ≡ true = All-get_or (λ x. is_ascii_digit x ≡ true) text 0 0 h.0 h.1 in
    let letter : is_letter (slice_index text 0) ≡ false = false_from_ne_true (is_letter (slice_index text 0)) (λ l. letter_not_digit (slice_index text 0) l digit) in
    rw (letter, digit) refl
kind_by-spelling Comma text h = rw h refl
kind_by-spelling OpenParenthesis text h = rw h refl
kind_by-spelling CloseParenthesis text h = rw h refl
kind_by-spelling Star text h = rw h refl
kind_by-spelling Semicolon text h = rw h refl
kind_by-spelling Equal text h = rw h refl
kind_by-spelling NotEqual text h = elim h [ inl e ↦ rw e refl | inr e ↦ rw e refl ]
kind_by-spelling Less text h = rw h refl
kind_by-spelling AtMost text h = rw h refl
kind_by-spelling Greater text h = rw h refl
kind_by-spelling AtLeast text h = rw h refl
kind_by-spelling Minus text h = rw h refl
kind_by-spelling Bad text h = let (c, is, sep, word, sign) = h in rw is (bad_kind c word sign)

-- a text is spelled as one kind only
same_kind : (j k : TokenKind) (text : List ℕ) → IsSpelling j text → IsSpelling k text → j ≡ k
same_kind j k text h i = sym (kind_by-spelling j text h) ∙ kind_by-spelling k text i

separator_values : (c : ℕ) → is_separator c ≡ true → is_word_byte c ≡ false
separator_values c h = elim (or_cases ((c == 32) || (c == 9) || (c == 10)) (c == 13) h) [
  | inl g ↦ elim (or_cases ((c == 32) || (c == 9)) (c == 10) g) [
    | inl f ↦ elim (or_cases (c == 32) (c == 9) f) [ inl e ↦ at 32 e refl | inr e ↦ at 9 e refl ]
    | inr e ↦ at 10 e refl
  ]
  | inr e ↦ at 13 e refl
]
  where
    at : (n : ℕ) → (c == n) ≡ true → is_word_byte n ≡ false → is_word_byte c ≡ false
    at n e w = let same = eqb-true c n e in rw same w

-- no token begins with a separator
no_separator : (kind : TokenKind) (c : ℕ) (more : List ℕ) → is_separator c ≡ true → IsSpelling kind (c ∷ more) → ⊥
no_separator Word c more s h = let l = h.1 in both_ways (is_letter c) (or_parts (is_letter c) (is_ascii_digit c) (separator_values c s)).0 l
no_separator Number c more s h =
    both_ways (is_ascii_digit c) (or_parts (is_letter c) (is_ascii_digit c) (separator_values c s)).1 (All-head (λ x. is_ascii_digit x ≡ true) c more h.1)
no_separator Comma c more s h = let e : c ≡ 44 = cc in false≢true (rw e at s)
no_separator OpenParenthesis c more s h = let e : c ≡ 40 = cc in false≢true (rw e at s)
no_separator CloseParenthesis c more s h = let e : c ≡ 41 = cc in false≢true (rw e at s)
no_separator Star c more s h = let e : c ≡ 42 = cc in false≢true (rw e at s)
no_separator Semicolon c more s h = let e : c ≡ 59 = cc in false≢true (rw e at s)
no_separator Equal c more s h = let e : c ≡ 61 = cc in false≢true (rw e at s)
no_separator NotEqual c more s h = elim h [
  | inl e ↦ let f : c ≡ 60 = cc in false≢true (rw f at s)
  | inr e ↦ let f : c ≡ 33 = cc in false≢true (rw f at s)
]
no_separator Less c more s h = let e : c ≡ 60 = cc in false≢true (rw e at s)
no_separator AtMost c more s h = let e : c ≡ 60 = cc in false≢true (rw e at s)
no_separator Greater c more s h = let e : c ≡ 62 = cc in false≢true (rw e at s)
no_separator AtLeast c more s h = let e : c ≡ 62 = cc in false≢true (rw e at s)
no_separator Minus c more s h = let e : c ≡ 45 = cc in false≢true (rw e at s)
no_separator Bad c more s h = let (d, is, sep, word, sign) = h in let e : c ≡ d = cc in both_ways (is_separator d) sep (rw e at s)

-- a separator does not begin a token
separator_or_token : (kind : TokenKind) (c : ℕ) (text rest after : List ℕ) → is_separator c ≡ true → IsSpelling kind text → c ∷ rest ≡ text ++ after → ⊥
separator_or_token kind c [] rest after s h e = let long = length-spelling kind [] h in omega arith
separator_or_token kind c (d ∷ more) rest after s h e = let same : c ≡ d = cc in no_separator kind d more (rw same at s) h

-- a comment's text ends at the line feed or with the source
same_body : (xs ys r s : List ℕ) → All (λ c. c ≢ 10) xs → All (λ c. c ≢ 10) ys → (r ≡ []) ⊎ (slice_index r 0 ≡ 10) → (s ≡ []) ⊎ (slice_index s 0 ≡ 10)
    → xs ++ r ≡ ys ++ s → xs ≡ ys
same_body [] [] r s hx hy hr hs e = refl
same_body [] (y ∷ ys) r s hx hy hr hs e = elim hr [
  | inl n ↦ absurd (let bad : y ∷ (ys ++ s) ≡ [] = sym e ∙ n in cc)
  | inr n ↦ absurd (All-head (λ c. c ≢ 10) y ys hy (ap (λ (zs : List ℕ). slice_index zs 0) (sym e) ∙ n))
]
same_body (x ∷ xs) [] r s hx hy hr hs e = elim hs [
  | inl n ↦ absurd (let bad : x ∷ (xs ++ r) ≡ [] = e ∙ n in cc)
  | inr n ↦ absurd (All-head (λ c. c ≢ 10) x xs hx (ap (λ (zs : List ℕ). slice_index zs 0) e ∙ n))
]
same_body (x ∷ xs) (y ∷ ys) r s hx hy hr hs e =
    let first : x ≡ y = cc in
    let behind : xs ++ r ≡ ys ++ s = cc in
    let more = same_body xs ys r s (All-tail (λ c. c ≢ 10) x xs hx) (All-tail (λ c. c ≢ 10) y ys hy) hr hs behind in
    cc

-- of two texts at the front of a source the longer one is no token beside the shorter
no_shorter : (j k : TokenKind) (xs ys r s : List ℕ) → IsLongest xs r → IsSpelling k ys → xs ++ r ≡ ys ++ s → length xs < length ys → ⊥
no_shorter j k xs ys r s longest h e lt =
    let long : length (xs ++ r) ≡ length ys + length s = ap length e ∙ length-append ys s in
    longest.1 k (length ys) lt (omega arith) (subst (IsSpelling k) (sym (ap (λ (zs : List ℕ). take (length ys) zs) e ∙ take_at ys s (length ys) refl)) h)

same_text : (xs ys r s : List ℕ) → length xs ≡ length ys → xs ++ r ≡ ys ++ s → xs ≡ ys
same_text xs ys r s long e =
    sym (take_at xs r (length xs) refl) ∙ ap (λ (zs : List ℕ). take (length xs) zs) e ∙ ap (λ (n : ℕ). take n (ys ++ s)) long ∙ take_at ys s (length ys) refl

same_token : (j k : TokenKind) (xs ys r s : List ℕ) → StandsBefore (token j xs) r → StandsBefore (token k ys) s → xs ++ r ≡ ys ++ s → token j xs ≡ token k ys
same_token j k xs ys r s hx hy e = elim (cases_order (length xs) (length ys)) [
  | inl long ↦ let text = same_text xs ys r s long e in let kind = same_kind j k ys (subst (IsSpelling j) text hx.0) hy.0 in cc
  | inr other ↦ elim other [
    | inl lt ↦ absurd (no_shorter j k xs ys r s hx.1 hy.0 e lt)
    | inr gt ↦ absurd (no_shorter k j ys xs s r hy.1 hx.0 (sym e) gt)
  ]
]

-- two pieces that can stand at the front of one source are one
same_piece : (p q : Piece) (r s : List ℕ) → StandsBefore p r → StandsBefore q s → spelled p ++ r ≡ spelled q ++ s → p ≡ q
same_piece (separator c) (separator d) r s hp hq e = cc
same_piece (separator c) (comment ys) r s hp hq e = absurd (let same : c ≡ 45 = cc in false≢true (rw same at hp))
same_piece (separator c) (token k ys) r s hp hq e = absurd (separator_or_token k c ys r s hp hq.0 e)
same_piece (comment xs) (separator d) r s hp hq e = absurd (let same : d ≡ 45 = cc in false≢true (rw same at hq))
same_piece (comment xs) (comment ys) r s hp hq e =
    let behind : xs ++ r ≡ ys ++ s = cc in
    let same = same_body xs ys r s hp.0 hq.0 hp.1 hq.1 behind in
    cc
same_piece (comment xs) (token k ys) r s hp hq e = absurd (hq.1.0 (ap (λ (zs : List ℕ). take 2 zs) (sym e)))
same_piece (token j xs) (separator d) r s hp hq e = absurd (separator_or_token j d xs s r hq hp.0 (sym e))
same_piece (token j xs) (comment ys) r s hp hq e = absurd (hp.1.0 (ap (λ (zs : List ℕ). take 2 zs) e))
same_piece (token j xs) (token k ys) r s hp hq e = same_token j k xs ys r s hp hq e

length-piece : (p : Piece) (rest : List ℕ) → StandsBefore p rest → 0 < length (spelled p)
length-piece (separator c) rest h = omega arith
length-piece (comment body) rest h = omega arith
length-piece (token kind text) rest h = length-spelling kind text h.0

no_piece : (p : Piece) (rest : List ℕ) → StandsBefore p rest → [] ≡ spelled p ++ rest → ⊥
no_piece p rest h e =
    let long = length-piece p rest h in
    let n : 0 ≡ length (spelled p) + length rest = ap length e ∙ length-append (spelled p) rest in
    omega arith

same_row : (ps qs : List Piece) → AreInRow ps → AreInRow qs → flat_map spelled ps ≡ flat_map spelled qs → ps ≡ qs
same_row [] [] hp hq e = refl
same_row [] (q ∷ qs) hp hq e = absurd (no_piece q (flat_map spelled qs) hq.0 e)
same_row (p ∷ ps) [] hp hq e = absurd (no_piece p (flat_map spelled ps) hp.0 (sym e))
same_row (p ∷ ps) (q ∷ qs) hp hq e =
    let first : p ≡ q = same_piece p q (flat_map spelled ps) (flat_map spelled qs) hp.0 hq.0 e in
    let behind : spelled p ++ flat_map spelled ps ≡ spelled p ++ flat_map spelled qs = e ∙ ap (λ (x : Piece). spelled x ++ flat_map spelled qs) (sym first) in
    let more = same_row ps qs hp.1 hq.1 (append_cancel_left (spelled p) (flat_map spelled ps) (flat_map spelled qs) behind) in
    cc

-- a source has one list of tokens
pub same_tokens : (source : List ℕ) (ts us : List Token) → AreTokens source ts → AreTokens source us → ts ≡ us
same_tokens source ts us h i =
    let (ps, is, row, are) = h in
    let (qs, is2, row2, are2) = i in
    are ∙ ap (λ (xs : List Piece). tokens_from 0 xs) (same_row ps qs row row2 (sym is ∙ is2)) ∙ sym are2
