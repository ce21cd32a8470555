-- The spans of a row's tokens, and their texts.
use Rattle.std.proofs.Common.{◌≡◌, ◌≤◌, ◌<◌, ◌+◌, ◌-◌, ℕ, List, [], ◌∷◌, ◌++◌, length, take, drop, slice_range, codes, refl, sym, ap, arith, ◌∙◌, subst, inl, inr, append_assoc}
use Rattle.std.specs.List.{flat_map}
use Rattle.std.proofs.lemmas.List.{length-append, take_at, drop_at}
use Rattle.std.proofs.lemmas.List.Elements.{All-nil, All-cons}
use Rattle.ub_lexer.specs.Text.{IsSpelling}
use Rattle.ub_lexer.specs.Tokens.{Piece, separator, comment, token, spelled, AreInRow, tokens_from, AreTokens, AreSpelled, SpansAscend, text_of}
use Rattle.ub_lexer.specs.declared.token.TokenKind.{TokenKind}
use Rattle.ub_lexer.specs.declared.token.TokenKind.TheVariants.{Word, Number, Comma, OpenParenthesis, CloseParenthesis, Star, Semicolon, Equal, NotEqual, Less, AtMost, Greater, AtLeast, Minus, Bad}
use Rattle.ub_lexer.specs.declared.token.Token.{Token}

-- a spelled text is not empty
pub length-spelling : (kind : TokenKind) (text : List ℕ) → IsSpelling kind text → 0 < length text
length-spelling Word text h = h.0
length-spelling Number text h = h.0
length-spelling Comma text h = rw h (omega arith)
length-spelling OpenParenthesis text h = rw h (omega arith)
length-spelling CloseParenthesis text h = rw h (omega arith)
length-spelling Star text h = rw h (omega arith)
length-spelling Semicolon text h = rw h (omega arith)
length-spelling Equal text h = rw h (omega arith)
length-spelling NotEqual text h = elim h [ inl e ↦ rw e (omega arith) | inr e ↦ rw e (omega arith) ]
length-spelling Less text h = rw h (omega arith)
length-spelling AtMost text h = rw h (omega arith)
length-spelling Greater text h = rw h (omega arith)
length-spelling AtLeast text h = rw h (omega arith)
length-spelling Minus text h = rw h (omega arith)
length-spelling Bad text h = rw h.1 (omega arith)

-- spans that ascend from a place ascend from an earlier one
SpansAscend-earlier : (a b bytes : ℕ) (ts : List Token) → a ≤ b → SpansAscend b bytes ts → SpansAscend a bytes ts
SpansAscend-earlier a b bytes [] le h = tt
SpansAscend-earlier a b bytes (t ∷ ts) le h = let first = h.0 in (omega arith, h.1, h.2, h.3)

SpansAscend-tokens_from : (ps : List Piece) (at bytes : ℕ) → AreInRow ps → at + length (flat_map spelled ps) ≤ bytes → SpansAscend at bytes (tokens_from at ps)
SpansAscend-tokens_from [] at bytes row le = tt
SpansAscend-tokens_from (separator c ∷ ps) at bytes row le =
    SpansAscend-earlier at (at + 1) bytes (tokens_from (at + 1) ps) (omega arith) (SpansAscend-tokens_from ps (at + 1) bytes row.1 (omega arith))
SpansAscend-tokens_from (comment body ∷ ps) at bytes row le =
    let next : ℕ = at + length (codes "--" ++ body) in
    SpansAscend-earlier at next bytes (tokens_from next ps) (omega arith)
    (SpansAscend-tokens_from ps next bytes row.1 (omega (arith, length-append body (flat_map spelled ps))))
SpansAscend-tokens_from (token kind text ∷ ps) at bytes row le =
    let long = length-spelling kind text row.0.0 in
    let whole = length-append text (flat_map spelled ps) in
    (omega arith, omega arith, omega arith, SpansAscend-tokens_from ps (at + length text) bytes row.1 (omega arith))

-- the spans of a source's tokens ascend
pub SpansAscend-tokens : (source : List ℕ) (ts : List Token) → AreTokens source ts → SpansAscend 0 (length source) ts
SpansAscend-tokens source ts h =
    let (ps, is, row, are) = h in
    subst (SpansAscend 0 (length source)) (sym are) (SpansAscend-tokens_from ps 0 (length source) row (let n : length source ≡ length (flat_map spelled ps) = ap length is in omega arith))

-- the bytes behind some others
part_behind : (before text rest : List ℕ) → slice_range (before ++ (text ++ rest)) (length before) (length before + length text) ≡ text
part_behind before text rest =
    ap (λ (n : ℕ). take n (drop (length before) (before ++ (text ++ rest)))) (let n : length before + length text - length before ≡ length text = omega arith in n)
    ∙ ap (λ (xs : List ℕ). take (length text) xs) (drop_at before (text ++ rest) (length before) refl) ∙ take_at text rest (length text) refl

AreSpelled-tokens_from : (source before : List ℕ) (ps : List Piece) (at : ℕ) → at ≡ length before → source ≡ before ++ flat_map spelled ps → AreInRow ps
    → AreSpelled source (tokens_from at ps)
AreSpelled-tokens_from source before [] at place is row = All-nil (λ t. (t.from < t.to) × (t.to ≤ length source) × IsSpelling t.kind (text_of source t))
AreSpelled-tokens_from source before (separator c ∷ ps) at place is row =
    AreSpelled-tokens_from source (before ++ c ∷ []) ps (at + 1) (omega (arith, length-append before (c ∷ [])))
    (is ∙ sym (append_assoc before (c ∷ []) (flat_map spelled ps))) row.1
AreSpelled-tokens_from source before (comment body ∷ ps) at place is row =
    let text : List ℕ = codes "--" ++ body in
    AreSpelled-tokens_from source (before ++ text) ps (at + length text) (omega (arith, length-append before text))
    (is ∙ sym (append_assoc before text (flat_map spelled ps))) row.1
AreSpelled-tokens_from source before (token kind text ∷ ps) at place is row =
    let long = length-spelling kind text row.0.0 in
    let rest : List ℕ = flat_map spelled ps in
    let whole : length source ≡ length before + (length text + length rest) = ap length is ∙ length-append before (text ++ rest) ∙ ap (λ (n : ℕ). length before + n) (length-append text rest) in
    let part : slice_range source at (at + length text) ≡ text = rw (place, is) (part_behind before text rest) in
    All-cons (λ t. (t.from < t.to) × (t.to ≤ length source) × IsSpelling t.kind (text_of source t))
    (record { kind = kind; from = at; to = at + length text }) (tokens_from (at + length text) ps)
    (omega arith, omega arith, subst (IsSpelling kind) (sym part) row.0.0)
    (AreSpelled-tokens_from source (before ++ text) ps (at + length text) (omega (arith, length-append before text))
    (is ∙ sym (append_assoc before text rest)) row.1)

-- each of a source's tokens is spelled as its kind asks
pub AreSpelled-tokens : (source : List ℕ) (ts : List Token) → AreTokens source ts → AreSpelled source ts
AreSpelled-tokens source ts h =
    let (ps, is, row, are) = h in
    subst (AreSpelled source) (sym are) (AreSpelled-tokens_from source [] ps 0 refl is row)
