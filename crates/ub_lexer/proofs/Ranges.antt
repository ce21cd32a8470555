-- Ranges of tokens between semicolons.
use Rattle.std.proofs.Common.{◌≡◌, ◌≢◌, ◌≤◌, ◌<◌, ◌+◌, ◌-◌, ◌↔◌, ℕ, Bool, true, false, nat_lt, zero, suc, List, [], ◌∷◌, ◌++◌, length, map, get_or, Option, Some, refl, sym, ap, arith, ◌∙◌, subst, inl, inr, ◌⊎◌, add-one}
use Rattle.std.specs.List.{Contains}
use Rattle.std.specs.Option.{option_map}
use Rattle.std.specs.List.Sorted.{IsStrictlyIncreasing}
use Rattle.std.proofs.lemmas.Bool.{both_ways, cases_lt, cases_order, lt-ltb, le-ltb}
use Rattle.std.proofs.lemmas.List.{append-nil, length-append, length-map, map-append, get_or_append_left, get_or_push, get_or-map}
use Rattle.std.proofs.lemmas.List.Elements.{Contains-get_or, Contains-append_left, Contains-append_right, Contains-append_cases}
use Rattle.std.proofs.lemmas.Option.{slice_get-get_or}
use Rattle.ub_lexer.specs.Ranges.{range_if}
use Rattle.ub_lexer.specs.Statements.{kind_at, IsStatementRange, AreStatements}
use Rattle.ub_lexer.specs.declared.token.TokenKind.{TokenKind}
use Rattle.ub_lexer.specs.declared.token.TokenKind.TheVariants.{Semicolon}
use Rattle.ub_lexer.specs.declared.token.Token.{Token}

-- these are the statements that end before a place, in order
pub record AreStatementsBefore (tokens : List Token) (end : ℕ) (ranges : List (ℕ × ℕ)) : Type 0 where
  pub rising : IsStrictlyIncreasing (map (λ r. r.0) ranges)
  pub members : (r : ℕ × ℕ) → Contains ranges r ↔ (IsStatementRange tokens r × (r.1 < end))

-- from one place up to another there is no semicolon, and before it there is one or the source begins
pub record IsGap (tokens : List Token) (from to : ℕ) : Type 0 where
  pub ordered : from ≤ to
  pub within : to ≤ length tokens
  pub clear : (i : ℕ) → from ≤ i → i < to → kind_at tokens i ≢ Some Semicolon
  pub begins : (from ≡ 0) ⊎ (kind_at tokens (from - 1) ≡ Some Semicolon)

abbrev EndsAt : List Token → ℕ → Type 0
EndsAt tokens i = (i ≡ length tokens) ⊎ (kind_at tokens i ≡ Some Semicolon)

not_in_nil : (r : ℕ × ℕ) → Contains [] r → ⊥
not_in_nil r h = let lt = h.1 in omega arith

in_cons : (x : ℕ × ℕ) (xs : List (ℕ × ℕ)) (r : ℕ × ℕ) → Contains (x ∷ xs) r → (x ≡ r) ⊎ Contains xs r
in_cons x xs r h = at h.0 h.1 h.2
  where
    at : (k : ℕ) → k < length (x ∷ xs) → get_or (x ∷ xs) k r ≡ r → (x ≡ r) ⊎ Contains xs r
    at zero lt e = inl e
    at (suc k) lt e = inr (k, omega arith, e)

in_first : (x : ℕ × ℕ) (xs : List (ℕ × ℕ)) → Contains (x ∷ xs) x
in_first x xs = (0, omega arith, refl)

in_later : (x : ℕ × ℕ) (xs : List (ℕ × ℕ)) (r : ℕ × ℕ) → Contains xs r → Contains (x ∷ xs) r
in_later x xs r h = let lt = h.1 in (suc h.0, omega arith, h.2)

range_if-some : (from to : ℕ) → from < to → range_if from to ≡ (from, to) ∷ []
range_if-some from to lt = let t : nat_lt from to ≡ true = lt-ltb from to lt in rw t refl

range_if-none : (from to : ℕ) → to ≤ from → range_if from to ≡ []
range_if-none from to le = let t : nat_lt from to ≡ false = le-ltb from to le in rw t refl

in_range_if : (from to : ℕ) (r : ℕ × ℕ) → Contains (range_if from to) r → (from < to) × (r ≡ (from, to))
in_range_if from to r h = elim (cases_lt from to) [
  | inl lt ↦ (lt, elim (in_cons (from, to) [] r (subst (λ (xs : List (ℕ × ℕ)). Contains xs r) (range_if-some from to lt) h)) [ inl e ↦ sym e | inr n ↦ absurd (not_in_nil r n) ])
  | inr le ↦ absurd (not_in_nil r (subst (λ (xs : List (ℕ × ℕ)). Contains xs r) (range_if-none from to le) h))
]

in_range_if-from : (from to : ℕ) → from < to → Contains (range_if from to) (from, to)
in_range_if-from from to lt = subst (λ (xs : List (ℕ × ℕ)). Contains xs (from, to)) (sym (range_if-some from to lt)) (in_first (from, to) [])

same_pair : (a b c d : ℕ) → a ≡ c → b ≡ d → let p : ℕ × ℕ = (a, b) in let q : ℕ × ℕ = (c, d) in p ≡ q
same_pair a b c d e f = cc

-- a range that ends in the gap's end or within it is the gap
is_gap : (tokens : List Token) (from to : ℕ) → IsGap tokens from to → (r : ℕ × ℕ) → IsStatementRange tokens r → from ≤ r.1 → r.1 ≤ to → r ≡ (from, to)
is_gap tokens from to gap r range low high =
    let some = range.0 in
    let inside = gap.within in
    let end : r.1 ≡ to = elim (cases_order r.1 to) [
      | inl e ↦ e
      | inr other ↦ elim other [
        | inl lt ↦ elim range.4 [ inl last ↦ absurd (omega arith) | inr semicolon ↦ absurd (gap.clear r.1 low lt semicolon) ]
        | inr gt ↦ absurd (omega arith)
      ]
    ] in
    let start : r.0 ≡ from = elim (cases_order r.0 from) [
      | inl e ↦ e
      | inr other ↦ elim other [
        | inl lt ↦ elim gap.begins [
          | inl first ↦ absurd (omega arith)
          | inr semicolon ↦ absurd (range.2 (from - 1) (omega arith) (omega arith) semicolon)
        ]
        | inr gt ↦ elim range.3 [
          | inl first ↦ absurd (omega arith)
          | inr semicolon ↦ absurd (gap.clear (r.0 - 1) (omega arith) (omega arith) semicolon)
        ]
      ]
    ] in
    same_pair r.0 r.1 from to start end

rising_push : (xs : List ℕ) (y : ℕ) → IsStrictlyIncreasing xs → ((k : ℕ) → k < length xs → get_or xs k 0 < y) → IsStrictlyIncreasing (xs ++ y ∷ [])
rising_push xs y rising below k lt =
    let long : length (xs ++ y ∷ []) ≡ length xs + 1 = length-append xs (y ∷ []) in
    let here : get_or (xs ++ y ∷ []) k 0 ≡ get_or xs k 0 = get_or_append_left xs (y ∷ []) 0 k (omega arith) in
    elim (cases_lt (k + 1) (length xs)) [
      | inl l ↦ let next = get_or_append_left xs (y ∷ []) 0 (k + 1) l in let step = rising k l in omega arith
      | inr g ↦ let next = get_or_push xs y 0 (k + 1) (omega arith) in let step = below k (omega arith) in omega arith
    ]

-- the kind of the token that stands at a place
kind_at-within : (tokens : List Token) (i : ℕ) (d : Token) → i < length tokens → kind_at tokens i ≡ Some (get_or tokens i d).kind
kind_at-within tokens i d lt = ap (λ (o : Option Token). option_map (λ (t : Token). t.kind) o) (slice_get-get_or tokens i d lt)

-- what a test for a semicolon says of the token at a place
pub semicolon_here : (tokens : List Token) (i : ℕ) (d : Token) (test : Bool) → i < length tokens → (test ≡ true) ↔ ((get_or tokens i d).kind ≡ Semicolon)
    → test ≡ true → kind_at tokens i ≡ Some Semicolon
semicolon_here tokens i d test lt says e = kind_at-within tokens i d lt ∙ ap (λ (k : TokenKind). Some k) (says.0 e)

pub no_semicolon_here : (tokens : List Token) (i : ℕ) (d : Token) (test : Bool) → i < length tokens → (test ≡ true) ↔ ((get_or tokens i d).kind ≡ Semicolon)
    → test ≡ false → kind_at tokens i ≢ Some Semicolon
no_semicolon_here tokens i d test lt says e is =
    let same : Some (get_or tokens i d).kind ≡ Some Semicolon = sym (kind_at-within tokens i d lt) ∙ is in
    let kind : (get_or tokens i d).kind ≡ Semicolon = cc in
    both_ways test e (says.1 kind)

pub gap_none : (tokens : List Token) → IsGap tokens 0 0
gap_none tokens = record { ordered = omega arith; within = omega arith; clear = λ i low high. absurd (omega arith); begins = inl refl }

-- behind a semicolon a gap begins
pub gap_after : (tokens : List Token) (i : ℕ) → i < length tokens → kind_at tokens i ≡ Some Semicolon → IsGap tokens (i + 1) (i + 1)
gap_after tokens i lt is = record {
  ordered = omega arith;
  within = omega arith;
  clear = λ k low high. absurd (omega arith);
  begins = inr (ap (λ (n : ℕ). kind_at tokens n) (let e : i + 1 - 1 ≡ i = omega arith in e) ∙ is);
}

-- a gap goes on over a token that is no semicolon
pub gap_more : (tokens : List Token) (from i : ℕ) → IsGap tokens from i → i < length tokens → kind_at tokens i ≢ Some Semicolon → IsGap tokens from (i + 1)
gap_more tokens from i gap lt other = let ordered = gap.ordered in record {
  ordered = omega arith;
  within = omega arith;
  clear = λ k low high. elim (cases_lt k i) [
    | inl l ↦ gap.clear k low l
    | inr g ↦ let same : k ≡ i = omega arith in λ e. other (ap (λ (n : ℕ). kind_at tokens n) (sym same) ∙ e)
  ];
  begins = gap.begins;
}

-- the statements up to the end of a gap
pub statements_more : (tokens : List Token) (from to : ℕ) (ranges : List (ℕ × ℕ))
    → AreStatementsBefore tokens from ranges → IsGap tokens from to → EndsAt tokens to → AreStatementsBefore tokens (to + 1) (ranges ++ range_if from to)
statements_more tokens from to ranges before gap ends =
    let ordered = gap.ordered in
    let starts : (k : ℕ) → k < length (map (λ (r : ℕ × ℕ). r.0) ranges) → get_or (map (λ (r : ℕ × ℕ). r.0) ranges) k 0 < from =
    λ k lt. (
    let inside : k < length ranges = omega (arith, length-map ranges (λ (r : ℕ × ℕ). r.0)) in
    let is = get_or-map (λ (r : ℕ × ℕ). r.0) ranges k (0, 0) 0 inside in
    let range = (before.members (get_or ranges k (0, 0))).0 (Contains-get_or ranges k (0, 0) inside) in
    let some = range.0.0 in
    let under = range.1 in
    omega arith) in
    record {
      rising = elim (cases_lt from to) [
        | inl lt ↦ subst IsStrictlyIncreasing
            (sym (map-append (λ (r : ℕ × ℕ). r.0) ranges ((from, to) ∷ [])) ∙ ap (λ (xs : List (ℕ × ℕ)). map (λ (r : ℕ × ℕ). r.0) (ranges ++ xs)) (sym (range_if-some from to lt)))
            (rising_push (map (λ (r : ℕ × ℕ). r.0) ranges) from before.rising starts)
        | inr le ↦ subst (λ (xs : List (ℕ × ℕ)). IsStrictlyIncreasing (map (λ (r : ℕ × ℕ). r.0) xs))
            (sym (append-nil ranges) ∙ ap (λ (xs : List (ℕ × ℕ)). ranges ++ xs) (sym (range_if-none from to le))) before.rising
      ];
      members = λ r. (
        (λ h. elim (Contains-append_cases ranges (range_if from to) r h) [
          | inl old ↦ let is = (before.members r).0 old in let under = is.1 in (is.0, omega arith)
          | inr new ↦ let is = in_range_if from to r new in let lt = is.0 in
              subst (λ (q : ℕ × ℕ). IsStatementRange tokens q × (q.1 < to + 1)) (sym is.1)
              ((lt, gap.within, gap.clear, gap.begins, ends), omega arith)
        ]),
        (λ h. elim (cases_lt r.1 from) [
          | inl lt ↦ Contains-append_left ranges (range_if from to) r ((before.members r).1 (h.0, lt))
          | inr le ↦ let under = h.1 in
              let is = is_gap tokens from to gap r h.0 le (omega arith) in
              let some : from < to = subst (λ (q : ℕ × ℕ). q.0 < q.1) is h.0.0 in
              Contains-append_right ranges (range_if from to) r (subst (λ (q : ℕ × ℕ). Contains (range_if from to) q) (sym is) (in_range_if-from from to some))
        ]),
      );
    }

pub statements_none : (tokens : List Token) → AreStatementsBefore tokens 0 []
statements_none tokens = record {
  rising = λ k lt. absurd (omega arith);
  members = λ r. ((λ h. absurd (not_in_nil r h)), (λ h. absurd (let lt = h.1 in omega arith)));
}

pub statements_all : (tokens : List Token) (ranges : List (ℕ × ℕ)) → AreStatementsBefore tokens (length tokens + 1) ranges → AreStatements tokens ranges
statements_all tokens ranges h =
    (h.rising, λ r. ((λ there. ((h.members r).0 there).0), (λ range. (h.members r).1 (range, let within = range.1 in omega arith))))

first_below : (x : ℕ) (xs : List ℕ) → IsStrictlyIncreasing (x ∷ xs) → (k : ℕ) → k < length xs → x < get_or xs k 0
first_below x xs rising zero lt = rising 0 (omega arith)
first_below x xs rising (suc k) lt =
    let before = first_below x xs rising k (omega arith) in
    let step : get_or xs k 0 < get_or (x ∷ xs) (suc k + 1) 0 = rising (suc k) (omega arith) in
    let same : get_or (x ∷ xs) (suc k + 1) 0 ≡ get_or xs (suc k) 0 = ap (λ (n : ℕ). get_or (x ∷ xs) n 0) (add-one (suc k)) in
    omega arith

rest_rising : (x : ℕ) (xs : List ℕ) → IsStrictlyIncreasing (x ∷ xs) → IsStrictlyIncreasing xs
rest_rising x xs rising k lt =
    let step : get_or xs k 0 < get_or (x ∷ xs) (suc k + 1) 0 = rising (suc k) (omega arith) in
    let same : get_or (x ∷ xs) (suc k + 1) 0 ≡ get_or xs (k + 1) 0 = ap (λ (n : ℕ). get_or (x ∷ xs) n 0) (let e : suc k + 1 ≡ suc (k + 1) = omega arith in e) in
    omega arith

start_below : (x : ℕ × ℕ) (xs : List (ℕ × ℕ)) (r : ℕ × ℕ) → IsStrictlyIncreasing (map (λ r. r.0) (x ∷ xs)) → Contains xs r → x.0 < r.0
start_below x xs r rising there =
    let inside : there.0 < length (map (λ (r : ℕ × ℕ). r.0) xs) = let lt = there.1 in omega (arith, length-map xs (λ (r : ℕ × ℕ). r.0)) in
    let below = first_below x.0 (map (λ (r : ℕ × ℕ). r.0) xs) rising there.0 inside in
    let is = get_or-map (λ (r : ℕ × ℕ). r.0) xs there.0 r 0 there.1 in
    let start : (get_or xs there.0 r).0 ≡ r.0 = ap (λ (q : ℕ × ℕ). q.0) there.2 in
    omega arith

-- two lists of ranges in order that have the same members are one
same_ranges : (xs ys : List (ℕ × ℕ)) → IsStrictlyIncreasing (map (λ r. r.0) xs) → IsStrictlyIncreasing (map (λ r. r.0) ys)
    → ((r : ℕ × ℕ) → Contains xs r ↔ Contains ys r) → xs ≡ ys
same_ranges [] [] hx hy same = refl
same_ranges [] (y ∷ ys) hx hy same = absurd (not_in_nil y ((same y).1 (in_first y ys)))
same_ranges (x ∷ xs) [] hx hy same = absurd (not_in_nil x ((same x).0 (in_first x xs)))
same_ranges (x ∷ xs) (y ∷ ys) hx hy same =
    let first : x ≡ y = elim (in_cons y ys x ((same x).0 (in_first x xs))) [
      | inl e ↦ sym e
      | inr below ↦ elim (in_cons x xs y ((same y).1 (in_first y ys))) [
        | inl e ↦ e
        | inr above ↦ absurd (let l = start_below y ys x hy below in let g = start_below x xs y hx above in omega arith)
      ]
    ] in
    let starts : x.0 ≡ y.0 = ap (λ (q : ℕ × ℕ). q.0) first in
    let rest : (r : ℕ × ℕ) → Contains xs r ↔ Contains ys r = λ r. (
      (λ there. elim (in_cons y ys r ((same r).0 (in_later x xs r there))) [
        | inl e ↦ absurd (let l = start_below x xs r hx there in let z : y.0 ≡ r.0 = ap (λ (q : ℕ × ℕ). q.0) e in omega arith)
        | inr behind ↦ behind
      ]),
      (λ there. elim (in_cons x xs r ((same r).1 (in_later y ys r there))) [
        | inl e ↦ absurd (let l = start_below y ys r hy there in let z : x.0 ≡ r.0 = ap (λ (q : ℕ × ℕ). q.0) e in omega arith)
        | inr behind ↦ behind
      ]),
    ) in
    let more = same_ranges xs ys (rest_rising x.0 (map (λ (r : ℕ × ℕ). r.0) xs) hx) (rest_rising y.0 (map (λ (r : ℕ × ℕ). r.0) ys) hy) rest in
    cc

-- a script has one list of statements
pub same_statements : (tokens : List Token) (xs ys : List (ℕ × ℕ)) → AreStatements tokens xs → AreStatements tokens ys → xs ≡ ys
same_statements tokens xs ys hx hy =
    same_ranges xs ys hx.0 hy.0 (λ r. ((λ there. (hy.1 r).1 ((hx.1 r).0 there)), (λ there. (hx.1 r).1 ((hy.1 r).0 there))))
