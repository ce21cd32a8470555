-- Columns of numbers, written one number after the other.
use Rattle.std.proofs.Common.{◌≡◌, ◌+◌, ◌*◌, ℕ, zero, suc, List, [], ◌∷◌, ◌++◌, length, take, drop, sym, ap, arith, ◌∙◌, refl}
use Rattle.std.proofs.lemmas.Grind.{flat_map-append}
use Rattle.std.proofs.lemmas.List.{append-nil, drop-drop, flat_map_more, length-append}
use Rattle.std.specs.List.{flat_map, range_with_len}
use Rattle.ub_bytes.proofs.BytesFacts.{length-number_bytes}
use Rattle.ub_bytes.proofs.DraftFacts.{of_front}
use Rattle.ub_bytes.specs.Bytes.{number_bytes}
use Rattle.ub_bytes.specs.Numbers.{first_numbers}

-- the numbers from a on, and one more
range_more : (a n b : ℕ) → a + n ≡ b → range_with_len a (suc n) ≡ range_with_len a n ++ b ∷ []
range_more a zero b e = let same : a ≡ b = omega arith in rw same refl
range_more a (suc n) b e = ap (λ (xs : List ℕ). a ∷ xs) (range_more (a + 1) n b (omega arith))

first_more : (n : ℕ) → range_with_len 0 (n + 1) ≡ range_with_len 0 n ++ n ∷ []
first_more n =
    let one : n + 1 ≡ suc n = omega arith in
    ap (range_with_len 0) one ∙ range_more 0 n n (omega arith)

length-numbers : (width : ℕ) (number : ℕ → ℕ) (a n : ℕ) → length (flat_map (λ i. number_bytes width (number i)) (range_with_len a n)) ≡ width * n
length-numbers width number a zero = omega arith
length-numbers width number a (suc n) =
    let one = length-number_bytes width (number a) in
    let more = length-numbers width number (a + 1) n in
    omega (arith, length-append (number_bytes width (number a)) (flat_map (λ i. number_bytes width (number i)) (range_with_len (a + 1) n)), one, more)

pub length-first_numbers : (width : ℕ) (number : ℕ → ℕ) (n : ℕ) → length (first_numbers width number n) ≡ width * n
length-first_numbers width number n = length-numbers width number 0 n

-- one number more, over some bytes
pub number_step : (width : ℕ) (number : ℕ → ℕ) (n offset to x : ℕ) (old before after : List ℕ)
    → offset ≡ width * n → to ≡ offset + width → x ≡ number n
    → before ≡ first_numbers width number n ++ drop offset old
    → after ≡ (take offset before ++ number_bytes width x) ++ drop (offset + width) before
    → after ≡ first_numbers width number (n + 1) ++ drop to old
number_step width number n offset to x old before after at is_to is_x is put =
    let front : List ℕ = first_numbers width number n in
    let cut = of_front front (drop offset old) before offset (at ∙ sym (length-first_numbers width number n)) is in
    let end : offset + width ≡ to = sym is_to in
    let back : drop (offset + width) before ≡ drop to old =
    sym (drop-drop width offset before) ∙ ap (drop width) cut.0 ∙ drop-drop width offset old ∙ ap (λ (k : ℕ). drop k old) end in
    let more : first_numbers width number (n + 1) ≡ front ++ number_bytes width x =
    ap (flat_map (λ (i : ℕ). number_bytes width (number i))) (first_more n)
    ∙ flat_map-append (λ (i : ℕ). number_bytes width (number i)) (range_with_len 0 n) (n ∷ [])
    ∙ ap (λ (s : List ℕ). front ++ s) (append-nil (number_bytes width (number n)))
    ∙ ap (λ (y : ℕ). front ++ number_bytes width y) (sym is_x) in
    put ∙ ap (λ (s : List ℕ). (s ++ number_bytes width x) ++ drop (offset + width) before) cut.1
    ∙ ap (λ (s : List ℕ). (front ++ number_bytes width x) ++ s) back ∙ ap (λ (s : List ℕ). s ++ drop to old) (sym more)

-- one column more, after some bytes
pub column_step : (column : ℕ → List ℕ) (n : ℕ) (start before after : List ℕ)
    → before ≡ start ++ flat_map column (range_with_len 0 n) → after ≡ before ++ column n → after ≡ start ++ flat_map column (range_with_len 0 (n + 1))
column_step column n start before after is put =
    put ∙ ap (λ (s : List ℕ). s ++ column n) is ∙ flat_map_more column start (range_with_len 0 n) n
    ∙ ap (λ (ns : List ℕ). start ++ flat_map column ns) (sym (first_more n))
