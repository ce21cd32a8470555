-- How many bytes come before the zeros with which a page ends.
use Rattle.std.proofs.Common.{◌≡◌, ◌≢◌, ◌≤◌, ◌<◌, ◌+◌, ◌-◌, ◌*◌, ℕ, zero, suc, List, [], ◌∷◌, ◌++◌, length, take, drop, replicate, get_or, refl, sym, ap, arith, ◌∙◌}
use Rattle.std.proofs.lemmas.List.{drop-drop, length-drop, length-take, take-append-drop}
use Rattle.ub_journal_page.specs.Pages.{held_behind, held_of}
use Rattle.ub_journal_page.proofs.Lists.{both_counts, same_count}

few_behind : (x held n : ℕ) → held ≤ n → held_behind x held ≤ suc n
few_behind zero zero n few = omega arith
few_behind (suc x) zero n few = omega arith
few_behind x (suc held) n few = omega arith

-- no more bytes are held than there are
pub held_few : (page : List ℕ) → held_of page ≤ length page
held_few [] = omega arith
held_few (x ∷ page) = few_behind x (held_of page) (length page) (held_few page)

whole_behind : (x held : ℕ) (page : List ℕ) → take held page ++ replicate (length page - held) 0 ≡ page
    → take (held_behind x held) (x ∷ page) ++ replicate (suc (length page) - held_behind x held) 0 ≡ x ∷ page
whole_behind zero zero page is =
    let all : suc (length page) - 0 ≡ suc (length page) = omega arith in
    let less : length page ≡ length page - 0 = omega arith in
    let rest : replicate (length page - 0) 0 ≡ page = is in
    same_count (suc (length page) - 0) (suc (length page)) 0 all ∙ ap (λ (xs : List ℕ). 0 ∷ xs) (same_count (length page) (length page - 0) 0 less ∙ rest)
whole_behind (suc x) zero page is =
    let less : suc (length page) - 1 ≡ length page - 0 = omega arith in
    let rest : replicate (length page - 0) 0 ≡ page = is in
    ap (λ (xs : List ℕ). suc x ∷ xs) (same_count (suc (length page) - 1) (length page - 0) 0 less ∙ rest)
whole_behind x (suc held) page is =
    let less : suc (length page) - suc (suc held) ≡ length page - suc held = omega arith in
    ap (λ (xs : List ℕ). x ∷ xs) (ap (λ (xs : List ℕ). take (suc held) page ++ xs) (same_count (suc (length page) - suc (suc held)) (length page - suc held) 0 less) ∙ is)

-- a page is the bytes that it holds, and zeros behind them
pub held_whole : (page : List ℕ) → take (held_of page) page ++ replicate (length page - held_of page) 0 ≡ page
held_whole [] = refl
held_whole (x ∷ page) = whole_behind x (held_of page) page (held_whole page)

last_behind : (x held : ℕ) (page : List ℕ) → ((n : ℕ) → held ≡ suc n → get_or page n 0 ≢ 0) → (n : ℕ) → held_behind x held ≡ suc n → get_or (x ∷ page) n 0 ≢ 0
last_behind zero zero page last n is = absurd (let wrong : 0 ≡ suc n = is in omega arith)
last_behind (suc x) zero page last zero is = λ e. let wrong : suc x ≡ 0 = e in omega arith
last_behind (suc x) zero page last (suc n) is = absurd (let wrong : 1 ≡ suc (suc n) = is in omega arith)
last_behind x (suc held) page last zero is = absurd (let wrong : suc (suc held) ≡ 1 = is in omega arith)
last_behind x (suc held) page last (suc n) is = last n (let same : suc (suc held) ≡ suc (suc n) = is in omega arith)

-- and the last of them is no zero
pub held_last : (page : List ℕ) (n : ℕ) → held_of page ≡ suc n → get_or page n 0 ≢ 0
held_last [] n is = absurd (let wrong : 0 ≡ suc n = is in omega arith)
held_last (x ∷ page) n is = last_behind x (held_of page) page (held_last page) n is

-- zeros hold no byte
pub none_held : (page : List ℕ) → page ≡ replicate (length page) 0 → held_of page ≡ 0
none_held [] is = refl
none_held (x ∷ page) is =
    let first : x ≡ 0 = cc in
    let rest : page ≡ replicate (length page) 0 = cc in
    ap (λ (n : ℕ). held_behind n (held_of page)) first ∙ ap (λ (n : ℕ). held_behind 0 n) (none_held page rest)

-- so many bytes are held where zeros stand behind them and the last of them is none
pub held_is : (n : ℕ) (page : List ℕ) (left : ℕ) → drop (suc n) page ≡ replicate left 0 → get_or page n 0 ≢ 0 → held_of page ≡ suc n
held_is n [] left blank last = absurd (last refl)
held_is zero (zero ∷ page) left blank last = absurd (last refl)
held_is zero (suc x ∷ page) left blank last =
    let rest : page ≡ replicate left 0 = blank in
    let count = ap length rest ∙ length_zeros left in
    ap (λ (n : ℕ). held_behind (suc x) n) (none_held page (rest ∙ same_count left (length page) 0 (sym count)))
  where
    length_zeros : (n : ℕ) → length (replicate {A = ℕ} n 0) ≡ n
    length_zeros zero = refl
    length_zeros (suc n) = ap suc (length_zeros n)
held_is (suc n) (x ∷ page) left blank last = ap (λ (m : ℕ). held_behind x m) (held_is n page left blank last)

-- zeros from one place on, and before that: zeros from there on
pub blank_more : (page : List ℕ) (end from block : ℕ) → end ≤ 4096 → end ≡ from + block → drop end page ≡ replicate (4096 - end) 0
    → take block (drop from page) ≡ replicate block 0 → drop from page ≡ replicate (4096 - from) 0
blank_more page end from block within is blank more =
    let back : drop block (drop from page) ≡ replicate (4096 - end) 0 = drop-drop block from page ∙ ap (λ (n : ℕ). drop n page) (sym is) ∙ blank in
    let all : block + (4096 - end) ≡ 4096 - from = omega arith in
    sym (take-append-drop block (drop from page)) ∙ ap (λ (xs : List ℕ). xs ++ drop block (drop from page)) more
    ∙ ap (λ (xs : List ℕ). replicate block 0 ++ xs) back ∙ both_counts block (4096 - end) 0 ∙ same_count (block + (4096 - end)) (4096 - from) 0 all

take_one : (page : List ℕ) (from : ℕ) → from < length page → take 1 (drop from page) ≡ get_or page from 0 ∷ []
take_one [] from less = absurd (omega arith)
take_one (x ∷ page) zero less = refl
take_one (x ∷ page) (suc from) less = take_one page from (omega arith)

-- one zero more before those behind
pub zero_before : (page : List ℕ) (from end : ℕ) → length page ≡ 4096 → from < 4096 → end ≡ from + 1 → get_or page from 0 ≡ 0 → drop end page ≡ replicate (4096 - end) 0
    → drop from page ≡ replicate (4096 - from) 0
zero_before page from end long less is none blank =
    blank_more page end from 1 (omega arith) is blank (take_one page from (omega arith) ∙ ap (λ (x : ℕ). x ∷ []) none)

-- a byte that is none before them is the last that is held
pub held_at : (page : List ℕ) (from end : ℕ) → end ≡ from + 1 → (get_or page from 0 ≡ 0 → ⊥) → drop end page ≡ replicate (4096 - end) 0 → end ≡ held_of page
held_at page from end is some blank =
    let next : suc from ≡ end = omega arith in
    sym next ∙ sym (held_is from page (4096 - end) (ap (λ (n : ℕ). drop n page) next ∙ blank) some)

-- zeros from the start on
pub held_none : (page : List ℕ) (end : ℕ) → length page ≡ 4096 → end ≡ 0 → drop end page ≡ replicate (4096 - end) 0 → 0 ≡ held_of page
held_none page end long none blank =
    let all : 4096 - end ≡ length page = omega arith in
    sym (none_held page (ap (λ (n : ℕ). drop n page) (sym none) ∙ blank ∙ ap (λ (n : ℕ). replicate n 0) all))

-- a block of zeros more before them
pub block_before : (page : List ℕ) (i end from : ℕ) → length page ≡ 4096 → end ≡ 4096 - 64 * i → i < 64 → from ≡ end - 64 → drop end page ≡ replicate (4096 - end) 0
    → take 64 (drop from page) ≡ replicate (length (take 64 (drop from page))) 0 → drop from page ≡ replicate (4096 - from) 0
block_before page i end from long at less is blank more =
    let size : length (take 64 (drop from page)) ≡ 64 = omega (arith, length-take 64 (drop from page), length-drop from page) in
    blank_more page end from 64 (omega arith) (omega arith) blank (more ∙ ap (λ (n : ℕ). replicate n 0) size)
