-- What numbers on a page read as.
use Rattle.std.proofs.Common.{◌≡◌, ◌<◌, ◌+◌, ◌-◌, ◌*◌, ◌^◌, ℕ, List, [], ◌∷◌, ◌++◌, length, map, take, drop, replicate, refl, sym, ap, arith, ◌∙◌, append_assoc}
use Rattle.std.proofs.lemmas.Grind.{flat_map-append}
use Rattle.std.proofs.lemmas.List.{append-nil, drop-drop, drop_all, length-append, length-drop}
use Rattle.std.specs.List.{flat_map, range_with_len, AllByRecursion}
use Rattle.byteorder.specs.Endian.{big_number}
use Rattle.byteorder.specs.Numbers.{big_number-reads_back, length-bytes_high_first}
use Rattle.ub_journal_page.specs.Pages.{number_bytes, number_page}
use Rattle.ub_journal_page.specs.inner.Numbers.{number_at, numbers_on}
use Rattle.ub_journal_page.proofs.Lists.{drop-replicate, of_front}

pub length-number_bytes : (x : ℕ) → length (number_bytes x) ≡ 4
unfolding number_bytes
length-number_bytes x = length-bytes_high_first 4 x

pub length-numbers : (numbers : List ℕ) → length (flat_map number_bytes numbers) ≡ 4 * length numbers
length-numbers [] = omega arith
length-numbers (x ∷ numbers) = omega (arith, length-append (number_bytes x) (flat_map number_bytes numbers), length-number_bytes x, length-numbers numbers)

-- a number reads back
pub reads_back : (x : ℕ) (rest : List ℕ) → x < 2 ^ 32 → big_number 4 (number_bytes x ++ rest) ≡ x
unfolding number_bytes
reads_back x rest small = big_number-reads_back 4 x rest small

-- a page of zeros holds no number
pub none_on : (page : List ℕ) → page ≡ replicate 4096 0 → page ≡ number_page []
unfolding number_page
none_on page e = let all : 4096 ≡ 4096 - 4 * 0 = omega arith in e ∙ ap (λ (k : ℕ). replicate k 0) all

-- one number more
pub put_more : (numbers page new : List ℕ) (i x : ℕ) → length numbers ≡ i → page ≡ number_page numbers
    → new ≡ (take (4 * i) page ++ number_bytes x) ++ drop (4 * i + 4) page → new ≡ number_page (numbers ++ x ∷ [])
unfolding number_page
put_more numbers page new i x long is put =
    let front : List ℕ = flat_map number_bytes numbers in
    let at : 4 * i ≡ length front = omega (arith, length-numbers numbers) in
    let cut = of_front front (replicate (4096 - 4 * length numbers) 0) page (4 * i) at is in
    let less : 4096 - 4 * length numbers - 4 ≡ 4096 - 4 * length (numbers ++ x ∷ []) = omega (arith, length-append numbers (x ∷ [])) in
    let behind : drop (4 * i + 4) page ≡ replicate (4096 - 4 * length (numbers ++ x ∷ [])) 0 =
    sym (drop-drop 4 (4 * i) page) ∙ ap (drop 4) cut.0 ∙ drop-replicate 4 (4096 - 4 * length numbers) 0 ∙ ap (λ (k : ℕ). replicate k 0) less in
    let more : flat_map number_bytes (numbers ++ x ∷ []) ≡ front ++ number_bytes x =
    flat_map-append number_bytes numbers (x ∷ []) ∙ ap (λ (s : List ℕ). front ++ s) (append-nil (number_bytes x)) in
    put ∙ ap (λ (s : List ℕ). (s ++ number_bytes x) ++ drop (4 * i + 4) page) cut.1 ∙ ap (λ (s : List ℕ). s ++ drop (4 * i + 4) page) (sym more)
    ∙ ap (λ (s : List ℕ). flat_map number_bytes (numbers ++ x ∷ []) ++ s) behind

back_from : (numbers front rest page : List ℕ) (a : ℕ) → 4 * a ≡ length front → AllByRecursion (λ n. n < 2 ^ 32) numbers
    → page ≡ front ++ (flat_map number_bytes numbers ++ rest) → map (λ i. number_at (4 * i) page) (range_with_len a (length numbers)) ≡ numbers
unfolding number_at
back_from [] front rest page a at small is = refl
back_from (x ∷ numbers) front rest page a at small is =
    let bytes : List ℕ = number_bytes x in
    let later : List ℕ = flat_map number_bytes numbers ++ rest in
    let whole : page ≡ front ++ (bytes ++ later) = is ∙ ap (λ (s : List ℕ). front ++ s) (append_assoc bytes (flat_map number_bytes numbers) rest) in
    let next : page ≡ (front ++ bytes) ++ later = whole ∙ sym (append_assoc front bytes later) in
    let long : 4 * (a + 1) ≡ length (front ++ bytes) = omega (arith, length-append front bytes, length-number_bytes x) in
    let one : big_number 4 (drop (4 * a) page) ≡ x = ap (big_number 4) (of_front front (bytes ++ later) page (4 * a) at whole).0 ∙ reads_back x later small.0 in
    let more = back_from numbers (front ++ bytes) rest page (a + 1) long small.1 next in
    ap (λ (n : ℕ). n ∷ map (λ i. big_number 4 (drop (4 * i) page)) (range_with_len (a + 1) (length numbers))) one ∙ ap (λ (ns : List ℕ). x ∷ ns) more

-- the numbers on a page are those of which it is spelled
pub numbers_back : (numbers page : List ℕ) (m : ℕ) → length numbers ≡ m → AllByRecursion (λ n. n < 2 ^ 32) numbers → page ≡ number_page numbers → numbers_on m page ≡ numbers
unfolding number_page
numbers_back numbers page m long small is =
    ap (λ (k : ℕ). map (λ i. number_at (4 * i) page) (range_with_len 0 k)) (sym long)
    ∙ back_from numbers [] (replicate (4096 - 4 * length numbers) 0) page 0 (omega arith) small is

-- two numbers written on eight bytes
pub two_put : (number held : ℕ) (old one two : List ℕ) → length old ≡ 8 → one ≡ (take 0 old ++ number_bytes number) ++ drop (0 + 4) old
    → two ≡ (take 4 one ++ number_bytes held) ++ drop (4 + 4) one → two ≡ number_bytes number ++ number_bytes held
two_put number held old one two long first second =
    let a : List ℕ = number_bytes number in
    let is : one ≡ a ++ drop 4 old = first in
    let cut = of_front a (drop 4 old) one 4 (sym (length-number_bytes number)) is in
    let none : drop (4 + 4) one ≡ [] = drop_all 8 one (let e = ap length is in omega (arith, e, length-append a (drop 4 old), length-number_bytes number, length-drop 4 old)) in
    second ∙ ap (λ (s : List ℕ). (take 4 one ++ number_bytes held) ++ s) none ∙ append-nil (take 4 one ++ number_bytes held)
    ∙ ap (λ (s : List ℕ). s ++ number_bytes held) cut.1
