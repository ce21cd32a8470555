-- What the words of `ubq next` read as.
use Rattle.std.proofs.Common.{◌≡◌, ◌≢◌, ◌<◌, ◌≤◌, ◌^◌, ◌==◌, ℕ, zero, suc, List, [], ◌∷◌, ◌++◌, ◌+◌, length, map, take, Option, Some, None, Bool, true, false, nat_lt, get_or, refl, sym, ap, ap₂, ◌∙◌, arith, Result, Ok, Err, rules, ◌⊎◌, inl, inr, Bor}
use Rattle.std.proofs.lemmas.Bool.{lt-ltb, ltb-true}
use Rattle.std.proofs.lemmas.List.{length-map, map-append, map_more}
use Rattle.std.proofs.lemmas.List.Splits.{length-slice_split}
use Rattle.std.proofs.lemmas.Str.Parse.{IsNumeralModel, numerals_by_value, parse_digits}
use Rattle.std.specs.Char.{is_ascii_digit}
use Rattle.std.specs.List.{list_all, slice_split}
use Rattle.std.specs.Result.{OkIff, result_ok}
use Rattle.std.specs.Str.Parse.{ParsesUnsigned, digits_value}
use Rattle.ub_bigmin.specs.Box.{Corners}
use Rattle.ub_next.specs.Next.{number_in, IsPointText, IsAsked, IsNearest, IsNextAnswer}
use Rattle.ub_next.specs.declared.next.Neighbours.{Neighbours}
use Rattle.ub_next.specs.declared.next.NextFault.{NextFault}
use Rattle.ub_next.specs.declared.next.NextFault.TheVariants.{BadPoint, EmptyBox, TooLarge, Memory}

true_or_false : (b : Bool) → (b ≡ true) ⊎ (b ≡ false)
true_or_false true = inl refl
true_or_false false = inr refl

own : IsNumeralModel (λ ds. list_all is_ascii_digit ds ≡ true) (digits_value 10)
own = numerals_by_value _ (search rules)

-- a text that is not digits alone writes no number
pub no_number : (bits : ℕ) (text : List ℕ) → list_all is_ascii_digit text ≡ false → number_in bits text ≡ None
unfolding number_in
no_number bits text e = elim (true_or_false (nat_lt 0 (length text))) [
  | inl some ↦ rw (some, e) refl
  | inr none ↦ rw none refl
]

-- the number that `parse` reads from digits
number_from : {E : Type 0} (bits : ℕ) (text : List ℕ) (r : Result ℕ E) → list_all is_ascii_digit text ≡ true
    → OkIff r ((0 < length text) × (digits_value 10 text < 2 ^ bits)) (digits_value 10 text) → result_ok r ≡ number_in bits text
unfolding number_in
number_from bits text (Ok x) e h =
    let some : nat_lt 0 (length text) ≡ true = lt-ltb 0 (length text) h.0.0 in
    let fits : nat_lt (digits_value 10 text) (2 ^ bits) ≡ true = lt-ltb (digits_value 10 text) (2 ^ bits) h.0.1 in
    rw (some, e, fits) (ap (λ (v : ℕ). Some v) h.1)
number_from bits text (Err x) e h = elim (true_or_false (nat_lt 0 (length text))) [
  | inl some ↦ elim (true_or_false (nat_lt (digits_value 10 text) (2 ^ bits))) [
    | inl fits ↦ absurd (h (ltb-true 0 (length text) some, ltb-true (digits_value 10 text) (2 ^ bits) fits))
    | inr long ↦ rw (some, e, long) refl
  ]
  | inr none ↦ rw none refl
]

pub number_parsed : {E : Type 0} (bits : ℕ) (text : List ℕ) (r : Result ℕ E) → list_all is_ascii_digit text ≡ true
    → ParsesUnsigned bits 10 text r → result_ok r ≡ number_in bits text
number_parsed bits text r e h = number_from bits text r e (parse_digits own bits text r h e)

-- a piece that is no number is none of a point's
read_none : {A : Type 0} (f : A → Option ℕ) (xs : List A) (i : ℕ) (d : A) (ys : List ℕ) → i < length xs → None ≡ f (get_or xs i d)
    → map f xs ≢ map (λ (v : ℕ). Some v) ys
read_none f [] i d ys there reads h = absurd (omega arith)
read_none f (a ∷ xs) i d [] there reads h = cc
read_none f (a ∷ xs) zero d (b ∷ ys) there reads h = cc
read_none f (a ∷ xs) (suc i) d (b ∷ ys) there reads h =
    let others : map f xs ≡ map (λ (v : ℕ). Some v) ys = cc in
    read_none f xs i d ys (omega arith) reads others

take_whole : {A : Type 0} (i : ℕ) (xs : List A) → length xs ≤ i → take i xs ≡ xs
take_whole zero [] h = refl
take_whole zero (x ∷ xs) h = absurd (omega arith)
take_whole (suc i) [] h = refl
take_whole (suc i) (x ∷ xs) h = ap (λ ys. x ∷ ys) (take_whole i xs (omega arith))

map_now : (f : List ℕ → Option ℕ) (xs : List (Bor (List ℕ))) → map (λ (x : Bor (List ℕ)). f x.now) xs ≡ map f (map (λ (x : Bor (List ℕ)). x.now) xs)
map_now f [] = refl
map_now f (x ∷ xs) = ap (λ (ys : List (Option ℕ)). f x.now ∷ ys) (map_now f xs)

-- the text is no point where one of its pieces is no number
pub IsPointText-none : (items : List (Bor (List ℕ))) (text point : List ℕ) (i : ℕ) (d : Bor (List ℕ))
    → map (λ (x : Bor (List ℕ)). x.now) items ≡ slice_split (λ c. c == 44) text
    → i < length items → None ≡ number_in 32 (get_or items i d).now → ¬ (IsPointText text point)
IsPointText-none items text point i d split there reads h =
    read_none (λ (x : Bor (List ℕ)). number_in 32 x.now) items i d point there reads
    (map_now (number_in 32) items ∙ ap (map (number_in 32)) split ∙ h.0)

-- the text is a point where all of its pieces are numbers, up to four
pub IsPointText-all : (items : List (Bor (List ℕ))) (text point : List ℕ) (i : ℕ)
    → map (λ (x : Bor (List ℕ)). x.now) items ≡ slice_split (λ c. c == 44) text → length items ≤ i → length items ≤ 4
    → map (λ (x : Bor (List ℕ)). number_in 32 x.now) (take i items) ≡ map (λ (v : ℕ). Some v) point → IsPointText text point
IsPointText-all items text point i split done few h =
    let read : map (λ (x : Bor (List ℕ)). number_in 32 x.now) items ≡ map (λ (v : ℕ). Some v) point = rw (take_whole i items done) at h in
    let pieces = length-map items (λ (x : Bor (List ℕ)). number_in 32 x.now) in
    let coordinates = length-map point (λ (v : ℕ). Some v) in
    let same = ap (λ (xs : List (Option ℕ)). length xs) read in
    (ap (map (number_in 32)) (sym split) ∙ sym (map_now (number_in 32) items) ∙ read, omega arith)

-- the text is no point where it has more than four pieces
pub IsPointText-long : (items : List (Bor (List ℕ))) (text point : List ℕ)
    → map (λ (x : Bor (List ℕ)). x.now) items ≡ slice_split (λ c. c == 44) text → 4 < length items → ¬ (IsPointText text point)
IsPointText-long items text point split long h =
    let same = ap (λ (xs : List (List ℕ)). length xs) split in
    let now = length-map items (λ (x : Bor (List ℕ)). x.now) in
    let pieces = length-map (slice_split (λ c. c == 44) text) (number_in 32) in
    let coordinates = length-map point (λ (v : ℕ). Some v) in
    let read = ap (λ (xs : List (Option ℕ)). length xs) h.0 in
    let few = h.1 in
    omega arith

-- one piece more, and the coordinate that it reads as
pub read_more : (xs : List (Bor (List ℕ))) (i : ℕ) (d : Bor (List ℕ)) (ys : List ℕ) (v : ℕ) → i < length xs → Some v ≡ number_in 32 (get_or xs i d).now
    → map (λ (x : Bor (List ℕ)). number_in 32 x.now) (take i xs) ≡ map (λ (v : ℕ). Some v) ys
    → map (λ (x : Bor (List ℕ)). number_in 32 x.now) (take (i + 1) xs) ≡ map (λ (v : ℕ). Some v) (ys ++ v ∷ [])
read_more xs i d ys v there reads h =
    map_more (λ (x : Bor (List ℕ)). number_in 32 x.now) xs i d there
    ∙ ap₂ (λ (a : List (Option ℕ)) (b : Option ℕ). a ++ b ∷ []) h (sym reads) ∙ sym (map-append (λ (v : ℕ). Some v) ys (v ∷ []))

-- a point has a coordinate
pub IsPointText-some : (text point : List ℕ) → IsPointText text point → 1 ≤ length point
IsPointText-some text point h =
    let pieces = length-map (slice_split (λ c. c == 44) text) (number_in 32) in
    let coordinates = length-map point (λ (v : ℕ). Some v) in
    let split = length-slice_split (λ c. c == 44) text in
    let same = ap (λ (xs : List (Option ℕ)). length xs) h.0 in
    omega arith

-- what is told of the box and the address is told of the words that ask for them
pub IsNextAnswer-nearest : (lo hi z : List ℕ) (box : Corners) (from : ℕ) (r : Result Neighbours NextFault)
    → IsAsked lo hi z box from → IsNearest box from r → IsNextAnswer lo hi z r
IsNextAnswer-nearest lo hi z box from (Ok n) asked near = (box, from, asked, near)
IsNextAnswer-nearest lo hi z box from (Err BadPoint) asked near = absurd near
IsNextAnswer-nearest lo hi z box from (Err EmptyBox) asked near = (box, from, asked, near)
IsNextAnswer-nearest lo hi z box from (Err TooLarge) asked near = (box, from, asked, near)
IsNextAnswer-nearest lo hi z box from (Err Memory) asked near = tt
