-- The pages of a list of bytes, after bytes were put in or the length was set.
use Rattle.std.proofs.Common.{◌≡◌, ◌≢◌, ◌<◌, ◌≤◌, ◌+◌, ◌*◌, ◌-◌, ◌++◌, ◌∷◌, [], ◌∙◌, ℕ, zero, suc, List, Some, length, min, take, drop, replicate, slice_get, slice_set, ap, arith, refl, sym}
use Rattle.std.proofs.lemmas.List.{drop_all, length-append, length-drop}
use Rattle.std.proofs.lemmas.Slice.{drop-append-drop}
use Rattle.std.proofs.Math.Nat.{mul-suc, mul-zero}
use Rattle.ub_file.specs.Host.{pages_of, IsBlank}
use Rattle.ub_file.specs.Raw.{put_at, with_length}

-- ---- numbers

some_bytes : (c at p : ℕ) → suc p ≡ suc c + at → p ≡ c + at
some_bytes c at p is = omega arith

none_else : (c at : ℕ) → zero ≡ suc c + at → ⊥
none_else c at is = omega arith

-- ---- bytes put in, before and after their place

with_put : (c at p : ℕ) (new bytes : List ℕ) → p ≡ c + at → with_length c (put_at p new bytes) ≡ with_length c bytes
unfolding put_at with_length
with_put zero at p new bytes is = refl
with_put (suc c) at zero new bytes is = absurd (none_else c at is)
with_put (suc c) at (suc p) new [] is = ap (λ bs. 0 ∷ bs) (with_put c at p new [] (some_bytes c at p is))
with_put (suc c) at (suc p) new (b ∷ bytes) is = ap (λ bs. b ∷ bs) (with_put c at p new bytes (some_bytes c at p is))

drop_put : (c at p : ℕ) (new bytes : List ℕ) → p ≡ c + at → drop c (put_at p new bytes) ≡ put_at at new (drop c bytes)
unfolding put_at
drop_put zero at p new bytes is = let same : p ≡ at = omega arith in ap (λ n. put_at n new bytes) same
drop_put (suc c) at zero new bytes is = absurd (none_else c at is)
drop_put (suc c) at (suc p) new [] is = rest (drop_put c at p new [] (some_bytes c at p is))
  where
    rest : drop c (put_at p new []) ≡ put_at at new (drop c []) → drop c (put_at p new []) ≡ put_at at new []
    rest e = e ∙ ap (put_at at new) (drop_all c [] (omega arith))
drop_put (suc c) at (suc p) new (b ∷ bytes) is = drop_put c at p new bytes (some_bytes c at p is)

-- past the end of what was put in, all is as it was
pub drop_past : (n p : ℕ) (new bytes : List ℕ) → p + length new ≤ n → drop n (put_at p new bytes) ≡ drop n bytes
unfolding put_at
drop_past n zero new bytes within = drop-append-drop (length new) bytes new n (omega arith) refl
drop_past zero (suc p) new bytes within = absurd (omega arith)
drop_past (suc n) (suc p) new [] within = drop_past n p new [] (omega arith) ∙ drop_all n [] (omega arith)
drop_past (suc n) (suc p) new (b ∷ bytes) within = drop_past n p new bytes (omega arith)

pub length_put : (p : ℕ) (new bytes : List ℕ) → p + length new ≤ length bytes → length (put_at p new bytes) ≡ length bytes
unfolding put_at
length_put zero new bytes within =
    let all = length-append new (drop (length new) bytes) in
    let rest = length-drop (length new) bytes in
    omega arith
length_put (suc p) new [] within = absurd (omega arith)
length_put (suc p) new (b ∷ bytes) within = ap suc (length_put p new bytes (omega arith))

-- ---- the length set, twice or before the rest

pub with_with : (n m : ℕ) (bytes : List ℕ) → min n (length bytes) ≤ m → with_length n (with_length m bytes) ≡ with_length n bytes
unfolding with_length
with_with zero m bytes less = refl
with_with (suc n) zero [] less = refl
with_with (suc n) zero (b ∷ bytes) less = absurd (omega arith)
with_with (suc n) (suc m) [] less = ap (λ bs. 0 ∷ bs) (with_with n m [] (omega arith))
with_with (suc n) (suc m) (b ∷ bytes) less = ap (λ bs. b ∷ bs) (with_with n m bytes (omega arith))

pub drop_with : (c n : ℕ) (bytes : List ℕ) → drop c (with_length n bytes) ≡ with_length (n - c) (drop c bytes)
unfolding with_length
drop_with zero n bytes = let same : n ≡ n - zero = omega arith in ap (λ k. with_length k bytes) same
drop_with (suc c) zero bytes = let none : zero ≡ zero - suc c = omega arith in ap (λ k. with_length k (drop (suc c) bytes)) none
drop_with (suc c) (suc n) [] =
    let less : n - c ≡ suc n - suc c = omega arith in
    drop_with c n [] ∙ ap (with_length (n - c)) (drop_all c [] (omega arith)) ∙ ap (λ k. with_length k []) less
drop_with (suc c) (suc n) (b ∷ bytes) =
    let less : n - c ≡ suc n - suc c = omega arith in
    drop_with c n bytes ∙ ap (λ k. with_length k (drop c bytes)) less

pub length_with : (n : ℕ) (bytes : List ℕ) → length (with_length n bytes) ≡ n
unfolding with_length
length_with zero bytes = refl
length_with (suc n) [] = ap suc (length_with n [])
length_with (suc n) (b ∷ bytes) = ap suc (length_with n bytes)

-- bytes that are so many are those
pub with_take : (n : ℕ) (bytes : List ℕ) → length (take n bytes) ≡ n → with_length n bytes ≡ take n bytes
unfolding with_length
with_take zero bytes is = refl
with_take (suc n) [] is = cc
with_take (suc n) (b ∷ bytes) is = ap (λ bs. b ∷ bs) (with_take n bytes (omega arith))

with_front : (new bytes : List ℕ) → with_length (length new) (new ++ bytes) ≡ new
unfolding with_length
with_front [] bytes = refl
with_front (b ∷ new) bytes = ap (λ bs. b ∷ bs) (with_front new bytes)

pub with_front_of : (n : ℕ) (new bytes : List ℕ) → length new ≡ n → with_length n (put_at 0 new bytes) ≡ new
unfolding put_at
with_front_of n new bytes is = rw (← is) (with_front new (drop (length new) bytes))

-- ---- zeros past an end

with_zeros : (n m : ℕ) → with_length n (replicate m 0) ≡ replicate n 0
unfolding with_length
with_zeros zero m = refl
with_zeros (suc n) zero = ap (λ bs. 0 ∷ bs) (with_zeros n zero)
with_zeros (suc n) (suc m) = ap (λ bs. 0 ∷ bs) (with_zeros n m)

pub blank_none : IsBlank []
blank_none n = with_zeros n zero

blank_past : (c : ℕ) → IsBlank (drop c [])
blank_past c n = ap (with_length n) (drop_all c [] (omega arith)) ∙ blank_none n

-- zeros that are cut or made longer are zeros
pub blank_with : (c m : ℕ) (bytes : List ℕ) → IsBlank (drop c bytes) → IsBlank (drop c (with_length m bytes))
unfolding with_length
blank_with zero m bytes blank = λ n. ap (with_length n) (blank m) ∙ with_zeros n m
blank_with (suc c) zero bytes blank = blank_none
blank_with (suc c) (suc m) [] blank = blank_with c m [] (blank_past c)
blank_with (suc c) (suc m) (b ∷ bytes) blank = blank_with c m bytes blank

-- nothing stands past the length that was set
pub blank_end : (m : ℕ) (bytes : List ℕ) → IsBlank (drop m (with_length m bytes))
blank_end m bytes n = ap (with_length n) (drop_all m (with_length m bytes) (let e = length_with m bytes in omega arith)) ∙ blank_none n

-- ---- pages

drop_more : (wide p at : ℕ) (bytes : List ℕ) → at ≡ p + wide → drop p (drop wide bytes) ≡ drop at bytes
drop_more zero p at bytes is = let same : p ≡ at = omega arith in ap (λ n. drop n bytes) same
drop_more (suc wide) p zero bytes is = absurd (omega arith)
drop_more (suc wide) p (suc at) [] is = drop_all p [] (omega arith)
drop_more (suc wide) p (suc at) (b ∷ bytes) is = drop_more wide p at bytes (omega arith)

pub count_pages : (wide count : ℕ) (bytes : List ℕ) → length (pages_of wide count bytes) ≡ count
unfolding pages_of
count_pages wide zero bytes = refl
count_pages wide (suc count) bytes = ap suc (count_pages wide count (drop wide bytes))

-- the page of a number is what stands at its place
pub page_of : (wide count n at : ℕ) (bytes : List ℕ) → n < count → at ≡ wide * n
    → slice_get (pages_of wide count bytes) n ≡ Some (with_length wide (drop at bytes))
unfolding pages_of
page_of wide zero n at bytes less is = absurd (omega arith)
page_of wide (suc count) zero at bytes less is = let none : at ≡ zero = is ∙ mul-zero wide in rw none refl
page_of wide (suc count) (suc n) at bytes less is =
    page_of wide count n (wide * n) (drop wide bytes) (omega arith) refl
    ∙ ap (λ bs. Some (with_length wide bs)) (drop_more wide (wide * n) at bytes (is ∙ mul-suc wide n))

-- no more bytes than a page has, put in where a page begins, change that page
pub put_page : (wide count n at : ℕ) (new bytes : List ℕ) → n < count → at ≡ wide * n → length new ≤ wide
    → pages_of wide count (put_at at new bytes) ≡ slice_set (pages_of wide count bytes) n (with_length wide (put_at 0 new (drop at bytes)))
unfolding pages_of
put_page wide zero n at new bytes less is within = absurd (omega arith)
put_page wide (suc count) zero at new bytes less is within =
    let none : at ≡ zero = is ∙ mul-zero wide in
    rw none (ap (λ bs. with_length wide (put_at 0 new bytes) ∷ pages_of wide count bs) (drop_past wide 0 new bytes (omega arith)))
put_page wide (suc count) (suc n) at new bytes less is within =
    let more : at ≡ wide * n + wide = is ∙ mul-suc wide n in
    let place : at ≡ wide + wide * n = omega arith in
    rw (
      with_put wide (wide * n) at new bytes place,
      drop_put wide (wide * n) at new bytes place,
      put_page wide count n (wide * n) new (drop wide bytes) (omega arith) refl within,
      drop_more wide (wide * n) at bytes more,
    ) refl

-- pages below the length that was set stay, and all do where no bytes were cut
pub same_pages : (wide count m : ℕ) (bytes : List ℕ) → min (wide * count) (length bytes) ≤ m
    → pages_of wide count (with_length m bytes) ≡ pages_of wide count bytes
unfolding pages_of
same_pages wide zero m bytes below = refl
same_pages wide (suc count) m bytes below =
    let more = mul-suc wide count in
    let rest = length-drop wide bytes in
    rw (with_with wide m bytes (omega arith), drop_with wide m bytes) (
    ap (λ ps. with_length wide bytes ∷ ps) (same_pages wide count (m - wide) (drop wide bytes) (omega arith)))

-- one page more is what stands after the others
pub one_more : (wide count : ℕ) (bytes : List ℕ)
    → pages_of wide (suc count) bytes ≡ pages_of wide count bytes ++ with_length wide (drop (wide * count) bytes) ∷ []
unfolding pages_of
one_more wide zero bytes = rw (mul-zero wide) refl
one_more wide (suc count) bytes = ap (λ ps. with_length wide bytes ∷ ps) (
    one_more wide count (drop wide bytes)
    ∙ ap (λ bs. pages_of wide count (drop wide bytes) ++ with_length wide bs ∷ []) (drop_more wide (wide * count) (wide * suc count) bytes (mul-suc wide count)))
