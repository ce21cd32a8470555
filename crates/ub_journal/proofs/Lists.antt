-- Elements of lists that were put, cut and made longer.
use Rattle.std.proofs.Common.{◌≡◌, ◌≢◌, ◌<◌, ◌≤◌, ◌+◌, ◌-◌, ◌++◌, ◌∷◌, [], ◌∙◌, ℕ, zero, suc, List, Some, length, take, replicate, slice_get, slice_set, ap, arith, refl, length-append, length-take}
use Rattle.std.proofs.lemmas.List.{length-replicate, take-replicate, take_more}
use Rattle.std.proofs.lemmas.Option.{get_or_from_slice_get, slice_get_within}

pub same_all : {X : Type 0} (xs ys : List X) → ((m : ℕ) → slice_get xs m ≡ slice_get ys m) → xs ≡ ys
same_all [] [] h = refl
same_all [] (y ∷ ys) h = let e = h 0 in cc
same_all (x ∷ xs) [] h = let e = h 0 in cc
same_all (x ∷ xs) (y ∷ ys) h =
    let e : Some x ≡ Some y = h 0 in
    let one : x ≡ y = cc in
    let more = same_all xs ys (λ m. h (suc m)) in
    rw (one, more) refl

pub get_set_same : {X : Type 0} (xs : List X) (n : ℕ) (x : X) → n < length xs → slice_get (slice_set xs n x) n ≡ Some x
get_set_same [] n x h = absurd (omega arith)
get_set_same (y ∷ xs) zero x h = refl
get_set_same (y ∷ xs) (suc n) x h = get_set_same xs n x (omega arith)

-- one element more
pub take_next : {X : Type 0} (xs : List X) (n : ℕ) (x : X) → slice_get xs n ≡ Some x → take (n + 1) xs ≡ take n xs ++ x ∷ []
take_next xs n x is = take_more xs n x (slice_get_within xs n x is) ∙ ap (λ y. take n xs ++ y ∷ []) (get_or_from_slice_get xs n x x is)

-- where a page is put, lists of one length are equal
pub get_set_both : {X : Type 0} (xs ys : List X) (n : ℕ) (x : X) → length xs ≡ length ys → slice_get (slice_set xs n x) n ≡ slice_get (slice_set ys n x) n
get_set_both [] [] n x l = refl
get_set_both [] (y ∷ ys) n x l = absurd (omega arith)
get_set_both (y ∷ xs) [] n x l = absurd (omega arith)
get_set_both (y ∷ xs) (z ∷ ys) zero x l = refl
get_set_both (y ∷ xs) (z ∷ ys) (suc n) x l = get_set_both xs ys n x (omega arith)

-- lists that are equal but for the first element, with the same one put there
pub set_first : {X : Type 0} (xs ys : List X) (x : X) → length xs ≡ length ys → ((m : ℕ) → m ≢ 0 → slice_get xs m ≡ slice_get ys m) → slice_set xs 0 x ≡ slice_set ys 0 x
set_first [] [] x l h = refl
set_first [] (y ∷ ys) x l h = absurd (omega arith)
set_first (y ∷ xs) [] x l h = absurd (omega arith)
set_first (y ∷ xs) (z ∷ ys) x l h = ap (λ zs. x ∷ zs) (same_all xs ys (λ m. h (suc m) (λ e. cc)))

-- cut, or with so many behind that it has the length
pub take_filled : {X : Type 0} (n m : ℕ) (xs : List X) (z : X) → n ≤ m → take n (xs ++ replicate m z) ≡ take n xs ++ replicate (n - length xs) z
take_filled zero m xs z h = let e : 0 ≡ 0 - length xs = omega arith in ap (λ k. replicate k z) e
take_filled (suc n) m [] z h = let e : suc n ≡ suc n - 0 = omega arith in take-replicate (suc n) m z h ∙ ap (λ k. replicate k z) e
take_filled (suc n) m (x ∷ xs) z h =
    let e : n - length xs ≡ suc n - suc (length xs) = omega arith in
    ap (λ l. x ∷ l) (take_filled n m xs z (omega arith) ∙ ap (λ k. take n xs ++ replicate k z) e)

pub length_resized : {X : Type 0} (k : ℕ) (xs : List X) (z : X) → length (take k (xs ++ replicate k z)) ≡ k
length_resized k xs z = omega (arith, length-take k (xs ++ replicate k z), length-append xs (replicate k z), length-replicate k z)
