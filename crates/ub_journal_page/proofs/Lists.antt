-- Parts of lists, and what stands at a number.
use Rattle.std.proofs.Common.{◌≡◌, ◌≤◌, ◌+◌, ◌-◌, ℕ, zero, suc, List, [], ◌∷◌, ◌++◌, Some, length, take, drop, replicate, slice_get, refl, sym, ap, arith, ◌∙◌, append_assoc}
use Rattle.std.proofs.lemmas.List.{append-nil, drop-drop, drop_all, length-drop}
use Rattle.std.proofs.Math.Seq.{drop-append_seam, take-append_seam}
use borrow.Rule.Slice.PartMut.{put_mid, post_of, mid_of}

-- as many zeros
pub same_count : (m n : ℕ) (a : ℕ) → m ≡ n → replicate m a ≡ replicate n a
same_count m n a e = ap (λ (k : ℕ). replicate k a) e

pub drop-replicate : (m n : ℕ) (a : ℕ) → drop m (replicate n a) ≡ replicate (n - m) a
drop-replicate zero n a = same_count n (n - 0) a (omega arith)
drop-replicate (suc m) zero a = same_count 0 (0 - suc m) a (omega arith)
drop-replicate (suc m) (suc n) a = drop-replicate m n a ∙ same_count (n - m) (suc n - suc m) a (omega arith)

-- a list that is some bytes and then others
pub of_front : (front rest page : List ℕ) (n : ℕ) → n ≡ length front → page ≡ front ++ rest → (drop n page ≡ rest) × (take n page ≡ front)
of_front front rest page n is e = rw (is, e) (drop-append_seam front rest, take-append_seam front rest)

take_whole : (n : ℕ) (xs : List ℕ) → length xs ≤ n → take n xs ≡ xs
take_whole zero [] h = refl
take_whole zero (x ∷ xs) h = absurd (omega arith)
take_whole (suc n) [] h = refl
take_whole (suc n) (x ∷ xs) h = ap (λ (ys : List ℕ). x ∷ ys) (take_whole n xs (omega arith))

-- bytes written from an offset on
pub put_over : (offset n : ℕ) (target bytes buf : List ℕ) → offset ≤ length target → buf ≡ bytes ++ drop n (mid_of offset (length target - offset) target)
    → put_mid offset (length target - offset) target buf ≡ (take offset target ++ bytes) ++ drop (offset + n) target
put_over offset n target bytes buf le e =
    let left : length (drop offset target) ≤ length target - offset = rw length-drop (omega arith) in
    let none : post_of offset (length target - offset) target ≡ [] = drop_all (length target - offset) (drop offset target) left in
    let whole : mid_of offset (length target - offset) target ≡ drop offset target = take_whole (length target - offset) (drop offset target) left in
    rw (none, e, whole)
    (ap (λ (xs : List ℕ). take offset target ++ xs) (append-nil _) ∙ ap (λ (xs : List ℕ). take offset target ++ (bytes ++ xs)) (drop-drop n offset target)
    ∙ sym (append_assoc (take offset target) bytes (drop (offset + n) target)))

-- what stands behind some elements
pub get_behind : {X : Type 0} (xs ys : List X) (n k : ℕ) → n ≡ length xs + k → slice_get (xs ++ ys) n ≡ slice_get ys k
get_behind [] ys n k e = let same : n ≡ k = omega arith in ap (slice_get ys) same
get_behind (x ∷ xs) ys zero k e = absurd (omega arith)
get_behind (x ∷ xs) ys (suc n) k e = get_behind xs ys n k (omega arith)

-- what stands among some elements
pub get_front : {X : Type 0} (xs ys : List X) (n : ℕ) (x : X) → slice_get xs n ≡ Some x → slice_get (xs ++ ys) n ≡ Some x
get_front [] ys n x e = cc
get_front (y ∷ xs) ys zero x e = e
get_front (y ∷ xs) ys (suc n) x e = get_front xs ys n x e

-- one element more
pub take_next : {X : Type 0} (xs : List X) (n : ℕ) (x : X) → slice_get xs n ≡ Some x → take (suc n) xs ≡ take n xs ++ x ∷ []
take_next [] n x e = absurd (let wrong = e in cc)
take_next (y ∷ xs) zero x e = let one : y ≡ x = cc in ap (λ (z : _). z ∷ []) one
take_next (y ∷ xs) (suc n) x e = ap (λ (zs : List _). y ∷ zs) (take_next xs n x e)

-- what stands behind the first so many
pub get_drop : {X : Type 0} (xs : List X) (m n k : ℕ) → k ≡ m + n → slice_get (drop m xs) n ≡ slice_get xs k
get_drop xs zero n k e = let same : n ≡ k = omega arith in ap (slice_get xs) same
get_drop [] (suc m) n k e = refl
get_drop (x ∷ xs) (suc m) n zero e = absurd (omega arith)
get_drop (x ∷ xs) (suc m) n (suc k) e = get_drop xs m n k (omega arith)

take_none : {X : Type 0} (n : ℕ) (xs : List X) → xs ≡ [] → take n xs ≡ []
take_none zero [] e = refl
take_none zero (x ∷ xs) e = refl
take_none (suc n) [] e = refl
take_none (suc n) (x ∷ xs) e = absurd (let wrong = e in cc)

-- the first elements, and the next ones
pub take_both : {X : Type 0} (m n : ℕ) (xs : List X) → take m xs ++ take n (drop m xs) ≡ take (m + n) xs
take_both zero n xs = let same : n ≡ 0 + n = omega arith in ap (λ (k : ℕ). take k xs) same
take_both (suc m) n [] = take_none n [] refl ∙ sym (take_none (suc m + n) [] refl)
take_both (suc m) n (x ∷ xs) = let next : suc (m + n) ≡ suc m + n = omega arith in ap (λ (zs : List _). x ∷ zs) (take_both m n xs) ∙ ap (λ (k : ℕ). take k (x ∷ xs)) next

-- the first of what goes on longer
pub take_within : {X : Type 0} (n : ℕ) (xs ys : List X) → n ≤ length xs → take n (xs ++ ys) ≡ take n xs
take_within zero xs ys few = refl
take_within (suc n) [] ys few = absurd (omega arith)
take_within (suc n) (x ∷ xs) ys few = ap (λ (zs : List _). x ∷ zs) (take_within n xs ys (omega arith))

-- what stands behind the first of what goes on longer
pub drop_within : {X : Type 0} (n : ℕ) (xs ys : List X) → n ≤ length xs → drop n (xs ++ ys) ≡ drop n xs ++ ys
drop_within zero xs ys few = refl
drop_within (suc n) [] ys few = absurd (omega arith)
drop_within (suc n) (x ∷ xs) ys few = drop_within n xs ys (omega arith)

-- one byte, and again
pub both_counts : (a b z : ℕ) → replicate a z ++ replicate b z ≡ replicate (a + b) z
both_counts zero b z = same_count b (0 + b) z (omega arith)
both_counts (suc a) b z = ap (λ (xs : List ℕ). z ∷ xs) (both_counts a b z) ∙ same_count (suc (a + b)) (suc a + b) z (omega arith)

take_fewer : (k m z : ℕ) → k ≤ m → take k (replicate m z) ≡ replicate k z
take_fewer zero m z few = refl
take_fewer (suc k) zero z few = absurd (omega arith)
take_fewer (suc k) (suc m) z few = ap (λ (xs : List ℕ). z ∷ xs) (take_fewer k m z (omega arith))

-- some bytes and the first of those behind them
pub take_counts : (n m k z : ℕ) (bytes : List ℕ) → n ≡ length bytes + k → k ≤ m → take n (bytes ++ replicate m z) ≡ bytes ++ replicate k z
take_counts n m k z [] is few = let same : n ≡ k = omega arith in ap (λ (i : ℕ). take i (replicate m z)) same ∙ take_fewer k m z few
take_counts zero m k z (b ∷ bytes) is few = absurd (omega arith)
take_counts (suc n) m k z (b ∷ bytes) is few = ap (λ (xs : List ℕ). b ∷ xs) (take_counts n m k z bytes (omega arith) few)
