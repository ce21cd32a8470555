-- What a write at the end of a draft leaves.
use Rattle.std.proofs.Common.{◌≡◌, ◌≤◌, ◌+◌, ◌-◌, ℕ, zero, suc, List, [], ◌∷◌, ◌++◌, length, take, drop, replicate, add-one, refl, sym, ap, arith, ◌∙◌, append_assoc, slice_set}
use Rattle.std.proofs.lemmas.List.{append-nil, length-append, replicate-append-replicate, length-take, length-take-le, length-drop, drop_all, drop-drop, set_split}
use Rattle.std.proofs.Math.Seq.{drop-append_seam, take-append_seam}
use borrow.Rule.Slice.PartMut.{put_mid, post_of, mid_of}

pub same_count : (m n : ℕ) (a : ℕ) → m ≡ n → replicate m a ≡ replicate n a
same_count m n a e = ap (λ (k : ℕ). replicate k a) e

drop-replicate : (m n : ℕ) (a : ℕ) → drop m (replicate n a) ≡ replicate (n - m) a
drop-replicate zero n a = same_count n (n - 0) a (omega arith)
drop-replicate (suc m) zero a = same_count 0 (0 - suc m) a (omega arith)
drop-replicate (suc m) (suc n) a = drop-replicate m n a ∙ same_count (n - m) (suc n - suc m) a (omega arith)

-- a list that is some bytes and then others
pub of_front : (front rest page : List ℕ) (n : ℕ) → n ≡ length front → page ≡ front ++ rest → (drop n page ≡ rest) × (take n page ≡ front)
of_front front rest page n is e = rw (is, e) (drop-append_seam front rest, take-append_seam front rest)

take_whole : (n : ℕ) (xs : List ℕ) → length xs ≤ n → take n xs ≡ xs
take_whole zero [] h = refl
take_whole zero (x ∷ xs) h = absurd (omega arith)
take_whole (suc n) [] h = refl
take_whole (suc n) (x ∷ xs) h = ap (λ (ys : List ℕ). x ∷ ys) (take_whole n xs (omega arith))

put_is : (size len n : ℕ) (page bytes buf : List ℕ) → length page ≡ size → n ≡ length bytes → len + n ≤ size
    → drop len page ≡ replicate (size - len) 0 → buf ≡ bytes ++ drop n (mid_of len (size - len) page)
    → put_mid len (size - len) page buf ≡ (take len page ++ bytes) ++ replicate (size - (len + n)) 0
put_is size len n page bytes buf long is fits blank e =
    let left : length (drop len page) ≤ size - len = rw length-drop (omega arith) in
    let none : post_of len (size - len) page ≡ [] = drop_all (size - len) (drop len page) left in
    let whole : mid_of len (size - len) page ≡ drop len page = take_whole (size - len) (drop len page) left in
    let rest : drop n (drop len page) ≡ replicate (size - (len + n)) 0 = ap (drop n) blank ∙ drop-replicate n (size - len) 0 ∙ same_count (size - len - n) (size - (len + n)) 0 (omega arith) in
    rw (none, e, whole, rest) (ap (λ (xs : List ℕ). take len page ++ xs) (append-nil _) ∙ sym (append_assoc (take len page) bytes _))

-- what was written made zeros, the whole page is
pub cleared : (size len : ℕ) (page zeros : List ℕ) → length page ≡ size → len ≤ size → drop len page ≡ replicate (size - len) 0
    → zeros ≡ replicate (length (take len page)) 0 → zeros ++ drop len page ≡ replicate size 0
cleared size len page zeros long within blank is =
    let count : length (take len page) ≡ len = length-take-le len page (omega arith) in
    rw (is, blank, count) (replicate-append-replicate len (size - len) 0 ∙ same_count (len + (size - len)) size 0 (omega arith))

-- what a draft is before a write of n bytes that fit
pub record IsDraft (size len n : ℕ) (page value : List ℕ) : Type 0 where
  pub long : length page ≡ size
  pub within : len ≤ size
  pub blank : drop len page ≡ replicate (size - len) 0
  pub is : take len page ≡ value
  pub room : length value + n ≤ size

pub fits_in : {size len n : ℕ} {page value : List ℕ} → IsDraft size len n page value → len + n ≤ size
fits_in {size} {len} {n} {page} {value} d =
    let count : length (take len page) ≡ length value = ap length d.is in
    let long = d.long in let within = d.within in let room = d.room in
    omega (arith, length-take len page)

-- the bytes behind those written are n or more
pub mid_long : {size len n : ℕ} {page value : List ℕ} → IsDraft size len n page value → n ≤ length (mid_of len (size - len) page)
mid_long {size} {len} {n} {page} {value} d =
    let fits = fits_in d in
    let long = d.long in
    let left : length (drop len page) ≤ size - len = rw length-drop (omega arith) in
    rw (take_whole (size - len) (drop len page) left, length-drop) (omega arith)

-- after a write of n bytes at the end, the rest is zeros, and the bytes stand after those before
pub after_put : {size len n : ℕ} {page value : List ℕ} → IsDraft size len n page value → (bytes buf : List ℕ) → n ≡ length bytes → buf ≡ bytes ++ drop n (mid_of len (size - len) page)
    → (len + n ≤ size) × (drop (len + n) (put_mid len (size - len) page buf) ≡ replicate (size - (len + n)) 0) × (take (len + n) (put_mid len (size - len) page buf) ≡ value ++ bytes)
after_put {size} {len} {n} {page} {value} d bytes buf is e =
    let fits = fits_in d in
    let long = d.long in
    let count : len + n ≡ length (take len page ++ bytes) = omega (arith, length-append (take len page) bytes, length-take len page) in
    let cut = of_front (take len page ++ bytes) _ _ (len + n) count (put_is size len n page bytes buf long is fits d.blank e) in
    (fits, cut.0, cut.1 ∙ ap (λ (s : List ℕ). s ++ bytes) d.is)

-- and there are n more of them
pub put_len : {size len n : ℕ} {page value : List ℕ} → IsDraft size len n page value → (bytes buf : List ℕ) → n ≡ length bytes
    → buf ≡ bytes ++ drop n (mid_of len (size - len) page)
    → length (take (len + n) (put_mid len (size - len) page buf)) ≡ length value + n
put_len {value = value} d bytes buf is e = ap length (after_put d bytes buf is e).2 ∙ length-append value bytes ∙ ap (λ (k : ℕ). length value + k) (sym is)

-- the same of a write of one byte
pub after_push : {size len : ℕ} {page value : List ℕ} → IsDraft size len 1 page value → (x : ℕ)
    → (len + 1 ≤ size) × (drop (len + 1) (slice_set page len x) ≡ replicate (size - (len + 1)) 0) × (take (len + 1) (slice_set page len x) ≡ value ++ x ∷ [])
after_push {size} {len} {page} {value} d x =
    let fits = fits_in d in
    let long = d.long in
    let cut : slice_set page len x ≡ take len page ++ x ∷ drop (suc len) page = set_split page len x (omega arith) in
    let back : drop (suc len) page ≡ replicate (size - (len + 1)) 0 = sym (rw add-one at (drop-drop 1 len page)) ∙ ap (drop 1) d.blank ∙ drop-replicate 1 (size - len) 0 ∙ same_count (size - len - 1) (size - (len + 1)) 0 (omega arith) in
    let whole : slice_set page len x ≡ (take len page ++ x ∷ []) ++ replicate (size - (len + 1)) 0 = cut ∙ ap (λ (s : List ℕ). take len page ++ x ∷ s) back ∙ sym (append_assoc (take len page) (x ∷ []) _) in
    let count : len + 1 ≡ length (take len page ++ x ∷ []) = omega (arith, length-append (take len page) (x ∷ []), length-take len page) in
    let parts = of_front (take len page ++ x ∷ []) _ _ (len + 1) count whole in
    (fits, parts.0, parts.1 ∙ ap (λ (s : List ℕ). s ++ x ∷ []) d.is)

-- what a write over some bytes leaves
pub put_over : (offset n : ℕ) (target bytes buf : List ℕ) → offset ≤ length target → buf ≡ bytes ++ drop n (mid_of offset (length target - offset) target)
    → put_mid offset (length target - offset) target buf ≡ (take offset target ++ bytes) ++ drop (offset + n) target
put_over offset n target bytes buf le e =
    let left : length (drop offset target) ≤ length target - offset = rw length-drop (omega arith) in
    let none : post_of offset (length target - offset) target ≡ [] = drop_all (length target - offset) (drop offset target) left in
    let whole : mid_of offset (length target - offset) target ≡ drop offset target = take_whole (length target - offset) (drop offset target) left in
    rw (none, e, whole)
    (ap (λ (xs : List ℕ). take offset target ++ xs) (append-nil _) ∙ ap (λ (xs : List ℕ). take offset target ++ (bytes ++ xs)) (drop-drop n offset target)
    ∙ sym (append_assoc (take offset target) bytes (drop (offset + n) target)))
