-- Pieces of one length, put together and cut again.
use Rattle.std.proofs.Common.{◌≡◌, ◌<◌, ◌≤◌, ◌+◌, ◌*◌, min, ⊎_elim, ℕ, zero, suc, List, [], ◌∷◌, ◌++◌, length, map, take, drop, Some, slice_get, slice_index_or, append-nil, append_assoc, add-one, refl, sym, ap, subst, arith, ◌∙◌}
use Rattle.std.proofs.lemmas.Bool.{cases_lt}
use Rattle.std.proofs.Math.Nat.{mul-le-mul_left, mul-le-mul_right}
use Rattle.std.proofs.Math.Seq.{take-append_seam, drop-append_seam}
use Rattle.std.proofs.lemmas.List.{length-append, length-drop, length-take-le, take-append-le, drop-append-le, drop-drop, drop-take, take-take}
use Rattle.std.specs.List.{AllByRecursion, flat_map}
use Rattle.ub_answer.specs.inner.Cut.{cut}

module _ {A B : Type 0} (f : A → List B) (width : ℕ) (each : (a : A) → length (f a) ≡ width) where
  pub length-pieces : (xs : List A) → length (flat_map f xs) ≡ length xs * width
  length-pieces [] = omega arith
  length-pieces (x ∷ xs) = let rest = length-pieces xs in let first = each x in let more : suc (length xs) * width ≡ length xs * width + width = omega arith in
      omega (arith, length-append (f x) (flat_map f xs))

  pub cut-pieces : (xs : List A) → cut (length xs) width (flat_map f xs) ≡ map f xs
  unfolding cut
  cut-pieces [] = refl
  cut-pieces (x ∷ xs) =
      let rest = flat_map f xs in
      let first : take width (f x ++ rest) ≡ f x = subst (λ (n : ℕ). take n (f x ++ rest) ≡ f x) (each x) (take-append_seam (f x) rest) in
      let after : drop width (f x ++ rest) ≡ rest = subst (λ (n : ℕ). drop n (f x ++ rest) ≡ rest) (each x) (drop-append_seam (f x) rest) in
      let more = cut-pieces xs in
      rw (first, after, more) refl

pub length-cut : {E : Type 0} (count width : ℕ) (xs : List E) → length (cut count width xs) ≡ count
unfolding cut
length-cut zero width xs = refl
length-cut (suc count) width xs = ap suc (length-cut count width (drop width xs))

-- the pieces of a whole are as long as was asked
pub cut-wide : {E : Type 0} (count width : ℕ) (xs : List E) → length xs ≡ count * width → AllByRecursion (λ ys. length ys ≡ width) (cut count width xs)
unfolding cut
cut-wide zero width xs long = tt
cut-wide (suc count) width xs long =
    let more : suc count * width ≡ width + count * width = omega arith in
    (length-take-le width xs (omega arith), cut-wide count width (drop width xs) (omega (arith, length-drop width xs)))

pub cut-at : {E : Type 0} (count width : ℕ) (xs : List E) (i : ℕ) → i < count → slice_get (cut count width xs) i ≡ Some (take width (drop (i * width) xs))
unfolding cut
cut-at zero width xs i below = absurd (omega arith)
cut-at (suc count) width xs zero below = let e : 0 * width ≡ 0 = omega arith in rw e (ap (λ (ys : List _). Some (take width ys)) (sym (drop-none xs)))
  where
    drop-none : {E : Type 0} (xs : List E) → drop 0 xs ≡ xs
    drop-none [] = refl
    drop-none (x ∷ xs) = refl
cut-at (suc count) width xs (suc i) below =
    let e : width + i * width ≡ suc i * width = omega arith in
    cut-at count width (drop width xs) i (omega arith) ∙ ap (λ (ys : List _). Some (take width ys)) (drop-drop (i * width) width xs ∙ ap (λ (n : ℕ). drop n xs) e)

-- a piece lies within the whole
pub piece-within : (i count width whole : ℕ) → i < count → whole ≡ count * width → i * width + width ≤ whole
piece-within i count width whole below is =
    let more : suc i * width ≤ count * width = mul-le-mul_right width (omega arith) in
    let next : suc i * width ≡ i * width + width = omega arith in omega arith

-- what stands in its place
pub piece-at : {E : Type 0} (i count width : ℕ) (xs ys : List E) → i < count → length xs ≡ count * width
    → ys ≡ take width (drop (i * width) xs) → slice_get (cut count width xs) i ≡ Some ys
piece-at i count width xs ys below is e = cut-at count width xs i below ∙ ap Some (sym e)

-- ---- pieces put together one after the other

flat-take : {A B : Type 0} (f : A → List B) (xs : List A) (i : ℕ) (d : A) → i < length xs
    → flat_map f (take (suc i) xs) ≡ flat_map f (take i xs) ++ f (slice_index_or xs i d)
flat-take f [] i d below = absurd (omega arith)
flat-take f (x ∷ xs) zero d below = append-nil (f x)
flat-take f (x ∷ xs) (suc i) d below =
    ap (λ (ys : List _). f x ++ ys) (flat-take f xs i d (omega arith)) ∙ sym (append_assoc (f x) (flat_map f (take i xs)) (f (slice_index_or xs i d)))

pub pieces-next : {A B : Type 0} (f : A → List B) (xs : List A) (i : ℕ) (d : A) (before after : List B) → i < length xs
    → before ≡ flat_map f (take i xs) → after ≡ before ++ f (slice_index_or xs i d) → after ≡ flat_map f (take (i + 1) xs)
pieces-next f xs i d before after below is e = rw add-one (e ∙ ap (λ (ys : List _). ys ++ f (slice_index_or xs i d)) is ∙ sym (flat-take f xs i d below))

take-all : {A : Type 0} (n : ℕ) (xs : List A) → length xs ≤ n → take n xs ≡ xs
take-all zero [] h = refl
take-all zero (x ∷ xs) h = absurd (omega arith)
take-all (suc n) [] h = refl
take-all (suc n) (x ∷ xs) h = ap (λ (ys : List _). x ∷ ys) (take-all n xs (omega arith))

pub pieces-all : {A B : Type 0} (f : A → List B) (width : ℕ) → ((a : A) → length (f a) ≡ width) → (xs : List A) (i : ℕ) (all : List B) → length xs ≤ i
    → all ≡ flat_map f (take i xs) → (length all ≡ length xs * width) × (cut (length xs) width all ≡ map f xs)
pieces-all f width each xs i all past is =
    let whole : all ≡ flat_map f xs = is ∙ ap (flat_map f) (take-all i xs past) in
    (ap length whole ∙ length-pieces f width each xs, ap (cut (length xs) width) whole ∙ cut-pieces f width each xs)

-- ---- one value for each element, behind others

map-take : {A B : Type 0} (f : A → B) (xs : List A) (i : ℕ) (d : A) → i < length xs
    → map f (take (suc i) xs) ≡ map f (take i xs) ++ f (slice_index_or xs i d) ∷ []
map-take f [] i d below = absurd (omega arith)
map-take f (x ∷ xs) zero d below = refl
map-take f (x ∷ xs) (suc i) d below = ap (λ (ys : List _). f x ∷ ys) (map-take f xs i d (omega arith))

pub values-next : {A B : Type 0} (f : A → B) (xs : List A) (i : ℕ) (d : A) (front before after : List B) (y : B) → i < length xs
    → before ≡ front ++ map f (take i xs) → after ≡ before ++ y ∷ [] → y ≡ f (slice_index_or xs i d) → after ≡ front ++ map f (take (i + 1) xs)
values-next f xs i d front before after y below is next e =
    rw add-one (next ∙ ap (λ (ys : List _). ys ++ y ∷ []) is ∙ append_assoc front (map f (take i xs)) (y ∷ [])
    ∙ ap (λ (z : _). front ++ (map f (take i xs) ++ z ∷ [])) e ∙ ap (λ (ys : List _). front ++ ys) (sym (map-take f xs i d below)))

pub values-all : {A B : Type 0} (f : A → B) (xs : List A) (i : ℕ) (front all : List B) → length xs ≤ i
    → all ≡ front ++ map f (take i xs) → all ≡ front ++ map f xs
values-all f xs i front all past is = is ∙ ap (λ (ys : List _). front ++ map f ys) (take-all i xs past)

-- ---- one piece more

-- pieces of another length are none
one-width : {E : Type 0} (count width other : ℕ) (xs : List E) → length xs ≡ count * width → AllByRecursion (λ ys. length ys ≡ other) (cut count width xs) → 1 ≤ count → width ≡ other
unfolding cut
one-width zero width other xs long wide some = absurd (omega arith)
one-width (suc count) width other xs long wide some =
    let more : suc count * width ≡ width + count * width = omega arith in
    sym (length-take-le width xs (omega arith)) ∙ wide.0

-- of no pieces the length may be any
pub as-wide : {E : Type 0} (count width other : ℕ) (xs : List E) → length xs ≡ count * width → AllByRecursion (λ ys. length ys ≡ other) (cut count width xs) → (length xs ≡ count * other) × (cut count width xs ≡ cut count other xs)
unfolding cut
as-wide zero width other xs long wide = (omega arith, refl)
as-wide (suc count) width other xs long wide =
    let same = one-width (suc count) width other xs long wide (omega arith) in
    subst (λ (w : ℕ). (length xs ≡ suc count * w) × (cut (suc count) width xs ≡ cut (suc count) w xs)) same (long, refl)

-- there are no more pieces than elements
pub few-pieces : (count width whole : ℕ) → whole ≡ count * width → 1 ≤ width → count ≤ whole
few-pieces count width whole is some = let more : count * 1 ≤ count * width = mul-le-mul_left count some in omega arith

pub more-long : (count width old new : ℕ) → old ≡ count * width → new ≡ old + width → new ≡ (count + 1) * width
more-long count width old new is more = let next : (count + 1) * width ≡ count * width + width = omega arith in omega arith

-- ---- pieces of two wholes, and the first of some pieces

cut-append : {E : Type 0} (count more width : ℕ) (xs ys : List E) → length xs ≡ count * width → cut (count + more) width (xs ++ ys) ≡ cut count width xs ++ cut more width ys
unfolding cut
cut-append zero more width [] ys long = let none : zero + more ≡ more = omega arith in ap (λ (n : ℕ). cut n width ys) none
cut-append zero more width (x ∷ xs) ys long = absurd (omega arith)
cut-append (suc count) more width xs ys long =
    let next : suc count * width ≡ width + count * width = omega arith in
    let within : width ≤ length xs = omega arith in
    let rest : length (drop width xs) ≡ count * width = omega (arith, length-drop width xs) in
    let later : cut (count + more) width (drop width xs ++ ys) ≡ cut count width (drop width xs) ++ cut more width ys = cut-append count more width (drop width xs) ys rest in
    let whole : cut (suc (count + more)) width (xs ++ ys) ≡ take width xs ∷ (cut count width (drop width xs) ++ cut more width ys) =
    ap (λ (piece : List _). piece ∷ cut (count + more) width (drop width (xs ++ ys))) (take-append-le width xs ys within)
    ∙ ap (λ (zs : List _). take width xs ∷ cut (count + more) width zs) (drop-append-le width xs ys within) ∙ ap (λ (pieces : List (List _)). take width xs ∷ pieces) later in
    let same : suc count + more ≡ suc (count + more) = omega arith in
    subst (λ (n : ℕ). cut n width (xs ++ ys) ≡ cut (suc count) width xs ++ cut more width ys) (sym same) whole

sums : (count more width a b c : ℕ) → a ≡ count * width → b ≡ more * width → c ≡ a + b → c ≡ (count + more) * width
sums count more width a b c p q r = let both : (count + more) * width ≡ count * width + more * width = omega arith in omega arith

-- two wholes whose pieces have one length, where of no pieces it may be any
pub both-pieces : {E : Type 0} (count width more other wide : ℕ) (xs ys : List E) → length xs ≡ count * width → length ys ≡ more * other
    → AllByRecursion (λ zs. length zs ≡ wide) (cut count width xs) → AllByRecursion (λ zs. length zs ≡ wide) (cut more other ys)
    → (all : ℕ) → (count ≡ 0 → all ≡ other) → (1 ≤ count → all ≡ width)
    → (length (xs ++ ys) ≡ (count + more) * all) × (cut (count + more) all (xs ++ ys) ≡ cut count width xs ++ cut more other ys)
unfolding cut
both-pieces zero width more other wide [] ys long more_long each more_each all none some =
    let is = none refl in
    subst (λ (n : ℕ). (length ys ≡ n * all) × (cut n all ys ≡ cut more other ys)) (let same : more ≡ zero + more = omega arith in same)
    (subst (λ (w : ℕ). (length ys ≡ more * w) × (cut more w ys ≡ cut more other ys)) (sym is) (more_long, refl))
both-pieces zero width more other wide (x ∷ xs) ys long more_long each more_each all none some = absurd (omega arith)
both-pieces (suc count) width more other wide xs ys long more_long each more_each all none some =
    let mine : width ≡ wide = one-width (suc count) width wide xs long each (omega arith) in
    let is : all ≡ width = some (omega arith) in
    let theirs = as-wide more other wide ys more_long more_each in
    let same : length ys ≡ more * width = subst (λ (w : ℕ). length ys ≡ more * w) (sym mine) theirs.0 in
    let pieces : cut more width ys ≡ cut more other ys = sym (theirs.1 ∙ ap (λ (w : ℕ). cut more w ys) (sym mine)) in
    let long_both : length (xs ++ ys) ≡ (suc count + more) * width = sums (suc count) more width (length xs) (length ys) (length (xs ++ ys)) long same (length-append xs ys) in
    subst (λ (w : ℕ). (length (xs ++ ys) ≡ (suc count + more) * w) × (cut (suc count + more) w (xs ++ ys) ≡ cut (suc count) width xs ++ cut more other ys)) (sym is)
    (long_both, cut-append (suc count) more width xs ys long ∙ ap (λ (zs : List (List _)). cut (suc count) width xs ++ zs) pieces)

-- the first pieces of a whole
cut-front : {E : Type 0} (m count width : ℕ) (xs : List E) → m ≤ count → length xs ≡ count * width → cut m width (take (m * width) xs) ≡ take m (cut count width xs)
unfolding cut
cut-front zero count width xs below long = refl
cut-front (suc m) zero width xs below long = absurd (omega arith)
cut-front (suc m) (suc count) width xs below long =
    let next : suc count * width ≡ width + count * width = omega arith in
    let part : suc m * width ≡ width + m * width = omega arith in
    let rest : length (drop width xs) ≡ count * width = omega (arith, length-drop width xs) in
    let first : take width (take (suc m * width) xs) ≡ take width xs = take-take width (suc m * width) xs (omega arith) in
    let after : drop width (take (suc m * width) xs) ≡ take (m * width) (drop width xs) =
    ap (λ (n : ℕ). drop width (take n xs)) part ∙ drop-take width (m * width) xs in
    ap (λ (piece : List _). piece ∷ cut m width (drop width (take (suc m * width) xs))) first
    ∙ ap (λ (zs : List _). take width xs ∷ cut m width zs) after
    ∙ ap (λ (pieces : List (List _)). take width xs ∷ pieces) (cut-front m count width (drop width xs) (omega arith) rest)

-- so many of the pieces as there may be
pub cut-limited : {E : Type 0} (m n count width : ℕ) (xs : List E) → m ≡ min count n → length xs ≡ count * width
    → (length (take (m * width) xs) ≡ m * width) × (cut m width (take (m * width) xs) ≡ take n (cut count width xs))
cut-limited m n count width xs is long =
    let below : m ≤ count = omega arith in
    let part : m * width ≤ count * width = mul-le-mul_right width below in
    let front = cut-front m count width xs below long in (
      length-take-le (m * width) xs (omega arith),
      ⊎_elim (λ (less : n < count). let same : m ≡ n = omega arith in front ∙ ap (λ (k : ℕ). take k (cut count width xs)) same)
          (λ (all : count ≤ n). front ∙ take-all m (cut count width xs) (let same = length-cut count width xs in omega arith)
          ∙ sym (take-all n (cut count width xs) (let same = length-cut count width xs in omega arith)))
          (cases_lt n count),
    )
