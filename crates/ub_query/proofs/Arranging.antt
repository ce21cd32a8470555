-- Lists in which each element is before all later ones: there is one with given elements, and only one.
use Rattle.std.proofs.Common.{◌≡◌, zero, suc, List, [], ◌∷◌, length, map, filter, Bool, ◌⊎◌, inl, inr, ⊎_elim, Contains, AllPairs, IsPermutation, refl, sym, ◌∙◌, subst, arith, add-one}
use Rattle.std.specs.List.{AllAdjacentBelow, AllByRecursion}
use Rattle.std.proofs.lemmas.Bool.{cond_both}
use Rattle.std.proofs.lemmas.List.Elements.{All-from_recursion, recursion_from_All, All-contains}
use Rattle.std.proofs.lemmas.List.Kept.{AllPairs-cons}
use Rattle.std.proofs.lemmas.List.Sorted.{IsPermutation-refl, IsPermutation-sym, IsPermutation-cons, IsPermutation-trans, IsPermutation-middle, All-permutation, Contains-permutation}
use Rattle.ub_query.specs.Order.{IsArrangement}

-- each element is before all later ones
abbrev pub Rising : {E : Type 0} → (E → E → Type 0) → List E → Type 0
Rising R [] = Unit {0}
Rising R (x ∷ xs) = AllByRecursion (λ y. R x y) xs × Rising R xs

-- ---- elements

pub contains_here : {E : Type 0} (x : E) (xs : List E) → Contains (x ∷ xs) x
contains_here x xs = (0, omega arith, refl)

pub contains_later : {E : Type 0} (x : E) (xs : List E) (y : E) → Contains xs y → Contains (x ∷ xs) y
contains_later x xs y (k, within, is) = (suc k, omega arith, is)

pub contains_cases : {E : Type 0} (x : E) (xs : List E) (y : E) → Contains (x ∷ xs) y → (x ≡ y) ⊎ Contains xs y
contains_cases x xs y (zero, within, is) = inl is
contains_cases x xs y (suc k, within, is) = inr (k, omega arith, is)

pub contains_none : {E : Type 0} (y : E) → Contains [] y → ⊥
contains_none y (k, within, is) = omega arith

pub all_at : {E : Type 0} (P : E → Type 0) (xs : List E) (y : E) → AllByRecursion P xs → Contains xs y → P y
all_at P xs y all here = All-contains P xs y (All-from_recursion P xs all) here

pub all_weaker : {E : Type 0} (P Q : E → Type 0) → ((x : E) → P x → Q x) → (xs : List E) → AllByRecursion P xs → AllByRecursion Q xs
all_weaker P Q f [] all = tt
all_weaker P Q f (x ∷ xs) all = (f x all.0, all_weaker P Q f xs all.1)

pub all_from_contains : {E : Type 0} (P : E → Type 0) (xs : List E) → ((x : E) → Contains xs x → P x) → AllByRecursion P xs
all_from_contains P [] f = tt
all_from_contains P (x ∷ xs) f = (f x (contains_here x xs), all_from_contains P xs (λ y c. f y (contains_later x xs y c)))

pub all_permutation : {E : Type 0} (P : E → Type 0) (xs ys : List E) → IsPermutation xs ys → AllByRecursion P xs → AllByRecursion P ys
all_permutation P xs ys same all = recursion_from_All P ys (All-permutation P xs ys same (All-from_recursion P xs all))

-- ---- each before the next, and each before all later ones

pub Rising-from_adjacent : {E : Type 0} (R : E → E → Type 0) → ((x y z : E) → R x y → R y z → R x z)
    → (xs : List E) → AllAdjacentBelow R xs (length xs) → Rising R xs
Rising-from_adjacent R chain [] next = tt
Rising-from_adjacent R chain (x ∷ []) next = (tt, tt)
Rising-from_adjacent R chain (x ∷ y ∷ rest) next =
    let first : R x y = next 0 x (omega arith) in
    let more : Rising R (y ∷ rest) = Rising-from_adjacent R chain (y ∷ rest)
    (λ k d within. rw add-one (rw add-one at (next (suc k) d (omega arith)))) in
    ((first, all_weaker (λ z. R y z) (λ z. R x z) (λ z. chain x y z first) rest more.0), more)

pub adjacent-from_Rising : {E : Type 0} (R : E → E → Type 0) (xs : List E) → Rising R xs → AllAdjacentBelow R xs (length xs)
adjacent-from_Rising R [] up k d within = absurd (omega arith)
adjacent-from_Rising R (x ∷ []) up k d within = absurd (omega arith)
adjacent-from_Rising R (x ∷ y ∷ rest) up zero d within = up.0.0
adjacent-from_Rising R (x ∷ y ∷ rest) up (suc k) d within =
    rw add-one (rw add-one at (adjacent-from_Rising R (y ∷ rest) up.1 k d (omega arith)))

-- each element is before the next
abbrev pub Next : {E : Type 0} → (E → E → Type 0) → List E → Type 0
Next R [] = Unit {0}
Next R (x ∷ []) = Unit {0}
Next R (x ∷ y ∷ rest) = R x y × Next R (y ∷ rest)

pub adjacent-from_Next : {E : Type 0} (R : E → E → Type 0) (xs : List E) → Next R xs → AllAdjacentBelow R xs (length xs)
adjacent-from_Next R [] next k d within = absurd (omega arith)
adjacent-from_Next R (x ∷ []) next k d within = absurd (omega arith)
adjacent-from_Next R (x ∷ y ∷ rest) next zero d within = next.0
adjacent-from_Next R (x ∷ y ∷ rest) next (suc k) d within =
    rw add-one (rw add-one at (adjacent-from_Next R (y ∷ rest) next.1 k d (omega arith)))

pub Rising-from_pairs : {E : Type 0} (R : E → E → Type 0) (xs : List E) → AllPairs R xs → Rising R xs
Rising-from_pairs R [] pairs = tt
Rising-from_pairs R (x ∷ xs) pairs = (
  recursion_from_All (λ y. R x y) xs (λ k d within. pairs 0 (suc k) d (omega arith) (omega arith)),
  Rising-from_pairs R xs (λ i j d first within. pairs (suc i) (suc j) d (omega arith) (omega arith)),
)

all_filter : {E : Type 0} (P : E → Type 0) (p : E → Bool) (xs : List E) → AllByRecursion P xs → AllByRecursion P (filter p xs)
all_filter P p [] all = tt
all_filter P p (x ∷ xs) all =
    let rest : AllByRecursion P (filter p xs) = all_filter P p xs all.1 in
    cond_both (p x) (x ∷ filter p xs) (filter p xs) (λ zs. AllByRecursion P zs) (λ e. (all.0, rest)) (λ e. rest)

pub Rising-filter : {E : Type 0} (R : E → E → Type 0) (p : E → Bool) (xs : List E) → Rising R xs → Rising R (filter p xs)
Rising-filter R p [] up = tt
Rising-filter R p (x ∷ xs) up =
    let rest : Rising R (filter p xs) = Rising-filter R p xs up.1 in
    cond_both (p x) (x ∷ filter p xs) (filter p xs) (λ zs. Rising R zs) (λ e. (all_filter (λ y. R x y) p xs up.0, rest)) (λ e. rest)

all_map : {D E : Type 0} (P : E → Type 0) (f : D → E) (xs : List D) → AllByRecursion P (map f xs) → AllByRecursion (λ x. P (f x)) xs
all_map P f [] all = tt
all_map P f (x ∷ xs) all = (all.0, all_map P f xs all.1)

pub Rising-map : {D E : Type 0} (R : E → E → Type 0) (f : D → E) (xs : List D) → Rising R (map f xs) → Rising (λ a b. R (f a) (f b)) xs
Rising-map R f [] up = tt
Rising-map R f (x ∷ xs) up = (all_map (λ y. R (f x) y) f xs up.0, Rising-map R f xs up.1)

all_mapped : {D E : Type 0} (P : E → Type 0) (f : D → E) (xs : List D) → AllByRecursion (λ x. P (f x)) xs → AllByRecursion P (map f xs)
all_mapped P f [] all = tt
all_mapped P f (x ∷ xs) all = (all.0, all_mapped P f xs all.1)

pub Rising-mapped : {D E : Type 0} (R : E → E → Type 0) (f : D → E) (xs : List D) → Rising (λ a b. R (f a) (f b)) xs → Rising R (map f xs)
Rising-mapped R f [] up = tt
Rising-mapped R f (x ∷ xs) up = (all_mapped (λ y. R (f x) y) f xs up.0, Rising-mapped R f xs up.1)

pub pairs-from_Rising : {E : Type 0} (R : E → E → Type 0) (xs : List E) → Rising R xs → AllPairs R xs
pairs-from_Rising R [] up = λ i j d first within. absurd (omega arith)
pairs-from_Rising R (x ∷ xs) up = AllPairs-cons R x xs (All-from_recursion (λ y. R x y) xs up.0) (pairs-from_Rising R xs up.1)

all_both : {E : Type 0} (P Q S : E → Type 0) → ((x : E) → P x → Q x → S x) → (xs : List E) → AllByRecursion P xs → AllByRecursion Q xs → AllByRecursion S xs
all_both P Q S f [] p q = tt
all_both P Q S f (x ∷ xs) p q = (f x p.0 q.0, all_both P Q S f xs p.1 q.1)

-- what any two elements with a property have in common
pub Rising-both : {E : Type 0} (R S : E → E → Type 0) (P : E → Type 0) → ((a b : E) → P a → P b → R a b → S a b)
    → (xs : List E) → AllByRecursion P xs → Rising R xs → Rising S xs
Rising-both R S P f [] all up = tt
Rising-both R S P f (x ∷ xs) all up =
    (all_both P (λ y. R x y) (λ y. S x y) (λ y p r. f x y all.0 p r) xs all.1 up.0, Rising-both R S P f xs all.1 up.1)

-- ---- only one

tail_contains : {E : Type 0} (R : E → E → Type 0) → ((x : E) → ¬ R x x) → (x y : E) → x ≡ y → (xs ys : List E) → AllByRecursion (λ z. R x z) xs
    → ((z : E) → Contains (x ∷ xs) z → Contains (y ∷ ys) z) → (z : E) → Contains xs z → Contains ys z
tail_contains R never x y same xs ys before within z here =
    ⊎_elim (λ (e : y ≡ z). absurd (never x (subst (λ (w : _). R x w) (sym (same ∙ e)) (all_at (λ w. R x w) xs z before here))))
    (λ (c : Contains ys z). c)
    (contains_cases y ys z (within z (contains_later x xs z here)))

heads_same : {E : Type 0} (R : E → E → Type 0) → ((x : E) → ¬ R x x) → ((x y z : E) → R x y → R y z → R x z) → (x y : E) (xs ys : List E)
    → AllByRecursion (λ z. R x z) xs → AllByRecursion (λ z. R y z) ys → Contains (y ∷ ys) x → Contains (x ∷ xs) y → x ≡ y
heads_same R never chain x y xs ys up down left right =
    ⊎_elim (λ (e : y ≡ x). sym e)
    (λ (c : Contains ys x). ⊎_elim (λ (e : x ≡ y). e)
    (λ (d : Contains xs y). absurd (never x (chain x y x (all_at (λ z. R x z) xs y up d) (all_at (λ z. R y z) ys x down c))))
    (contains_cases x xs y right))
    (contains_cases y ys x left)

pub Rising-one : {E : Type 0} (R : E → E → Type 0) → ((x : E) → ¬ R x x) → ((x y z : E) → R x y → R y z → R x z) → (xs ys : List E)
    → Rising R xs → Rising R ys → ((z : E) → Contains xs z → Contains ys z) → ((z : E) → Contains ys z → Contains xs z) → xs ≡ ys
Rising-one R never chain [] [] up down right left = refl
Rising-one R never chain [] (y ∷ ys) up down right left = absurd (contains_none y (left y (contains_here y ys)))
Rising-one R never chain (x ∷ xs) [] up down right left = absurd (contains_none x (right x (contains_here x xs)))
Rising-one R never chain (x ∷ xs) (y ∷ ys) up down right left =
    let same : x ≡ y = heads_same R never chain x y xs ys up.0 down.0 (right x (contains_here x xs)) (left y (contains_here y ys)) in
    let rest : xs ≡ ys = Rising-one R never chain xs ys up.1 down.1
    (tail_contains R never x y same xs ys up.0 right) (tail_contains R never y x (sym same) ys xs down.0 left) in
    cc

pub one_arrangement : {E : Type 0} (R : E → E → Type 0) → ((x : E) → ¬ R x x) → ((x y z : E) → R x y → R y z → R x z)
    → (xs ys first second : List E) → ((z : E) → Contains xs z → Contains ys z) → ((z : E) → Contains ys z → Contains xs z)
    → IsArrangement R xs first → IsArrangement R ys second → first ≡ second
one_arrangement R never chain xs ys first second right left a b =
    Rising-one R never chain first second (Rising-from_adjacent R chain first a.ordered) (Rising-from_adjacent R chain second b.ordered)
    (λ z c. Contains-permutation ys second z b.same (right z (Contains-permutation first xs z (IsPermutation-sym xs first a.same) c)))
    (λ z c. Contains-permutation xs first z a.same (left z (Contains-permutation second ys z (IsPermutation-sym ys second b.same) c)))

-- ---- there is one

place : {E : Type 0} (R : E → E → Type 0) → ((x y z : E) → R x y → R y z → R x z) → (x : E) (ys : List E)
    → AllByRecursion (λ y. R x y ⊎ R y x) ys → Rising R ys → (zs : List E) × IsPermutation (x ∷ ys) zs × Rising R zs
place R chain x [] sides up = (x ∷ [], IsPermutation-refl (x ∷ []), (tt, tt))
place R chain x (y ∷ ys) sides up =
    ⊎_elim (λ (first : R x y). (x ∷ y ∷ ys, IsPermutation-refl (x ∷ y ∷ ys), ((first, all_weaker (λ z. R y z) (λ z. R x z) (λ z. chain x y z first) ys up.0), up)))
    (λ (later : R y x).
    let (zs, same, rest) = place R chain x ys sides.1 up.1 in (
      y ∷ zs,
      IsPermutation-trans (x ∷ y ∷ ys) (y ∷ x ∷ ys) (y ∷ zs)
          (IsPermutation-sym (y ∷ x ∷ ys) (x ∷ y ∷ ys) (IsPermutation-middle (y ∷ []) x ys)) (IsPermutation-cons y (x ∷ ys) zs same),
      (all_permutation (λ z. R y z) (x ∷ ys) zs same (later, up.0), rest),
    ))
    sides.0

arranged : {E : Type 0} (R : E → E → Type 0) → ((x y z : E) → R x y → R y z → R x z) → (xs : List E)
    → Rising (λ a b. R a b ⊎ R b a) xs → (zs : List E) × IsPermutation xs zs × Rising R zs
arranged R chain [] sides = ([], IsPermutation-refl [], tt)
arranged R chain (x ∷ xs) sides =
    let (ys, same, up) = arranged R chain xs sides.1 in
    let (zs, more, rest) = place R chain x ys (all_permutation (λ y. R x y ⊎ R y x) xs ys same sides.0) up in
    (zs, IsPermutation-trans (x ∷ xs) (x ∷ ys) zs (IsPermutation-cons x xs ys same) more, rest)

pub an_arrangement : {E : Type 0} (R : E → E → Type 0) → ((x y z : E) → R x y → R y z → R x z) → (xs : List E)
    → Rising (λ a b. R a b ⊎ R b a) xs → (zs : List E) × IsArrangement R xs zs
an_arrangement R chain xs sides =
    let (zs, same, up) = arranged R chain xs sides in
    (zs, record { same = same; ordered = adjacent-from_Rising R zs up })
