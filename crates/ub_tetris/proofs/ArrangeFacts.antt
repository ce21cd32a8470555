-- Lists in which each element is before all later ones, parts of lists, and sums over them.
use Rattle.std.proofs.Common.{◌≡◌, ◌≤◌, ◌+◌, ℕ, List, [], ◌∷◌, ◌++◌, Bool, map, filter, Contains, ◌⊎◌, inl, inr, refl, sym, ap, ◌∙◌, subst, arith}
use Rattle.std.proofs.lemmas.Bool.{cases_lt}
use Rattle.std.proofs.lemmas.List.Elements.{All-from_recursion, Contains-append_left, Contains-append_right, Contains-append_cases, filter-append}
use Rattle.std.proofs.lemmas.List.Sums.{sum_by-cons, sum_by-append}
use Rattle.std.specs.List.{All, AllByRecursion, flat_map, sum_by}
use Rattle.ub_region.specs.Those.{AreThose}
use Rattle.ub_query.proofs.Laws.{Rising, all_at, contains_here, contains_later, contains_cases, contains_none, all_from_contains}

pub all_of : {E : Type 0} (P : E → Type 0) (xs : List E) → ((x : E) → Contains xs x → P x) → All P xs
all_of P xs f = All-from_recursion P xs (all_from_contains P xs f)

-- ---- parts of lists

pub in_part : {A B : Type 0} (parts : A → List B) (xs : List A) (x : A) (y : B) → Contains xs x → Contains (parts x) y → Contains (flat_map parts xs) y
in_part parts [] x y there c = absurd (contains_none x there)
in_part parts (z ∷ zs) x y there c = elim (contains_cases z zs x there) [
  | inl same ↦ Contains-append_left (parts z) (flat_map parts zs) y (subst (λ (w : _). Contains (parts w) y) (sym same) c)
  | inr later ↦ Contains-append_right (parts z) (flat_map parts zs) y (in_part parts zs x y later c)
]

pub from_part : {A B : Type 0} (parts : A → List B) (xs : List A) (y : B) → Contains (flat_map parts xs) y → (x : A) × Contains xs x × Contains (parts x) y
from_part parts [] y c = absurd (contains_none y c)
from_part parts (z ∷ zs) y c = elim (Contains-append_cases (parts z) (flat_map parts zs) y c) [
  | inl here ↦ (z, contains_here z zs, here)
  | inr later ↦ let (x, there, has) = from_part parts zs y later in (x, contains_later z zs x there, has)
]

-- ---- each before all later ones

pub rising_apart : {E : Type 0} (R : E → E → Type 0) (xs ys : List E) (x y : E) → Rising R (xs ++ ys) → Contains xs x → Contains ys y → R x y
rising_apart R [] ys x y up left right = absurd (contains_none x left)
rising_apart R (z ∷ xs) ys x y up left right = elim (contains_cases z xs x left) [
  | inl same ↦ subst (λ (w : _). R w y) same (all_at (λ w. R z w) (xs ++ ys) y up.0 (Contains-append_right xs ys y right))
  | inr later ↦ rising_apart R xs ys x y up.1 later right
]

pub rising_right : {E : Type 0} (R : E → E → Type 0) (xs ys : List E) → Rising R (xs ++ ys) → Rising R ys
rising_right R [] ys up = up
rising_right R (x ∷ xs) ys up = rising_right R xs ys up.1

all_left : {E : Type 0} (P : E → Type 0) (xs ys : List E) → AllByRecursion P (xs ++ ys) → AllByRecursion P xs
all_left P [] ys all = tt
all_left P (x ∷ xs) ys all = (all.0, all_left P xs ys all.1)

pub rising_left : {E : Type 0} (R : E → E → Type 0) (xs ys : List E) → Rising R (xs ++ ys) → Rising R xs
rising_left R [] ys up = tt
rising_left R (x ∷ xs) ys up = (all_left (λ y. R x y) xs ys up.0, rising_left R xs ys up.1)

pub rising_two : {E : Type 0} (R : E → E → Type 0) (xs : List E) (x y : E) → Rising R xs → Contains xs x → Contains xs y → (x ≡ y) ⊎ (R x y ⊎ R y x)
rising_two R [] x y up left right = absurd (contains_none x left)
rising_two R (z ∷ zs) x y up left right = elim (contains_cases z zs x left) [
  | inl same ↦ elim (contains_cases z zs y right) [
    | inl both ↦ inl (sym same ∙ both)
    | inr later ↦ inr (inl (subst (λ (w : _). R w y) same (all_at (λ w. R z w) zs y up.0 later)))
  ]
  | inr later ↦ elim (contains_cases z zs y right) [
    | inl same ↦ inr (inr (subst (λ (w : _). R w x) same (all_at (λ w. R z w) zs x up.0 later)))
    | inr both ↦ rising_two R zs x y up.1 later both
  ]
]

-- the element that none is before is the first
pub least_first : {E : Type 0} (R : E → E → Type 0) (xs : List E) (x : E) → Rising R xs → Contains xs x → ((y : E) → Contains xs y → ¬ (R y x)) → (more : List E) × (xs ≡ x ∷ more)
least_first R [] x up here least = absurd (contains_none x here)
least_first R (first ∷ xs) x up here least = elim (contains_cases first xs x here) [
  | inl same ↦ (xs, ap (λ (y : _). y ∷ xs) same)
  | inr later ↦ absurd (least first (contains_here first xs) (all_at (λ y. R first y) xs x up.0 later))
]

-- ---- sums

pub sum_of_parts : {A B : Type 0} (weight : B → ℕ) (p : B → Bool) (parts : A → List B) (xs : List A)
    → sum_by weight (filter p (flat_map parts xs)) ≡ sum_by (λ x. sum_by weight (filter p (parts x))) xs
sum_of_parts weight p parts [] = refl
sum_of_parts weight p parts (x ∷ xs) =
    ap (λ (ys : List _). sum_by weight ys) (filter-append p (parts x) (flat_map parts xs))
    ∙ sum_by-append weight (filter p (parts x)) (filter p (flat_map parts xs))
    ∙ ap (λ (n : ℕ). sum_by weight (filter p (parts x)) + n) (sum_of_parts weight p parts xs)
    ∙ sym (sum_by-cons (λ x. sum_by weight (filter p (parts x))) x xs)

pub sum_of_map : {A B : Type 0} (weight : B → ℕ) (f : A → B) (xs : List A) → sum_by weight (map f xs) ≡ sum_by (λ x. weight (f x)) xs
sum_of_map weight f [] = refl
sum_of_map weight f (x ∷ xs) =
    sum_by-cons weight (f x) (map f xs) ∙ ap (λ (n : ℕ). weight (f x) + n) (sum_of_map weight f xs) ∙ sym (sum_by-cons (λ x. weight (f x)) x xs)

pub sum_of_those : {E : Type 0} (P : E → Type 0) (weight : E → ℕ) (xs those : List E) → AreThose P xs those → sum_by weight those ≤ sum_by weight xs
sum_of_those P weight [] those are = rw are (omega arith)
sum_of_those P weight (x ∷ xs) those (inl are) =
    let rest = sum_of_those P weight xs are.1 are.3 in
    rw (are.2, sum_by-cons weight x are.1, sum_by-cons weight x xs) (omega arith)
sum_of_those P weight (x ∷ xs) those (inr are) =
    let rest = sum_of_those P weight xs those are.1 in
    rw (sum_by-cons weight x xs) (omega arith)

-- where a sum isn't 0, some element weighs something
pub some_weight : {E : Type 0} (weight : E → ℕ) (xs : List E) → 1 ≤ sum_by weight xs → (x : E) × Contains xs x × (1 ≤ weight x)
some_weight weight [] h = absurd (omega arith)
some_weight weight (x ∷ xs) h = elim (cases_lt 0 (weight x)) [
  | inl some ↦ (x, contains_here x xs, omega arith)
  | inr none ↦
      let sum = sum_by-cons weight x xs in
      let rest = some_weight weight xs (omega (arith, h, none, sum)) in
      (rest.0, contains_later x xs rest.0 rest.1, rest.2)
]

pub weight_there : {E : Type 0} (weight : E → ℕ) (xs : List E) (x : E) → Contains xs x → weight x ≤ sum_by weight xs
weight_there weight [] x there = absurd (contains_none x there)
weight_there weight (y ∷ ys) x there = elim (contains_cases y ys x there) [
  | inl same ↦ rw (← same, sum_by-cons weight y ys) (omega arith)
  | inr later ↦ let rest = weight_there weight ys x later in rw (sum_by-cons weight y ys) (omega arith)
]
