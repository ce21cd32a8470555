-- Those elements of a list that have a property.
use Rattle.std.proofs.Common.{◌≡◌, List, [], ◌∷◌, ◌++◌, Bool, true, filter, Contains, inl, inr, refl, sym, ap, ◌∙◌, subst}
use Rattle.std.proofs.lemmas.Bool.{cases_Bool}
use Rattle.std.proofs.lemmas.List.Elements.{filter-append, Contains-append_cases, Contains-append_left, Contains-append_right}
use Rattle.std.specs.List.{AllByRecursion, flat_map}
use Rattle.ub_region.specs.Those.{AreThose}
use Rattle.ub_query.proofs.Laws.{Rising, contains_here, contains_later, contains_none}

-- there is only one list of them
pub those_one : {E : Type 0} (P : E → Type 0) (xs us vs : List E) → AreThose P xs us → AreThose P xs vs → us ≡ vs
those_one P [] us vs a b = a ∙ sym b
those_one P (x ∷ xs) us vs (inl a) (inl b) = a.2 ∙ ap (λ (ys : List _). x ∷ ys) (those_one P xs a.1 b.1 a.3 b.3) ∙ sym b.2
those_one P (x ∷ xs) us vs (inl a) (inr b) = absurd (b.0 a.0)
those_one P (x ∷ xs) us vs (inr a) (inl b) = absurd (a.0 b.0)
those_one P (x ∷ xs) us vs (inr a) (inr b) = those_one P xs us vs a.1 b.1

-- nothing passes a test that each element fails
pub filter_none : {E : Type 0} (p : E → Bool) (xs : List E) → ((x : E) → Contains xs x → p x ≡ true → ⊥) → filter p xs ≡ []
filter_none p [] fails = refl
filter_none p (x ∷ xs) fails = elim (cases_Bool (p x)) [
  | inl t ↦ absurd (fails x (contains_here x xs) t)
  | inr f ↦ rw f (filter_none p xs (λ y c t. fails y (contains_later x xs y c) t))
]

-- what passes a test is among the parts of those, where no other element has a part that passes
pub those_parts : {E F : Type 0} (P : E → Type 0) (parts : E → List F) (p : F → Bool) (xs those : List E) → AreThose P xs those
    → ((x : E) → Contains xs x → ¬ (P x) → filter p (parts x) ≡ []) → filter p (flat_map parts those) ≡ filter p (flat_map parts xs)
those_parts P parts p [] those a none = ap (λ (ys : List _). filter p (flat_map parts ys)) a
those_parts P parts p (x ∷ xs) those (inl a) none =
    let rest = those_parts P parts p xs a.1 a.3 (λ y c out. none y (contains_later x xs y c) out) in
    ap (λ (ys : List _). filter p (flat_map parts ys)) a.2
    ∙ filter-append p (parts x) (flat_map parts a.1)
    ∙ ap (λ (ys : List _). filter p (parts x) ++ ys) rest
    ∙ sym (filter-append p (parts x) (flat_map parts xs))
those_parts P parts p (x ∷ xs) those (inr a) none =
    let rest = those_parts P parts p xs those a.1 (λ y c out. none y (contains_later x xs y c) out) in
    rest
    ∙ ap (λ (ys : List _). ys ++ filter p (flat_map parts xs)) (sym (none x (contains_here x xs) a.0))
    ∙ sym (filter-append p (parts x) (flat_map parts xs))

-- the parts of those are parts of all
pub parts_among : {E F : Type 0} (P : E → Type 0) (parts : E → List F) (y : F) (xs those : List E) → AreThose P xs those → Contains (flat_map parts those) y → Contains (flat_map parts xs) y
parts_among P parts y [] those a c = subst (λ (zs : List _). Contains (flat_map parts zs) y) a c
parts_among P parts y (x ∷ xs) those (inl a) c =
    elim (Contains-append_cases (parts x) (flat_map parts a.1) y (subst (λ (zs : List _). Contains (flat_map parts zs) y) a.2 c)) [
      | inl here ↦ Contains-append_left (parts x) (flat_map parts xs) y here
      | inr rest ↦ Contains-append_right (parts x) (flat_map parts xs) y (parts_among P parts y xs a.1 a.3 rest)
    ]
parts_among P parts y (x ∷ xs) those (inr a) c = Contains-append_right (parts x) (flat_map parts xs) y (parts_among P parts y xs those a.1 c)

-- a part of all is one of those, where it is a part only of elements with the property
pub parts_back : {E F : Type 0} (P : E → Type 0) (parts : E → List F) (y : F) (xs those : List E) → AreThose P xs those
    → ((x : E) → Contains xs x → Contains (parts x) y → P x) → Contains (flat_map parts xs) y → Contains (flat_map parts those) y
parts_back P parts y [] those a has c = absurd (contains_none y c)
parts_back P parts y (x ∷ xs) those (inl a) has c =
    subst (λ (zs : List _). Contains (flat_map parts zs) y) (sym a.2)
    (elim (Contains-append_cases (parts x) (flat_map parts xs) y c) [
      | inl here ↦ Contains-append_left (parts x) (flat_map parts a.1) y here
      | inr rest ↦ Contains-append_right (parts x) (flat_map parts a.1) y (parts_back P parts y xs a.1 a.3 (λ z d. has z (contains_later x xs z d)) rest)
    ])
parts_back P parts y (x ∷ xs) those (inr a) has c =
    elim (Contains-append_cases (parts x) (flat_map parts xs) y c) [
      | inl here ↦ absurd (a.0 (has x (contains_here x xs) here))
      | inr rest ↦ parts_back P parts y xs those a.1 (λ z d. has z (contains_later x xs z d)) rest
    ]

-- two tests that answer alike on each element
pub filter_same : {E : Type 0} (p r : E → Bool) (xs : List E) → ((x : E) → Contains xs x → p x ≡ r x) → filter p xs ≡ filter r xs
filter_same p r [] alike = refl
filter_same p r (x ∷ xs) alike =
    let rest = filter_same p r xs (λ y c. alike y (contains_later x xs y c)) in
    rw (alike x (contains_here x xs), rest) refl

-- each of those has the property
pub those_have : {E : Type 0} (P : E → Type 0) (xs those : List E) → AreThose P xs those → AllByRecursion P those
those_have P [] those a = subst (λ (ys : List _). AllByRecursion P ys) (sym a) tt
those_have P (x ∷ xs) those (inl a) = subst (λ (ys : List _). AllByRecursion P ys) (sym a.2) (a.0, those_have P xs a.1 a.3)
those_have P (x ∷ xs) those (inr a) = those_have P xs those a.1

all_those : {E : Type 0} (P Q : E → Type 0) (xs those : List E) → AreThose P xs those → AllByRecursion Q xs → AllByRecursion Q those
all_those P Q [] those a all = subst (λ (ys : List _). AllByRecursion Q ys) (sym a) tt
all_those P Q (x ∷ xs) those (inl a) all = subst (λ (ys : List _). AllByRecursion Q ys) (sym a.2) (all.0, all_those P Q xs a.1 a.3 all.1)
all_those P Q (x ∷ xs) those (inr a) all = all_those P Q xs those a.1 all.1

-- and they stand in the order of all
pub Rising-those : {E : Type 0} (R : E → E → Type 0) (P : E → Type 0) (xs those : List E) → AreThose P xs those → Rising R xs → Rising R those
Rising-those R P [] those a up = subst (λ (ys : List _). Rising R ys) (sym a) tt
Rising-those R P (x ∷ xs) those (inl a) up =
    subst (λ (ys : List _). Rising R ys) (sym a.2) (all_those P (λ y. R x y) xs a.1 a.3 up.0, Rising-those R P xs a.1 a.3 up.1)
Rising-those R P (x ∷ xs) those (inr a) up = Rising-those R P xs those a.1 up.1
