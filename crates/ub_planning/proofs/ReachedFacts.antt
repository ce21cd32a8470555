-- How far a sweep goes, over the coordinates of what it gives in order.
use Rattle.std.proofs.Common.{◌≡◌, ◌≢◌, ◌<◌, ◌≤◌, ◌==◌, ◌∙◌, ℕ, zero, suc, Bool, true, false, not, List, [], ◌∷◌, ◌++◌, Option, Some, None, IfSome, Contains, filter, length, map, take, inl, inr, refl, sym, ap, subst, arith}
use Rattle.std.proofs.lemmas.Bool.{cases_Bool, cases_lt, eq-eqb, eqb-true, lt-ltb, ltb-true, true≢false}
use Rattle.std.proofs.lemmas.List.{append-nil, length-append, length-map, length-take, length-take-le, map-append, take-append-le, take-map}
use Rattle.std.proofs.lemmas.List.Elements.{filter-append}
use Rattle.std.specs.List.{AllByRecursion}
use Rattle.ub_planning.proofs.ThoseFacts.{filter_none}
use Rattle.ub_planning.specs.Visits.{Event, IsAlong, is_filled, is_past, last_of, reached}
use Rattle.ub_query.proofs.Laws.{all_at, contains_here, contains_later}
use Rattle.ub_query.specs.Meaning.{limited}

-- ---- coordinates along a sweep

pub along_chain : (down : Bool) (a b c : ℕ) → IsAlong down a b → IsAlong down b c → IsAlong down a c
along_chain false a b c g h = omega arith
along_chain true a b c g h = omega arith

pub along_never : (down : Bool) (a : ℕ) → ¬ (IsAlong down a a)
along_never false a h = omega arith
along_never true a h = omega arith

-- not past one another
abbrev pub IsUpTo : Bool → ℕ → ℕ → Type 0
IsUpTo down a b = ¬ (IsAlong down b a)

pub up_to_chain : (down : Bool) (a b c : ℕ) → IsUpTo down a b → IsUpTo down b c → IsUpTo down a c
up_to_chain false a b c g h k = elim (cases_lt b a) [
  | inl lt ↦ g lt
  | inr le ↦ h (omega arith)
]
up_to_chain true a b c g h k = elim (cases_lt a b) [
  | inl lt ↦ g lt
  | inr le ↦ h (omega arith)
]

pub along_up_to : (down : Bool) (a b c : ℕ) → IsAlong down a b → IsUpTo down b c → IsAlong down a c
along_up_to false a b c g h = elim (cases_lt a c) [
  | inl lt ↦ lt
  | inr le ↦ absurd (h (omega arith))
]
along_up_to true a b c g h = elim (cases_lt c a) [
  | inl lt ↦ lt
  | inr le ↦ absurd (h (omega arith))
]

pub up_to_along : (down : Bool) (a b c : ℕ) → IsUpTo down a b → IsAlong down b c → IsAlong down a c
up_to_along false a b c g h = elim (cases_lt a c) [
  | inl lt ↦ lt
  | inr le ↦ absurd (g (omega arith))
]
up_to_along true a b c g h = elim (cases_lt c a) [
  | inl lt ↦ lt
  | inr le ↦ absurd (g (omega arith))
]

pub up_to_both : (down : Bool) (a b : ℕ) → IsUpTo down a b → IsUpTo down b a → a ≡ b
up_to_both false a b g h = elim (cases_lt a b) [
  | inl lt ↦ absurd (h lt)
  | inr le ↦ elim (cases_lt b a) [
    | inl back ↦ absurd (g back)
    | inr same ↦ omega arith
  ]
]
up_to_both true a b g h = elim (cases_lt a b) [
  | inl lt ↦ absurd (g lt)
  | inr le ↦ elim (cases_lt b a) [
    | inl back ↦ absurd (h back)
    | inr same ↦ omega arith
  ]
]

pub up_to_apart : (down : Bool) (a b : ℕ) → IsUpTo down a b → b ≢ a → IsAlong down a b
up_to_apart false a b g apart = elim (cases_lt a b) [
  | inl lt ↦ lt
  | inr le ↦ elim (cases_lt b a) [
    | inl back ↦ absurd (g back)
    | inr same ↦ absurd (apart (omega arith))
  ]
]
up_to_apart true a b g apart = elim (cases_lt b a) [
  | inl lt ↦ lt
  | inr le ↦ elim (cases_lt a b) [
    | inl back ↦ absurd (g back)
    | inr same ↦ absurd (apart (omega arith))
  ]
]

pub past_is : (down : Bool) (a b : ℕ) → is_past down a b ≡ true → IsAlong down a b
past_is false a b t = ltb-true a b t
past_is true a b t = ltb-true b a t

pub is_past_of : (down : Bool) (a b : ℕ) → IsAlong down a b → is_past down a b ≡ true
is_past_of false a b h = lt-ltb a b h
is_past_of true a b h = lt-ltb b a h

pub not_past : (down : Bool) (a b : ℕ) → ¬ (IsAlong down a b) → not (is_past down a b) ≡ true
not_past down a b h = elim (cases_Bool (is_past down a b)) [
  | inl t ↦ absurd (h (past_is down a b t))
  | inr f ↦ rw f refl
]

pub past_not : (down : Bool) (a b : ℕ) → IsAlong down a b → not (is_past down a b) ≡ false
past_not down a b h = ap not (is_past_of down a b h)

-- ---- the last of some values

pub last_among : (P : ℕ → Type 0) (value : ℕ) (values : List ℕ) → P value → AllByRecursion P values → P (last_of (value ∷ values))
last_among P value [] is all = is
last_among P value (other ∷ values) is all = last_among P other values all.0 all.1

first_all : (P : ℕ → Type 0) (values : List ℕ) (n : ℕ) → AllByRecursion P values → AllByRecursion P (take n values)
first_all P [] zero all = tt
first_all P [] (suc n) all = tt
first_all P (value ∷ values) zero all = tt
first_all P (value ∷ values) (suc n) all = (all.0, first_all P values n all.1)

-- of so many values that one of the later ones is among them, the last is one of those
last_taken : (P : ℕ → Type 0) (before more : List ℕ) (n : ℕ) → length before < n → 1 ≤ length more → AllByRecursion P more → P (last_of (take n (before ++ more)))
last_taken P before [] n below some all = absurd (omega arith)
last_taken P [] (value ∷ more) zero below some all = absurd (omega arith)
last_taken P [] (value ∷ more) (suc n) below some all = last_among P value (take n more) all.0 (first_all P more n all.1)
last_taken P (first ∷ before) (value ∷ more) zero below some all = absurd (omega arith)
last_taken P (first ∷ []) (value ∷ more) (suc zero) below some all = absurd (omega arith)
last_taken P (first ∷ []) (value ∷ more) (suc (suc n)) below some all = last_among P value (take n more) all.0 (first_all P more n all.1)
last_taken P (first ∷ second ∷ before) (value ∷ more) (suc zero) below some all = absurd (omega arith)
last_taken P (first ∷ second ∷ before) (value ∷ more) (suc (suc n)) below some all = last_taken P (second ∷ before) (value ∷ more) (suc n) (omega arith) some all

-- ---- how many there are

fill_true : (n count : ℕ) → n ≡ count → is_filled (Some n) count ≡ true
fill_true n count same = eq-eqb n count same

fill_false : (n count : ℕ) → count < n → is_filled (Some n) count ≡ false
fill_false n count below = elim (cases_Bool (n == count)) [
  | inl t ↦ let same = eqb-true n count t in absurd (omega arith)
  | inr f ↦ f
]

taken_few : {E : Type 0} (n : ℕ) (xs : List E) → length (take n xs) ≤ length xs
taken_few n xs = omega (arith, length-take n xs)

-- ---- the regions to which it comes

filter_all : {E : Type 0} (p : E → Bool) (xs : List E) → ((x : E) → Contains xs x → p x ≡ true) → filter p xs ≡ xs
filter_all p [] passes = refl
filter_all p (x ∷ xs) passes = rw (passes x (contains_here x xs)) (ap (λ (ys : List _). x ∷ ys) (filter_all p xs (λ y c. passes y (contains_later x xs y c))))

-- no event value is past this one
abbrev pub AreUpTo : Bool → List Event → ℕ → Type 0
AreUpTo down events value = AllByRecursion (λ event. ¬ (IsAlong down value event.value)) events

-- those fetched are just the ones that aren't past the last of some values
abbrev pub StopsAt : Bool → List ℕ → List Event → List Event → Type 0
StopsAt down values fetched unread = AreUpTo down fetched (last_of values) × AllByRecursion (λ event. IsAlong down (last_of values) event.value) unread

kept_front : (down : Bool) (values : List ℕ) (front : List Event) → AreUpTo down front (last_of values) → filter (λ event. not (is_past down (last_of values) event.value)) front ≡ front
kept_front down values front past =
    filter_all (λ (event : Event). not (is_past down (last_of values) event.value)) front
    (λ event there. not_past down (last_of values) event.value (all_at (λ event. ¬ (IsAlong down (last_of values) event.value)) front event past there))

filled_reached : (down : Bool) (limit : Option ℕ) (values : List ℕ) (front left : List Event) → is_filled limit (length values) ≡ true → StopsAt down values front left
    → reached down limit values (front ++ left) ≡ front
filled_reached down limit values front left filled stops =
    let p : Event → Bool = λ event. not (is_past down (last_of values) event.value) in
    rw filled
    (filter-append p front left
    ∙ ap (λ (events : List Event). filter p front ++ events)
    (filter_none p left (λ event there t. true≢false (sym t ∙ past_not down (last_of values) event.value (all_at (λ event. IsAlong down (last_of values) event.value) left event stops.1 there))))
    ∙ append-nil (filter p front)
    ∙ kept_front down values front stops.0)

-- what is given has these coordinates
module _ {E : Type 0} (value : E → ℕ) where
  mapped : (P : ℕ → Type 0) (xs : List E) → AllByRecursion (λ x. P (value x)) xs → AllByRecursion P (map value xs)
  mapped P [] all = tt
  mapped P (x ∷ xs) all = (all.0, mapped P xs all.1)

  -- the last of so many that one of the later ones is among them is one of those
  pub last_within : (P : ℕ → Type 0) (n : ℕ) (before more : List E) → length before < n → n ≤ length (before ++ more) → AllByRecursion (λ x. P (value x)) more
      → P (last_of (map value (take n (before ++ more))))
  last_within P n before more below many all =
      let parts = length-append before more in
      let first = length-map before value in
      let later = length-map more value in
      subst (λ (values : List ℕ). P (last_of values)) (ap (take n) (sym (map-append value before more)) ∙ take-map value n (before ++ more))
      (last_taken P (map value before) (map value more) n (omega (arith, below, first)) (omega (arith, below, many, parts, later)) (mapped P more all))

  -- the limit is filled by the first ones: it comes to the regions that aren't past the last of these
  pub reached_filled : (down : Bool) (limit : Option ℕ) (n : ℕ) (xs rest : List E) (front left : List Event) → limit ≡ Some n → n ≤ length xs → StopsAt down (map value (take n xs)) front left
      → reached down limit (map value (limited limit (xs ++ rest))) (front ++ left) ≡ front
  reached_filled down limit n xs rest front left is many stops =
      let full = sym (length-map (take n xs) value ∙ length-take-le n xs many) in
      ap (λ (o : Option ℕ). reached down o (map value (limited o (xs ++ rest))) (front ++ left)) is
      ∙ ap (λ (ys : List E). reached down (Some n) (map value ys) (front ++ left)) (take-append-le n xs rest many)
      ∙ filled_reached down (Some n) (map value (take n xs)) front left (fill_true n (length (map value (take n xs))) full) stops

  -- all of them don't fill it: it comes to all regions
  short_fill : (limit : Option ℕ) (xs : List E) → IfSome limit (λ n. length xs < n) → is_filled limit (length (map value (limited limit xs))) ≡ false
  short_fill None xs short = refl
  short_fill (Some n) xs short =
      let few = taken_few n xs in
      let long = length-map (take n xs) value in
      fill_false n (length (map value (take n xs))) (omega (arith, short, few, long))

  pub reached_short : (down : Bool) (limit : Option ℕ) (xs : List E) (events : List Event) → IfSome limit (λ n. length xs < n) → reached down limit (map value (limited limit xs)) events ≡ events
  reached_short down limit xs events short = rw (short_fill limit xs short) refl

  -- the first ones don't fill it: it comes at least to the regions that are past none of the later ones
  last_limited : (P : ℕ → Type 0) (limit : Option ℕ) (before more : List E) → IfSome limit (λ n. length before < n)
      → is_filled limit (length (map value (limited limit (before ++ more)))) ≡ true
      → AllByRecursion (λ x. P (value x)) more → P (last_of (map value (limited limit (before ++ more))))
  last_limited P None before more short filled all = absurd (true≢false (sym filled))
  last_limited P (Some n) before more short filled all =
      let few = taken_few n (before ++ more) in
      let long = length-map (take n (before ++ more)) value in
      let same = eqb-true n (length (map value (take n (before ++ more)))) filled in
      last_within P n before more short (omega (arith, few, long, same)) all

  pub reached_front : (down : Bool) (limit : Option ℕ) (before more : List E) (front left : List Event) → IfSome limit (λ n. length before < n)
      → AllByRecursion (λ x. AreUpTo down front (value x)) more
      → (later : List Event) × (reached down limit (map value (limited limit (before ++ more))) (front ++ left) ≡ front ++ later)
  reached_front down limit before more front left short past =
      by_fill (map value (limited limit (before ++ more))) (λ filled. last_limited (AreUpTo down front) limit before more short filled past)
      (is_filled limit (length (map value (limited limit (before ++ more))))) refl
    where
      by_fill : (values : List ℕ) → (is_filled limit (length values) ≡ true → AreUpTo down front (last_of values)) → (b : Bool) → is_filled limit (length values) ≡ b
          → (later : List Event) × (reached down limit values (front ++ left) ≡ front ++ later)
      by_fill values past false e = (left, rw e refl)
      by_fill values past true e =
          let p : Event → Bool = λ event. not (is_past down (last_of values) event.value) in
          (filter p left, rw e (filter-append p front left ∙ ap (λ (zs : List Event). zs ++ filter p left) (kept_front down values front (past e))))
