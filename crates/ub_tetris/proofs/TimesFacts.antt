-- How many stretches hold a key, and how many regions they can have at most, in whatever order they stand.
use Rattle.std.proofs.Common.{◌≡◌, ◌≤◌, ◌<◌, ◌+◌, ◌*◌, ◌^◌, ◌∷◌, ◌++◌, ℕ, zero, suc, Bool, true, false, List, [], Contains, IsPermutation, inl, inr, sym, ap, subst, length, arith}
use Rattle.std.proofs.Math.Nat.{pow-suc, suc-mul}
use Rattle.std.proofs.lemmas.Bool.{cases_Bool}
use Rattle.std.proofs.lemmas.List.Sorted.{sum_by-IsPermutation}
use Rattle.std.proofs.lemmas.List.Sums.{sum_by-append, sum_by-cons}
use Rattle.std.specs.List.{AllByRecursion}
use Rattle.std.specs.Prelude.{if◌then◌else◌}
use Rattle.ub_table.specs.declared.row.Key.{Key}
use Rattle.ub_tetris.proofs.ArrangeFacts.{some_weight, weight_there}
use Rattle.ub_tetris.specs.Awaited.{AwaitedStretch, most_regions, times_held}
use Rattle.ub_tree.specs.Stretches.{holds_key}

-- ---- a key

abbrev pub weight : Key → AwaitedStretch → ℕ
weight key a = if holds_key a.stretch key then 1 else 0

pub times_cons : (key : Key) (a : AwaitedStretch) (xs : List AwaitedStretch) → times_held key (a ∷ xs) ≡ weight key a + times_held key xs
times_cons key a xs = sum_by-cons (weight key) a xs

pub times_append : (key : Key) (xs ys : List AwaitedStretch) → times_held key (xs ++ ys) ≡ times_held key xs + times_held key ys
times_append key xs ys = sum_by-append (weight key) xs ys

pub times_same : (key : Key) (xs ys : List AwaitedStretch) → IsPermutation xs ys → times_held key xs ≡ times_held key ys
times_same key xs ys same = sym (sum_by-IsPermutation (weight key) xs ys same)

pub weight_one : (key : Key) (a : AwaitedStretch) → holds_key a.stretch key ≡ true → weight key a ≡ 1
weight_one key a holds = ap (λ (b : Bool). if b then 1 else 0) holds

pub weight_none : (key : Key) (a : AwaitedStretch) → holds_key a.stretch key ≡ false → weight key a ≡ 0
weight_none key a holds = ap (λ (b : Bool). if b then 1 else 0) holds

pub weight_held : (key : Key) (a : AwaitedStretch) → 1 ≤ weight key a → holds_key a.stretch key ≡ true
weight_held key a some = elim (cases_Bool (holds_key a.stretch key)) [
  | inl holds ↦ holds
  | inr not ↦ let none = weight_none key a not in absurd (omega (arith, some, none))
]

pub weight_most : (key : Key) (a : AwaitedStretch) → weight key a ≤ 1
weight_most key a = elim (cases_Bool (holds_key a.stretch key)) [
  | inl holds ↦ let one = weight_one key a holds in omega (arith, one)
  | inr not ↦ let none = weight_none key a not in omega (arith, none)
]

-- a key that some of them hold
pub held_by : (key : Key) (xs : List AwaitedStretch) → 1 ≤ times_held key xs → (a : AwaitedStretch) × Contains xs a × (holds_key a.stretch key ≡ true)
held_by key xs some = let (a, there, weighs) = some_weight (weight key) xs some in (a, there, weight_held key a weighs)

pub held_once : (key : Key) (xs : List AwaitedStretch) (a : AwaitedStretch) → Contains xs a → holds_key a.stretch key ≡ true → 1 ≤ times_held key xs
held_once key xs a there holds =
    let one = weight_one key a holds in
    let most = weight_there (weight key) xs a there in
    omega (arith, one, most)

-- where no two of them hold one key, one that holds it is held by none beside
pub held_alone : (key : Key) (a : AwaitedStretch) (xs : List AwaitedStretch) → times_held key (a ∷ xs) ≤ 1 → holds_key a.stretch key ≡ true → 1 ≤ times_held key xs → ⊥
held_alone key a xs most holds some =
    let one = weight_one key a holds in
    let both = times_cons key a xs in
    omega (arith, most, some, one, both)

-- ---- regions

abbrev room : AwaitedStretch → ℕ
room a = 171 ^ a.stretch.level

pub most_cons : (a : AwaitedStretch) (xs : List AwaitedStretch) → most_regions (a ∷ xs) ≡ 171 ^ a.stretch.level + most_regions xs
most_cons a xs = sum_by-cons room a xs

pub most_append : (xs ys : List AwaitedStretch) → most_regions (xs ++ ys) ≡ most_regions xs + most_regions ys
most_append xs ys = sum_by-append room xs ys

pub most_same : (xs ys : List AwaitedStretch) → IsPermutation xs ys → most_regions xs ≡ most_regions ys
most_same xs ys same = sym (sum_by-IsPermutation room xs ys same)

no_less : (n : ℕ) → 0 ≤ n
no_less n = omega arith

one_more : (a b c d : ℕ) → a ≤ c → b ≤ d → a + b ≤ d + c
one_more a b c d g h = omega arith

-- stretches of one level
most_each : (level n : ℕ) (xs : List AwaitedStretch) → AllByRecursion (λ a. suc level ≡ a.stretch.level + 1) xs → length xs ≤ n → most_regions xs ≤ n * 171 ^ level
most_each level n [] all few = no_less (n * 171 ^ level)
most_each level zero (x ∷ xs) all few = absurd (omega arith)
most_each level (suc n) (x ∷ xs) all few =
    let more = most_each level n xs all.1 (omega (arith, few)) in
    let below = all.0 in
    let same : x.stretch.level ≡ level = omega (arith, below) in
    let one : 171 ^ x.stretch.level ≤ 171 ^ level = subst (λ (l : ℕ). 171 ^ x.stretch.level ≤ 171 ^ l) same (omega arith) in
    subst (λ (m : ℕ). m ≤ suc n * 171 ^ level) (sym (most_cons x xs))
    (subst (λ (m : ℕ). 171 ^ x.stretch.level + most_regions xs ≤ m) (sym (suc-mul n (171 ^ level)))
    (one_more (171 ^ x.stretch.level) (most_regions xs) (171 ^ level) (n * 171 ^ level) one more))

pub some_power : (level : ℕ) → 1 ≤ 171 ^ level
some_power zero = omega arith
some_power (suc level) = let less = some_power level in let next = pow-suc 171 level in omega (arith, less, next)

-- so a stretch has room for more regions than its parts
pub most_parts : (a : AwaitedStretch) (xs : List AwaitedStretch) → 1 ≤ a.stretch.level → AllByRecursion (λ x. a.stretch.level ≡ x.stretch.level + 1) xs → length xs ≤ 170
    → most_regions xs < 171 ^ a.stretch.level
most_parts a xs some all few = by_level a.stretch.level all some
  where
    by_level : (level : ℕ) → AllByRecursion (λ x. level ≡ x.stretch.level + 1) xs → 1 ≤ level → most_regions xs < 171 ^ level
    by_level zero all some = absurd (omega arith)
    by_level (suc level) all some =
        let most = most_each level 170 xs all few in
        let less = some_power level in
        let next = pow-suc 171 level in
        omega (arith, most, less, next)
