-- Ascending keys, in parts.
use Rattle.std.proofs.lemmas.Grind.{common_steps}
use Rattle.std.proofs.Common.{rules, ◌≡◌, ◌≢◌, ◌<◌, ◌⊎◌, ℕ, zero, suc, List, [], ◌∷◌, ◌++◌, true, length, take, drop, get_or, refl, arith}
use Rattle.std.proofs.lemmas.Bool.{and_parts, and_from}
use Rattle.std.proofs.lemmas.List.Elements.{All-from_recursion}
use Rattle.std.specs.List.{AllByRecursion}
use Rattle.ub_table.proofs.Laws.{before_of, precedes_of, before_trans, not_both_before, not_before_self}
use Rattle.ub_table.specs.Keys.{IsBefore, AreKeysAscending, precedes, are_ascending}
use Rattle.ub_table.specs.declared.row.Key.{Key}

module _ {X : Type 0} where
  pub all_more : (P Q : X → Type 0) → ((x : X) → P x → Q x) → (xs : List X) → AllByRecursion P xs → AllByRecursion Q xs
  all_more P Q f [] h = tt
  all_more P Q f (x ∷ xs) h = (f x h.0, all_more P Q f xs h.1)

  pub all_both : (P Q R : X → Type 0) → ((x : X) → P x → Q x → R x) → (xs : List X) → AllByRecursion P xs → AllByRecursion Q xs → AllByRecursion R xs
  all_both P Q R f [] h k = tt
  all_both P Q R f (x ∷ xs) h k = (f x h.0 k.0, all_both P Q R f xs h.1 k.1)

  pub all_append : (P : X → Type 0) (xs ys : List X) → AllByRecursion P xs → AllByRecursion P ys → AllByRecursion P (xs ++ ys)
  all_append P xs ys h k = grind (arith, common_steps)

  pub all_left : (P : X → Type 0) (xs ys : List X) → AllByRecursion P (xs ++ ys) → AllByRecursion P xs
  all_left P [] ys h = tt
  all_left P (x ∷ xs) ys h = (h.0, all_left P xs ys h.1)

  pub all_right : (P : X → Type 0) (xs ys : List X) → AllByRecursion P (xs ++ ys) → AllByRecursion P ys
  all_right P [] ys h = h
  all_right P (x ∷ xs) ys h = all_right P xs ys h.1

  pub all_take : (P : X → Type 0) (n : ℕ) (xs : List X) → AllByRecursion P xs → AllByRecursion P (take n xs)
  all_take P n xs h = grind (arith, common_steps)

  pub all_drop : (P : X → Type 0) (n : ℕ) (xs : List X) → AllByRecursion P xs → AllByRecursion P (drop n xs)
  all_drop P n xs h = grind (arith, common_steps)

-- of two keys of other numbers one is before the other
pub other_before : (a b : Key) → ¬ (IsBefore a b) → a.number ≢ b.number → IsBefore b a
other_before a b h k = search rules

pub before_cases : (a b : Key) → IsBefore a b ⊎ (¬ (IsBefore a b))
before_cases a b = search rules

key_of_parts : (a b : Key) → a.z ≡ b.z → a.number ≡ b.number → a ≡ b
key_of_parts a b e f = rw (e, f) refl

pub before_or_same : (a b : Key) → ¬ (IsBefore b a) → IsBefore a b ⊎ (a ≡ b)
before_or_same a b h = search rules

-- a is at most b, and b is before c
pub upto_before : (a b c : Key) → ¬ (IsBefore b a) → IsBefore b c → IsBefore a c
upto_before a b c h k = search rules

pub before_upto : (a b c : Key) → IsBefore a b → ¬ (IsBefore c b) → IsBefore a c
before_upto a b c h k = search rules

pub upto_upto : (a b c : Key) → ¬ (IsBefore b a) → ¬ (IsBefore c b) → ¬ (IsBefore c a)
upto_upto a b c h k = search rules

-- a key is before the first of those that follow, if there are any
abbrev pub IsBeforeNext : Key → List Key → Type 0
IsBeforeNext key [] = Unit {0}
IsBeforeNext key (next ∷ keys) = IsBefore key next

pub up_head : (key : Key) (keys : List Key) → AreKeysAscending (key ∷ keys) → IsBeforeNext key keys
up_head key keys h = search rules

pub up_tail : (key : Key) (keys : List Key) → AreKeysAscending (key ∷ keys) → AreKeysAscending keys
up_tail key keys h = search rules

pub up_cons : (key : Key) (keys : List Key) → IsBeforeNext key keys → AreKeysAscending keys → AreKeysAscending (key ∷ keys)
up_cons key keys h k = search rules

-- the first of ascending keys is before all others
pub all_after : (key : Key) (keys : List Key) → AreKeysAscending (key ∷ keys) → AllByRecursion (IsBefore key) keys
all_after key [] up = tt
all_after key (next ∷ keys) up = (up.0, all_more (IsBefore next) (IsBefore key) (λ k h. before_trans key next k up.0 h) keys (all_after next keys up.1))

pub up_take : (n : ℕ) (keys : List Key) → AreKeysAscending keys → AreKeysAscending (take n keys)
up_take zero [] up = tt
up_take zero (key ∷ keys) up = tt
up_take (suc n) [] up = tt
up_take (suc n) (key ∷ keys) up = up_cons key (take n keys) (next_take n keys (up_head key keys up)) (up_take n keys (up_tail key keys up))
  where
    next_take : (n : ℕ) (keys : List Key) → IsBeforeNext key keys → IsBeforeNext key (take n keys)
    next_take zero [] h = tt
    next_take zero (k ∷ keys) h = tt
    next_take (suc n) [] h = tt
    next_take (suc n) (k ∷ keys) h = h

pub up_drop : (n : ℕ) (keys : List Key) → AreKeysAscending keys → AreKeysAscending (drop n keys)
up_drop zero [] up = tt
up_drop zero (key ∷ keys) up = up
up_drop (suc n) [] up = tt
up_drop (suc n) (key ∷ keys) up = up_drop n keys (up_tail key keys up)

-- ascending keys on either side of a key
pub up_append : (s : Key) (xs ys : List Key) → AreKeysAscending xs → AreKeysAscending ys → AllByRecursion (λ k. IsBefore k s) xs → AllByRecursion (λ k. ¬ (IsBefore k s)) ys → AreKeysAscending (xs ++ ys)
up_append s [] ys up more below above = more
up_append s (x ∷ xs) ys up more below above =
    up_cons x (xs ++ ys) (next_is xs ys (up_head x xs up) above) (up_append s xs ys (up_tail x xs up) more below.1 above)
  where
    next_is : (xs ys : List Key) → IsBeforeNext x xs → AllByRecursion (λ k. ¬ (IsBefore k s)) ys → IsBeforeNext x (xs ++ ys)
    next_is [] [] h above = tt
    next_is [] (y ∷ ys) h above = before_upto x s y below.0 above.0
    next_is (k ∷ xs) ys h above = h

-- a cut of ascending keys
pub record IsCut (left right : Key) (n : ℕ) (keys : List Key) : Type 0 where
  pub before : IsBefore left right
  pub lower : AllByRecursion (λ k. ¬ (IsBefore left k)) (take n keys)
  pub upper : AllByRecursion (λ k. ¬ (IsBefore k right)) (drop n keys)

pub is_cut : (o : Key) (n : ℕ) (keys : List Key) → suc n < length keys → AreKeysAscending keys → IsCut (get_or keys n o) (get_or keys (suc n) o) (suc n) keys
is_cut o n [] lt up = absurd (omega arith)
is_cut o n (a ∷ []) lt up = absurd (omega arith)
is_cut o zero (a ∷ b ∷ keys) lt up = record {
  before = up.0;
  lower = (not_before_self a, tt);
  upper = (not_before_self b, all_more (IsBefore b) (λ k. ¬ (IsBefore k b)) (λ k h back. not_both_before b k h back) keys (all_after b keys up.1));
}
is_cut o (suc n) (a ∷ b ∷ keys) lt up =
    let rest = is_cut o n (b ∷ keys) (omega arith) up.1 in
    let within : n < length (b ∷ keys) = omega arith in
    let after = All-from_recursion (IsBefore a) (b ∷ keys) (all_after a (b ∷ keys) up) n o within in
    record {
      before = rest.before;
      lower = (λ back. not_both_before a (get_or (b ∷ keys) n o) after back, rest.lower);
      upper = rest.upper;
    }

-- the tests and the facts
pub ascending_of : (keys : List Key) → are_ascending keys ≡ true → AreKeysAscending keys
ascending_of [] t = tt
ascending_of (a ∷ []) t = tt
ascending_of (a ∷ b ∷ keys) t = let both = and_parts (precedes a b) (are_ascending (b ∷ keys)) t in (before_of a b both.0, ascending_of (b ∷ keys) both.1)

pub are_ascending_of : (keys : List Key) → AreKeysAscending keys → are_ascending keys ≡ true
are_ascending_of [] up = refl
are_ascending_of (a ∷ []) up = refl
are_ascending_of (a ∷ b ∷ keys) up = and_from (precedes a b) (are_ascending (b ∷ keys)) (precedes_of a b up.0) (are_ascending_of (b ∷ keys) up.1)
