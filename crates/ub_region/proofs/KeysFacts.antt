-- The keys of a page's rows.
use Rattle.std.proofs.Common.{rules, refl, ◌≡◌, ◌<◌, ◌+◌, ◌-◌, ◌↔◌, Bool, true, false, not, ◌&&◌, IsTrue, inl, inr, ℕ, zero, suc, List, [], ◌∷◌, Some, length, map, slice_get, ap, sym, subst, arith, ◌∙◌}
use Rattle.std.proofs.lemmas.Bool.{cases_eq}
use Rattle.std.specs.List.{AllByRecursion, range_with_len}
use Rattle.ub_region.specs.Columns.{IsRowNumber}
use Rattle.ub_table.proofs.Laws.{before_trans}
use Rattle.ub_table.specs.Keys.{precedes, IsBefore, AreKeysAscending}
use Rattle.ub_table.specs.Region.{keys_of, AreFrom, IsNumbered}
use Rattle.ub_table.specs.declared.row.Key.{Key}
use Rattle.ub_table.specs.declared.row.Row.{Row}

-- the numbers of rows are in range where the rows are
pub numbered : (rows : List Row) → AllByRecursion IsRowNumber (map (λ (row : Row). row.number) rows) ↔ AllByRecursion IsNumbered rows
numbered [] = (λ h. h, λ h. h)
numbered (row ∷ rows) = let more = numbered rows in (λ h. (h.0, more.0 h.1), λ h. (h.0, more.1 h.1))

-- where the least of the keys is not before the first, none is
from_least : (first key : Key) (keys : List Key) → AreKeysAscending (key ∷ keys) → ¬ (IsBefore key first) → AreFrom first (key ∷ keys)
from_least first key [] ascending least = (least, tt)
from_least first key (next ∷ keys) ascending least = (least, from_least first next keys ascending.1 (λ yes. least (before_trans key next first ascending.0 yes)))

not_true : (b : Bool) → (IsTrue (not b)) ↔ (¬ (IsTrue b))
not_true b = search rules

-- what the test of the least key tells
pub keys_are_from : (first least : Key) (keys : List Key) (b : Bool) → slice_get keys 0 ≡ Some least → AreKeysAscending keys
    → b ≡ precedes least first → IsTrue (not b) ↔ AreFrom first keys
keys_are_from first least [] b there up is = cc
keys_are_from first least (key ∷ keys) b there up is =
    let same : least ≡ key = cc in
    let test : b ≡ precedes key first = is ∙ ap (λ (k : Key). precedes k first) same in
    let told = not_true b in (
      λ yes. from_least first key keys up (λ before. told.0 yes (subst (λ (t : Bool). IsTrue t) (sym test) before)),
      λ from. told.1 (λ t. from.0 (subst (λ (t : Bool). IsTrue t) test t)),
    )

-- keys at indices ascend where each is before the next
pairs : (f : ℕ → Key) (a n : ℕ) → ((j : ℕ) → j < n - 1 → IsBefore (f (a + j)) (f (a + j + 1))) → AreKeysAscending (map f (range_with_len a n))
pairs f a zero h = tt
pairs f a (suc zero) h = tt
pairs f a (suc (suc n)) h =
    let here : a + 0 ≡ a = omega arith in
    let next : a + 0 + 1 ≡ a + 1 = omega arith in (
      subst (λ (k : ℕ). IsBefore (f a) (f k)) next (subst (λ (k : ℕ). IsBefore (f k) (f (a + 0 + 1))) here (h 0 (omega arith))),
      pairs f (a + 1) (suc n) (λ j less.
          let is : a + suc j ≡ a + 1 + j = omega arith in
          subst (λ (k : ℕ). IsBefore (f k) (f (k + 1))) is (h (suc j) (omega arith))),
    )

of_pairs : (f : ℕ → Key) (a n : ℕ) → AreKeysAscending (map f (range_with_len a n)) → (j : ℕ) → j < n - 1 → IsBefore (f (a + j)) (f (a + j + 1))
of_pairs f a zero up j less = absurd (omega arith)
of_pairs f a (suc zero) up j less = absurd (omega arith)
of_pairs f a (suc (suc n)) up zero less =
    let here : a ≡ a + 0 = omega arith in
    subst (λ (k : ℕ). IsBefore (f k) (f (k + 1))) here up.0
of_pairs f a (suc (suc n)) up (suc j) less =
    let is : a + 1 + j ≡ a + suc j = omega arith in
    subst (λ (k : ℕ). IsBefore (f k) (f (k + 1))) is (of_pairs f (a + 1) (suc n) up.1 j (omega arith))

-- so many keys are known to be before the next, or one of them isn't
abbrev pub AreBefore : (ℕ → Key) → ℕ → Type 0
AreBefore f n = (j : ℕ) → j < n → IsBefore (f j) (f (j + 1))

pub before_none : (f : ℕ → Key) → AreBefore f 0
before_none f j less = absurd (omega arith)

pub before_more : (f : ℕ → Key) (n : ℕ) (so is : Bool) → IsTrue so ↔ AreBefore f n → is ≡ precedes (f n) (f (n + 1)) → IsTrue (so && is) ↔ AreBefore f (n + 1)
before_more f n false is h e = (λ no. absurd (let wrong : false ≡ true = no in cc), λ all. h.1 (λ j less. all j (omega arith)))
before_more f n true is h e = (
  λ yes j less. elim (cases_eq j n) [
    | inl same ↦ subst (λ (k : ℕ). IsBefore (f k) (f (k + 1))) (sym same) (subst (λ (t : Bool). IsTrue t) e yes)
    | inr other ↦ h.0 refl j (omega arith)
  ],
  λ all. subst (λ (t : Bool). IsTrue t) (sym e) (all n (omega arith)),
)

pub before_all : (f : ℕ → Key) (n : ℕ) → AreBefore f (n - 1) ↔ AreKeysAscending (map f (range_with_len 0 n))
before_all f n = (
  λ each. pairs f 0 n (λ j less. let is : j ≡ 0 + j = omega arith in subst (λ (k : ℕ). IsBefore (f k) (f (k + 1))) is (each j less)),
  λ up j less. let is : 0 + j ≡ j = omega arith in subst (λ (k : ℕ). IsBefore (f k) (f (k + 1))) is (of_pairs f 0 n up j less),
)
