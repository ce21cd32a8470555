-- Places that are filled one after the other, before some that are blank.
use Rattle.std.proofs.Common.{◌≡◌, ◌<◌, ◌≤◌, ◌+◌, ◌-◌, ℕ, List, ◌∷◌, [], ◌++◌, length, map, take, drop, get_or, inl, inr, set, replicate, refl, sym, ap, arith, ◌∙◌}
use Rattle.std.specs.List.{range_with_len}
use Rattle.std.proofs.lemmas.Bool.{cases_order}
use Rattle.std.proofs.lemmas.List.{drop-set-lt, ext_get_or, get_or-drop, get_or-replicate, get_or-set_other, get_or-set_same, length-drop, length-replicate, length-set, take-append-drop, take_more_set}
use Rattle.std.proofs.lemmas.List.FromFn.{map-range_with_len_more}
use Rattle.ub_region.proofs.LaneFacts.{sorted}
use Rattle.ub_region.specs.Columns.{block}

-- the first n hold the values of 0 to n - 1, and those from the last value's on a blank one
pub record AreSoFar {A : Type 0} (total : ℕ) (rest : A) (f : ℕ → A) (n last : ℕ) (xs : List A) : Type 0 where
  pub long : length xs ≡ total
  pub front : take n xs ≡ map f (range_with_len 0 n)
  pub behind : drop last xs ≡ replicate (total - last) rest

pub so_far_none : {A : Type 0} (total : ℕ) (rest : A) (f : ℕ → A) (last : ℕ) (xs : List A) → length xs ≡ total → drop last xs ≡ replicate (total - last) rest
    → AreSoFar total rest f 0 last xs
so_far_none total rest f last xs long behind = record { long = long; front = refl; behind = behind }

-- one value more
pub so_far_more : {A : Type 0} (total : ℕ) (rest : A) (f : ℕ → A) (n last : ℕ) (xs : List A) (x : A) → x ≡ f n → n < last → last ≤ total
    → AreSoFar total rest f n last xs → AreSoFar total rest f (n + 1) last (set xs n x)
so_far_more total rest f n last xs x is less within so =
    let long = so.long in
    record {
      long = length-set xs n x ∙ long;
      front = take_more_set xs n x (omega arith) ∙ ap (λ (ys : List _). ys ++ x ∷ []) so.front ∙ ap (λ y. map f (range_with_len 0 n) ++ y ∷ []) is
          ∙ sym (map-range_with_len_more f 0 n n (omega arith));
      behind = drop-set-lt last xs n x less ∙ so.behind;
    }

pub so_far_all : {A : Type 0} (total : ℕ) (rest : A) (f : ℕ → A) (n : ℕ) (xs : List A) → AreSoFar total rest f n n xs → xs ≡ block total rest f n
so_far_all {A} total rest f n xs so =
    sym (take-append-drop n xs) ∙ ap (λ (ys : List A). ys ++ drop n xs) so.front ∙ ap (λ (ys : List A). map f (range_with_len 0 n) ++ ys) so.behind

-- one blank more, in the places from one on
pub blank_more : {A : Type 0} (from n : ℕ) (blank rest : A) (xs : List A) → n < length xs → ((j : ℕ) → from ≤ j → j < n → get_or xs j rest ≡ blank)
    → (j : ℕ) → from ≤ j → j < n + 1 → get_or (set xs n blank) j rest ≡ blank
blank_more {A} from n blank rest xs there so j behind less = elim (sorted j n (cases_order j n)) [
  | inl before ↦ get_or-set_other xs n j blank rest (λ is. absurd (omega arith)) ∙ so j behind before
  | inr last ↦ let is : j ≡ n = omega arith in ap (λ (k : ℕ). get_or (set xs n blank) k rest) is ∙ get_or-set_same xs n blank rest there
]

pub blank_behind : {A : Type 0} (total from : ℕ) (blank rest : A) (xs : List A) → length xs ≡ total → from ≤ total
    → ((j : ℕ) → from ≤ j → j < total → get_or xs j rest ≡ blank) → drop from xs ≡ replicate (total - from) blank
blank_behind total from blank rest xs long within so =
    let left : length (drop from xs) ≡ total - from = omega (arith, length-drop from xs) in
    ext_get_or rest (drop from xs) (replicate (total - from) blank) (left ∙ sym (length-replicate (total - from) blank))
    (λ i less. get_or-drop from xs i rest ∙ so (from + i) (omega arith) (omega arith) ∙ sym (get_or-replicate (total - from) i blank rest (omega arith)))
