-- Rows that are parted where one more is put in among them, and the key that is looked for.
use Rattle.std.proofs.lemmas.Grind.{common_steps}
use Rattle.std.proofs.Common.{Bool, ◌≡◌, ◌<◌, ◌≤◌, ◌+◌, ◌-◌, ℕ, zero, suc, List, [], ◌∷◌, ◌++◌, Some, true, false, length, take, drop, get_or, slice_get, refl, sym, ap, ◌∙◌, arith}
use Rattle.std.proofs.lemmas.List.{append_assoc, drop_more, get_or-drop, get_or-map, get_or-take, take_more}
use Rattle.std.proofs.lemmas.Option.{get_or_from_slice_get, slice_get-get_or}
use Rattle.std.specs.List.{insert}
use Rattle.ub_region.proofs.BlankRow.{blank_row}
use Rattle.ub_region.proofs.ChainFacts.{keys_drop, keys_take}
use Rattle.ub_region.proofs.IndexFacts.{key_there}
use Rattle.ub_region.specs.Rows.{cut, has_key, remove_row, separator}
use Rattle.ub_table.specs.Keys.{is_same}
use Rattle.ub_table.specs.Region.{key_of, keys_of}
use Rattle.ub_table.specs.declared.row.Key.{Key}
use Rattle.ub_table.specs.declared.row.Row.{Row}

module _ {A : Type 0} (x : A) where
  -- put in among the first m, it is one of the first m + 1, and the others are as they were
  pub put_left : (xs : List A) (i m : ℕ) → i ≤ m → m ≤ length xs → insert (take m xs) i x ≡ take (suc m) (insert xs i x)
  put_left [] zero zero le few = refl
  put_left [] zero (suc m) le few = absurd (omega arith)
  put_left [] (suc i) m le few = absurd (omega arith)
  put_left (y ∷ ys) zero zero le few = refl
  put_left (y ∷ ys) zero (suc m) le few = refl
  put_left (y ∷ ys) (suc i) zero le few = absurd (omega arith)
  put_left (y ∷ ys) (suc i) (suc m) le few = ap (λ (zs : List A). y ∷ zs) (put_left ys i m (omega arith) (omega arith))

  pub past_left : (xs : List A) (i m : ℕ) → i ≤ m → m ≤ length xs → drop m xs ≡ drop (suc m) (insert xs i x)
  past_left [] zero zero le few = refl
  past_left [] zero (suc m) le few = absurd (omega arith)
  past_left [] (suc i) m le few = absurd (omega arith)
  past_left (y ∷ ys) zero zero le few = refl
  past_left (y ∷ ys) zero (suc m) le few = refl
  past_left (y ∷ ys) (suc i) zero le few = absurd (omega arith)
  past_left (y ∷ ys) (suc i) (suc m) le few = past_left ys i m (omega arith) (omega arith)

  -- put in behind the first n, these are as they were, and it is one of the others
  pub left_kept : (xs : List A) (i n : ℕ) → n ≤ i → i ≤ length xs → take n xs ≡ take n (insert xs i x)
  left_kept xs i n h k = grind (arith, common_steps)

  pub put_right : (xs : List A) (i n k : ℕ) → i ≡ n + k → i ≤ length xs → insert (drop n xs) k x ≡ drop n (insert xs i x)
  put_right [] i zero k is few = let same : i ≡ k = omega arith in rw same refl
  put_right [] i (suc n) k is few = absurd (omega arith)
  put_right (y ∷ ys) zero zero k is few = let same : 0 ≡ k = omega arith in rw (← same) refl
  put_right (y ∷ ys) (suc i) zero k is few = let same : suc i ≡ k = omega arith in rw (← same) refl
  put_right (y ∷ ys) zero (suc n) k is few = absurd (omega arith)
  put_right (y ∷ ys) (suc i) (suc n) k is few = put_right ys i n k (omega arith) (omega arith)

-- the last key on the left and the first one on the right part the rows that are cut there
pub separator_at : (dims n : ℕ) (rows left right : List Row) (a b : Key) → 1 ≤ n → left ≡ take n rows → right ≡ drop n rows
    → slice_get (keys_of dims left) (n - 1) ≡ Some a → slice_get (keys_of dims right) 0 ≡ Some b → separator a b ≡ (cut dims n rows).first
separator_at dims n rows left right a b h k j l m = grind (arith, common_steps, get_or-drop, get_or-take, get_or_from_slice_get, keys_drop, keys_take)

module _ (dims : ℕ) (key : Key) (rows : List Row) (i : ℕ) (lt : i < length rows) (has : Bool) (told : (own : Key) → slice_get (keys_of dims rows) i ≡ Some own → has ≡ is_same key own) where
  test : is_same key (key_of dims (get_or rows i blank_row)) ≡ has
  test = sym (told (key_of dims (get_or rows i blank_row)) (key_there dims rows i (get_or rows i blank_row) (slice_get-get_or rows i blank_row lt)))

  -- a row of another key is passed over
  pub passed_any : has ≡ false → has_key dims key (drop i rows) ≡ has_key dims key (drop (i + 1) rows)
  passed_any other = rw (drop_more rows i blank_row lt, test ∙ other) refl

  pub passed_rest : has ≡ false → take i rows ++ remove_row dims key (drop i rows) ≡ take (i + 1) rows ++ remove_row dims key (drop (i + 1) rows)
  passed_rest other =
      rw (drop_more rows i blank_row lt, test ∙ other, take_more rows i blank_row lt)
      (sym (append_assoc (take i rows) (get_or rows i blank_row ∷ []) (remove_row dims key (drop (i + 1) rows))))

  -- the one of the key is found
  pub found_any : has ≡ true → has_key dims key (drop i rows) ≡ true
  found_any same = rw (drop_more rows i blank_row lt, test ∙ same) refl

  pub found_rest : has ≡ true → remove_row dims key (drop i rows) ≡ drop (i + 1) rows
  found_rest same = rw (drop_more rows i blank_row lt, test ∙ same) refl
