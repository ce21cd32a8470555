-- What an insertion and a removal leave of the rows of a region.
use Rattle.std.proofs.lemmas.Grind.{common_steps}
use Rattle.std.proofs.Common.{rules, ◌≡◌, ◌≢◌, ◌<◌, ◌≤◌, ◌+◌, inl, inr, ℕ, List, [], ◌∷◌, ◌++◌, true, false, ◌||◌, length, refl, sym, arith}
use Rattle.std.proofs.lemmas.Bool.{cases_Bool}
use Rattle.std.proofs.lemmas.List.Sorted.{IsPermutation-refl, IsPermutation-cons, IsPermutation-trans, IsPermutation-middle}
use Rattle.std.specs.List.{AllByRecursion}
use Rattle.std.specs.List.Sorted.{IsPermutation}
use Rattle.ub_table.proofs.Laws.{before_of, precedes_of}
use Rattle.ub_table.specs.Keys.{IsBefore, AreKeysAscending, precedes, is_same}
use Rattle.ub_table.specs.Region.{key_of, keys_of}
use Rattle.ub_table.specs.declared.row.Key.{Key}
use Rattle.ub_table.specs.declared.row.Row.{Row}
use Rattle.ub_region.specs.Rows.{insert_row, has_key, remove_row}
use Rattle.ub_region.proofs.KeyLists.{IsBeforeNext, up_head, up_tail, up_cons, other_before, all_after}

pub all_keys : (dims : ℕ) (Q : Key → Type 0) (rows : List Row) → AllByRecursion (λ row. Q (key_of dims row)) rows → AllByRecursion Q (keys_of dims rows)
all_keys dims Q [] h = tt
all_keys dims Q (row ∷ rows) h = (h.0, all_keys dims Q rows h.1)

pub all_of_keys : (dims : ℕ) (Q : Key → Type 0) (rows : List Row) → AllByRecursion Q (keys_of dims rows) → AllByRecursion (λ row. Q (key_of dims row)) rows
all_of_keys dims Q [] h = tt
all_of_keys dims Q (row ∷ rows) h = (h.0, all_of_keys dims Q rows h.1)

module _ (dims : ℕ) (row : Row) where
  pub all_insert : (P : Row → Type 0) (rows : List Row) → AllByRecursion P rows → P row → AllByRecursion P (insert_row dims row rows)
  all_insert P [] h p = (p, tt)
  all_insert P (other ∷ rows) h p = search (rules, (all_insert P rows h.1 p), cases_Bool)

  next_insert : (key : Key) (rows : List Row) → IsBefore key (key_of dims row) → IsBeforeNext key (keys_of dims rows) → IsBeforeNext key (keys_of dims (insert_row dims row rows))
  next_insert key [] before next = before
  next_insert key (other ∷ rows) before next = search (rules, cases_Bool)

  pub up_insert : (rows : List Row) → AreKeysAscending (keys_of dims rows) → AllByRecursion (λ other. other.number ≢ row.number) rows → AreKeysAscending (keys_of dims (insert_row dims row rows))
  up_insert [] up numbers = tt
  up_insert (other ∷ rows) up numbers = elim (cases_Bool (precedes (key_of dims row) (key_of dims other))) [
    | inl t ↦ rw t (before_of (key_of dims row) (key_of dims other) t, up)
    | inr f ↦
        let ne : row.number ≢ other.number = (λ e. numbers.0 (sym e)) in
        let apart : ¬ (IsBefore (key_of dims row) (key_of dims other)) = (λ h. let t = precedes_of (key_of dims row) (key_of dims other) h in cc) in
        let before = other_before (key_of dims row) (key_of dims other) apart ne in
        rw f (up_cons (key_of dims other) (keys_of dims (insert_row dims row rows)) (next_insert (key_of dims other) rows before (up_head (key_of dims other) (keys_of dims rows) up)) (up_insert rows (up_tail (key_of dims other) (keys_of dims rows) up) numbers.1))
  ]

  pub length-insert_row : (rows : List Row) → length (insert_row dims row rows) ≡ length rows + 1
  length-insert_row [] = refl
  length-insert_row (other ∷ rows) = search (rules, (length-insert_row rows), cases_Bool)

  pub moved_insert : (rows : List Row) → IsPermutation (row ∷ rows) (insert_row dims row rows)
  moved_insert [] = IsPermutation-refl (row ∷ [])
  moved_insert (other ∷ rows) = elim (cases_Bool (precedes (key_of dims row) (key_of dims other))) [
    | inl t ↦ rw t (IsPermutation-refl (row ∷ other ∷ rows))
    | inr f ↦ rw f (IsPermutation-trans (row ∷ other ∷ rows) (other ∷ row ∷ rows) (other ∷ insert_row dims row rows)
        (exchange row other rows)
        (IsPermutation-cons other (row ∷ rows) (insert_row dims row rows) (moved_insert rows)))
  ]
    where
      exchange : (a b : Row) (rows : List Row) → IsPermutation (a ∷ b ∷ rows) (b ∷ a ∷ rows)
      exchange a b rows = IsPermutation-middle (a ∷ []) b rows

module _ (dims : ℕ) (key : Key) where
  pub all_remove : (P : Row → Type 0) (rows : List Row) → AllByRecursion P rows → AllByRecursion P (remove_row dims key rows)
  all_remove P [] h = tt
  all_remove P (row ∷ rows) h = search (rules, (all_remove P rows h.1), cases_Bool)

  next_remove : (k : Key) (rows : List Row) → AreKeysAscending (k ∷ keys_of dims rows) → IsBeforeNext k (keys_of dims (remove_row dims key rows))
  next_remove k [] up = tt
  next_remove k (row ∷ rows) up = elim (cases_Bool (is_same key (key_of dims row))) [
    | inl t ↦ rw t (after rows (all_after k (keys_of dims (row ∷ rows)) up).1)
    | inr f ↦ rw f (up_head k (keys_of dims (row ∷ rows)) up)
  ]
    where
      after : (rows : List Row) → AllByRecursion (IsBefore k) (keys_of dims rows) → IsBeforeNext k (keys_of dims rows)
      after [] h = tt
      after (r ∷ rows) h = h.0

  pub up_remove : (rows : List Row) → AreKeysAscending (keys_of dims rows) → AreKeysAscending (keys_of dims (remove_row dims key rows))
  up_remove [] up = tt
  up_remove (row ∷ rows) up = grind (arith, common_steps, (up_remove rows (up_tail (key_of dims row) (keys_of dims rows) up)), cases_Bool, next_remove, up_cons, up_tail)

  pub length-remove_row : (rows : List Row) → length (remove_row dims key rows) ≤ length rows
  length-remove_row [] = omega arith
  length-remove_row (row ∷ rows) = search (rules, (length-remove_row rows), cases_Bool)

  -- the row that is taken out
  pub moved_remove : (rows : List Row) → has_key dims key rows ≡ true → (row : Row) × (is_same key (key_of dims row) ≡ true) × IsPermutation rows (row ∷ remove_row dims key rows)
  moved_remove [] h = cc
  moved_remove (row ∷ rows) h = elim (cases_Bool (is_same key (key_of dims row))) [
    | inl t ↦ (row, t, rw t (IsPermutation-refl (row ∷ rows)))
    | inr f ↦
        let more : (other : Row) × (is_same key (key_of dims other) ≡ true) × IsPermutation rows (other ∷ remove_row dims key rows) = moved_remove rows (rw f at h) in (
          more.0,
          more.1,
          rw f (IsPermutation-trans (row ∷ rows) (row ∷ more.0 ∷ remove_row dims key rows) (more.0 ∷ row ∷ remove_row dims key rows)
              (IsPermutation-cons row rows (more.0 ∷ remove_row dims key rows) more.2)
              (IsPermutation-middle (row ∷ []) more.0 (remove_row dims key rows))),
        )
  ]

  pub has_append : (xs ys : List Row) → has_key dims key (xs ++ ys) ≡ (has_key dims key xs || has_key dims key ys)
  has_append xs ys = grind (arith, common_steps, cases_Bool)

  pub has_none : (rows : List Row) → AllByRecursion (λ row. is_same key (key_of dims row) ≡ false) rows → has_key dims key rows ≡ false
  has_none [] h = refl
  has_none (row ∷ rows) h = rw h.0 (has_none rows h.1)
