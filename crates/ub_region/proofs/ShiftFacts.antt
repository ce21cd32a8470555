-- A row that is put in among those of columns.
use Rattle.std.proofs.lemmas.Grind.{common_steps}
use Rattle.std.proofs.Common.{◌≡◌, ◌<◌, ◌≤◌, ◌+◌, ◌-◌, ℕ, zero, suc, List, [], ◌∷◌, ◌++◌, length, take, drop, set, get_or, refl, arith}
use Rattle.std.proofs.Math.Seq.{take-append_seam}
use Rattle.std.proofs.lemmas.List.{length-take-le, take_more_set}
use Rattle.std.proofs.lemmas.List.Edits.{insert_end}
use Rattle.std.specs.List.{insert}
use Rattle.ub_region.specs.Columns.{across}

module _ {A : Type 0} where
  shifted : (xs : List A) (index n end : ℕ) (x : A) → end ≡ index + n → end < length xs
      → take (suc end) (set ((take (suc index) xs ++ take n (drop index xs)) ++ drop (suc end) xs) index x) ≡ insert (take end xs) index x
  shifted [] index n end x is lt = grind (arith, common_steps, length-take-le, take-append_seam)
  shifted (y ∷ ys) zero n end x is lt = grind (arith, common_steps, length-take-le, take-append_seam)
  shifted (y ∷ ys) (suc index) n zero x is lt = grind (arith, common_steps, length-take-le, take-append_seam)
  shifted (y ∷ ys) (suc index) n (suc end) x is lt = grind (arith, common_steps, (shifted ys index n end x (omega arith) (omega arith)), length-take-le, take-append_seam)

  -- the values from an index on moved up by one, and one put there
  pub put_at : (xs ys : List A) (index len : ℕ) (x : A) → ys ≡ (take (index + 1) xs ++ take (len - index) (drop index xs)) ++ drop (index + 1 + (len - index)) xs → index ≤ len → len < length xs
      → take (len + 1) (set ys index x) ≡ insert (take len xs) index x
  put_at xs ys index len x is le lt =
      let end : index + 1 + (len - index) ≡ suc len = omega arith in
      let start : index + 1 ≡ suc index = omega arith in
      let more : len + 1 ≡ suc len = omega arith in
      rw (is, end, start, more) (shifted xs index (len - index) len x (omega arith) lt)

  -- one put behind the last of them
  pub put_last : (xs : List A) (index len : ℕ) (x : A) → index ≡ len → len < length xs → take (len + 1) (set xs index x) ≡ insert (take len xs) index x
  put_last xs index len x h k = grind (arith, common_steps, insert_end, length-take-le, take_more_set)

  -- four columns, in each of which a value was put
  pub across_four : (rest : A) (columns : List (List A)) (a b c d values : List A) (i : ℕ) → length columns ≡ 4 → length values ≡ 4
      → get_or a i rest ≡ get_or values 0 rest → get_or b i rest ≡ get_or values 1 rest → get_or c i rest ≡ get_or values 2 rest → get_or d i rest ≡ get_or values 3 rest
      → across rest (set (set (set (set columns 0 a) 1 b) 2 c) 3 d) i ≡ values
  across_four rest (k ∷ l ∷ m ∷ n ∷ []) a b c d (w ∷ x ∷ y ∷ z ∷ []) i long same p q r s = rw (p, q, r, s) refl
  across_four rest [] a b c d values i long same p q r s = absurd (omega arith)
  across_four rest (k ∷ []) a b c d values i long same p q r s = absurd (omega arith)
  across_four rest (k ∷ l ∷ []) a b c d values i long same p q r s = absurd (omega arith)
  across_four rest (k ∷ l ∷ m ∷ []) a b c d values i long same p q r s = absurd (omega arith)
  across_four rest (k ∷ l ∷ m ∷ n ∷ o ∷ columns) a b c d values i long same p q r s = absurd (omega arith)
  across_four rest (k ∷ l ∷ m ∷ n ∷ []) a b c d [] i long same p q r s = absurd (omega arith)
  across_four rest (k ∷ l ∷ m ∷ n ∷ []) a b c d (w ∷ []) i long same p q r s = absurd (omega arith)
  across_four rest (k ∷ l ∷ m ∷ n ∷ []) a b c d (w ∷ x ∷ []) i long same p q r s = absurd (omega arith)
  across_four rest (k ∷ l ∷ m ∷ n ∷ []) a b c d (w ∷ x ∷ y ∷ []) i long same p q r s = absurd (omega arith)
  across_four rest (k ∷ l ∷ m ∷ n ∷ []) a b c d (w ∷ x ∷ y ∷ z ∷ v ∷ values) i long same p q r s = absurd (omega arith)
