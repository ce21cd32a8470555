-- The mask of a region, one dimension after the other.
use Rattle.std.proofs.Common.{rules, ◌≡◌, ◌<◌, ◌≤◌, ◌+◌, ◌-◌, ◌^◌, ◌↔◌, inl, inr, ℕ, ℤ, zero, suc, List, [], Some, length, map, take, get_or, slice_index, bit_and, min, refl, sym, ap, arith, ◌∙◌}
use Rattle.std.proofs.lemmas.Bool.{cases_order}
use Rattle.std.proofs.lemmas.List.{length-take-le, get_or-take}
use Rattle.std.proofs.lemmas.List.FromFn.{length-map-range_with_len, get_or-map-range_with_len}
use Rattle.std.proofs.lemmas.Nat.Bits.{bit_at_and, bit_at-lt, bit_at_ones, bit_at_ones_above}
use Rattle.std.proofs.lemmas.Option.{slice_get-get_or, slice_get_within}
use Rattle.std.specs.Int.{bit_at}
use Rattle.std.specs.List.{range_with_len, slice_get}
use Rattle.ub_bigmin.specs.Box.{Corners, IsInside}
use Rattle.ub_region.proofs.LaneFacts.{sorted}
use Rattle.ub_region.proofs.BlankRow.{blank_row}
use Rattle.ub_region.specs.Columns.{point_in, row_in}
use Rattle.ub_region.specs.Lanes.{IsMaskOf, IsMaskBelow, used}
use Rattle.ub_region.specs.RegionPage.{IsRowInside}
use Rattle.ub_table.specs.declared.row.Key.{Key}
use Rattle.ub_table.specs.declared.row.Row.{Row}

pub IsMaskBelow-none : (len : ℕ) (columns : List (List ℕ)) (lo hi : List ℕ) → IsMaskBelow len columns lo hi 0 (2 ^ 64 - 1)
IsMaskBelow-none len columns lo hi i = elim (sorted i 64 (cases_order i 64)) [
  | inl less ↦ ((λ bit. (less, λ d none. absurd (omega arith))), (λ h. bit_at_ones 64 i less))
  | inr from ↦ ((λ bit. absurd (omega (arith, bit, bit_at_ones_above 64 i from))), (λ h. absurd (let less = h.0 in omega arith)))
]

both : (a b : ℕ) → a < 2 → b < 2 → (min a b ≡ 1) ↔ ((a ≡ 1) × (b ≡ 1))
both a b h k = search rules

at_last : (n d : ℕ) (P : ℕ → Type 0) → d < n + 1 → ((d : ℕ) → d < n → P d) → P n → P d
at_last n d P h k j = search rules

some_same : (a b : Row) → Some a ≡ Some b → a ≡ b
some_same a b e = cc

-- one dimension more
pub IsMaskBelow-more : (len : ℕ) (columns : List (List ℕ)) (lo hi : List ℕ) (mask n column_mask : ℕ) → len ≤ 64
    → IsMaskOf (slice_index lo n) (slice_index hi n) (used len columns n) column_mask
    → IsMaskBelow len columns lo hi n mask → IsMaskBelow len columns lo hi (n + 1) (bit_and mask column_mask)
IsMaskBelow-more len columns lo hi mask n column_mask h k j = search (rules, at_last, bit_at-lt, bit_at_and, both)

-- a coordinate of a row stands in the column of its dimension
at_dim : (columns : List (List ℕ)) (i d : ℕ) → d < 4 → get_or (point_in columns i) d 0 ≡ get_or (get_or columns d []) i 0
at_dim columns i zero less = refl
at_dim columns i (suc zero) less = refl
at_dim columns i (suc (suc zero)) less = refl
at_dim columns i (suc (suc (suc zero))) less = refl
at_dim columns i (suc (suc (suc (suc d)))) less = absurd (omega arith)

-- the mask of all dimensions is that of the rows in the box
pub IsMaskBelow-all : (shape len : ℕ) (first : Key) (numbers : List ℕ) (columns : List (List ℕ)) (measures : List (List ℤ)) (zbox : Corners) (mask : ℕ)
    → 1 ≤ shape → shape ≤ 4 → len ≤ 64 → length zbox.lo ≡ shape → length zbox.hi ≡ shape
    → ((d : ℕ) → d < 4 → length (get_or columns d []) ≡ 64) → IsMaskBelow len columns zbox.lo zbox.hi shape mask
    → (i : ℕ) → (bit_at mask i ≡ 1)
    ↔ IsRowInside (record { dims = shape; region = record { first = first; rows = map (row_in numbers columns measures) (range_with_len 0 len) } }) zbox i
IsMaskBelow-all shape len first numbers columns measures zbox mask some within few lo_long hi_long long so i =
    let rows = map (row_in numbers columns measures) (range_with_len 0 len) in
    let count : length rows ≡ len = length-map-range_with_len (row_in numbers columns measures) 0 len in
    let point = point_in columns i in
    let short : length (take shape point) ≡ shape = length-take-le shape point within in
    let at_row : i < len → slice_get rows i ≡ Some (row_in numbers columns measures i)
    = λ less. slice_get-get_or rows i blank_row (omega arith) ∙ ap Some (get_or-map-range_with_len (row_in numbers columns measures) 0 len i i blank_row less (omega arith)) in
    let value : (d : ℕ) → d < shape → i < len → get_or (take shape point) d 0 ≡ get_or (used len columns d) i 0
    = λ d less there. get_or-take shape point d 0 less ∙ at_dim columns i d (omega arith) ∙ sym (get_or-take len (get_or columns d []) i 0 there) in (
      (λ bit. let h = (so i).0 bit in
          let zeroth = h.1 0 (omega arith) in
          let column_long = length-take-le len (get_or columns 0 []) (omega (arith, long 0 (omega arith))) in
          let there : i < len = let first = zeroth.0 in omega arith in (
            row_in numbers columns measures i,
            at_row there,
            (
              (lo_long ∙ sym short, λ d less. let between = h.1 d (omega arith) in rw (value d (omega arith) there) between.1),
              (short ∙ sym hi_long, λ d less. let between = h.1 d (omega arith) in rw (value d (omega arith) there) between.2),
            ),
          )),
      (λ h. let there : i < len = omega (arith, slice_get_within rows i h.0 h.1) in
          let same : h.0 ≡ row_in numbers columns measures i = some_same h.0 (row_in numbers columns measures i) (sym h.1 ∙ at_row there) in
          let inside : IsInside zbox (take shape point) = rw same at h.2 in
          (so i).1 (
            omega arith,
            λ d less.
                let column_long = length-take-le len (get_or columns d []) (omega (arith, long d (omega arith))) in
                (omega arith, rw (value d (omega arith) there) at (inside.0.1 d (omega arith)), rw (value d (omega arith) there) at (inside.1.1 d (omega arith))),
          )),
    )
