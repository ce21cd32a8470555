-- What one place of the search reads, and each row of the decision table on it.
use Rattle.std.proofs.Common.{◌≡◌, ◌≤◌, ◌<◌, ◌+◌, ◌-◌, ◌*◌, ◌/◌, ◌%◌, ℕ, List, length, refl, sym, ap, ◌∙◌, arith, Bool, true, false, cond, ◌↔◌, slice_index, slice_set, Option, Some}
use mathlib.Core.Bool.{not, beq}
use Rattle.std.specs.Prelude.{IsTrue}
use Rattle.std.specs.Int.{bit_at}
use Rattle.std.proofs.lemmas.Nat.{mod_below, div_below, div-add-mod'}
use Rattle.std.proofs.lemmas.Nat.Bits.{bit_at-lt}
use Rattle.ub_zaddr.specs.Address.{address, place}
use Rattle.ub_bigmin.specs.Box.{Corners, IsBox}
use Rattle.ub_bigmin.specs.Around.{IsAround, AreNeighbours}
use Rattle.ub_bigmin.specs.Middle.{middle}
use Rattle.ub_bigmin.proofs.AddressOrder.{bit_at-address}
use Rattle.ub_bigmin.proofs.PointFacts.{IsPoint-below}
use Rattle.ub_bigmin.proofs.AroundFacts.{around_agree, around_never, neighbours_box_above, neighbours_box_below, around_lower, around_upper}

-- the bits of the address and of the corners at place k, which is that of bit c of dimension i
pub record IsAt (b : Corners) (z k d i c : ℕ) (low high : List ℕ) (below above : Option ℕ) (z_bit low_bit high_bit : ℕ) : Type 0 where
  pub box : IsBox d b
  pub i_in : i < d
  pub c_in : c < 32
  pub at : k ≡ place d i c
  pub around : IsAround b z (k + 1) low high below above
  pub z_is : bit_at z k ≡ z_bit
  pub low_is : bit_at (slice_index low i) c ≡ low_bit
  pub high_is : bit_at (slice_index high i) c ≡ high_bit

bit_is : (t : Bool) (n : ℕ) → (IsTrue t ↔ (n ≡ 1)) → n < 2 → n ≡ cond t 1 0
bit_is true n h small = h.0 refl
bit_is false n h small = zero_or n small (λ one. let up = h.1 one in cc)
  where
    zero_or : (n : ℕ) → n < 2 → (n ≡ 1 → ⊥) → n ≡ 0
    zero_or n small ne = omega arith

pub at_place : (b : Corners) (z k shape dims : ℕ) (low high lows highs : List ℕ) (below above : Option ℕ) (low_word high_word : ℕ) (tz tl th : Bool)
    → dims ≡ shape → IsBox shape b → shape ≡ length b.lo → k < 32 * length b.lo → IsAround b z (k + 1) low high below above
    → lows ≡ low → highs ≡ high → low_word ≡ slice_index lows (dims - 1 - k % dims) → high_word ≡ slice_index highs (dims - 1 - k % dims)
    → (IsTrue tz ↔ (bit_at z k ≡ 1)) → (IsTrue tl ↔ (bit_at low_word (k / dims) ≡ 1)) → (IsTrue th ↔ (bit_at high_word (k / dims) ≡ 1))
    → IsAt b z k dims (dims - 1 - k % dims) (k / dims) low high below above (cond tz 1 0) (cond tl 1 0) (cond th 1 0)
at_place b z k shape dims low high lows highs below above low_word high_word tz tl th same box shape_is within around lows_is highs_is lw_is hw_is bz bl bh =
    let some = box.some in
    let pos : 0 < dims = omega arith in
    let small : k % dims < dims = mod_below k dims pos in
    let room : k < 32 * dims = omega arith in
    let back : dims - 1 - (dims - 1 - k % dims) ≡ k % dims = omega arith in
    let is_low : low_word ≡ slice_index low (dims - 1 - k % dims) = lw_is ∙ ap (λ (p : List ℕ). slice_index p (dims - 1 - k % dims)) lows_is in
    let is_high : high_word ≡ slice_index high (dims - 1 - k % dims) = hw_is ∙ ap (λ (p : List ℕ). slice_index p (dims - 1 - k % dims)) highs_is in
    record {
      box = rw same box;
      i_in = omega arith;
      c_in = div_below k dims 32 pos room;
      at = sym (ap (λ (j : ℕ). k / dims * dims + j) back ∙ div-add-mod' k dims);
      around = around;
      z_is = bit_is tz (bit_at z k) bz (bit_at-lt z k);
      low_is = ap (λ (n : ℕ). bit_at n (k / dims)) (sym is_low) ∙ bit_is tl (bit_at low_word (k / dims)) bl (bit_at-lt low_word (k / dims));
      high_is = ap (λ (n : ℕ). bit_at n (k / dims)) (sym is_high) ∙ bit_is th (bit_at high_word (k / dims)) bh (bit_at-lt high_word (k / dims));
    }

-- what a comparison of two bits tells
pub same_bits : (l h : Bool) → not (beq l h) ≡ false → h ≡ l
same_bits true true e = refl
same_bits false false e = refl
same_bits true false e = let wrong : true ≡ false = e in cc
same_bits false true e = let wrong : true ≡ false = e in cc

pub equal_bits : (z l : Bool) → beq z l ≡ true → l ≡ z
equal_bits true true e = refl
equal_bits false false e = refl
equal_bits true false e = let wrong : false ≡ true = e in cc
equal_bits false true e = let wrong : false ≡ true = e in cc

pub other_bits : (z l : Bool) → beq z l ≡ false → l ≡ not z
other_bits true false e = refl
other_bits false true e = refl
other_bits true true e = let wrong : true ≡ false = e in cc
other_bits false false e = let wrong : true ≡ false = e in cc

-- a place stands in some dimension, and in some bit of its coordinate
pub dimension_below : (k d : ℕ) → 1 ≤ d → d - 1 - k % d < d
dimension_below k d some = omega arith

pub rest_below : (k d : ℕ) → 1 ≤ d → k % d ≤ d - 1
rest_below k d some = let pos : 0 < d = omega arith in let small = mod_below k d pos in omega arith

pub bit_below : (k d n : ℕ) → 1 ≤ d → d ≡ n → k < 32 * n → k / d < 32
bit_below k d n some same within = let pos : 0 < d = omega arith in let room : k < 32 * d = omega arith in div_below k d 32 pos room

-- the corners of what is left have the shape of the box
pub low_length : (b : Corners) (z k d : ℕ) (low high : List ℕ) (below above : Option ℕ) → IsBox d b → IsAround b z k low high below above → length low ≡ d
low_length b z k d low high below above box a = a.ordered.0 ∙ (a.to.0 ∙ box.hi.0)

pub high_length : (b : Corners) (z k d : ℕ) (low high : List ℕ) (below above : Option ℕ) → IsBox d b → IsAround b z k low high below above → length high ≡ d
high_length b z k d low high below above box a = a.to.0 ∙ box.hi.0

module _ (b : Corners) (z k d i c : ℕ) (low high : List ℕ) (below above : Option ℕ) where
  corner_low : (zb lb hb : ℕ) → IsAt b z k d i c low high below above zb lb hb → bit_at (address low) k ≡ lb
  corner_low zb lb hb h =
      let is_high = IsPoint-below d high b.hi h.around.to h.box.hi in
      ap (λ (n : ℕ). bit_at (address low) n) h.at ∙ bit_at-address d low i c (IsPoint-below d low high h.around.ordered is_high) h.i_in h.c_in ∙ h.low_is

  corner_high : (zb lb hb : ℕ) → IsAt b z k d i c low high below above zb lb hb → bit_at (address high) k ≡ hb
  corner_high zb lb hb h =
      ap (λ (n : ℕ). bit_at (address high) n) h.at ∙ bit_at-address d high i c (IsPoint-below d high b.hi h.around.to h.box.hi) h.i_in h.c_in ∙ h.high_is

  -- the same bits by what they are known to be
  pub at_row : (tz tl th rz rl rh : Bool) → IsAt b z k d i c low high below above (cond tz 1 0) (cond tl 1 0) (cond th 1 0)
      → tz ≡ rz → tl ≡ rl → th ≡ rh → IsAt b z k d i c low high below above (cond rz 1 0) (cond rl 1 0) (cond rh 1 0)
  at_row tz tl th rz rl rh h ez el eh = record {
    box = h.box;
    i_in = h.i_in;
    c_in = h.c_in;
    at = h.at;
    around = h.around;
    z_is = h.z_is ∙ ap (λ (t : Bool). cond t 1 0) ez;
    low_is = h.low_is ∙ ap (λ (t : Bool). cond t 1 0) el;
    high_is = h.high_is ∙ ap (λ (t : Bool). cond t 1 0) eh;
  }

  pub step_same : (n : ℕ) → IsAt b z k d i c low high below above n n n → IsAround b z k low high below above
  step_same n h = around_agree d b h.box.hi h.box.ordered z low high below above k h.around (corner_low n n n h ∙ sym h.z_is) (corner_high n n n h ∙ sym h.z_is)

  step_never : (n : ℕ) → IsAt b z k d i c low high below above n 1 0 → ⊥
  step_never n h = around_never d b h.box.hi h.box.ordered z low high below above k h.around (corner_low n 1 0 h) (corner_high n 1 0 h)

  -- where the corners' bits differ, they are 0 and 1
  pub cut_bits : (n : ℕ) (tl th : Bool) → IsAt b z k d i c low high below above n (cond tl 1 0) (cond th 1 0) → not (beq tl th) ≡ true → (tl ≡ false) × (th ≡ true)
  cut_bits n false true h e = (refl, refl)
  cut_bits n true false h e = absurd (step_never n h)
  cut_bits n true true h e = let wrong : false ≡ true = e in cc
  cut_bits n false false h e = let wrong : false ≡ true = e in cc

  pub step_above : (n : ℕ) → n ≡ address low → IsAt b z k d i c low high below above 0 1 1 → AreNeighbours b z below (Some n)
  step_above n e h = rw e (neighbours_box_above d b h.box.hi h.box.ordered z low high below above k h.around h.z_is (corner_low 0 1 1 h))

  pub step_below : (n : ℕ) → n ≡ address high → IsAt b z k d i c low high below above 1 0 0 → AreNeighbours b z (Some n) above
  step_below n e h = rw e (neighbours_box_below d b h.box.hi h.box.ordered z low high below above k h.around h.z_is (corner_high 1 0 0 h))

  -- the greatest point of the lower half, the least of the upper, and the address of one of them
  module _ (m n : ℕ) (highs under over : List ℕ) (highs_is : highs ≡ high) (m_is : m ≡ middle (slice_index highs i) c) (under_is : under ≡ slice_set high i (m - 1)) (over_is : over ≡ slice_set low i m) where
    cut_is : m ≡ middle (slice_index high i) c
    cut_is = m_is ∙ ap (λ (p : List ℕ). middle (slice_index p i) c) highs_is

    under_cut : under ≡ slice_set high i (middle (slice_index high i) c - 1)
    under_cut = under_is ∙ ap (λ (x : ℕ). slice_set high i (x - 1)) cut_is

    over_cut : over ≡ slice_set low i (middle (slice_index high i) c)
    over_cut = over_is ∙ ap (λ (x : ℕ). slice_set low i x) cut_is

    pub step_lower : n ≡ address over → IsAt b z k d i c low high below above 0 0 1 → IsAround b z k low under below (Some n)
    step_lower e h = rw e (around_lower d b h.box.hi h.box.ordered z low high below above k h.around i c h.i_in h.c_in h.at h.low_is h.high_is under over under_cut over_cut h.z_is)

    pub step_upper : n ≡ address under → IsAt b z k d i c low high below above 1 0 1 → IsAround b z k over high (Some n) above
    step_upper e h = rw e (around_upper d b h.box.hi h.box.ordered z low high below above k h.around i c h.i_in h.c_in h.at h.low_is h.high_is under over under_cut over_cut h.z_is)
