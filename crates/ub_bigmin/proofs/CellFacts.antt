-- Which points lie in a cell, which cells meet a box, and what the box has in a cell.
use Rattle.std.proofs.Common.{◌≡◌, ◌≤◌, ◌<◌, ◌+◌, ◌-◌, ◌*◌, ◌/◌, ◌%◌, ◌^◌, ℕ, zero, suc, List, [], ◌∷◌, length, slice_index, max, ◌↔◌, refl, sym, ap, ◌∙◌, arith, ◌⊎◌, inl, inr, slice_set, get_or-set_same, get_or-set_other, length-set}
use Rattle.std.specs.Int.{bit_at}
use Rattle.std.proofs.Math.Nat.{mul-le-mul_right, add-mul, div-mul-le_self, lt-div-mul-add, le-div_iff_mul-le, div-lt_iff_lt-mul}
use Rattle.std.proofs.Math.Pow.{shr_mono}
use Rattle.std.proofs.lemmas.Bool.{cases_lt, cases_eq}
use Rattle.std.proofs.lemmas.List.Elements.{All-get_or}
use Rattle.std.proofs.lemmas.Nat.{pow_pos}
use Rattle.std.proofs.lemmas.Nat.Bits.{same_from_bits, bit_at_above}
use Rattle.ub_zaddr.specs.Address.{address, place, IsAtMost, IsPoint}
use Rattle.ub_zaddr.proofs.Laws.{bit_of_shift, is_place, same_bit}
use Rattle.ub_bigmin.specs.Box.{Corners, IsInside, Holds, IsBox}
use Rattle.ub_bigmin.specs.Cells.{prefix, free_below, IsPrefixOf, least_with, greatest_with, IsMet, IsFloor}
use Rattle.ub_bigmin.specs.inner.Cells.{IsInCell, HasPrefixes, least_beside, greatest_beside, IsInPart, IsLeastPoint, IsGreatestPoint, IsLift, IsSink, IsTop}
use Rattle.ub_bigmin.proofs.CutFacts.{shr_halves}
use Rattle.ub_bigmin.proofs.PointFacts.{IsPoint-below}
use Rattle.ub_bigmin.proofs.AddressOrder.{bit_at-address, address-below}

-- ---- places

-- the places of another dimension above that of bit k of dimension i are those of its bits that are not below it
pub place_beside : (d i j k b : ℕ) → i < d → j < d → (j ≡ i → ⊥) → (place d i k < place d j b) ↔ (free_below i k j ≤ b)
place_beside d i j k b hi hj other = (
  λ lt. elim (cases_lt b k) [
    | inl less ↦ let room : (b + 1) * d ≤ k * d = mul-le-mul_right d (omega arith) in let split = add-mul b 1 d in absurd (omega arith)
    | inr le ↦ elim (cases_lt k b) [
      | inl more ↦ omega arith
      | inr ge ↦ let same : b * d ≤ k * d = mul-le-mul_right d ge in omega arith
    ]
  ],
  λ le. elim (cases_lt k b) [
    | inl more ↦ let room : (k + 1) * d ≤ b * d = mul-le-mul_right d (omega arith) in let split = add-mul k 1 d in omega arith
    | inr ge ↦ let same : k * d ≤ b * d = mul-le-mul_right d (omega arith) in omega arith
  ],
)

pub place_within : (d i k b : ℕ) → i < d → (place d i k < place d i b) ↔ (k < b)
place_within d i k b hi = (
  λ lt. elim (cases_lt k b) [
    | inl more ↦ more
    | inr ge ↦ let same : b * d ≤ k * d = mul-le-mul_right d ge in absurd (omega arith)
  ],
  λ more. let room : (k + 1) * d ≤ b * d = mul-le-mul_right d (omega arith) in let split = add-mul k 1 d in omega arith,
)

-- ---- prefixes and bits

coordinate_small : (d j : ℕ) (p : List ℕ) → IsPoint d p → j < d → slice_index p j < 2 ^ 32
coordinate_small d j p h lt = let long = h.0 in All-get_or (λ (x : ℕ). x < 2 ^ 32) p j 0 (omega arith) h.1

module _ (d : ℕ) (p q : List ℕ) (is_p : IsPoint d p) (is_q : IsPoint d q) where
  -- addresses that agree from a place up are of points that agree from each bit up whose place is not below it
  pub agree_coordinates : (k j f : ℕ) → j < d → k ≤ place d j f → address p / 2 ^ k ≡ address q / 2 ^ k → slice_index p j / 2 ^ f ≡ slice_index q j / 2 ^ f
  agree_coordinates k j f hj le e =
      same_from_bits _ _ (λ t. bit_of_shift (slice_index p j) f t ∙ by_width t (cases_lt (f + t) 32) ∙ sym (bit_of_shift (slice_index q j) f t))
    where
      by_width : (t : ℕ) → (f + t < 32) ⊎ (32 ≤ f + t) → bit_at (slice_index p j) (f + t) ≡ bit_at (slice_index q j) (f + t)
      by_width t (inl lt) =
          let room : f * d ≤ (f + t) * d = mul-le-mul_right d (omega arith) in
          let above : k ≤ place d j (f + t) = omega arith in
          sym (bit_at-address d p j (f + t) is_p hj lt) ∙ same_bit (address p) (address q) k (place d j (f + t)) above e ∙ bit_at-address d q j (f + t) is_q hj lt
      by_width t (inr ge) = bit_at_above _ 32 _ (coordinate_small d j p is_p hj) ge ∙ sym (bit_at_above _ 32 _ (coordinate_small d j q is_q hj) ge)

  -- points that agree at each bit whose place is not below a place have addresses that agree from it up
  pub agree_address : (k : ℕ) → ((j b : ℕ) → j < d → k ≤ place d j b → bit_at (slice_index p j) b ≡ bit_at (slice_index q j) b) → address p / 2 ^ k ≡ address q / 2 ^ k
  agree_address k h =
      same_from_bits _ _ (λ t. bit_of_shift (address p) k t ∙ by_width t (cases_lt (k + t) (32 * d)) ∙ sym (bit_of_shift (address q) k t))
    where
      by_width : (t : ℕ) → (k + t < 32 * d) ⊎ (32 * d ≤ k + t) → bit_at (address p) (k + t) ≡ bit_at (address q) (k + t)
      by_width t (inl lt) =
          let (i, b, hi, hb, at) = is_place d (k + t) lt in
          ap (λ (n : ℕ). bit_at (address p) n) (sym at) ∙ bit_at-address d p i b is_p hi hb ∙ h i b hi (omega arith) ∙ sym (bit_at-address d q i b is_q hi hb) ∙ ap (λ (n : ℕ). bit_at (address q) n) at
      by_width t (inr ge) = bit_at_above _ (32 * d) _ (address-below d p is_p) ge ∙ sym (bit_at_above _ (32 * d) _ (address-below d q is_q) ge)

-- a prefix, from the next bit up and at its last bit
prefix_parts : (n x k v : ℕ) → v < 2 → n / 2 ^ k ≡ prefix x k v → (n / 2 ^ (k + 1) ≡ x / 2 ^ (k + 1)) × (bit_at n k ≡ v)
prefix_parts n x k v small e = let h = shr_halves n k in let b : bit_at n k < 2 = omega arith in (omega arith, omega arith)

prefix_whole : (n x k v : ℕ) → n / 2 ^ (k + 1) ≡ x / 2 ^ (k + 1) → bit_at n k ≡ v → n / 2 ^ k ≡ prefix x k v
prefix_whole n x k v e b = let h = shr_halves n k in omega arith

-- ---- cells by coordinates

module _ (d : ℕ) (c q : List ℕ) (i k v : ℕ) (is_c : IsPoint d c) (is_q : IsPoint d q) (hi : i < d) (hk : k < 32) (hv : v < 2) where
  pub cell_prefixes : IsInCell (address c) (place d i k) v (address q) → HasPrefixes c i k v q
  cell_prefixes cell =
      let (above, here) = prefix_parts _ _ _ _ hv cell in
      let next : place d i k < place d i (k + 1) = (place_within d i k (k + 1) hi).1 (omega arith) in
      let own : slice_index q i / 2 ^ (k + 1) ≡ slice_index c i / 2 ^ (k + 1) = agree_coordinates d q c is_q is_c (place d i k + 1) i (k + 1) hi (omega arith) above in (
        prefix_whole _ _ _ _ own (sym (bit_at-address d q i k is_q hi hk) ∙ here),
        λ j hj other. let in_d : j < d = (let long = is_c.0 in omega arith) in
            let past : place d i k < place d j (free_below i k j) = (place_beside d i j k (free_below i k j) hi in_d other).1 (omega arith) in
            agree_coordinates d q c is_q is_c (place d i k + 1) j (free_below i k j) in_d (omega arith) above,
      )

  pub prefixes_cell : HasPrefixes c i k v q → IsInCell (address c) (place d i k) v (address q)
  prefixes_cell (own, others) =
      let (above, here) = prefix_parts _ _ _ _ hv own in
      prefix_whole _ _ _ _
      (agree_address d q c is_q is_c (place d i k + 1) (λ j b hj le. elim (cases_eq j i) [
        | inl e ↦ let past : place d i k < place d i b = rw e at (let lt : place d i k < place d j b = omega arith in lt) in
            rw e (same_bit (slice_index q i) (slice_index c i) (k + 1) b (let more = (place_within d i k b hi).0 past in omega arith) above)
        | inr other ↦ let in_c : j < length c = let long = is_c.0 in omega arith in
            same_bit (slice_index q j) (slice_index c j) (free_below i k j) b ((place_beside d i j k b hi hj other).0 (omega arith)) (others j in_c other)
      ]))
      (bit_at-address d q i k is_q hi hk ∙ here)

-- ---- ranges of numbers with one prefix

-- the numbers with the prefix x from bit k up
pub prefix_range : (n x k : ℕ) → (n / 2 ^ k ≡ x) ↔ ((x * 2 ^ k ≤ n) × (n ≤ x * 2 ^ k + (2 ^ k - 1)))
prefix_range n x k =
    let pos = pow_pos k in (
      λ e. rw (sym e) (let low = div-mul-le_self n (2 ^ k) in let high = lt-div-mul-add {a = n} {b = 2 ^ k} pos in (low, omega arith)),
      λ h. let (from, to) = h in
          let low : x ≤ n / 2 ^ k = (le-div_iff_mul-le pos).1 from in
          let split = add-mul x 1 (2 ^ k) in
          let high : n / 2 ^ k < x + 1 = (div-lt_iff_lt-mul pos).1 (omega arith) in
          omega arith,
    )

-- the numbers from low to high with a prefix lie between the least and the greatest, and those are all
pub with_prefix : (low high x k n : ℕ) → ((low ≤ n) × (n ≤ high) × (n / 2 ^ k ≡ x)) ↔ ((least_with low x k ≤ n) × (n ≤ greatest_with high x k))
with_prefix low high x k n = (
  λ h. let (from, to, e) = h in let r = (prefix_range n x k).0 e in let s = r.0 in let t = r.1 in (omega arith, omega arith),
  λ h. let (from, to) = h in (omega arith, omega arith, (prefix_range n x k).1 (omega arith, omega arith)),
)

-- where the prefix is that of some number of the range, the least and the greatest are such numbers
pub least_has : (low high x k : ℕ) → low ≤ high → IsPrefixOf low high x k → (least_with low x k ≤ least_with low x k) × (least_with low x k ≤ greatest_with high x k)
least_has low high x k le (from, to) =
    let pos = pow_pos k in
    let top : x * 2 ^ k ≤ high = (le-div_iff_mul-le pos).0 to in
    let split = add-mul x 1 (2 ^ k) in
    let low_end : low < (x + 1) * 2 ^ k = (div-lt_iff_lt-mul pos).0 (omega arith) in
    (omega arith, omega arith)

pub has_prefix : (low high x k n : ℕ) → low ≤ n → n ≤ high → n / 2 ^ k ≡ x → IsPrefixOf low high x k
has_prefix low high x k n from to e =
    let a : low / 2 ^ k ≤ n / 2 ^ k = shr_mono k from in
    let b : n / 2 ^ k ≤ high / 2 ^ k = shr_mono k to in
    (omega arith, omega arith)

-- ---- which bits give a cell that meets the box

pub own_above : (low high x k : ℕ) → bit_at x k ≡ 0 → IsPrefixOf low high (prefix x k 1) k ↔ ((low / 2 ^ (k + 1) ≤ x / 2 ^ (k + 1)) × (x / 2 ^ k < high / 2 ^ k))
own_above low high x k bit =
    let hx = shr_halves x k in let hl = shr_halves low k in
    let small : bit_at low k < 2 = omega arith in (
      λ h. let (from, to) = h in (omega arith, omega arith),
      λ h. let (from, to) = h in (omega arith, omega arith),
    )

pub own_below : (low high x k : ℕ) → bit_at x k ≡ 1 → IsPrefixOf low high (prefix x k 0) k ↔ ((low / 2 ^ k < x / 2 ^ k) × (x / 2 ^ (k + 1) ≤ high / 2 ^ (k + 1)))
own_below low high x k bit =
    let hx = shr_halves x k in let hh = shr_halves high k in
    let small : bit_at high k < 2 = omega arith in (
      λ h. let (from, to) = h in (omega arith, omega arith),
      λ h. let (from, to) = h in (omega arith, omega arith),
    )

-- the cells 'as c above, 1 here in place of 0, free below' of dimension i that meet the box: bits from max B g up to below t
pub met_above : (b : Corners) (c : List ℕ) (i k floor lift top : ℕ) → bit_at (slice_index c i) k ≡ 0
    → IsFloor b c i floor → IsLift (slice_index b.lo i) (slice_index c i) lift → IsTop (slice_index c i) (slice_index b.hi i) top
    → IsMet b c i k 1 ↔ ((max floor lift ≤ k) × (k < top))
met_above b c i k floor lift top bit f g t =
    let own = own_above (slice_index b.lo i) (slice_index b.hi i) (slice_index c i) k bit in (
      λ h. let (here, others) = h in let r = own.0 here in
          let x = (f k).1 others in let y = (g k).1 r.0 in (omega arith, (t k).1 r.1),
      λ h. let (from, to) = h in (own.1 ((g k).0 (omega arith), (t k).0 to), (f k).0 (omega arith)),
    )

-- the mirror: the cells 'as c above, 0 here in place of 1, free below'
pub met_below : (b : Corners) (c : List ℕ) (i k floor sink top : ℕ) → bit_at (slice_index c i) k ≡ 1
    → IsFloor b c i floor → IsSink (slice_index b.hi i) (slice_index c i) sink → IsTop (slice_index b.lo i) (slice_index c i) top
    → IsMet b c i k 0 ↔ ((max floor sink ≤ k) × (k < top))
met_below b c i k floor sink top bit f g t =
    let own = own_below (slice_index b.lo i) (slice_index b.hi i) (slice_index c i) k bit in (
      λ h. let (here, others) = h in let r = own.0 here in
          let x = (f k).1 others in let y = (g k).1 r.1 in (omega arith, (t k).1 r.0),
      λ h. let (from, to) = h in (own.1 ((t k).0 to, (g k).0 (omega arith)), (f k).0 (omega arith)),
    )

-- ---- what the box has in a cell

-- f 0, f 1, .., f (n - 1)
table : (ℕ → ℕ) → ℕ → List ℕ
table f zero = []
table f (suc n) = f 0 ∷ table (λ i. f (suc i)) n

length-table : (f : ℕ → ℕ) (n : ℕ) → length (table f n) ≡ n
unfolding table
length-table f zero = refl
length-table f (suc n) = ap (λ (k : ℕ). suc k) (length-table (λ i. f (suc i)) n)

table-at : (f : ℕ → ℕ) (n i : ℕ) → i < n → slice_index (table f n) i ≡ f i
unfolding table
table-at f zero i h = absurd (omega arith)
table-at f (suc n) zero h = refl
table-at f (suc n) (suc i) h = table-at (λ i. f (suc i)) n i (omega arith)

module _ (d : ℕ) (b : Corners) (c : List ℕ) (i k v : ℕ) (box : IsBox d b) (is_c : IsPoint d c) (hi : i < d) (hk : k < 32) (hv : v < 2) where
  -- the box and the cell have in common the points between the least and the greatest
  pub inside_part : (q : List ℕ) → IsInside b q → IsInCell (address c) (place d i k) v (address q) → IsInPart b c i k v q
  inside_part q (from, to) cell =
      let is_q : IsPoint d q = IsPoint-below d q b.hi to box.hi in
      let (own, others) = cell_prefixes d c q i k v is_c is_q hi hk hv cell in
      let long_q = is_q.0 in let long_c = is_c.0 in let long_lo = from.0 in
      let here = (with_prefix _ _ _ _ _).0 (from.1 i (omega arith), to.1 i (omega arith), own) in
      (omega arith, here.0, here.1, λ j hj other. (with_prefix _ _ _ _ _).0 (from.1 j (omega arith), to.1 j (omega arith), others j hj other))

  pub part_inside : (q : List ℕ) → IsInPart b c i k v q → IsInside b q × IsInCell (address c) (place d i k) v (address q)
  part_inside q (long, from_i, to_i, others) =
      let long_c = is_c.0 in let long_lo = box.lo.0 in let long_hi = box.hi.0 in
      let own = (with_prefix (slice_index b.lo i) (slice_index b.hi i) _ k (slice_index q i)).1 (from_i, to_i) in
      let beside : (j : ℕ) → j < length c → (j ≡ i → ⊥) → (slice_index b.lo j ≤ slice_index q j) × (slice_index q j ≤ slice_index b.hi j) × (slice_index q j / 2 ^ free_below i k j ≡ slice_index c j / 2 ^ free_below i k j) =
      λ j hj other. (with_prefix (slice_index b.lo j) (slice_index b.hi j) _ (free_below i k j) (slice_index q j)).1 (others j hj other) in
      let from : IsAtMost b.lo q = (
        omega arith,
        λ j hj. elim (cases_eq j i) [
          | inl e ↦ rw e own.0
          | inr other ↦ (beside j (omega arith) other).0
        ],
      ) in
      let to : IsAtMost q b.hi = (
        omega arith,
        λ j hj. elim (cases_eq j i) [
          | inl e ↦ rw e own.1
          | inr other ↦ (beside j (omega arith) other).1
        ],
      ) in
      let is_q : IsPoint d q = IsPoint-below d q b.hi to box.hi in
      ((from, to), prefixes_cell d c q i k v is_c is_q hi hk hv (own.2, λ j hj other. (beside j hj other).2))

  -- a cell with a point of the box meets it by its prefixes
  pub part_met : (q : List ℕ) → IsInside b q → IsInCell (address c) (place d i k) v (address q) → IsMet b c i k v
  part_met q (from, to) cell =
      let is_q : IsPoint d q = IsPoint-below d q b.hi to box.hi in
      let (own, others) = cell_prefixes d c q i k v is_c is_q hi hk hv cell in
      let long_q = is_q.0 in let long_c = is_c.0 in let long_lo = from.0 in
      (has_prefix _ _ _ _ _ (from.1 i (omega arith)) (to.1 i (omega arith)) own, λ j hj other. has_prefix _ _ _ _ _ (from.1 j (omega arith)) (to.1 j (omega arith)) (others j hj other))

  -- the box is ordered in each dimension
  ordered_at : (j : ℕ) → j < d → slice_index b.lo j ≤ slice_index b.hi j
  ordered_at j hj = let long = box.lo.0 in box.ordered.1 j (omega arith)

  -- where the prefixes are those of coordinates of the box, the least and the greatest point are such points
  pub least_in_part : IsMet b c i k v → (q : List ℕ) → IsLeastPoint b c i k v q → IsInPart b c i k v q
  least_in_part (here, others) q (long, own, beside) =
      let long_c = is_c.0 in
      let r = least_has (slice_index b.lo i) (slice_index b.hi i) _ k (ordered_at i hi) here in (
        long,
        rw own r.0,
        rw own r.1,
        λ j hj other. let s = least_has (slice_index b.lo j) (slice_index b.hi j) _ _ (ordered_at j (omega arith)) (others j hj other) in
            (rw (beside j hj other) s.0, rw (beside j hj other) s.1),
      )

  pub greatest_in_part : IsMet b c i k v → (q : List ℕ) → IsGreatestPoint b c i k v q → IsInPart b c i k v q
  greatest_in_part (here, others) q (long, own, beside) =
      let long_c = is_c.0 in
      let r = least_has (slice_index b.lo i) (slice_index b.hi i) _ k (ordered_at i hi) here in (
        long,
        rw own r.1,
        rw own (omega arith),
        λ j hj other. let s = least_has (slice_index b.lo j) (slice_index b.hi j) _ _ (ordered_at j (omega arith)) (others j hj other) in
            (rw (beside j hj other) s.1, rw (beside j hj other) (omega arith)),
      )

  -- no point of the box in the cell is less than the least in a coordinate, or greater than the greatest
  pub least_at_most : (q p : List ℕ) → IsLeastPoint b c i k v q → IsInPart b c i k v p → IsAtMost q p
  least_at_most q p (long, own, beside) part = (
    long ∙ sym part.0,
    λ j hj. elim (cases_eq j i) [
      | inl e ↦ rw e (rw own part.1)
      | inr other ↦ let in_c : j < length c = omega arith in rw (beside j in_c other) (part.3 j in_c other).0
    ],
  )

  pub at_most_greatest : (q p : List ℕ) → IsGreatestPoint b c i k v q → IsInPart b c i k v p → IsAtMost p q
  at_most_greatest q p (long, own, beside) part = (
    part.0 ∙ sym long,
    λ j hj. elim (cases_eq j i) [
      | inl e ↦ rw e (rw own part.2)
      | inr other ↦ let in_c : j < length c = (let e = part.0 in omega arith) in rw (beside j in_c other) (part.3 j in_c other).1
    ],
  )

  -- there are such points
  pub least_point : (q : List ℕ) × IsLeastPoint b c i k v q
  least_point =
      let row : List ℕ = table (least_beside b c i k) (length c) in
      let long : length row ≡ length c = length-table (least_beside b c i k) (length c) in
      let room : i < length row = let e = is_c.0 in omega arith in (
        slice_set row i (least_with (slice_index b.lo i) (prefix (slice_index c i) k v) k),
        (length-set row i _ ∙ long, get_or-set_same row i _ 0 room, λ j hj other. get_or-set_other row i j _ 0 other ∙ table-at (least_beside b c i k) (length c) j hj),
      )

  pub greatest_point : (q : List ℕ) × IsGreatestPoint b c i k v q
  greatest_point =
      let row : List ℕ = table (greatest_beside b c i k) (length c) in
      let long : length row ≡ length c = length-table (greatest_beside b c i k) (length c) in
      let room : i < length row = let e = is_c.0 in omega arith in (
        slice_set row i (greatest_with (slice_index b.hi i) (prefix (slice_index c i) k v) k),
        (length-set row i _ ∙ long, get_or-set_same row i _ 0 room, λ j hj other. get_or-set_other row i j _ 0 other ∙ table-at (greatest_beside b c i k) (length c) j hj),
      )

  -- the cell has an address of the box exactly where it meets the box by its prefixes
  pub met_holds : IsMet b c i k v ↔ ((m : ℕ) × Holds b m × IsInCell (address c) (place d i k) v m)
  met_holds = (
    λ met. let (q, least) = least_point in let (inside, cell) = part_inside q (least_in_part met q least) in (address q, (q, inside, refl), cell),
    λ h. let (m, (q, inside, e), cell) = h in part_met q inside (rw e cell),
  )
