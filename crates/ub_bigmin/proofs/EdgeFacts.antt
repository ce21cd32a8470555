-- The least and the greatest coordinate of a box on one side of an address.
use Rattle.std.proofs.Common.{◌≡◌, ◌≤◌, ◌<◌, ◌/◌, ◌^◌, ℕ, List, length, slice_index, slice_set, refl, sym, ap, ◌∙◌, subst, arith, inl, inr, Option, Some, None, get_or-set_same}
use Rattle.std.proofs.lemmas.Bool.{cases_lt}
use Rattle.ub_zaddr.specs.Address.{address, last_address, IsAtMost, IsPoint}
use Rattle.ub_zaddr.proofs.Laws.{address-one_to_one}
use Rattle.ub_bigmin.specs.Box.{Corners, IsBox, IsInside, Holds}
use Rattle.ub_bigmin.specs.Extremes.{LeastFrom, GreatestUpTo, Least, Greatest}
use Rattle.ub_bigmin.specs.Halves.{IsPart, IsValueOf}
use Rattle.ub_bigmin.proofs.PointFacts.{IsAtMost-refl, IsAtMost-trans, IsPoint-below, IsAtMost-set_left, IsAtMost-set_right, IsAtMost-set_both, IsAtMost-reset_left, IsAtMost-reset_right}
use Rattle.ub_bigmin.proofs.AddressOrder.{address-mono, address-below}

-- ---- a part's values are the box's

module _ (b c : Corners) (z k i : ℕ) (S : ℕ → Type 0) (part : IsPart b z k (Some c)) where
  value_in : (u : ℕ) → IsValueOf b (λ a. (a / 2 ^ k ≡ z / 2 ^ k) × S a) i u → IsValueOf c S i u
  value_in u v = (v.0, (part.1 v.0).1 (v.1, v.2.0), v.2.1, v.3)

  value_out : (u : ℕ) → IsValueOf c S i u → IsValueOf b (λ a. (a / 2 ^ k ≡ z / 2 ^ k) × S a) i u
  value_out u v = let h = (part.1 v.0).0 v.1 in (v.0, h.0, (h.1, v.2), v.3)

  pub least_part : (o : Option ℕ) → Least (IsValueOf c S i) o → Least (IsValueOf b (λ a. (a / 2 ^ k ≡ z / 2 ^ k) × S a) i) o
  least_part None h = λ u v. h u (value_in u v)
  least_part (Some n) h = (value_out n h.0, λ u v. h.1 u (value_in u v))

  pub greatest_part : (o : Option ℕ) → Greatest (IsValueOf c S i) o → Greatest (IsValueOf b (λ a. (a / 2 ^ k ≡ z / 2 ^ k) × S a) i) o
  greatest_part None h = λ u v. h u (value_in u v)
  greatest_part (Some n) h = (value_out n h.0, λ u v. h.1 u (value_in u v))

pub no_part : (b : Corners) (z k i : ℕ) (S : ℕ → Type 0) → IsPart b z k None → (u : ℕ) → IsValueOf b (λ a. (a / 2 ^ k ≡ z / 2 ^ k) × S a) i u → ⊥
no_part b z k i S part u v = part v.0 v.1 v.2.0

-- the points of the edges that have the coordinate of a point
abbrev raise : Corners → ℕ → List ℕ → List ℕ
raise c i p = slice_set c.hi i (slice_index p i)

abbrev lower : Corners → ℕ → List ℕ → List ℕ
lower c i p = slice_set c.lo i (slice_index p i)

module _ (d : ℕ) (c : Corners) (is : IsBox d c) (i z : ℕ) (room : i < length c.lo) where
  room_hi : i < length c.hi
  room_hi = let e = is.ordered.0 in omega arith

  inside_point : (p : List ℕ) → IsInside c p → IsPoint d p
  inside_point p h = IsPoint-below d p c.hi h.1 is.hi

  -- ---- along the edge that is greatest in the other dimensions

  module _ (e : Corners) (lo_is : e.lo ≡ slice_set c.hi i (slice_index c.lo i)) (hi_is : e.hi ≡ c.hi) where
    raise-le : (p : List ℕ) → IsInside c p → IsAtMost (raise c i p) c.hi
    raise-le p inside =
        let long = inside.1.0 in
        IsAtMost-set_left c.hi c.hi i (slice_index p i) (IsAtMost-refl c.hi) room_hi (inside.1.1 i (let n = room_hi in omega arith))

    raise-in : (p : List ℕ) → IsInside c p → IsInside e (raise c i p)
    raise-in p inside = (
      rw lo_is (IsAtMost-set_both c.hi c.hi i (slice_index c.lo i) (slice_index p i) (IsAtMost-refl c.hi) room_hi (inside.0.1 i room)),
      rw hi_is (raise-le p inside),
    )

    raise-above : (p : List ℕ) → IsInside c p → address p ≤ address (raise c i p)
    raise-above p inside =
        address-mono d p (raise c i p) (IsPoint-below d (raise c i p) c.hi (raise-le p inside) is.hi) (IsAtMost-set_right p c.hi i (slice_index p i) inside.1 room_hi (omega arith))

    pub least_edge_none : LeastFrom (Holds e) z None → (u : ℕ) → IsValueOf c (λ a. z ≤ a) i u → ⊥
    least_edge_none h u v =
        let lt = h (address (raise c i v.0)) (raise c i v.0, raise-in v.0 v.1, refl) in
        let up = raise-above v.0 v.1 in
        let le = v.2 in
        omega arith

    pub least_edge : (n : ℕ) → LeastFrom (Holds e) z (Some n) → (r : List ℕ) → IsPoint d r → address r ≡ n → Least (IsValueOf c (λ a. z ≤ a) i) (Some (slice_index r i))
    least_edge n h r is_r at =
        let (q, inside_q, at_q) = h.0 in
        let is_q : IsPoint d q = IsPoint-below d q c.hi (rw hi_is at inside_q.1) is.hi in
        let same : q ≡ r = address-one_to_one d q r is_q is_r (at_q ∙ sym at) in
        let inside_r : IsInside e r = subst (λ (p : List ℕ). IsInside e p) same inside_q in
        let from : IsAtMost (slice_set c.hi i (slice_index c.lo i)) r = rw lo_is at inside_r.0 in
        let to : IsAtMost r c.hi = rw hi_is at inside_r.1 in
        let own : IsInside c r = (IsAtMost-trans c.lo _ r (IsAtMost-set_right c.lo c.hi i (slice_index c.lo i) is.ordered room_hi (omega arith)) from, to) in
        let least : (u : ℕ) → IsValueOf c (λ a. z ≤ a) i u → slice_index r i ≤ u = λ u v. elim (cases_lt u (slice_index r i)) [
          | inr le ↦ le
          | inl lt ↦
              let p : List ℕ = v.0 in
              let up = raise-above p v.1 in
              let val = v.3 in
              let far : n ≤ address (raise c i p) = h.2 (address (raise c i p)) (raise c i p, raise-in p v.1, refl) (let le = v.2 in omega arith) in
              let is_p : IsPoint d (raise c i p) = IsPoint-below d (raise c i p) c.hi (raise-le p v.1) is.hi in
              let near : address (raise c i p) ≤ address r = address-mono d (raise c i p) r is_r (IsAtMost-reset_left c.hi r i (slice_index c.lo i) (slice_index p i) from room_hi (omega arith)) in
              let one : raise c i p ≡ r = address-one_to_one d (raise c i p) r is_p is_r (omega arith) in
              let here : slice_index (raise c i p) i ≡ slice_index p i = get_or-set_same c.hi i (slice_index p i) 0 room_hi in
              let there : slice_index (raise c i p) i ≡ slice_index r i = ap (λ (xs : List ℕ). slice_index xs i) one in
              absurd (omega arith)
        ] in
        ((r, own, (let le = h.1 in omega arith), refl), least)

  -- ---- along the edge that is least in the other dimensions

  module _ (e : Corners) (lo_is : e.lo ≡ c.lo) (hi_is : e.hi ≡ slice_set c.lo i (slice_index c.hi i)) where
    lower-ge : (p : List ℕ) → IsInside c p → IsAtMost c.lo (lower c i p)
    lower-ge p inside = IsAtMost-set_right c.lo c.lo i (slice_index p i) (IsAtMost-refl c.lo) room (inside.0.1 i room)

    lower-le : (p : List ℕ) → IsInside c p → IsAtMost (lower c i p) p
    lower-le p inside = IsAtMost-set_left c.lo p i (slice_index p i) inside.0 room (omega arith)

    lower-in : (p : List ℕ) → IsInside c p → IsInside e (lower c i p)
    lower-in p inside = (
      rw lo_is (lower-ge p inside),
      rw hi_is (IsAtMost-set_both c.lo c.lo i (slice_index p i) (slice_index c.hi i) (IsAtMost-refl c.lo) room (let long = inside.0.0 in inside.1.1 i (let n = room in omega arith))),
    )

    lower-below : (p : List ℕ) → IsInside c p → address (lower c i p) ≤ address p
    lower-below p inside = address-mono d (lower c i p) p (inside_point p inside) (lower-le p inside)

    pub greatest_edge_none : GreatestUpTo (Holds e) z None → (u : ℕ) → IsValueOf c (λ a. a ≤ z) i u → ⊥
    greatest_edge_none h u v =
        let lt = h (address (lower c i v.0)) (lower c i v.0, lower-in v.0 v.1, refl) in
        let down = lower-below v.0 v.1 in
        let le = v.2 in
        omega arith

    pub greatest_edge : (n : ℕ) → GreatestUpTo (Holds e) z (Some n) → (r : List ℕ) → IsPoint d r → address r ≡ n → Greatest (IsValueOf c (λ a. a ≤ z) i) (Some (slice_index r i))
    greatest_edge n h r is_r at =
        let (q, inside_q, at_q) = h.0 in
        let start : IsAtMost (slice_set c.lo i (slice_index c.hi i)) c.hi = IsAtMost-set_left c.lo c.hi i (slice_index c.hi i) is.ordered room (omega arith) in
        let is_q : IsPoint d q = IsPoint-below d q c.hi (IsAtMost-trans q _ c.hi (rw hi_is at inside_q.1) start) is.hi in
        let same : q ≡ r = address-one_to_one d q r is_q is_r (at_q ∙ sym at) in
        let inside_r : IsInside e r = subst (λ (p : List ℕ). IsInside e p) same inside_q in
        let from : IsAtMost c.lo r = rw lo_is at inside_r.0 in
        let to : IsAtMost r (slice_set c.lo i (slice_index c.hi i)) = rw hi_is at inside_r.1 in
        let own : IsInside c r = (from, IsAtMost-trans r _ c.hi to start) in
        let greatest : (u : ℕ) → IsValueOf c (λ a. a ≤ z) i u → u ≤ slice_index r i = λ u v. elim (cases_lt (slice_index r i) u) [
          | inr le ↦ le
          | inl lt ↦
              let p : List ℕ = v.0 in
              let down = lower-below p v.1 in
              let val = v.3 in
              let far : address (lower c i p) ≤ n = h.2 (address (lower c i p)) (lower c i p, lower-in p v.1, refl) (let le = v.2 in omega arith) in
              let is_p : IsPoint d (lower c i p) = IsPoint-below d (lower c i p) p (lower-le p v.1) (inside_point p v.1) in
              let near : address r ≤ address (lower c i p) = address-mono d r (lower c i p) is_p (IsAtMost-reset_right r c.lo i (slice_index c.hi i) (slice_index p i) to room (omega arith)) in
              let one : lower c i p ≡ r = address-one_to_one d (lower c i p) r is_p is_r (omega arith) in
              let here : slice_index (lower c i p) i ≡ slice_index p i = get_or-set_same c.lo i (slice_index p i) 0 room in
              let there : slice_index (lower c i p) i ≡ slice_index r i = ap (λ (xs : List ℕ). slice_index xs i) one in
              absurd (omega arith)
        ] in
        ((r, own, (let le = h.1 in omega arith), refl), greatest)

-- an address that a box holds is one of its shape
pub held_within : (d : ℕ) (c e : Corners) (n : ℕ) → IsBox d c → IsAtMost e.hi c.hi → Holds e n → n ≤ last_address d
held_within d c e n is le h =
    let (p, inside, at) = h in
    let below = address-below d p (IsPoint-below d p c.hi (IsAtMost-trans p e.hi c.hi inside.1 le) is.hi) in
    omega arith
