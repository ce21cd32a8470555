-- What the passes of a jump leave is the neighbour of the address.
use Rattle.std.proofs.Common.{◌≡◌, ◌<◌, ◌*◌, ℕ, List, length, sym, ◌∙◌, arith, Some, None, subst}
use Rattle.std.proofs.lemmas.Nat.{pow_pos}
use Rattle.ub_zaddr.specs.Address.{address, last_address, IsPoint}
use Rattle.ub_zaddr.proofs.Laws.{address-one_to_one}
use Rattle.ub_bigmin.specs.Box.{Corners, IsBox, Holds}
use Rattle.ub_bigmin.specs.Extremes.{IsLeastFrom, IsGreatestUpTo}
use Rattle.ub_bigmin.specs.Jumps.{AreNeeds, HasNoJump, IsLowestJump, IsNearestPoint}
use Rattle.ub_bigmin.specs.Around.{AreNeighbours}
use Rattle.ub_bigmin.proofs.AroundFacts.{neighbours_at, neighbours_past}
use Rattle.ub_bigmin.proofs.JumpFacts.{no_jump_up, no_jump_down, jump_up, jump_down}
use Rattle.ub_bigmin.proofs.NeedFacts.{inside_needs, outside_needs}
use Rattle.ub_bigmin.proofs.PointFacts.{IsPoint-below}

-- above the last address
pub past_last : (d : ℕ) (b : Corners) (z : ℕ) → IsBox d b → last_address d < z → AreNeighbours b z (Some (address b.hi)) None
past_last d b z box lt = let pos = pow_pos (32 * d) in neighbours_past d b box.hi box.ordered z (omega arith)

module _ (d : ℕ) (b : Corners) (c : List ℕ) (z highest dimension next : ℕ) (box : IsBox d b) (is_c : IsPoint d c) (e : address c ≡ z) (needs : AreNeeds b c (length c) highest dimension next) where
  pub at_itself : highest ≡ 0 → AreNeighbours b z (Some z) (Some z)
  at_itself none = neighbours_at b z (c, inside_needs d b c box is_c highest dimension next needs none, e)

  outside : (highest ≡ 0 → ⊥) → Holds b z → ⊥
  outside some (p, inside, is) =
      let is_p : IsPoint d p = IsPoint-below d p b.hi inside.1 box.hi in
      let same : p ≡ c = address-one_to_one d p c is_p is_c (is ∙ sym e) in
      outside_needs d b c box is_c highest dimension next needs some (rw same at inside)

  module _ (some : highest ≡ 0 → ⊥) where
    pub none_above : HasNoJump b c 1 (length c) → (m : ℕ) → Holds b m → m < z
    none_above none = no_jump_up d b c box is_c z e (outside some) (subst (λ (n : ℕ). HasNoJump b c 1 n) is_c.0 none)

    pub none_below : HasNoJump b c 0 (length c) → (m : ℕ) → Holds b m → z < m
    none_below none = no_jump_down d b c box is_c z e (outside some) (subst (λ (n : ℕ). HasNoJump b c 0 n) is_c.0 none)

    module _ (i k r : ℕ) (q : List ℕ) (is : r ≡ address q) where
      pub next_above : IsLowestJump b c 1 (length c) i k → IsNearestPoint b c i k 1 q → IsLeastFrom (Holds b) z r
      next_above jump nearest = rw is (jump_up d b c box is_c i k q box.within z e (outside some) (subst (λ (n : ℕ). IsLowestJump b c 1 n i k) is_c.0 jump) nearest)

      pub next_below : IsLowestJump b c 0 (length c) i k → IsNearestPoint b c i k 0 q → IsGreatestUpTo (Holds b) z r
      next_below jump nearest = rw is (jump_down d b c box is_c i k q box.within z e (outside some) (subst (λ (n : ℕ). IsLowestJump b c 0 n i k) is_c.0 jump) nearest)
