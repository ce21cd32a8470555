-- The passes over the dimensions: what they need, the lowest jump, and the nearest point.
use Rattle.std.proofs.Common.{◌≡◌, ◌≤◌, ◌<◌, ◌+◌, ◌/◌, ◌^◌, ℕ, max, List, length, slice_index, get_or, set, take, ◌↔◌, refl, sym, ap, ◌∙◌, arith, inl, inr, Option, Some, None, get_or-set_same, get_or-set_other, length-set}
use Rattle.std.specs.Prelude.{MatchOption}
use Rattle.std.proofs.lemmas.Bool.{cases_lt, cases_eq}
use Rattle.std.proofs.lemmas.List.{get_or-take, length-take-le}
use Rattle.std.proofs.lemmas.List.Elements.{All-get_or}
use Rattle.ub_zaddr.specs.Address.{IsPoint}
use Rattle.ub_bigmin.specs.Box.{Corners, IsInside, IsBox}
use Rattle.ub_bigmin.specs.Cells.{prefix, free_below, IsNeed, IsFloor, nearest_with}
use Rattle.ub_bigmin.specs.Extremes.{Least}
use Rattle.ub_bigmin.specs.Jumps.{IsJump, IsOwnJump, wide_place, wide_need, NeedsBits, AreNeeds, HasNoJump, IsLowestJump, IsNearestAt, IsNearestPoint}
use Rattle.ub_bigmin.specs.Lower.{IsLower}
use Rattle.ub_bigmin.specs.declared.words.Jump.{Jump}
use Rattle.ub_bigmin.proofs.WordFacts.{need_exists}

-- ---- needs

need_unique : (low high x m n : ℕ) → IsNeed low high x m → IsNeed low high x n → m ≡ n
need_unique low high x m n hm hn =
    let a : m ≤ n = (hm n).1 ((hn n).0 (omega arith)) in
    let b : n ≤ m = (hn m).1 ((hm m).0 (omega arith)) in
    omega arith

pub needs_none : (b : Corners) (c : List ℕ) → AreNeeds b c 0 0 0 0
needs_none b c = record {
  below = omega arith;
  ordered = omega arith;
  all = λ j n lt h. absurd (omega arith);
  others = λ j n lt o h. absurd (omega arith);
  highest_is = inl refl;
  next_is = inl refl;
}

pub needs_next : (b : Corners) (c : List ℕ) (t highest dimension next bits places highest2 dimension2 next2 : ℕ)
    → bits ≤ 32 → NeedsBits b c t bits → places ≡ wide_need t bits
    → (highest < places → (highest2 ≡ places) × (dimension2 ≡ t) × (next2 ≡ highest))
    → (places ≤ highest → (highest2 ≡ highest) × (dimension2 ≡ dimension) × (next2 ≡ max next places))
    → AreNeeds b c t highest dimension next → AreNeeds b c (t + 1) highest2 dimension2 next2
needs_next b c t highest dimension next bits places highest2 dimension2 next2 small need is more fewer old = elim (cases_lt highest places) [
  | inl lt ↦ let (eh, ed, en) = more lt in rw (eh, ed, en) (higher lt)
  | inr le ↦ let (eh, ed, en) = fewer le in rw (eh, ed, en) (lower le)
]
  where
    here : (n : ℕ) → NeedsBits b c t n → wide_need t n ≡ places
    here n h = let same = need_unique _ _ _ n bits h need in let e = is in omega arith

    all_next : (bound : ℕ) → highest ≤ bound → places ≤ bound → (j n : ℕ) → j < t + 1 → NeedsBits b c j n → wide_need j n ≤ bound
    all_next bound from to j n lt h = elim (cases_eq j t) [
      | inl e ↦ let e2 = here n (rw e at h) in let le : wide_need t n ≤ bound = omega arith in rw e le
      | inr other ↦ let le = old.all j n (apart j lt other) h in omega arith
    ]
      where
        apart : (j : ℕ) → j < t + 1 → (j ≡ t → ⊥) → j < t
        apart j lt other = omega arith

    apart : (j : ℕ) → j < t + 1 → (j ≡ t → ⊥) → j < t
    apart j lt other = omega arith

    higher : highest < places → AreNeeds b c (t + 1) places t highest
    higher lt = record {
      below = let e = is in omega arith;
      ordered = omega arith;
      all = all_next places (omega arith) (omega arith);
      others = λ j n j_in other h. old.all j n (apart j j_in other) h;
      highest_is = inr (bits, omega arith, need, is);
      next_is = elim old.highest_is [
        | inl e ↦ inl e
        | inr s ↦ inr (dimension, s.0, (let lt2 = s.1 in omega arith), (λ e. let lt2 = s.1 in omega arith), s.2, s.3)
      ];
    }

    lower : places ≤ highest → AreNeeds b c (t + 1) highest dimension (max next places)
    lower le =
        let ordered = old.ordered in record {
          below = old.below;
          ordered = omega arith;
          all = all_next highest (omega arith) le;
          others = λ j n j_in other h. elim (cases_eq j t) [
            | inl e ↦ let e2 = here n (rw e at h) in let le2 : wide_need t n ≤ max next places = omega arith in rw e le2
            | inr not_t ↦ let le2 = old.others j n (apart j j_in not_t) other h in omega arith
          ];
          highest_is = elim old.highest_is [
            | inl e ↦ inl e
            | inr s ↦ inr (s.0, (let lt2 = s.1 in omega arith), s.2, s.3)
          ];
          next_is = elim old.highest_is [
            | inl e ↦ inl (omega arith)
            | inr s ↦ elim (cases_lt next places) [
              | inl lt ↦ let lt2 = s.1 in inr (t, bits, omega arith, (λ e. omega arith), need, (let e = is in omega arith))
              | inr ge ↦ elim old.next_is [
                | inl e ↦ inl (omega arith)
                | inr n ↦ inr (n.0, n.1, (let lt2 = n.2 in omega arith), n.3, n.4, (let e = n.5 in omega arith))
              ]
            ]
          ];
        }

-- ---- floors

module _ (d : ℕ) (b : Corners) (c : List ℕ) (box : IsBox d b) (is_c : IsPoint d c) where
  need_at : (j : ℕ) → j < length c → (n : ℕ) × NeedsBits b c j n
  need_at j hj =
      let long = is_c.0 in let long_lo = box.lo.0 in let long_hi = box.hi.0 in
      need_exists _ _ _ (box.ordered.1 j (omega arith)) (All-get_or (λ (x : ℕ). x < 2 ^ 32) b.hi j 0 (omega arith) box.hi.1) (All-get_or (λ (x : ℕ). x < 2 ^ 32) c j 0 hj is_c.1)

  -- so many wide places, of some dimensions, below those of a bit
  pub floor_is : (i highest dimension next n : ℕ) → i < d → AreNeeds b c (length c) highest dimension next
      → (dimension ≡ i → n ≡ (next + i) / 4) → ((dimension ≡ i → ⊥) → n ≡ (highest + i) / 4) → IsFloor b c i n
  floor_is i highest dimension next n hi needs own other k = elim (cases_eq dimension i) [
    | inl e ↦ let is = own e in (
      λ le j hj j_other. let (m, need) = need_at j hj in
          let most = needs.others j m hj (λ s. j_other (s ∙ e)) need in
          (need (free_below i k j)).0 (omega arith),
      λ met. elim needs.next_is [
        | inl zero_next ↦ omega arith
        | inr s ↦ let (j, m, hj, j_other, need, at) = s in
            let le : m ≤ free_below i k j = (need (free_below i k j)).1 (met j hj (λ same. j_other (same ∙ sym e))) in
            omega arith
      ],
    )
    | inr not_own ↦ let is = other not_own in (
      λ le j hj j_other. let (m, need) = need_at j hj in
          let most = needs.all j m hj need in
          (need (free_below i k j)).0 (omega arith),
      λ met. elim needs.highest_is [
        | inl zero_highest ↦ omega arith
        | inr s ↦ let (m, hj, need, at) = s in
            let le : m ≤ free_below i k dimension = (need (free_below i k dimension)).1 (met dimension hj not_own) in
            omega arith
      ],
    )
  ]
    where
      within : d ≤ 4
      within = box.within

  -- the box holds the point just where no dimension needs a free bit
  pub inside_needs : (highest dimension next : ℕ) → AreNeeds b c (length c) highest dimension next → highest ≡ 0 → IsInside b c
  inside_needs highest dimension next needs none =
      let long = is_c.0 in let long_lo = box.lo.0 in let long_hi = box.hi.0 in
      let within = box.within in (
        (omega arith, λ j hj. (inside_at j (omega arith)).0),
        (omega arith, λ j hj. (inside_at j (omega arith)).1),
      )
    where
      inside_at : (j : ℕ) → j < length c → (slice_index b.lo j ≤ slice_index c j) × (slice_index c j ≤ slice_index b.hi j)
      inside_at j hj =
          let (m, need) = need_at j hj in
          let most = needs.all j m hj need in
          let long = is_c.0 in let within = box.within in
          let met = (need 0).0 (omega arith) in
          let (from, to) = met in (omega arith, omega arith)

  pub outside_needs : (highest dimension next : ℕ) → AreNeeds b c (length c) highest dimension next → (highest ≡ 0 → ⊥) → IsInside b c → ⊥
  outside_needs highest dimension next needs some (from, to) = elim needs.highest_is [
    | inl e ↦ some e
    | inr s ↦ let (m, hj, need, at) = s in
        let long = is_c.0 in let long_lo = box.lo.0 in
        let a = from.1 dimension (omega arith) in let b2 = to.1 dimension hj in
        let le : m ≤ 0 = (need 0).1 (omega arith, omega arith) in
        some (omega arith)
  ]

-- ---- the lowest jump

pub own_jump : (b : Corners) (c : List ℕ) (i floor v k : ℕ) → IsFloor b c i floor → IsOwnJump (slice_index b.lo i) (slice_index b.hi i) (slice_index c i) floor v k ↔ IsJump b c v i k
own_jump b c i floor v k is = (
  λ h. let (within, bit, from, met) = h in (within, bit, (met, (is k).0 from)),
  λ h. let (within, bit, both) = h in (within, bit, (is k).1 both.1, both.0),
)

abbrev pub IsBest : Corners → List ℕ → ℕ → ℕ → Option Jump → Type 0
IsBest b c v t best = MatchOption best (HasNoJump b c v t) (λ j. IsLowestJump b c v t j.dimension j.bit)

module _ (b : Corners) (c : List ℕ) (v t floor : ℕ) (is : IsFloor b c t floor) (t_in : t < 4) where
  abbrev Found : Option ℕ → Type 0
  Found found = Least (IsOwnJump (slice_index b.lo t) (slice_index b.hi t) (slice_index c t) floor v) found

  apart : (i : ℕ) → i < t + 1 → (i ≡ t → ⊥) → i < t
  apart i lt other = omega arith

  -- a jump of one dimension more
  either : (P : ℕ → ℕ → Type 0) → ((i k : ℕ) → i < t → IsJump b c v i k → P i k) → ((k : ℕ) → IsJump b c v t k → P t k) → (i k : ℕ) → i < t + 1 → IsJump b c v i k → P i k
  either P before here i k lt jump = elim (cases_eq i t) [
    | inl e ↦ rw e (here k (rw e at jump))
    | inr other ↦ before i k (apart i lt other) jump
  ]

  best_kept : (best : Option Jump) → Found None → IsBest b c v t best → IsBest b c v (t + 1) best
  best_kept None none old = either (λ i k. ⊥) old (λ k jump. none k ((own_jump b c t floor v k is).1 jump))
  best_kept (Some j) none (hi, jump, lowest) = (omega arith, jump, either (λ i k. wide_place j.dimension j.bit ≤ wide_place i k) lowest (λ k other. absurd (none k ((own_jump b c t floor v k is).1 other))))

  best_here : (best : Option Jump) (k : ℕ) → Found (Some k) → (bound : (i k2 : ℕ) → i < t → IsJump b c v i k2 → wide_place t k ≤ wide_place i k2) → IsLowestJump b c v (t + 1) t k
  best_here best k (own, least) bound = (
    omega arith,
    (own_jump b c t floor v k is).0 own,
    either (λ i k2. wide_place t k ≤ wide_place i k2) bound (λ k2 jump. let le = least k2 ((own_jump b c t floor v k2 is).1 jump) in omega arith),
  )

  pub best_next : (best : Option Jump) (found : Option ℕ) (lower : Option Jump) → Found found → IsLower best t found lower → IsBest b c v t best → IsBest b c v (t + 1) lower
  best_next best None lower none is_lower old = rw is_lower (best_kept best none old)
  best_next None (Some k) lower some is_lower old = rw is_lower (best_here None k some (λ i k2 lt jump. absurd (old i k2 lt jump)))
  best_next (Some j) (Some k) lower some is_lower (hi, jump, lowest) = elim (cases_lt j.bit k) [
    | inl lt ↦ rw (is_lower.0 lt) (omega arith, jump, either (λ i k2. wide_place j.dimension j.bit ≤ wide_place i k2) lowest (λ k2 other. let le = some.1 k2 ((own_jump b c t floor v k2 is).1 other) in omega arith))
    | inr le ↦ rw (is_lower.1 le) (best_here (Some j) k some (λ i k2 i_in other. let low = lowest i k2 i_in other in omega arith))
  ]

-- ---- the nearest point

-- the first t of four places hold the coordinates of the nearest point
pub record IsLanded (b : Corners) (c : List ℕ) (i k v : ℕ) (places : List ℕ) (t : ℕ) : Type 0 where
  pub four : length places ≡ 4
  pub at : (j : ℕ) → j < t → IsNearestAt b c i k v j (get_or places j 0)

pub landed_next : (b : Corners) (c : List ℕ) (i k v : ℕ) (places : List ℕ) (t x : ℕ) → t < 4 → IsNearestAt b c i k v t x → IsLanded b c i k v places t → IsLanded b c i k v (set places t x) (t + 1)
landed_next b c i k v places t x t_in here old =
    let four = old.four in record {
      four = length-set places t x ∙ four;
      at = λ j lt. elim (cases_eq j t) [
        | inl e ↦ let same : get_or (set places t x) t 0 ≡ x = get_or-set_same places t x 0 (omega arith) in
            rw e (rw same here)
        | inr other ↦ let there : get_or (set places t x) j 0 ≡ get_or places j 0 = get_or-set_other places t j x 0 other in
            rw there (old.at j (apart j lt other))
      ];
    }
  where
    apart : (j : ℕ) → j < t + 1 → (j ≡ t → ⊥) → j < t
    apart j lt other = omega arith

pub landed_point : (b : Corners) (c : List ℕ) (i k v : ℕ) (places : List ℕ) (n : ℕ) → n ≡ length c → n ≤ 4 → IsLanded b c i k v places n → IsNearestPoint b c i k v (take n places)
landed_point b c i k v places n is small h =
    let four = h.four in
    let long : length (take n places) ≡ n = length-take-le n places (omega arith) in
    (long ∙ is, λ j hj. let at : get_or (take n places) j 0 ≡ get_or places j 0 = get_or-take n places j 0 (omega arith) in rw at (h.at j (omega arith)))

-- a coordinate of the nearest point, by its prefix
pub nearest_at : (b : Corners) (c : List ℕ) (i k v j x free r : ℕ) → IsJump b c v i k → j < length c
    → (j ≡ i → (x ≡ prefix (slice_index c j) k v) × (free ≡ k)) → ((j ≡ i → ⊥) → (x ≡ slice_index c j / 2 ^ free) × (free ≡ free_below i k j))
    → r ≡ nearest_with (slice_index b.lo j) (slice_index b.hi j) x free v → IsNearestAt b c i k v j r
nearest_at b c i k v j x free r jump hj own other is = elim (cases_eq j i) [
  | inl e ↦ let (ex, ef) = own e in inl (e, is ∙ ap (λ (y : ℕ). nearest_with (slice_index b.lo j) (slice_index b.hi j) y free v) ex ∙ ap (λ (f : ℕ). nearest_with (slice_index b.lo j) (slice_index b.hi j) (prefix (slice_index c j) k v) f v) ef)
  | inr o ↦ let (ex, ef) = other o in inr (o, is ∙ ap (λ (y : ℕ). nearest_with (slice_index b.lo j) (slice_index b.hi j) y free v) ex ∙ ap (λ (f : ℕ). nearest_with (slice_index b.lo j) (slice_index b.hi j) (slice_index c j / 2 ^ f) f v) ef)
]
