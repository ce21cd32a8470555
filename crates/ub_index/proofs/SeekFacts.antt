-- Searches among the regions in order.
use Rattle.std.proofs.Common.{rules, ◌≡◌, ◌<◌, ◌≤◌, drop, inl, inr, ℕ, zero, suc, max, true, false, List, [], ◌∷◌, Option, Some, None, length, ◌↔◌, ◌∙◌, sym, ap, refl, arith, slice_get, subst, nat_le, if◌then◌else◌}
use Rattle.ub_index.proofs.Common.{address_before, All, and_parts, are_ascending, ascending_get, before_from, before_of, before_parts, cases_Bool, cases_eq}
use Rattle.ub_index.proofs.Common.{cases_lt, Contains, Corners, Entry, First, first_keys, get_or_from_slice_get, HoldsAny, index_holding, IsBefore, IsLater}
use Rattle.ub_index.proofs.Common.{Key, le-leb, LeastFrom, lt-leb, Meets, not_before_self, not_both_before, origin, precedes, precedes_trans, Region}
use Rattle.ub_index.proofs.Common.{regions_of, slice_get_cases, slice_get_read, slice_get_within, span_end}
use Rattle.ub_index.proofs.IndexFacts.{first_at}
use Rattle.ub_index.proofs.SpanFacts.{region_with}

-- the key of an address that none is before
abbrev lowest : ℕ → Key
lowest z = record { z = z; number = 0 }

-- a region in the list is that of the entry there
region_entry : (last : ℕ) (entries : List Entry) (i : ℕ) (r : Region) → slice_get (regions_of last entries) i ≡ Some r
    → (entry : Entry) × (slice_get entries i ≡ Some entry) × (r ≡ region_with (span_end last (first_keys (drop (suc i) entries))) (slice_get (first_keys entries) (suc i)) entry)
region_entry last [] i r at = cc
region_entry last (e ∷ entries) zero r at = (e, refl, cc)
region_entry last (e ∷ entries) (suc i) r at = region_entry last entries i r at

pub region_first : (last : ℕ) (entries : List Entry) (i : ℕ) (r : Region) → slice_get (regions_of last entries) i ≡ Some r → slice_get (first_keys entries) i ≡ Some r.first
region_first last entries i r at =
    let there = region_entry last entries i r at in
    first_at entries i there.0 there.1 ∙ ap (λ (q : Region). Some q.first) (sym there.2)

starts_at : (last : ℕ) (entries : List Entry) (i : ℕ) (r : Region) → slice_get (regions_of last entries) i ≡ Some r → r.from ≡ r.first.z
starts_at last entries i r at = subst (λ (q : Region). q.from ≡ q.first.z) (sym (region_entry last entries i r at).2) refl

ends_from : (z : ℕ) (first next : Key) → precedes first next ≡ true → (z ≤ address_before next.z next.number) ↔ (precedes (lowest z) next ≡ true)
ends_from z first next up = search (rules, before_parts, before_of, before_from)

index_zero : (key first : Key) (firsts : List Key) → are_ascending (first ∷ firsts) ≡ true → precedes key first ≡ true → index_holding key (first ∷ firsts) ≡ 0
index_zero key first [] up t = refl
index_zero key first (next ∷ firsts) up t = rw (precedes_trans key first next t (and_parts _ _ up).0) refl

-- a span ends at an address or later exactly from the region on that holds the least key of the address
reaches : (last z : ℕ) (entries : List Entry) → are_ascending (first_keys entries) ≡ true → z ≤ last → (i : ℕ) (r : Region) → slice_get (regions_of last entries) i ≡ Some r
    → (z ≤ r.to) ↔ (index_holding (lowest z) (first_keys entries) ≤ i)
reaches last z (e ∷ []) up le zero r at = let end : r.to ≡ last = ap (λ (q : Region). q.to) (region_entry last (e ∷ []) zero r at).2 in (λ x. omega arith, λ x. omega arith)
reaches last z (e ∷ next ∷ entries) up le zero r at =
    let end : r.to ≡ address_before next.first.z next.first.number = ap (λ (q : Region). q.to) (region_entry last (e ∷ next ∷ entries) zero r at).2 in
    let is = ends_from z e.first next.first (and_parts _ _ up).0 in
    elim (cases_Bool (precedes (lowest z) next.first)) [
      | inl t ↦ let far = is.1 t in rw t (λ x. omega arith, λ x. omega arith)
      | inr f ↦ rw f (λ x. absurd (let t = is.0 (omega arith) in cc), λ x. absurd (omega arith))
    ]
reaches last z (e ∷ next ∷ entries) up le (suc i) r at =
    let both : (precedes e.first next.first ≡ true) × (are_ascending (first_keys (next ∷ entries)) ≡ true) = and_parts _ _ up in
    let rest_up = both.1 in
    let more : (z ≤ r.to) ↔ (index_holding (lowest z) (first_keys (next ∷ entries)) ≤ i) = reaches last z (next ∷ entries) rest_up le i r at in
    elim (cases_Bool (precedes (lowest z) next.first)) [
      | inl t ↦
          let none : index_holding (lowest z) (first_keys (next ∷ entries)) ≡ 0 = index_zero (lowest z) next.first (first_keys entries) rest_up t in
          let far : z ≤ r.to = more.1 (omega (arith, none)) in
          rw t (λ x. omega arith, λ x. far)
      | inr f ↦ rw f (λ x. let n = more.0 x in omega arith, λ x. more.1 (omega arith))
    ]
reaches last z entries up le i r at = cc

-- the region that holds the least key of an address begins at that address or before
begins_by : (z : ℕ) (first : Key) (firsts : List Key) (i : ℕ) (found : Key) → first.z ≤ z → index_holding (lowest z) (first ∷ firsts) ≡ i
    → slice_get (first ∷ firsts) i ≡ Some found → found.z ≤ z
begins_by z first [] zero found le is at = let same : first ≡ found = cc in let e = ap (λ (k : Key). k.z) same in omega arith
begins_by z first [] (suc i) found le is at = cc
begins_by z first (next ∷ firsts) zero found le is at = let same : first ≡ found = cc in let e = ap (λ (k : Key). k.z) same in omega arith
begins_by z first (next ∷ firsts) (suc i) found le is at = elim (cases_Bool (precedes (lowest z) next)) [
  | inl t ↦ let none : 0 ≡ suc i = rw t at is in absurd (omega arith)
  | inr f ↦ let rest : suc (index_holding (lowest z) (next ∷ firsts)) ≡ suc i = rw f at is in
      begins_by z next firsts i found (below f) (omega arith) at
]
  where
    below : precedes (lowest z) next ≡ false → next.z ≤ z
    below f = elim (cases_lt z next.z) [
      | inl lt ↦ let t = before_from (lowest z) next (inl lt) in cc
      | inr ge ↦ ge
    ]

-- no span ends after the last address
ends_by_last : (last : ℕ) (entries : List Entry) → All (λ entry. entry.first.z ≤ last) entries → (i : ℕ) (r : Region) → slice_get (regions_of last entries) i ≡ Some r → r.to ≤ last
ends_by_last last (e ∷ []) within zero r at = let end : r.to ≡ last = ap (λ (q : Region). q.to) (region_entry last (e ∷ []) zero r at).2 in omega arith
ends_by_last last (e ∷ next ∷ entries) within zero r at =
    let end : r.to ≡ address_before next.first.z next.first.number = ap (λ (q : Region). q.to) (region_entry last (e ∷ next ∷ entries) zero r at).2 in
    let small : next.first.z ≤ last = within 1 next (omega arith) in
    let le = at_most next.first.z next.first.number in
    omega arith
  where
    at_most : (y n : ℕ) → address_before y n ≤ y
    at_most y zero = omega arith
    at_most y (suc n) = omega arith
ends_by_last last (e ∷ next ∷ entries) within (suc i) r at = ends_by_last last (next ∷ entries) (λ k d lt. within (suc k) d (omega arith)) i r at
ends_by_last last entries within i r at = cc

module _ (last : ℕ) (entries : List Entry) (up : are_ascending (first_keys entries) ≡ true) where
  contained : (r : Region) (found : Contains (regions_of last entries) r) → slice_get (regions_of last entries) found.0 ≡ Some r
  contained r found = slice_get_read (regions_of last entries) (length (regions_of last entries)) found.0 r refl found.1 (sym found.2)

  ordered : (i j : ℕ) (a b : Region) → i < j → slice_get (regions_of last entries) i ≡ Some a → slice_get (regions_of last entries) j ≡ Some b → IsBefore a.first b.first
  ordered i j a b lt at_i at_j = before_of a.first b.first (ascending_get (first_keys entries) up i j lt a.first b.first (region_first last entries i a at_i) (region_first last entries j b at_j))

  first_of : (P : Region → Type 0) (n : ℕ) → ((i : ℕ) (r : Region) → slice_get (regions_of last entries) i ≡ Some r → P r → n ≤ i)
      → ((r : Region) → slice_get (regions_of last entries) n ≡ Some r → P r) → First P (regions_of last entries) (slice_get (regions_of last entries) n)
  first_of P n least has = by_found (slice_get (regions_of last entries) n) refl
    where
      by_found : (o : Option Region) → slice_get (regions_of last entries) n ≡ o → First P (regions_of last entries) o
      by_found None at = λ r in_list p.
          let le = least in_list.0 r (contained r in_list) p in
          elim ((slice_get_cases (regions_of last entries) n).1) [
            | inl some ↦ let there = some.2 in cc
            | inr past ↦ let far = past.0 in let lt = in_list.1 in omega arith
          ]
      by_found (Some x) at = (
        (n, slice_get_within (regions_of last entries) n x at, get_or_from_slice_get (regions_of last entries) n x x at),
        has x at,
        λ other in_list p before.
            let le = least in_list.0 other (contained other in_list) p in
            elim (cases_eq n in_list.0) [
              | inl e ↦
                  let there : slice_get (regions_of last entries) n ≡ Some other = ap (slice_get (regions_of last entries)) e ∙ contained other in_list in
                  let same : x ≡ other = cc in
                  not_before_self x.first (subst (λ (q : Region). IsBefore q.first x.first) (sym same) before)
              | inr ne ↦ not_both_before x.first other.first (ordered n in_list.0 x other (omega arith) at (contained other in_list)) before
            ],
      )

  pub none_of : (P : Region → Type 0) → ((i : ℕ) (r : Region) → slice_get (regions_of last entries) i ≡ Some r → ¬ (P r)) → First P (regions_of last entries) None
  none_of P never = λ r in_list. never in_list.0 r (contained r in_list)

  module _ (within : All (λ entry. entry.first.z ≤ last) entries) (after : Option Region) (start : ℕ)
      (later : (i : ℕ) (r : Region) → slice_get (regions_of last entries) i ≡ Some r → IsLater after r ↔ (start ≤ i)) where
    abbrev found_at : ℕ → Option Region
    found_at z = if nat_le z last then slice_get (regions_of last entries) (max start (index_holding (lowest z) (first_keys entries))) else None

    pub seek_first : (z : ℕ) → First (λ r. IsLater after r × (z ≤ r.to)) (regions_of last entries) (found_at z)
    seek_first z = elim (cases_lt last z) [
      | inl lt ↦ rw (lt-leb z last lt) (none_of (λ r. IsLater after r × (z ≤ r.to)) (λ i r at p. let end = ends_by_last last entries within i r at in let far = p.1 in omega arith))
      | inr le ↦ rw (le-leb z last le) (first_of (λ r. IsLater after r × (z ≤ r.to)) _
          (λ i r at p. let a = (later i r at).0 p.0 in let b = (reaches last z entries up le i r at).0 p.1 in omega arith)
          (λ r at. ((later _ r at).1 (omega arith), (reaches last z entries up le _ r at).1 (omega arith))))
    ]

    module _ (boxes : List Corners) (entry : Entry) (at_start : slice_get entries start ≡ Some entry) where
      starts_here : (i : ℕ) (r : Region) → slice_get (regions_of last entries) i ≡ Some r → start ≡ i → r.from ≡ entry.first.z
      starts_here i r at e = search (rules, slice_get, first_at, region_first, starts_at)

      -- a later region does not begin before the first one that is
      begins_from : (i : ℕ) (r : Region) → slice_get (regions_of last entries) i ≡ Some r → start ≤ i → entry.first.z ≤ r.from
      begins_from i r at le = elim (cases_eq start i) [
        | inl e ↦ let same = starts_here i r at e in omega arith
        | inr ne ↦
            let before = ascending_get (first_keys entries) up start i (omega arith) entry.first r.first (first_at entries start entry at_start) (region_first last entries i r at) in
            let le = address_le entry.first r.first before in
            let start_of = starts_at last entries i r at in
            omega arith
      ]
        where
          address_le : (a b : Key) → IsBefore a b → a.z ≤ b.z
          address_le a b h = elim (before_parts a b h) [
            | inl lt ↦ omega arith
            | inr both ↦ let e = both.0 in omega arith
          ]

      pub no_address : LeastFrom (HoldsAny boxes) entry.first.z None → First (λ r. IsLater after r × Meets boxes r) (regions_of last entries) None
      no_address none = none_of (λ r. IsLater after r × Meets boxes r) (λ i r at p.
          let a = (later i r at).0 p.0 in
          let m = p.1 in
          let far = none m.0 m.1 in
          let from = begins_from i r at a in
          let le = m.2 in
          omega arith)

      pub next_meets : slice_get (first_keys entries) 0 ≡ Some origin → (z : ℕ) → LeastFrom (HoldsAny boxes) entry.first.z (Some z)
          → First (λ r. IsLater after r × Meets boxes r) (regions_of last entries) (found_at z)
      next_meets begins z least = elim (cases_lt last z) [
        | inl lt ↦ rw (lt-leb z last lt) (none_of (λ r. IsLater after r × Meets boxes r) (λ i r at p.
            let end = ends_by_last last entries within i r at in
            let near = reached i r at p in
            omega arith))
        | inr le ↦ rw (le-leb z last le) (first_of (λ r. IsLater after r × Meets boxes r) _
            (λ i r at p. let a = (later i r at).0 p.0 in let near = reached i r at p in let b = (reaches last z entries up le i r at).0 near in omega arith)
            (λ r at. ((later _ r at).1 (omega arith), (z, least.0, begun _ r at refl, (reaches last z entries up le _ r at).1 (omega arith)))))
      ]
        where
          -- a later region that meets the boxes ends at their least address or later
          reached : (i : ℕ) (r : Region) → slice_get (regions_of last entries) i ≡ Some r → IsLater after r × Meets boxes r → z ≤ r.to
          reached i r at p =
              let a = (later i r at).0 p.0 in
              let m = p.1 in
              let from = begins_from i r at a in
              let le : entry.first.z ≤ m.0 = (let start_of = m.2 in omega arith) in
              let near = least.2 m.0 m.1 le in
              let end = m.3 in
              omega arith

          from_origin : (firsts : List Key) (i : ℕ) (found : Key) → slice_get firsts 0 ≡ Some origin → index_holding (lowest z) firsts ≡ i → slice_get firsts i ≡ Some found → found.z ≤ z
          from_origin [] i found o is at = cc
          from_origin (first ∷ firsts) i found o is at =
              let same : first ≡ origin = cc in
              let none : first.z ≡ 0 = ap (λ (k : Key). k.z) same in
              begins_by z first firsts i found (omega arith) is at

          begun : (n : ℕ) (r : Region) → slice_get (regions_of last entries) n ≡ Some r → n ≡ max start (index_holding (lowest z) (first_keys entries)) → r.from ≤ z
          begun n r at is = elim (cases_eq start n) [
            | inl e ↦ let same = starts_here n r at e in let le = least.1 in omega arith
            | inr ne ↦
                let le = from_origin (first_keys entries) n r.first begins (omega arith) (region_first last entries n r at) in
                let start_of = starts_at last entries n r at in
                omega arith
          ]
