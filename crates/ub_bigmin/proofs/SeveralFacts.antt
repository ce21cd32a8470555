-- The least and the greatest over one box more.
use Rattle.std.proofs.Common.{◌≡◌, ◌≤◌, ◌<◌, ◌+◌, ℕ, zero, suc, List, [], ◌∷◌, ◌++◌, length, take, get_or, min, max, Option, Some, None, ◌↔◌, refl, sym, ap, ◌∙◌, subst, arith, ◌⊎◌, inl, inr}
use Rattle.std.specs.Prelude.{Contains}
use Rattle.std.specs.Option.{option_map_or}
use Rattle.std.proofs.lemmas.Bool.{cases_lt}
use Rattle.std.proofs.lemmas.List.{take_more}
use Rattle.std.proofs.lemmas.List.Elements.{Contains-append_left, Contains-append_right, Contains-append_cases}
use Rattle.ub_bigmin.specs.Box.{Corners, Holds, HoldsAny, IsValueInSpan}
use Rattle.ub_bigmin.specs.Extremes.{LeastFrom, Least, Greatest}
use Rattle.ub_bigmin.proofs.EventFacts.{one_contains, contains_one}

pub no_boxes : {b : Corners} → Contains [] b → ⊥
no_boxes {b} h = let lt = h.1 in omega arith

pub take_whole : (n : ℕ) (boxes : List Corners) → length boxes ≤ n → take n boxes ≡ boxes
take_whole zero [] h = refl
take_whole zero (b ∷ boxes) h = absurd (omega arith)
take_whole (suc n) [] h = refl
take_whole (suc n) (b ∷ boxes) h = ap (λ (rest : List Corners). b ∷ rest) (take_whole n boxes (omega arith))

-- the least of two sets is the lesser of their least
least_none : (P Q R : ℕ → Type 0) (o : Option ℕ) → ((n : ℕ) → R n ↔ (P n ⊎ Q n)) → Least P o → Least Q None → Least R o
least_none P Q R None is p q = λ m r. elim ((is m).0 r) [ inl x ↦ p m x | inr y ↦ q m y ]
least_none P Q R (Some n) is p q = ((is n).1 (inl p.0), λ m r. elim ((is m).0 r) [ inl x ↦ p.1 m x | inr y ↦ absurd (q m y) ])

least_some : (P Q R : ℕ → Type 0) (o : Option ℕ) (n : ℕ) → ((m : ℕ) → R m ↔ (P m ⊎ Q m)) → Least P o → Least Q (Some n)
    → Least R (Some (option_map_or (λ other. min other n) o n))
least_some P Q R None n is p q = ((is n).1 (inr q.0), λ m r. elim ((is m).0 r) [ inl x ↦ absurd (p m x) | inr y ↦ q.1 m y ])
least_some P Q R (Some k) n is p q = elim (cases_lt n k) [
  | inl lt ↦
      let e : min k n ≡ n = omega arith in
      rw e ((is n).1 (inr q.0), λ m r. elim ((is m).0 r) [ inl x ↦ (let far = p.1 m x in omega arith) | inr y ↦ q.1 m y ])
  | inr le ↦
      let e : min k n ≡ k = omega arith in
      rw e ((is k).1 (inl p.0), λ m r. elim ((is m).0 r) [ inl x ↦ p.1 m x | inr y ↦ (let far = q.1 m y in omega arith) ])
]

greatest_none : (P Q R : ℕ → Type 0) (o : Option ℕ) → ((n : ℕ) → R n ↔ (P n ⊎ Q n)) → Greatest P o → Greatest Q None → Greatest R o
greatest_none P Q R None is p q = λ m r. elim ((is m).0 r) [ inl x ↦ p m x | inr y ↦ q m y ]
greatest_none P Q R (Some n) is p q = ((is n).1 (inl p.0), λ m r. elim ((is m).0 r) [ inl x ↦ p.1 m x | inr y ↦ absurd (q m y) ])

greatest_some : (P Q R : ℕ → Type 0) (o : Option ℕ) (n : ℕ) → ((m : ℕ) → R m ↔ (P m ⊎ Q m)) → Greatest P o → Greatest Q (Some n)
    → Greatest R (Some (option_map_or (λ other. max other n) o n))
greatest_some P Q R None n is p q = ((is n).1 (inr q.0), λ m r. elim ((is m).0 r) [ inl x ↦ absurd (p m x) | inr y ↦ q.1 m y ])
greatest_some P Q R (Some k) n is p q = elim (cases_lt n k) [
  | inl lt ↦
      let e : max k n ≡ k = omega arith in
      rw e ((is k).1 (inl p.0), λ m r. elim ((is m).0 r) [ inl x ↦ p.1 m x | inr y ↦ (let far = q.1 m y in omega arith) ])
  | inr le ↦
      let e : max k n ≡ n = omega arith in
      rw e ((is n).1 (inr q.0), λ m r. elim ((is m).0 r) [ inl x ↦ (let far = p.1 m x in omega arith) | inr y ↦ q.1 m y ])
]

-- the least from z is the least of the members from z
abbrev pub From : (ℕ → Type 0) → ℕ → ℕ → Type 0
From P z n = P n × (z ≤ n)

pub least_of_from : (P : ℕ → Type 0) (z : ℕ) (o : Option ℕ) → LeastFrom P z o → Least (From P z) o
least_of_from P z None h = λ m i. let lt = h m i.0 in let le = i.1 in omega arith
least_of_from P z (Some n) h = ((h.0, h.1), λ m i. h.2 m i.0 i.1)

pub from_of_least : (P : ℕ → Type 0) (z : ℕ) (o : Option ℕ) → Least (From P z) o → LeastFrom P z o
from_of_least P z None h = λ m i. elim (cases_lt m z) [ inl lt ↦ lt | inr le ↦ absurd (h m (i, le)) ]
from_of_least P z (Some n) h = (h.0.0, h.0.1, λ m i le. h.1 m (i, le))

-- one box more
module _ (boxes : List Corners) (i : ℕ) (b : Corners) (room : i < length boxes) (is : b ≡ get_or boxes i b) where
  front : take (i + 1) boxes ≡ take i boxes ++ b ∷ []
  front = take_more boxes i b room ∙ ap (λ (x : Corners). take i boxes ++ x ∷ []) (sym is)

  contains_more : (x : Corners) → Contains (take (i + 1) boxes) x ↔ (Contains (take i boxes) x ⊎ Contains (b ∷ []) x)
  contains_more x = rw front (
    Contains-append_cases (take i boxes) (b ∷ []) x,
    λ s. elim s [
      | inl old ↦ Contains-append_left (take i boxes) (b ∷ []) x old
      | inr new ↦ Contains-append_right (take i boxes) (b ∷ []) x new
    ],
  )

  holds_more : (z n : ℕ) → From (HoldsAny (take (i + 1) boxes)) z n ↔ (From (HoldsAny (take i boxes)) z n ⊎ From (Holds b) z n)
  holds_more z n = (to, back)
    where
      to : From (HoldsAny (take (i + 1) boxes)) z n → From (HoldsAny (take i boxes)) z n ⊎ From (Holds b) z n
      to ((x, in_list, holds), le) = elim ((contains_more x).0 in_list) [
        | inl old ↦ inl ((x, old, holds), le)
        | inr new ↦ inr (subst (λ (y : Corners). Holds y n) (sym (one_contains b x new)) holds, le)
      ]

      back : From (HoldsAny (take i boxes)) z n ⊎ From (Holds b) z n → From (HoldsAny (take (i + 1) boxes)) z n
      back (inl ((x, old, holds), le)) = ((x, (contains_more x).1 (inl old), holds), le)
      back (inr (holds, le)) = ((b, (contains_more b).1 (inr (contains_one b)), holds), le)

  value_more : (from to dim v : ℕ) → IsValueInSpan (take (i + 1) boxes) from to dim v ↔ (IsValueInSpan (take i boxes) from to dim v ⊎ IsValueInSpan (b ∷ []) from to dim v)
  value_more from to dim v = (there, back)
    where
      there : IsValueInSpan (take (i + 1) boxes) from to dim v → IsValueInSpan (take i boxes) from to dim v ⊎ IsValueInSpan (b ∷ []) from to dim v
      there (x, p, in_list, inside, start, end, is) = elim ((contains_more x).0 in_list) [
        | inl old ↦ inl (x, p, old, inside, start, end, is)
        | inr new ↦ inr (x, p, new, inside, start, end, is)
      ]

      back : IsValueInSpan (take i boxes) from to dim v ⊎ IsValueInSpan (b ∷ []) from to dim v → IsValueInSpan (take (i + 1) boxes) from to dim v
      back (inl (x, p, old, inside, start, end, is)) = (x, p, (contains_more x).1 (inl old), inside, start, end, is)
      back (inr (x, p, new, inside, start, end, is)) = (x, p, (contains_more x).1 (inr new), inside, start, end, is)

  pub next_skips : (z : ℕ) (o : Option ℕ) → LeastFrom (HoldsAny (take i boxes)) z o → LeastFrom (Holds b) z None → LeastFrom (HoldsAny (take (i + 1) boxes)) z o
  next_skips z o p q = from_of_least (HoldsAny (take (i + 1) boxes)) z o (least_none _ _ (From (HoldsAny (take (i + 1) boxes)) z) o (holds_more z) (least_of_from _ z o p) (least_of_from _ z None q))

  pub next_more : (z : ℕ) (o : Option ℕ) (n : ℕ) → LeastFrom (HoldsAny (take i boxes)) z o → LeastFrom (Holds b) z (Some n)
      → LeastFrom (HoldsAny (take (i + 1) boxes)) z (Some (option_map_or (λ other. min other n) o n))
  next_more z o n p q = from_of_least (HoldsAny (take (i + 1) boxes)) z (Some (option_map_or (λ other. min other n) o n)) (least_some _ _ (From (HoldsAny (take (i + 1) boxes)) z) o n (holds_more z) (least_of_from _ z o p) (least_of_from _ z (Some n) q))

  module _ (from to dim : ℕ) (o : Option ℕ) where
    pub least_skips : Least (IsValueInSpan (take i boxes) from to dim) o → Least (IsValueInSpan (b ∷ []) from to dim) None → Least (IsValueInSpan (take (i + 1) boxes) from to dim) o
    least_skips p q = least_none _ _ _ o (value_more from to dim) p q

    pub least_more : (n : ℕ) → Least (IsValueInSpan (take i boxes) from to dim) o → Least (IsValueInSpan (b ∷ []) from to dim) (Some n)
        → Least (IsValueInSpan (take (i + 1) boxes) from to dim) (Some (option_map_or (λ other. min other n) o n))
    least_more n p q = least_some _ _ _ o n (value_more from to dim) p q

    pub greatest_skips : Greatest (IsValueInSpan (take i boxes) from to dim) o → Greatest (IsValueInSpan (b ∷ []) from to dim) None → Greatest (IsValueInSpan (take (i + 1) boxes) from to dim) o
    greatest_skips p q = greatest_none _ _ _ o (value_more from to dim) p q

    pub greatest_more : (n : ℕ) → Greatest (IsValueInSpan (take i boxes) from to dim) o → Greatest (IsValueInSpan (b ∷ []) from to dim) (Some n)
        → Greatest (IsValueInSpan (take (i + 1) boxes) from to dim) (Some (option_map_or (λ other. max other n) o n))
    greatest_more n p q = greatest_some _ _ _ o n (value_more from to dim) p q
