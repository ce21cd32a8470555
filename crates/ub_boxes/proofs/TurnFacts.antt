-- The cuts of a dimension are the coordinates that stand for the values at which a comparison on it turns.
use Rattle.std.proofs.Common.{◌≡◌, ◌<◌, ◌+◌, ◌==◌, ℕ, zero, suc, ℤ, List, [], ◌∷◌, length, get_or, slice_index_or, Option, Some, None, nat_lt, Contains, refl, sym, ap, arith, ◌∙◌, ◌⊎◌, inl, inr}
use Rattle.std.proofs.lemmas.Bool.{cases_Bool, eqb-true}
use Rattle.ub_boxes.proofs.CutFacts.{are_cuts}
use Rattle.ub_boxes.specs.Cuts.{cut_of, put, put_some, put_cuts, cuts, turns}
use Rattle.ub_boxes.specs.Laws.{CutsAreTheTurns}
use Rattle.ub_boxes.specs.inner.Sides.{AreCuts}
use Rattle.ub_table.specs.declared.schema.Schema.{Schema}

-- an element of a list
abbrev pub Member : {X : Type 0} → List X → X → Type 0
Member [] x = ⊥
Member (y ∷ ys) x = (y ≡ x) ⊎ Member ys x

module _ {X : Type 0} where
  pub member-contained : (xs : List X) (x : X) → Member xs x → Contains xs x
  member-contained [] x h = absurd h
  member-contained (y ∷ xs) x (inl e) = (0, omega arith, e)
  member-contained (y ∷ xs) x (inr h) = let k = member-contained xs x h in (suc k.0, (let lt = k.1 in omega arith), k.2)

  at-member : (xs : List X) (k : ℕ) (x : X) → k < length xs → slice_index_or xs k x ≡ x → Member xs x
  at-member [] k x lt e = absurd (omega arith)
  at-member (y ∷ xs) zero x lt e = inl e
  at-member (y ∷ xs) (suc k) x lt e = inr (at-member xs k x (omega arith) e)

  pub contained-member : (xs : List X) (x : X) → Contains xs x → Member xs x
  contained-member xs x h = at-member xs h.0 x h.1 h.2

put-there : (n k m : ℕ) (ms : List ℕ) → n ≡ k → (n ≡ m) ⊎ Member (k ∷ ms) m → Member (k ∷ ms) m
put-there n k m ms same (inl e) = inl (sym same ∙ e)
put-there n k m ms same (inr h) = h

put-behind : (n k m : ℕ) (ms : List ℕ) → ((n ≡ m) ⊎ Member ms m → Member (put n ms) m) → (n ≡ m) ⊎ Member (k ∷ ms) m → Member (k ∷ put n ms) m
put-behind n k m ms rest (inl e) = inr (rest (inl e))
put-behind n k m ms rest (inr (inl e)) = inl e
put-behind n k m ms rest (inr (inr h)) = inr (rest (inr h))

put-member : (n m : ℕ) (ms : List ℕ) → (n ≡ m) ⊎ Member ms m → Member (put n ms) m
put-member n m [] (inl e) = inl e
put-member n m [] (inr h) = absurd h
put-member n m (k ∷ ms) h = elim (cases_Bool (nat_lt n k)) [
  | inl t ↦ rw t h
  | inr f ↦ elim (cases_Bool (n == k)) [
    | inl e ↦ rw (f, e) (put-there n k m ms (eqb-true n k e) h)
    | inr d ↦ rw (f, d) (put-behind n k m ms (λ q. put-member n m ms q) h)
  ]
]

behind-put : (n k m : ℕ) (ms : List ℕ) → (Member (put n ms) m → (n ≡ m) ⊎ Member ms m) → Member (k ∷ put n ms) m → (n ≡ m) ⊎ Member (k ∷ ms) m
behind-put n k m ms rest (inl e) = inr (inl e)
behind-put n k m ms rest (inr r) = elim (rest r) [
  | inl e ↦ inl e
  | inr q ↦ inr (inr q)
]

member-put : (n m : ℕ) (ms : List ℕ) → Member (put n ms) m → (n ≡ m) ⊎ Member ms m
member-put n m [] h = h
member-put n m (k ∷ ms) h = elim (cases_Bool (nat_lt n k)) [
  | inl t ↦ rw t at h
  | inr f ↦ elim (cases_Bool (n == k)) [
    | inl e ↦ inr (rw (f, e) at h)
    | inr d ↦ behind-put n k m ms (λ q. member-put n m ms q) (rw (f, d) at h)
  ]
]

-- a value that is the cut
abbrev IsTurn : Schema → ℕ → List ℤ → ℕ → Type 0
IsTurn schema dim vs n = (v : ℤ) × Member vs v × (cut_of schema dim v ≡ Some n)

some-member : (o : Option ℕ) (n : ℕ) (ms : List ℕ) → (o ≡ Some n) ⊎ Member ms n → Member (put_some o ms) n
some-member None n ms (inl e) = cc
some-member None n ms (inr h) = h
some-member (Some k) n ms (inl e) = let same : k ≡ n = cc in put-member k n ms (inl same)
some-member (Some k) n ms (inr h) = put-member k n ms (inr h)

member-some : (o : Option ℕ) (n : ℕ) (ms : List ℕ) → Member (put_some o ms) n → (o ≡ Some n) ⊎ Member ms n
member-some None n ms h = inr h
member-some (Some k) n ms h = elim (member-put k n ms h) [
  | inl e ↦ inl (ap (λ (j : ℕ). Some j) e)
  | inr q ↦ inr q
]

turn-member : (schema : Schema) (dim : ℕ) (vs : List ℤ) (n : ℕ) (ms : List ℕ) → IsTurn schema dim vs n ⊎ Member ms n → Member (put_cuts schema dim vs ms) n
turn-member schema dim [] n ms (inl h) = absurd h.1
turn-member schema dim [] n ms (inr h) = h
turn-member schema dim (v ∷ vs) n ms (inl (w, inl e, is)) =
    turn-member schema dim vs n _ (inr (some-member (cut_of schema dim v) n ms (inl (ap (cut_of schema dim) e ∙ is))))
turn-member schema dim (v ∷ vs) n ms (inl (w, inr h, is)) = turn-member schema dim vs n _ (inl (w, h, is))
turn-member schema dim (v ∷ vs) n ms (inr h) = turn-member schema dim vs n _ (inr (some-member (cut_of schema dim v) n ms (inr h)))

member-turn : (schema : Schema) (dim : ℕ) (vs : List ℤ) (n : ℕ) (ms : List ℕ) → Member (put_cuts schema dim vs ms) n → IsTurn schema dim vs n ⊎ Member ms n
member-turn schema dim [] n ms h = inr h
member-turn schema dim (v ∷ vs) n ms h = elim (member-turn schema dim vs n (put_some (cut_of schema dim v) ms) h) [
  | inl t ↦ inl (t.0, inr t.1, t.2)
  | inr q ↦ elim (member-some (cut_of schema dim v) n ms q) [
    | inl is ↦ inl (v, inl refl, is)
    | inr r ↦ inr r
  ]
]

increasing : (low : ℕ) (ms : List ℕ) → AreCuts low ms → (k : ℕ) → k + 1 < length ms → get_or ms k 0 < get_or ms (k + 1) 0
increasing low [] h k lt = absurd (omega arith)
increasing low (m ∷ []) h k lt = absurd (omega arith)
increasing low (m ∷ n ∷ ms) h zero lt = h.2.0
increasing low (m ∷ n ∷ ms) h (suc k) lt =
    let e : suc k + 1 ≡ suc (k + 1) = omega arith in
    rw e (increasing m (n ∷ ms) h.2 k (omega arith))

pub cuts_are_the_turns : CutsAreTheTurns
cuts_are_the_turns schema c dim = (
  increasing 0 (cuts schema (Some c) dim) (are_cuts schema (Some c) dim),
  λ n. (
    (λ h. elim (member-turn schema dim (turns dim c) n [] (contained-member (cuts schema (Some c) dim) n h)) [
      | inl t ↦ (t.0, member-contained (turns dim c) t.0 t.1, t.2)
      | inr q ↦ absurd q
    ]),
    (λ h. member-contained (cuts schema (Some c) dim) n (turn-member schema dim (turns dim c) n [] (inl (h.0, contained-member (turns dim c) h.0 h.1, h.2)))),
  ),
)
