-- Answers, each the first one later than the answer before it, are the elements that have the property asked for.
use Rattle.std.proofs.Common.{◌≡◌, ◌<◌, ◌≤◌, ◌+◌, ◌-◌, ◌↔◌, inl, inr, ℕ, zero, suc, List, [], ◌∷◌, Option, Some, None, length, drop, sym, ap, refl, arith, subst, slice_get, ◌∙◌}
use Rattle.ub_tree.proofs.Common.{AreAnswers, AreThose, cases_eq, cases_lt, Corners, First, GivesNext, IsBefore, IsLater, Meets, not_before_self}
use Rattle.ub_tree.proofs.Common.{not_both_before, Region, spans_of, TreeView}
use Rattle.ub_tree.proofs.MeetFacts.{contained_at, contains_at}

module _ {X : Type 0} where
  pub drop_get : (n i : ℕ) (xs : List X) → slice_get (drop n xs) i ≡ slice_get xs (n + i)
  drop_get zero i xs = let same : i ≡ 0 + i = omega arith in ap (slice_get xs) same
  drop_get (suc n) i [] = refl
  drop_get (suc n) i (x ∷ xs) = let same : suc (n + i) ≡ suc n + i = omega arith in drop_get n i xs ∙ ap (slice_get (x ∷ xs)) same

  module _ (P : X → Type 0) where
    -- where none has the property
    those_none : (xs : List X) → ((i : ℕ) (x : X) → slice_get xs i ≡ Some x → ¬ (P x)) → AreThose P xs []
    those_none [] never = refl
    those_none (x ∷ xs) never = inr (never 0 x refl, those_none xs (λ i y at. never (suc i) y at))

    -- there are no more than elements
    pub those_few : (xs those : List X) → AreThose P xs those → length those ≤ length xs
    those_few [] those are = let long = ap length are in omega arith
    those_few (x ∷ xs) those (inl (p, rest, is, more)) = let few = those_few xs rest more in let long = ap length is in omega arith
    those_few (x ∷ xs) those (inr are) = let few = those_few xs those are.1 in omega arith

    -- where the first that has it stands at an index
    those_first : (xs : List X) (n : ℕ) (found : X) (more : List X) → slice_get xs n ≡ Some found → P found
        → ((m : ℕ) (x : X) → m < n → slice_get xs m ≡ Some x → ¬ (P x)) → AreThose P (drop (suc n) xs) more → AreThose P xs (found ∷ more)
    those_first [] n found more at has before rest = cc
    those_first (x ∷ xs) zero found more at has before rest =
        let same : found ≡ x = cc in
        inl (subst P same has, more, ap (λ (y : X). y ∷ more) same, rest)
    those_first (x ∷ xs) (suc n) found more at has before rest =
        inr (before 0 x (omega arith) refl, those_first xs n found more at has (λ m y lt at_m. before (suc m) y (omega arith) at_m) rest)

-- of a tree that gives the first later region that meets the boxes, and whose first keys ascend
module _ (boxes : List Corners) (t : TreeView) (firsts : (after found : Option Region) → GivesNext boxes t after found → First (λ r. IsLater after r × Meets boxes r) (spans_of t) found)
    (up : (i j : ℕ) (a b : Region) → i < j → slice_get (spans_of t) i ≡ Some a → slice_get (spans_of t) j ≡ Some b → IsBefore a.first b.first) where
  -- later than the one at an index are those from the next index on
  later_from : (k i : ℕ) (a r : Region) → slice_get (spans_of t) k ≡ Some a → slice_get (spans_of t) i ≡ Some r → IsBefore a.first r.first ↔ (suc k ≤ i)
  later_from k i a r at_k at_i = (to, λ after. up k i a r (omega arith) at_k at_i)
    where
      to : IsBefore a.first r.first → suc k ≤ i
      to before = elim (cases_lt k i) [
        | inl lt ↦ omega arith
        | inr ge ↦ elim (cases_eq i k) [
          | inl e ↦
              let again : slice_get (spans_of t) k ≡ Some r = ap (slice_get (spans_of t)) (sym e) ∙ at_i in
              let same : a ≡ r = cc in
              absurd (not_before_self a.first (subst (λ (s : Region). IsBefore a.first s.first) (sym same) before))
          | inr ne ↦ absurd (not_both_before a.first r.first before (up i k r a (omega arith) at_i at_k))
        ]
      ]

  answered : (answers : List Region) (after : Option Region) (index : ℕ) → ((i : ℕ) (r : Region) → slice_get (spans_of t) i ≡ Some r → IsLater after r ↔ (index ≤ i))
      → AreAnswers boxes t after answers → AreThose (Meets boxes) (drop index (spans_of t)) answers
  answered [] after index later gives = those_none (Meets boxes) (drop index (spans_of t)) (λ i r at has.
      let at_i : slice_get (spans_of t) (index + i) ≡ Some r = sym (drop_get index i (spans_of t)) ∙ at in
      firsts after None gives r (contains_at (spans_of t) (index + i) r at_i) ((later (index + i) r at_i).1 (omega arith), has))
  answered (found ∷ more) after index later (gives, rest) =
      let first = firsts after (Some found) gives in
      let k : ℕ = first.0.0 in
      let at_k : slice_get (spans_of t) k ≡ Some found = contained_at (spans_of t) found first.0 in
      let from : index ≤ k = (later k found at_k).0 first.1.0 in
      let again : index + (k - index) ≡ k = omega arith in
      let there : slice_get (drop index (spans_of t)) (k - index) ≡ Some found = drop_get index (k - index) (spans_of t) ∙ ap (slice_get (spans_of t)) again ∙ at_k in
      those_first (Meets boxes) (drop index (spans_of t)) (k - index) found more there first.1.1
      (λ m r lt at has.
      let at_m : slice_get (spans_of t) (index + m) ≡ Some r = sym (drop_get index m (spans_of t)) ∙ at in
      first.2 r (contains_at (spans_of t) (index + m) r at_m) ((later (index + m) r at_m).1 (omega arith), has) (up (index + m) k r found (omega arith) at_m at_k))
      (subst (λ (xs : List Region). AreThose (Meets boxes) xs more) (dropped index (k - index) k (spans_of t) (sym again)) (answered more (Some found) (suc k) (λ i r at. later_from k i found r at_k at) rest))
    where
      dropped : (n m k : ℕ) (xs : List Region) → k ≡ n + m → drop (suc k) xs ≡ drop (suc m) (drop n xs)
      dropped zero m k xs is = let same : k ≡ m = omega arith in ap (λ (j : ℕ). drop (suc j) xs) same
      dropped (suc n) m zero xs is = absurd (omega arith)
      dropped (suc n) m (suc k) [] is = refl
      dropped (suc n) m (suc k) (x ∷ xs) is = dropped n m k xs (omega arith)

  pub answers_are_those : (answers : List Region) → AreAnswers boxes t None answers → AreThose (Meets boxes) (spans_of t) answers
  answers_are_those answers are = answered answers None 0 (λ i r at. (λ _. omega arith, λ _. tt)) are
