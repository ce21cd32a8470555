-- Over an honest store a tree that is asked for the next region again and again, until there is none, leaves out no key of the boxes.
use Rattle.std.specs.Prelude.{Contains}
use Rattle.std.proofs.Common.{rules, ◌≡◌, ◌≤◌, ◌⊎◌, ◌∙◌, inl, inr, ℕ, suc, List, [], ◌∷◌, Option, Some, None, ap, arith, sym, subst, refl}
use Rattle.ub_tree.proofs.Common.{AreAnswers, before_from, before_parts, cases_Bool, Corners, Gives, GivesAfter, HoldsAny, HoldsKey, IsAim, IsAimless, IsBefore}
use Rattle.ub_tree.proofs.Common.{IsFrom, IsHonest, Key, le_trans, LeastFrom, not_before_origin, one_given, origin, precedes, Region, TreeView, ways_hold}
use Rattle.ub_tree.proofs.MeetFacts.{contained_at, contains_at}

module _ (boxes : List Corners) (tree : TreeView) (honest : IsHonest tree.store) (key : Key) (inside : HoldsAny boxes key.z) (upto : key.z ≤ tree.inner.index.last) where
  abbrev To : Key → Option ℕ → Type 0
  To from = LeastFrom (HoldsAny boxes) from.z

  -- the search after this region goes on from a key that isn't behind the one in question
  abbrev IsAhead : Option Region → Type 0
  IsAhead after = (from : Option Key) → IsFrom tree.inner.index tree.store after from → (f : Key) × (from ≡ Some f) × (¬ (IsBefore key f))

  address_up : (f : Key) → ¬ (IsBefore key f) → f.z ≤ key.z
  address_up f h = search rules

  not_aimless : (f : Key) → ¬ (IsBefore key f) → IsAimless tree.inner.index.last To (Some f) → ⊥
  not_aimless f ahead (inl none) = ahead (before_from key f (inl (none key.z inside)))
  not_aimless f ahead (inr (z, least, far)) =
      let least_is : z ≤ key.z = least.2 key.z inside (address_up f ahead) in
      omega arith

  not_before_aim : (f aim : Key) → ¬ (IsBefore key f) → IsAim tree.inner.index.last To f aim → ¬ (IsBefore key aim)
  not_before_aim f aim ahead (z, least, le, is) =
      let least_is : z ≤ key.z = least.2 key.z inside (address_up f ahead) in
      let behind : ¬ (IsBefore key (record { z = z; number = 0 })) = λ before.
      elim (before_parts key (record { z = z; number = 0 }) before) [
        | inl lt ↦ omega arith
        | inr same ↦ let few = same.1 in omega arith
      ] in
      subst (λ (k : Key). ¬ (IsBefore key k)) (sym is) (elim (cases_Bool (precedes (record { z = z; number = 0 }) f)) [
        | inl t ↦ rw t ahead
        | inr f ↦ rw f behind
      ])

  -- a span that doesn't begin behind the key holds it, or ends before it
  holds_or_ends : (span : Region) → ¬ (IsBefore key span.first) → (next : Option Key) → span.next ≡ next
      → HoldsKey key span.first span.next ⊎ ((n : Key) × (span.next ≡ Some n) × (¬ (IsBefore key n)))
  holds_or_ends span h next k = search rules

  -- the way to the first key of the span that is given leads to it alone
  one_next : (aim : Key) (span other : Region) → Gives tree.inner.index tree.store aim span → Gives tree.inner.index tree.store span.first other → other ≡ span
  one_next aim span other h k = search (rules, one_given, ways_hold)

  -- so what is given holds the key, or the search after it goes on from no later one
  step : (after : Option Region) (found : Region) → IsAhead after → GivesAfter tree.inner.index tree.store To after (Some found) → HoldsKey key found.first found.next ⊎ IsAhead (Some found)
  step after found ahead (None, is_from, gone) = absurd gone
  step after found ahead (Some f, is_from, (aim, is_aim, given)) =
      let there = ahead (Some f) is_from in
      let same : there.0 ≡ f = let e = there.1 in cc in
      let up = not_before_aim f aim (subst (λ (k : Key). ¬ (IsBefore key k)) same there.2) is_aim in
      elim (holds_or_ends found (le_trans found.first aim key given.holds.from up) found.next refl) [
        | inl holds ↦ inl holds
        | inr ends ↦ inr (λ from is. (ends.0, is.2 ∙ (ap (λ (s : Region). s.next) (one_next aim found is.0 given is.1) ∙ ends.1), ends.2))
      ]

  none_left : (after : Option Region) → IsAhead after → GivesAfter tree.inner.index tree.store To after None → ⊥
  none_left after h k = search (rules, not_aimless)

  cover : (after : Option Region) (answers : List Region) → IsAhead after → AreAnswers boxes tree after answers → (span : Region) × Contains answers span × HoldsKey key span.first span.next
  cover after [] ahead gives = absurd (none_left after ahead gives.given)
  cover after (found ∷ more) ahead are = elim (step after found ahead are.0.given) [
    | inl holds ↦ (found, contains_at (found ∷ more) 0 found refl, holds)
    | inr later ↦
        let r = cover (Some found) more later are.1 in
        (r.0, contains_at (found ∷ more) (suc r.1.0) r.0 (contained_at more r.0 r.1), r.2)
  ]

  pub covered : (answers : List Region) → AreAnswers boxes tree None answers → (span : Region) × Contains answers span × HoldsKey key span.first span.next
  covered answers are = cover None answers (λ from is. (origin, is, not_before_origin key)) are
