-- Where comparisons turn.
use Rattle.std.proofs.Common.{◌≡◌, ◌≢◌, not, ℤ, pos, ◌+ℤ◌, ◌-ℤ◌, ◌≤ℤ◌, ◌<ℤ◌, int_le, [], ◌∷◌, Bool, true, false, Contains, ◌↔◌, refl, sym, ap, arith, ◌∙◌, ◌⊎◌, inl, inr, rules}
use Rattle.std.proofs.lemmas.Bool.{cases_Bool}
use Rattle.std.proofs.lemmas.Int.{ints, by_lt_z}
use Rattle.std.specs.Ordering.{int_eq}
use Rattle.ub_boxes.proofs.TurnFacts.{Member, member-contained, contained-member}
use Rattle.ub_boxes.specs.Laws.{TurnsAreWhereItTurns}
use Rattle.ub_query.specs.declared.condition.Operator.TheVariants.{Equal, NotEqual, Less, AtMost, Greater, AtLeast}

true-false : true ≡ false → ⊥
true-false e = absurd (search (rules, e))

not-not : (a b : Bool) → (not a ≢ not b) ↔ (a ≢ b)
not-not a b = ((λ h e. h (ap not e)), (λ h e. h (other a b e)))
  where
    other : (a b : Bool) → not a ≡ not b → a ≡ b
    other true true e = refl
    other true false e = absurd (search (rules, e))
    other false true e = absurd (search (rules, e))
    other false false e = refl

-- `at least` turns at its number
steps : (v t : ℤ) → (int_le v t ≢ int_le v (t -ℤ pos 1)) ↔ (v ≡ t)
steps v t = by_lt_z t v
    (λ lt.
    let a : int_le v t ≡ false = grind (arith, ints) in
    let b : int_le v (t -ℤ pos 1) ≡ false = grind (arith, ints) in
    ((λ h. absurd (h (a ∙ sym b))), (λ e. absurd (grind (arith, ints)))))
    (λ le. by_lt_z v t
    (λ gt.
    let a : int_le v t ≡ true = grind (arith, ints) in
    let b : int_le v (t -ℤ pos 1) ≡ true = grind (arith, ints) in
    ((λ h. absurd (h (a ∙ sym b))), (λ e. absurd (grind (arith, ints)))))
    (λ ge.
    let a : int_le v t ≡ true = grind (arith, ints) in
    let b : int_le v (t -ℤ pos 1) ≡ false = grind (arith, ints) in
    ((λ h. grind (arith, ints)), (λ e f. true-false (sym a ∙ f ∙ b)))))

above : (v x : ℤ) → int_le x v ≡ not (int_le (v +ℤ pos 1) x)
above v x = elim (cases_Bool (int_le x v)) [
  | inl t ↦ let le : x ≤ℤ v = search (rules, t) in let f : int_le (v +ℤ pos 1) x ≡ false = grind (arith, ints) in rw (t, f) refl
  | inr n ↦ let gt : v <ℤ x = search (rules, n) in let t : int_le (v +ℤ pos 1) x ≡ true = grind (arith, ints) in rw (n, t) refl
]

steps-after : (v t : ℤ) → (int_le t v ≢ int_le (t -ℤ pos 1) v) ↔ (v +ℤ pos 1 ≡ t)
steps-after v t = rw (above v t, above v (t -ℤ pos 1))
    (let n = not-not (int_le (v +ℤ pos 1) t) (int_le (v +ℤ pos 1) (t -ℤ pos 1)) in let s = steps (v +ℤ pos 1) t in
    ((λ h. s.0 (n.0 h)), (λ e. n.1 (s.1 e))))

is_equal : (a b : ℤ) → a ≡ b → int_eq a b ≡ true
is_equal a b e = search (rules, e)

isnt_equal : (a b : ℤ) → (a ≡ b → ⊥) → int_eq a b ≡ false
isnt_equal a b ne = elim (cases_Bool (int_eq a b)) [
  | inl y ↦ let e : a ≡ b = search (rules, y) in absurd (ne e)
  | inr n ↦ n
]

before : (v t : ℤ) → t ≡ v → t -ℤ pos 1 ≡ v → ⊥
before v t e f = omega (arith, ints)

stepped : (v t : ℤ) → v +ℤ pos 1 ≡ t → t -ℤ pos 1 ≡ v
stepped v t e = omega (arith, ints)

neither_equal : (v t : ℤ) → int_eq t v ≡ false → int_eq (t -ℤ pos 1) v ≡ false → (v ≡ t) ⊎ (v +ℤ pos 1 ≡ t) → ⊥
neither_equal v t n m (inl e) = true-false (sym (is_equal t v (sym e)) ∙ n)
neither_equal v t n m (inr e) = true-false (sym (is_equal (t -ℤ pos 1) v (stepped v t e)) ∙ m)

equals : (v t : ℤ) → (int_eq t v ≢ int_eq (t -ℤ pos 1) v) ↔ ((v ≡ t) ⊎ (v +ℤ pos 1 ≡ t))
equals v t = elim (cases_Bool (int_eq t v)) [
  | inl y ↦
      let e : t ≡ v = search (rules, y) in
      ((λ h. inl (sym e)), (λ k f. true-false (sym y ∙ f ∙ isnt_equal (t -ℤ pos 1) v (before v t e))))
  | inr n ↦ elim (cases_Bool (int_eq (t -ℤ pos 1) v)) [
    | inl y ↦
        let e : t -ℤ pos 1 ≡ v = search (rules, y) in
        ((λ h. inr (omega (arith, ints))), (λ k f. true-false (sym y ∙ sym f ∙ n)))
    | inr m ↦ ((λ h. absurd (h (n ∙ sym m))), (λ k f. neither_equal v t n m k))
  ]
]

one : (v t : ℤ) → Contains (v ∷ []) t ↔ (v ≡ t)
one v t = ((λ h. first (contained-member (v ∷ []) t h)), (λ e. member-contained (v ∷ []) t (inl e)))
  where
    first : Member (v ∷ []) t → v ≡ t
    first (inl e) = e
    first (inr h) = absurd h

two : (v w t : ℤ) → Contains (v ∷ w ∷ []) t ↔ ((v ≡ t) ⊎ (w ≡ t))
two v w t = ((λ h. which (contained-member (v ∷ w ∷ []) t h)), (λ h. member-contained (v ∷ w ∷ []) t (there h)))
  where
    which : Member (v ∷ w ∷ []) t → (v ≡ t) ⊎ (w ≡ t)
    which (inl e) = inl e
    which (inr (inl e)) = inr e
    which (inr (inr h)) = absurd h

    there : (v ≡ t) ⊎ (w ≡ t) → Member (v ∷ w ∷ []) t
    there (inl e) = inl e
    there (inr e) = inr (inl e)

both-ways : {A B C : Type 0} → A ↔ B → C ↔ B → A ↔ C
both-ways f g = ((λ a. g.1 (f.0 a)), (λ c. f.1 (g.0 c)))

through : {A B C : Type 0} → A ↔ B → B ↔ C → A ↔ C
through f g = ((λ a. g.0 (f.0 a)), (λ c. f.1 (g.1 c)))

pub turns_are_where_it_turns : TurnsAreWhereItTurns
turns_are_where_it_turns Equal v t = both-ways (two v (v +ℤ pos 1) t) (equals v t)
turns_are_where_it_turns NotEqual v t = both-ways (two v (v +ℤ pos 1) t) (through (not-not (int_eq t v) (int_eq (t -ℤ pos 1) v)) (equals v t))
turns_are_where_it_turns Less v t = both-ways (one v t) (through (not-not (int_le v t) (int_le v (t -ℤ pos 1))) (steps v t))
turns_are_where_it_turns AtMost v t = both-ways (one (v +ℤ pos 1) t) (steps-after v t)
turns_are_where_it_turns Greater v t = both-ways (one (v +ℤ pos 1) t) (through (not-not (int_le t v) (int_le (t -ℤ pos 1) v)) (steps-after v t))
turns_are_where_it_turns AtLeast v t = both-ways (one v t) (steps v t)
