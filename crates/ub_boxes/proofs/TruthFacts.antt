-- What a condition can be at a point, and what it is on a row there; and when it can be the same at two points.
use Rattle.std.proofs.Common.{◌≡◌, ◌≤◌, ◌<◌, ◌==◌, ◌&&◌, ◌||◌, not, ℕ, ℤ, pos, ◌+ℤ◌, ◌-ℤ◌, ◌≤ℤ◌, ◌<ℤ◌, int_le, List, [], ◌∷◌, ◌++◌, Option, Some, None, Bool, true, false, nat_le, nat_lt, le-leb, if◌then◌else◌, slice_index, refl, sym, ap, arith, ◌∙◌, inl, inr, rules}
use Rattle.std.proofs.lemmas.Bool.{cases_Bool, eqb-true, eq-eqb}
use Rattle.std.proofs.lemmas.Int.{ints}
use Rattle.std.specs.Option.{option_map}
use Rattle.std.specs.Ordering.{int_eq}
use Rattle.ub_boxes.specs.Cuts.{above_least, cut_of, put, put_some, put_cuts, cuts, turns, turns_of}
use Rattle.ub_boxes.specs.Truths.{known_as, conjoined, disjoined, exchanged, known_value, can_be, covers, names_dimensions}
use Rattle.ub_boxes.specs.declared.truths.Truths.{Truths}
use Rattle.ub_query.specs.Shape.{Shape, both, either, neither, compares, between}
use Rattle.ub_query.specs.Truth.{truth, holds}
use Rattle.ub_query.specs.declared.condition.Operator.{Operator}
use Rattle.ub_query.specs.declared.condition.Operator.TheVariants.{Equal, NotEqual, Less, AtMost, Greater, AtLeast}
use Rattle.ub_table.specs.Value.{as_coordinate, axes_of, greatest, shift, value_at}
use Rattle.ub_table.specs.declared.schema.Schema.{Schema}

-- ---- a row at a point

-- the values of the dimensions are those of the point's coordinates
abbrev pub IsAt : Schema → (ℕ → ℤ) → List ℕ → Type 0
IsAt schema value point = (column : ℕ) → column < schema.dims → value column ≡ value_at (axes_of schema) column (slice_index point column)

-- what is true can be true, and what is false can be false
abbrev Allows : Truths → Bool → Type 0
Allows t b = (b ≡ true → t.can_be_true ≡ true) × (b ≡ false → t.can_be_false ≡ true)

allows-known : (b : Bool) → Allows (known_as (Some b)) b
allows-known true = ((λ e. refl), (λ e. sym e))
allows-known false = ((λ e. e), (λ e. refl))

allows-both : (s t : Truths) (a b : Bool) → Allows s a → Allows t b → Allows (conjoined s t) (a && b)
allows-both s t true b h k = ((λ e. rw (h.0 refl, k.0 e) refl), (λ e. rw (k.1 e) (search rules)))
allows-both s t false b h k = ((λ e. absurd (search (rules, e))), (λ e. rw (h.1 refl) refl))

allows-either : (s t : Truths) (a b : Bool) → Allows s a → Allows t b → Allows (disjoined s t) (a || b)
allows-either s t true b h k = ((λ e. rw (h.0 refl) refl), (λ e. absurd (search (rules, e))))
allows-either s t false b h k = ((λ e. rw (k.0 e) (search rules)), (λ e. rw (h.1 refl, k.1 e) refl))

allows-neither : (s : Truths) (a : Bool) → Allows s a → Allows (exchanged s) (not a)
allows-neither s true h = ((λ e. absurd (search (rules, e))), (λ e. h.0 refl))
allows-neither s false h = ((λ e. h.1 refl), (λ e. absurd (search (rules, e))))

allows-compared : (schema : Schema) (value : ℕ → ℤ) (point : List ℕ) (column : ℕ) (f : ℤ → Bool) → IsAt schema value point
    → Allows (known_as (option_map f (known_value schema point column))) (f (value column))
allows-compared schema value point column f at = elim (cases_Bool (nat_lt column schema.dims)) [
  | inl t ↦ let lt : column < schema.dims = search (rules, t) in rw (t, at column lt) (allows-known (f (value_at (axes_of schema) column (slice_index point column))))
  | inr n ↦ rw n ((λ e. refl), (λ e. refl))
]

pub allows : (schema : Schema) (value : ℕ → ℤ) (point : List ℕ) → IsAt schema value point → (c : Shape) → Allows (can_be schema point c) (truth value c)
allows schema value point at (both a b) = allows-both _ _ (truth value a) (truth value b) (allows schema value point at a) (allows schema value point at b)
allows schema value point at (either a b) = allows-either _ _ (truth value a) (truth value b) (allows schema value point at a) (allows schema value point at b)
allows schema value point at (neither a) = allows-neither _ (truth value a) (allows schema value point at a)
allows schema value point at (compares column operator number) = allows-compared schema value point column (λ x. holds operator x number) at
allows schema value point at (between column low high) = allows-compared schema value point column (λ x. int_le low x && int_le x high) at

-- of dimensions alone it can be what it is and nothing else
and-true : (a b : Bool) → (a && b) ≡ true → (a ≡ true) × (b ≡ true)
and-true true b e = (refl, e)
and-true false b e = absurd (search (rules, e))

known-both : (a b : Bool) → conjoined (known_as (Some a)) (known_as (Some b)) ≡ known_as (Some (a && b))
known-both true b = refl
known-both false b = refl

known-either : (a b : Bool) → disjoined (known_as (Some a)) (known_as (Some b)) ≡ known_as (Some (a || b))
known-either true b = refl
known-either false b = refl

known-neither : (a : Bool) → exchanged (known_as (Some a)) ≡ known_as (Some (not a))
known-neither true = refl
known-neither false = refl

known-compared : (schema : Schema) (value : ℕ → ℤ) (point : List ℕ) (column : ℕ) (f : ℤ → Bool) → IsAt schema value point → nat_lt column schema.dims ≡ true
    → known_as (option_map f (known_value schema point column)) ≡ known_as (Some (f (value column)))
known-compared schema value point column f at t = let lt : column < schema.dims = search (rules, t) in rw (t, at column lt) refl

pub known : (schema : Schema) (value : ℕ → ℤ) (point : List ℕ) → IsAt schema value point → (c : Shape) → names_dimensions schema c ≡ true
    → can_be schema point c ≡ known_as (Some (truth value c))
known schema value point at (both a b) n =
    let parts = and-true (names_dimensions schema a) (names_dimensions schema b) n in
    rw (known schema value point at a parts.0, known schema value point at b parts.1) (known-both (truth value a) (truth value b))
known schema value point at (either a b) n =
    let parts = and-true (names_dimensions schema a) (names_dimensions schema b) n in
    rw (known schema value point at a parts.0, known schema value point at b parts.1) (known-either (truth value a) (truth value b))
known schema value point at (neither a) n = rw (known schema value point at a n) (known-neither (truth value a))
known schema value point at (compares column operator number) n = known-compared schema value point column (λ x. holds operator x number) at n
known schema value point at (between column low high) n = known-compared schema value point column (λ x. int_le low x && int_le x high) at n

-- ---- two points between the same cuts

-- two coordinates are on the same side of each cut
abbrev pub Agree : ℕ → ℕ → List ℕ → Type 0
Agree x y [] = Unit {0}
Agree x y (m ∷ ms) = (nat_le m x ≡ nat_le m y) × Agree x y ms

-- two values are on the same side of each of some values
abbrev AgreeOn : ℤ → ℤ → List ℤ → Type 0
AgreeOn x y [] = Unit {0}
AgreeOn x y (v ∷ vs) = (int_le v x ≡ int_le v y) × AgreeOn x y vs

agree-put : (x y n : ℕ) (ms : List ℕ) → Agree x y (put n ms) → (nat_le n x ≡ nat_le n y) × Agree x y ms
agree-put x y n [] h = h
agree-put x y n (m ∷ ms) h = elim (cases_Bool (nat_lt n m)) [
  | inl t ↦ rw t at h
  | inr f ↦ elim (cases_Bool (n == m)) [
    | inl e ↦ let same : n ≡ m = eqb-true n m e in let k = rw (f, e) at h in (rw same k.0, k)
    | inr d ↦ let k = rw (f, d) at h in let rest = agree-put x y n ms k.1 in (rest.0, (k.0, rest.1))
  ]
]

-- a value lies below one that is moved where it lies below when it is moved back
moved : (v s : ℤ) (x : ℕ) → int_le v (pos x -ℤ s) ≡ int_le (v +ℤ s) (pos x)
moved v s x = elim (cases_Bool (int_le (v +ℤ s) (pos x))) [
  | inl t ↦ let le : (v +ℤ s) ≤ℤ pos x = search (rules, t) in let back : v ≤ℤ (pos x -ℤ s) = omega (arith, ints, le) in let u : int_le v (pos x -ℤ s) ≡ true = search (rules, back) in rw (t, u) refl
  | inr n ↦ let gt : pos x <ℤ (v +ℤ s) = search (rules, n) in let u : int_le v (pos x -ℤ s) ≡ false = grind (arith, ints, gt) in rw (n, u) refl
]

one_side : (z : ℤ) (x y : ℕ) → x ≤ greatest → y ≤ greatest → above_least (as_coordinate z) ≡ None → int_le z (pos x) ≡ int_le z (pos y)
one_side (ℤ.negsuc n) x y hx hy e = refl
one_side (ℤ.pos n) x y hx hy e = elim (cases_Bool (nat_le n greatest)) [
  | inl b ↦ let k = rw b at e in elim (cases_Bool (nat_lt 0 n)) [
    | inl a ↦ let h = rw a at k in cc
    | inr f ↦
        let z : n ≡ 0 = search (rules, f) in
        let p : nat_le n x ≡ true = le-leb n x (omega arith) in
        let q : nat_le n y ≡ true = le-leb n y (omega arith) in
        p ∙ sym q
  ]
  | inr f ↦
      let p : nat_le n x ≡ false = search (rules, f, hx) in
      let q : nat_le n y ≡ false = search (rules, f, hy) in
      p ∙ sym q
]

at_cut : (z : ℤ) (n x y : ℕ) → above_least (as_coordinate z) ≡ Some n → nat_le n x ≡ nat_le n y → int_le z (pos x) ≡ int_le z (pos y)
at_cut (ℤ.negsuc m) n x y e h = refl
at_cut (ℤ.pos m) n x y e h = elim (cases_Bool (nat_le m greatest)) [
  | inl b ↦ let k = rw b at e in elim (cases_Bool (nat_lt 0 m)) [
    | inl a ↦ let j = rw a at k in let same : m ≡ n = cc in rw same h
    | inr f ↦ let j = rw f at k in cc
  ]
  | inr f ↦ let k = rw f at e in cc
]

-- a value that is no cut has the values of all coordinates on one side
on_a_side : (schema : Schema) (dim : ℕ) (v : ℤ) (x y : ℕ) → x ≤ greatest → y ≤ greatest → cut_of schema dim v ≡ None
    → int_le v (value_at (axes_of schema) dim x) ≡ int_le v (value_at (axes_of schema) dim y)
on_a_side schema dim v x y hx hy e =
    let s = shift (axes_of schema) dim in
    moved v s x ∙ one_side (v +ℤ s) x y hx hy e ∙ sym (moved v s y)

at_a_cut : (schema : Schema) (dim : ℕ) (v : ℤ) (n x y : ℕ) → cut_of schema dim v ≡ Some n → nat_le n x ≡ nat_le n y
    → int_le v (value_at (axes_of schema) dim x) ≡ int_le v (value_at (axes_of schema) dim y)
at_a_cut schema dim v n x y e h =
    let s = shift (axes_of schema) dim in
    moved v s x ∙ at_cut (v +ℤ s) n x y e h ∙ sym (moved v s y)

agree-put_some : (schema : Schema) (dim : ℕ) (v : ℤ) (x y : ℕ) (o : Option ℕ) (ms : List ℕ) → x ≤ greatest → y ≤ greatest → cut_of schema dim v ≡ o → Agree x y (put_some o ms)
    → (int_le v (value_at (axes_of schema) dim x) ≡ int_le v (value_at (axes_of schema) dim y)) × Agree x y ms
agree-put_some schema dim v x y None ms hx hy e h = (on_a_side schema dim v x y hx hy e, h)
agree-put_some schema dim v x y (Some n) ms hx hy e h = let k = agree-put x y n ms h in (at_a_cut schema dim v n x y e k.0, k.1)

agree-put_cuts : (schema : Schema) (dim : ℕ) (vs : List ℤ) (x y : ℕ) (ms : List ℕ) → x ≤ greatest → y ≤ greatest → Agree x y (put_cuts schema dim vs ms)
    → AgreeOn (value_at (axes_of schema) dim x) (value_at (axes_of schema) dim y) vs × Agree x y ms
agree-put_cuts schema dim [] x y ms hx hy h = (tt, h)
agree-put_cuts schema dim (v ∷ vs) x y ms hx hy h =
    let rest = agree-put_cuts schema dim vs x y (put_some (cut_of schema dim v) ms) hx hy h in
    let here = agree-put_some schema dim v x y (cut_of schema dim v) ms hx hy refl rest.1 in
    ((here.0, rest.0), here.1)

agree_on-parts : (x y : ℤ) (vs ws : List ℤ) → AgreeOn x y (vs ++ ws) → AgreeOn x y vs × AgreeOn x y ws
agree_on-parts x y [] ws h = (tt, h)
agree_on-parts x y (v ∷ vs) ws h = let rest = agree_on-parts x y vs ws h.1 in ((h.0, rest.0), rest.1)

-- not above is below the next
above : (v x : ℤ) → int_le x v ≡ not (int_le (v +ℤ pos 1) x)
above v x = elim (cases_Bool (int_le x v)) [
  | inl t ↦ let le : x ≤ℤ v = search (rules, t) in let f : int_le (v +ℤ pos 1) x ≡ false = grind (arith, ints) in rw (t, f) refl
  | inr n ↦ let gt : v <ℤ x = search (rules, n) in let t : int_le (v +ℤ pos 1) x ≡ true = grind (arith, ints) in rw (n, t) refl
]

equal_is : (v x : ℤ) → int_eq x v ≡ (int_le v x && not (int_le (v +ℤ pos 1) x))
equal_is v x = rw (← above v x) (elim (cases_Bool (int_eq x v)) [
  | inl t ↦
      let e : x ≡ v = search (rules, t) in
      let a : int_le v x ≡ true = grind (arith, ints) in
      let b : int_le x v ≡ true = grind (arith, ints) in
      rw (t, a, b) refl
  | inr n ↦ elim (cases_Bool (int_le v x)) [
    | inl t ↦ elim (cases_Bool (int_le x v)) [
      | inl u ↦
          let le : v ≤ℤ x = search (rules, t) in
          let ge : x ≤ℤ v = search (rules, u) in
          let e : x ≡ v = grind (arith, ints) in
          let y : int_eq x v ≡ true = search (rules, e) in
          absurd (search (rules, y, n))
      | inr g ↦ rw (n, t, g) refl
    ]
    | inr f ↦ rw (n, f) refl
  ]
])

same-holds : (operator : Operator) (v x y : ℤ) → AgreeOn x y (turns_of operator v) → holds operator x v ≡ holds operator y v
same-holds Equal v x y h = equal_is v x ∙ rw (h.0, h.1.0) (sym (equal_is v y))
same-holds NotEqual v x y h = ap not (equal_is v x ∙ rw (h.0, h.1.0) (sym (equal_is v y)))
same-holds Less v x y h = ap not h.0
same-holds AtMost v x y h = above v x ∙ ap not h.0 ∙ sym (above v y)
same-holds Greater v x y h = ap not (above v x ∙ ap not h.0 ∙ sym (above v y))
same-holds AtLeast v x y h = h.0

-- two points agree on the values at which the comparisons on each dimension turn
abbrev pub AgreeOnAll : Schema → List ℕ → List ℕ → Shape → Type 0
AgreeOnAll schema p q c = (dim : ℕ) → dim < schema.dims
    → AgreeOn (value_at (axes_of schema) dim (slice_index p dim)) (value_at (axes_of schema) dim (slice_index q dim)) (turns dim c)

same-compared : (schema : Schema) (p q : List ℕ) (column : ℕ) (f : ℤ → Bool) → (column < schema.dims → f (value_at (axes_of schema) column (slice_index p column)) ≡ f (value_at (axes_of schema) column (slice_index q column)))
    → known_as (option_map f (known_value schema p column)) ≡ known_as (option_map f (known_value schema q column))
same-compared schema p q column f h = elim (cases_Bool (nat_lt column schema.dims)) [
  | inl t ↦ rw t (ap (λ (b : Bool). known_as (Some b)) (h (search (rules, t))))
  | inr n ↦ rw n refl
]

own_turns : (x y : ℤ) (column : ℕ) (vs : List ℤ) → AgreeOn x y (if column == column then vs else []) → AgreeOn x y vs
own_turns x y column vs h = let t : (column == column) ≡ true = eq-eqb column column refl in rw t at h

same-between : (low high x y : ℤ) → AgreeOn x y (low ∷ (high +ℤ pos 1) ∷ []) → (int_le low x && int_le x high) ≡ (int_le low y && int_le y high)
same-between low high x y h = rw (above high x, above high y, h.0, h.1.0) refl

pub same : (schema : Schema) (p q : List ℕ) (c : Shape) → AgreeOnAll schema p q c → can_be schema p c ≡ can_be schema q c
same schema p q (both a b) h =
    rw (same schema p q a (λ dim lt. (agree_on-parts _ _ (turns dim a) (turns dim b) (h dim lt)).0), same schema p q b (λ dim lt. (agree_on-parts _ _ (turns dim a) (turns dim b) (h dim lt)).1)) refl
same schema p q (either a b) h =
    rw (same schema p q a (λ dim lt. (agree_on-parts _ _ (turns dim a) (turns dim b) (h dim lt)).0), same schema p q b (λ dim lt. (agree_on-parts _ _ (turns dim a) (turns dim b) (h dim lt)).1)) refl
same schema p q (neither a) h = rw (same schema p q a h) refl
same schema p q (compares column operator v) h =
    same-compared schema p q column (λ x. holds operator x v)
    (λ lt. same-holds operator v _ _ (own_turns _ _ column (turns_of operator v) (h column lt)))
same schema p q (between column low high) h =
    same-compared schema p q column (λ x. int_le low x && int_le x high)
    (λ lt. same-between low high _ _ (own_turns _ _ column (low ∷ (high +ℤ pos 1) ∷ []) (h column lt)))

-- so the cover has both or neither of two points between the same cuts
pub same_cover : (schema : Schema) (filter : Option Shape) (p q : List ℕ)
    → ((dim : ℕ) → dim < schema.dims → (slice_index p dim ≤ greatest) × (slice_index q dim ≤ greatest) × Agree (slice_index p dim) (slice_index q dim) (cuts schema filter dim))
    → covers schema filter p ≡ covers schema filter q
same_cover schema None p q h = refl
same_cover schema (Some c) p q h =
    ap (λ (t : Truths). t.can_be_true)
    (same schema p q c (λ dim lt. let k = h dim lt in (agree-put_cuts schema dim (turns dim c) _ _ [] k.0 k.1 k.2).0))
