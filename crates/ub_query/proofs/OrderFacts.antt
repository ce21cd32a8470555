-- The order asked leads nowhere back, and of two entries whose cells are alike and which do not tie one is before the other.
use Rattle.std.proofs.Common.{◌≡◌, ◌≢◌, ℤ, ◌<ℤ◌, ◌≤ℤ◌, Bool, true, false, List, [], ◌∷◌, length, ◌⊎◌, inl, inr, ⊎_elim, refl, sym, ◌∙◌, ap, subst, arith}
use Rattle.std.proofs.lemmas.Int.{ints, by_lt_z}
use Rattle.ub_query.specs.Order.{IsBelow, IsAhead, IsBeforeBy, AreBelow}
use Rattle.ub_query.specs.declared.cell.Cell.{Cell}
use Rattle.ub_query.specs.declared.cell.Cell.TheVariants.{Number, Null}
use Rattle.ub_query.specs.declared.query.Item.{Item}
use Rattle.ub_query.specs.declared.query.SortKey.{SortKey}

-- ---- numbers

below-never : (a : ℤ) → ¬ (a <ℤ a)
below-never a h = omega (arith, ints)

below-chain : (a b c : ℤ) → a <ℤ b → b <ℤ c → a <ℤ c
below-chain a b c g h = omega (arith, ints)

equal_between : (a b : ℤ) → a ≤ℤ b → b ≤ℤ a → a ≡ b
equal_between a b g h = omega (arith, ints)

pub below-sides : (a b : ℤ) → (a <ℤ b) ⊎ ((a ≡ b) ⊎ (b <ℤ a))
below-sides a b =
    by_lt_z a b (λ (h : a <ℤ b). inl h)
    (λ (h : b ≤ℤ a). by_lt_z b a (λ (g : b <ℤ a). inr (inr g)) (λ (g : a ≤ℤ b). inr (inl (equal_between a b g h))))

-- ---- cells

-- both are numbers, or both are NULL
abbrev pub AreAlike : Cell → Cell → Type 0
AreAlike (Number a) (Number b) = Unit {0}
AreAlike (Number a) Null = ⊥
AreAlike Null (Number b) = ⊥
AreAlike Null Null = Unit {0}

cell-never : (a : Cell) → ¬ IsBelow a a
cell-never (Number a) h = below-never a h
cell-never Null h = h

cell-chain : (a b c : Cell) → IsBelow a b → IsBelow b c → IsBelow a c
cell-chain (Number a) (Number b) (Number c) g h = below-chain a b c g h
cell-chain (Number a) (Number b) Null g h = h
cell-chain (Number a) Null c g h = absurd g
cell-chain Null b c g h = g

cell-sides : (a b : Cell) → AreAlike a b → IsBelow a b ⊎ ((a ≡ b) ⊎ IsBelow b a)
cell-sides (Number a) (Number b) alike =
    ⊎_elim (λ (h : a <ℤ b). inl h)
    (λ (h : (a ≡ b) ⊎ (b <ℤ a)). ⊎_elim (λ (e : a ≡ b). inr (inl (ap Number e))) (λ (g : b <ℤ a). inr (inr g)) h)
    (below-sides a b)
cell-sides (Number a) Null alike = absurd alike
cell-sides Null (Number b) alike = absurd alike
cell-sides Null Null alike = inr (inl refl)

pub ahead-never : (t : Bool) (a : Cell) → ¬ IsAhead t a a
ahead-never false a h = cell-never a h
ahead-never true a h = cell-never a h

ahead-chain : (t : Bool) (a b c : Cell) → IsAhead t a b → IsAhead t b c → IsAhead t a c
ahead-chain false a b c g h = cell-chain a b c g h
ahead-chain true a b c g h = cell-chain c b a h g

ahead-sides : (t : Bool) (a b : Cell) → AreAlike a b → IsAhead t a b ⊎ ((a ≡ b) ⊎ IsAhead t b a)
ahead-sides false a b alike = cell-sides a b alike
ahead-sides true a b alike =
    ⊎_elim (λ (h : IsBelow a b). inr (inr h))
    (λ (h : (a ≡ b) ⊎ IsBelow b a). ⊎_elim (λ (e : a ≡ b). inr (inl e)) (λ (g : IsBelow b a). inl g) h)
    (cell-sides a b alike)

-- ---- entries

pub before-never : {E : Type 0} (cell : E → Item → Cell) (Ties : E → E → Type 0) → ((a : E) → ¬ Ties a a)
    → (keys : List SortKey) (a : E) → ¬ IsBeforeBy cell Ties keys a a
before-never cell Ties never [] a h = never a h
before-never cell Ties never (key ∷ keys) a (inl h) = ahead-never key.is_descending (cell a key.item) h
before-never cell Ties never (key ∷ keys) a (inr h) = before-never cell Ties never keys a h.1

pub before-chain : {E : Type 0} (cell : E → Item → Cell) (Ties : E → E → Type 0) → ((a b c : E) → Ties a b → Ties b c → Ties a c)
    → (keys : List SortKey) (a b c : E) → IsBeforeBy cell Ties keys a b → IsBeforeBy cell Ties keys b c → IsBeforeBy cell Ties keys a c
before-chain cell Ties chain [] a b c g h = chain a b c g h
before-chain cell Ties chain (key ∷ keys) a b c (inl g) (inl h) =
    inl (ahead-chain key.is_descending (cell a key.item) (cell b key.item) (cell c key.item) g h)
before-chain cell Ties chain (key ∷ keys) a b c (inl g) (inr h) =
    inl (subst (λ (x : Cell). IsAhead key.is_descending (cell a key.item) x) h.0 g)
before-chain cell Ties chain (key ∷ keys) a b c (inr g) (inl h) =
    inl (subst (λ (x : Cell). IsAhead key.is_descending x (cell c key.item)) (sym g.0) h)
before-chain cell Ties chain (key ∷ keys) a b c (inr g) (inr h) =
    inr (g.0 ∙ h.0, before-chain cell Ties chain keys a b c g.1 h.1)

pub before-sides : {E : Type 0} (cell : E → Item → Cell) (Ties : E → E → Type 0) (keys : List SortKey) (a b : E)
    → ((item : Item) → AreAlike (cell a item) (cell b item)) → Ties a b ⊎ Ties b a
    → IsBeforeBy cell Ties keys a b ⊎ IsBeforeBy cell Ties keys b a
before-sides cell Ties [] a b alike sides = sides
before-sides cell Ties (key ∷ keys) a b alike sides =
    ⊎_elim (λ (h : IsAhead key.is_descending (cell a key.item) (cell b key.item)). inl (inl h))
    (λ (h : (cell a key.item ≡ cell b key.item) ⊎ IsAhead key.is_descending (cell b key.item) (cell a key.item)).
    ⊎_elim (λ (e : cell a key.item ≡ cell b key.item).
    ⊎_elim (λ (g : IsBeforeBy cell Ties keys a b). inl (inr (e, g)))
    (λ (g : IsBeforeBy cell Ties keys b a). inr (inr (sym e, g)))
    (before-sides cell Ties keys a b alike sides))
    (λ (g : IsAhead key.is_descending (cell b key.item) (cell a key.item)). inr (inl g))
    h)
    (ahead-sides key.is_descending (cell a key.item) (cell b key.item) (alike key.item))

-- ---- lists of numbers

pub lists-never : (xs : List ℤ) → ¬ AreBelow xs xs
lists-never [] h = h
lists-never (x ∷ xs) (inl h) = below-never x h
lists-never (x ∷ xs) (inr h) = lists-never xs h.1

pub lists-chain : (xs ys zs : List ℤ) → AreBelow xs ys → AreBelow ys zs → AreBelow xs zs
lists-chain [] ys zs g h = g
lists-chain (x ∷ xs) [] zs g h = absurd g
lists-chain (x ∷ xs) (y ∷ ys) [] g h = h
lists-chain (x ∷ xs) (y ∷ ys) (z ∷ zs) (inl g) (inl h) = inl (below-chain x y z g h)
lists-chain (x ∷ xs) (y ∷ ys) (z ∷ zs) (inl g) (inr h) = inl (subst (λ (v : ℤ). x <ℤ v) h.0 g)
lists-chain (x ∷ xs) (y ∷ ys) (z ∷ zs) (inr g) (inl h) = inl (subst (λ (v : ℤ). v <ℤ z) (sym g.0) h)
lists-chain (x ∷ xs) (y ∷ ys) (z ∷ zs) (inr g) (inr h) = inr (g.0 ∙ h.0, lists-chain xs ys zs g.1 h.1)

tails_differ : (x y : ℤ) (xs ys : List ℤ) → x ≡ y → x ∷ xs ≢ y ∷ ys → xs ≢ ys
tails_differ x y xs ys e differ same = differ cc

pub lists-sides : (xs ys : List ℤ) → length xs ≡ length ys → xs ≢ ys → AreBelow xs ys ⊎ AreBelow ys xs
lists-sides [] [] long differ = absurd (differ refl)
lists-sides [] (y ∷ ys) long differ = absurd (omega arith)
lists-sides (x ∷ xs) [] long differ = absurd (omega arith)
lists-sides (x ∷ xs) (y ∷ ys) long differ =
    ⊎_elim (λ (h : x <ℤ y). inl (inl h))
    (λ (h : (x ≡ y) ⊎ (y <ℤ x)).
    ⊎_elim (λ (e : x ≡ y).
    ⊎_elim (λ (g : AreBelow xs ys). inl (inr (e, g)))
    (λ (g : AreBelow ys xs). inr (inr (sym e, g)))
    (lists-sides xs ys (omega arith) (tails_differ x y xs ys e differ)))
    (λ (g : y <ℤ x). inr (inl g))
    h)
    (below-sides x y)
