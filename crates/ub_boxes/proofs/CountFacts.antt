-- The boxes of a condition have as many points as their sizes add up to: all points, each written down once.
use Rattle.std.proofs.Common.{◌≡◌, ◌≢◌, ◌↔◌, ◌≤◌, ◌<◌, ◌+◌, ◌-◌, ◌*◌, ℕ, zero, suc, List, [], ◌∷◌, ◌++◌, length, map, Bool, Option, slice_index, refl, sym, ap, subst, arith, ◌∙◌, ◌⊎◌, inl, inr, AllPairs, Contains}
use Rattle.std.proofs.lemmas.Bool.{cases_Bool, cases_eq}
use Rattle.std.proofs.lemmas.List.{length-append, length-map, length-replicate}
use Rattle.std.specs.List.{flat_map}
use Rattle.ub_bigmin.specs.Box.{Corners, IsInside}
use Rattle.ub_boxes.proofs.GridFacts.{length-sides}
use Rattle.ub_boxes.proofs.OrderFacts.{member-beside, member-lines}
use Rattle.ub_boxes.proofs.TurnFacts.{Member, member-contained, contained-member}
use Rattle.ub_boxes.specs.Boxes.{beside, boxes_of, boxes_on, is_wide, runs, space}
use Rattle.ub_boxes.specs.Grid.{grid}
use Rattle.ub_boxes.specs.Laws.{AreApart, IsInSome}
use Rattle.ub_boxes.specs.Points.{lists_between, total}
use Rattle.ub_boxes.specs.Truths.{covers}
use Rattle.ub_boxes.specs.declared.interval.Interval.{Interval}
use Rattle.ub_query.specs.Shape.{Shape}
use Rattle.ub_table.specs.Value.{greatest}
use Rattle.ub_table.specs.declared.schema.Schema.{Schema}
use Rattle.ub_zaddr.specs.Address.{IsAtMost}

-- ---- lists without repeats

module _ {X : Type 0} where
  -- no element stands twice
  abbrev pub Once : List X → Type 0
  Once [] = Unit {0}
  Once (x ∷ xs) = (¬ (Member xs x)) × Once xs

  member-left : (xs ys : List X) (x : X) → Member xs x → Member (xs ++ ys) x
  member-left [] ys x h = absurd h
  member-left (y ∷ xs) ys x (inl e) = inl e
  member-left (y ∷ xs) ys x (inr h) = inr (member-left xs ys x h)

  member-right : (xs ys : List X) (x : X) → Member ys x → Member (xs ++ ys) x
  member-right [] ys x h = h
  member-right (y ∷ xs) ys x h = inr (member-right xs ys x h)

  member-either : (xs ys : List X) (x : X) → Member (xs ++ ys) x → Member xs x ⊎ Member ys x
  member-either [] ys x h = inr h
  member-either (y ∷ xs) ys x (inl e) = inl (inl e)
  member-either (y ∷ xs) ys x (inr h) = elim (member-either xs ys x h) [
    | inl k ↦ inl (inr k)
    | inr k ↦ inr k
  ]

  -- a list is cut at one of its elements
  cut-at : (xs : List X) (x : X) → Member xs x → (before : List X) × (after : List X) × (xs ≡ before ++ x ∷ after)
  cut-at [] x h = absurd h
  cut-at (y ∷ xs) x (inl e) = ([], xs, ap (λ (z : X). z ∷ xs) e)
  cut-at (y ∷ xs) x (inr h) = let (before, after, is) = cut-at xs x h in (y ∷ before, after, ap (λ (zs : List X). y ∷ zs) is)

  without : (before after : List X) (x y : X) → ¬ (y ≡ x) → Member (before ++ x ∷ after) y → Member (before ++ after) y
  without before after x y differ h = elim (member-either before (x ∷ after) y h) [
    | inl k ↦ member-left before after y k
    | inr (inl e) ↦ absurd (differ (sym e))
    | inr (inr k) ↦ member-right before after y k
  ]

  -- a list without repeats whose elements all stand in another is no longer than that
  no-longer : (xs ys : List X) → Once xs → ((x : X) → Member xs x → Member ys x) → length xs ≤ length ys
  no-longer [] ys once among = omega arith
  no-longer (x ∷ xs) ys once among =
      let (before, after, is) = cut-at ys x (among x (inl refl)) in
      let rest = no-longer xs (before ++ after) once.1
      (λ y m. without before after x y (λ e. once.0 (subst (λ (z : X). Member xs z) e m)) (subst (λ (zs : List X). Member zs y) is (among y (inr m)))) in
      let whole = ap length is in
      let long = length-append before (x ∷ after) in
      let short = length-append before after in
      omega arith

  once-append : (xs ys : List X) → Once xs → Once ys → ((x : X) → Member xs x → ¬ (Member ys x)) → Once (xs ++ ys)
  once-append [] ys a b apart = b
  once-append (x ∷ xs) ys a b apart = (
    (λ m. elim (member-either xs ys x m) [
      | inl k ↦ a.0 k
      | inr k ↦ apart x (inl refl) k
    ]),
    once-append xs ys a.1 b (λ y m. apart y (inr m)),
  )

  once-from : (xs : List X) → AllPairs (λ x y. x ≢ y) xs → Once xs
  once-from [] h = tt
  once-from (x ∷ xs) h = (
    (λ m. let (k, lt, is) = member-contained xs x m in h 0 (suc k) x (omega arith) (omega arith) (sym is)),
    once-from xs (λ i j d lt within. h (suc i) (suc j) d (omega arith) (omega arith)),
  )

-- ---- the lists between two

-- so many numbers from one on
up : ℕ → ℕ → List ℕ
up low zero = []
up low (suc n) = low ∷ up (suc low) n

length-up : (low n : ℕ) → length (up low n) ≡ n
unfolding up
length-up low zero = refl
length-up low (suc n) = ap suc (length-up (suc low) n)

up-within : (low n v : ℕ) → Member (up low n) v → (low ≤ v) × (v < low + n)
unfolding up
up-within low zero v h = absurd h
up-within low (suc n) v (inl e) = (omega arith, omega arith)
up-within low (suc n) v (inr h) = let k = up-within (suc low) n v h in (omega arith, omega arith)

within-up : (low n v : ℕ) → low ≤ v → v < low + n → Member (up low n) v
unfolding up
within-up low zero v a b = absurd (omega arith)
within-up low (suc n) v a b = elim (cases_eq low v) [
  | inl e ↦ inl e
  | inr ne ↦ inr (within-up (suc low) n v (omega arith) (omega arith))
]

once-up : (low n : ℕ) → Once (up low n)
unfolding up
once-up low zero = tt
once-up low (suc n) = ((λ m. let k = up-within (suc low) n low m in absurd (omega arith)), once-up (suc low) n)

heads : (x y : ℕ) (p q : List ℕ) → x ∷ p ≡ y ∷ q → x ≡ y
heads x y p q e = ap (λ (r : List ℕ). slice_index r 0) e

tail : List ℕ → List ℕ
tail [] = []
tail (x ∷ p) = p

tails : (x y : ℕ) (p q : List ℕ) → x ∷ p ≡ y ∷ q → p ≡ q
unfolding tail
tails x y p q e = ap tail e

-- each of some lists with each of some numbers before it
with_first : List ℕ → List (List ℕ) → List (List ℕ)
with_first [] ps = []
with_first (x ∷ xs) ps = map (λ p. x ∷ p) ps ++ with_first xs ps

length-with : (xs : List ℕ) (ps : List (List ℕ)) → length (with_first xs ps) ≡ length xs * length ps
unfolding with_first
length-with [] ps = omega arith
length-with (x ∷ xs) ps =
    let rest = length-with xs ps in
    let first = length-map ps (λ (p : List ℕ). x ∷ p) in
    let both = length-append (map (λ (p : List ℕ). x ∷ p) ps) (with_first xs ps) in
    omega arith

member-map : (x : ℕ) (ps : List (List ℕ)) (q : List ℕ) → Member (map (λ p. x ∷ p) ps) q → (p : List ℕ) × Member ps p × (x ∷ p ≡ q)
member-map x [] q h = absurd h
member-map x (p ∷ ps) q (inl e) = (p, inl refl, e)
member-map x (p ∷ ps) q (inr h) = let (r, m, is) = member-map x ps q h in (r, inr m, is)

map-member : (x : ℕ) (ps : List (List ℕ)) (p : List ℕ) → Member ps p → Member (map (λ p. x ∷ p) ps) (x ∷ p)
map-member x [] p h = absurd h
map-member x (q ∷ ps) p (inl e) = inl (ap (λ (r : List ℕ). x ∷ r) e)
map-member x (q ∷ ps) p (inr h) = inr (map-member x ps p h)

once-map : (x : ℕ) (ps : List (List ℕ)) → Once ps → Once (map (λ p. x ∷ p) ps)
once-map x [] h = tt
once-map x (p ∷ ps) h = (
  (λ m. let (q, there, same) = member-map x ps (x ∷ p) m in h.0 (subst (λ (r : List ℕ). Member ps r) (tails x x q p same) there)),
  once-map x ps h.1,
)

member-with : (xs : List ℕ) (ps : List (List ℕ)) (q : List ℕ) → Member (with_first xs ps) q
    → (x : ℕ) × (p : List ℕ) × Member xs x × Member ps p × (x ∷ p ≡ q)
unfolding with_first
member-with [] ps q h = absurd h
member-with (x ∷ xs) ps q h = elim (member-either (map (λ p. x ∷ p) ps) (with_first xs ps) q h) [
  | inl k ↦ let (p, there, is) = member-map x ps q k in (x, p, inl refl, there, is)
  | inr k ↦ let (y, p, here, there, is) = member-with xs ps q k in (y, p, inr here, there, is)
]

with-member : (xs : List ℕ) (ps : List (List ℕ)) (x : ℕ) (p : List ℕ) → Member xs x → Member ps p → Member (with_first xs ps) (x ∷ p)
unfolding with_first
with-member [] ps x p h there = absurd h
with-member (y ∷ xs) ps x p (inl e) there =
    subst (λ (z : ℕ). Member (with_first (y ∷ xs) ps) (z ∷ p)) e (member-left (map (λ p. y ∷ p) ps) (with_first xs ps) (y ∷ p) (map-member y ps p there))
with-member (y ∷ xs) ps x p (inr h) there = member-right (map (λ p. y ∷ p) ps) (with_first xs ps) (x ∷ p) (with-member xs ps x p h there)

once-with : (xs : List ℕ) (ps : List (List ℕ)) → Once xs → Once ps → Once (with_first xs ps)
unfolding with_first
once-with [] ps a b = tt
once-with (x ∷ xs) ps a b =
    once-append (map (λ p. x ∷ p) ps) (with_first xs ps) (once-map x ps b) (once-with xs ps a.1 b)
    (λ q m n.
    let (p, there, is) = member-map x ps q m in
    let (y, r, here, also, same) = member-with xs ps q n in
    a.0 (subst (λ (z : ℕ). Member xs z) (heads y x r p (same ∙ sym is)) here))

-- all lists of numbers that lie between two, place by place
between : List ℕ → List ℕ → List (List ℕ)
between [] hi = [] ∷ []
between (l ∷ lo) [] = [] ∷ []
between (l ∷ lo) (h ∷ hi) = with_first (up l (h + 1 - l)) (between lo hi)

length-between : (lo hi : List ℕ) → length (between lo hi) ≡ lists_between lo hi
unfolding between
length-between [] hi = refl
length-between (l ∷ lo) [] = refl
length-between (l ∷ lo) (h ∷ hi) =
    length-with (up l (h + 1 - l)) (between lo hi)
    ∙ ap (λ (n : ℕ). n * length (between lo hi)) (length-up l (h + 1 - l))
    ∙ ap (λ (n : ℕ). (h + 1 - l) * n) (length-between lo hi)

once-between : (lo hi : List ℕ) → Once (between lo hi)
unfolding between
once-between [] hi = ((λ m. m), tt)
once-between (l ∷ lo) [] = ((λ m. m), tt)
once-between (l ∷ lo) (h ∷ hi) = once-with (up l (h + 1 - l)) (between lo hi) (once-up l (h + 1 - l)) (once-between lo hi)

none-at-most : IsAtMost [] []
none-at-most = (refl, λ i lt. absurd (omega arith))

at-most-at : (x y : ℕ) (p q : List ℕ) → x ≤ y → IsAtMost p q → (i : ℕ) → i < length (x ∷ p) → slice_index (x ∷ p) i ≤ slice_index (y ∷ q) i
at-most-at x y p q le h zero lt = le
at-most-at x y p q le h (suc i) lt = h.1 i (omega arith)

at-most-tail : (x y : ℕ) (p q : List ℕ) → IsAtMost (x ∷ p) (y ∷ q) → IsAtMost p q
at-most-tail x y p q h = let long = h.0 in (omega arith, λ i lt. h.1 (suc i) (omega arith))

at-most-cons : (x y : ℕ) (p q : List ℕ) → x ≤ y → IsAtMost p q → IsAtMost (x ∷ p) (y ∷ q)
at-most-cons x y p q le h = (ap suc h.0, λ i lt. at-most-at x y p q le h i lt)

between-inside : (lo hi p : List ℕ) → length lo ≡ length hi → Member (between lo hi) p → IsAtMost lo p × IsAtMost p hi
unfolding between
between-inside [] [] p e (inl is) = subst (λ (q : List ℕ). IsAtMost [] q × IsAtMost q []) is (none-at-most, none-at-most)
between-inside [] [] p e (inr m) = absurd m
between-inside [] (h ∷ hi) p e m = absurd (omega arith)
between-inside (l ∷ lo) [] p e m = absurd (omega arith)
between-inside (l ∷ lo) (h ∷ hi) p e m =
    let (x, q, here, there, is) = member-with (up l (h + 1 - l)) (between lo hi) p m in
    let (low, high) = up-within l (h + 1 - l) x here in
    let (a, b) = between-inside lo hi q (omega arith) there in
    subst (λ (r : List ℕ). IsAtMost (l ∷ lo) r × IsAtMost r (h ∷ hi)) is
    (at-most-cons l x lo q low a, at-most-cons x h q hi (omega arith) b)

inside-between : (lo hi p : List ℕ) → length lo ≡ length hi → IsAtMost lo p → IsAtMost p hi → Member (between lo hi) p
unfolding between
inside-between [] [] [] e a b = inl refl
inside-between [] [] (x ∷ p) e a b = let long = a.0 in absurd (omega arith)
inside-between [] (h ∷ hi) p e a b = absurd (omega arith)
inside-between (l ∷ lo) [] p e a b = absurd (omega arith)
inside-between (l ∷ lo) (h ∷ hi) [] e a b = let long = a.0 in absurd (omega arith)
inside-between (l ∷ lo) (h ∷ hi) (x ∷ p) e a b =
    let low : l ≤ x = a.1 0 (omega arith) in
    let high : x ≤ h = b.1 0 (omega arith) in
    with-member (up l (h + 1 - l)) (between lo hi) x p
    (within-up l (h + 1 - l) x low (omega arith))
    (inside-between lo hi p (omega arith) (at-most-tail l x lo p a) (at-most-tail x h p hi b))

-- ---- the points of some boxes

-- all points of the boxes, box by box
points_in : List Corners → List (List ℕ)
points_in [] = []
points_in (b ∷ bs) = between b.lo b.hi ++ points_in bs

length-points : (bs : List Corners) → length (points_in bs) ≡ total bs
unfolding points_in
length-points [] = refl
length-points (b ∷ bs) =
    let rest = length-points bs in
    let first = length-between b.lo b.hi in
    let both = length-append (between b.lo b.hi) (points_in bs) in
    omega arith

-- each has as many coordinates in both corners
abbrev AreEven : List Corners → Type 0
AreEven [] = Unit {0}
AreEven (b ∷ bs) = (length b.lo ≡ length b.hi) × AreEven bs

-- no two have a point in common
abbrev ArePart : List Corners → Type 0
ArePart [] = Unit {0}
ArePart (b ∷ bs) = ((c : Corners) → Member bs c → AreApart b c) × ArePart bs

point-inside : (bs : List Corners) (p : List ℕ) → AreEven bs → Member (points_in bs) p → (b : Corners) × Member bs b × IsInside b p
unfolding points_in
point-inside [] p even h = absurd h
point-inside (b ∷ bs) p even h = elim (member-either (between b.lo b.hi) (points_in bs) p h) [
  | inl k ↦ (b, inl refl, between-inside b.lo b.hi p even.0 k)
  | inr k ↦ let (c, there, is) = point-inside bs p even.1 k in (c, inr there, is)
]

inside-point : (bs : List Corners) (p : List ℕ) (b : Corners) → AreEven bs → Member bs b → IsInside b p → Member (points_in bs) p
unfolding points_in
inside-point [] p b even m is = absurd m
inside-point (c ∷ bs) p b even (inl e) is =
    let here : IsInside c p = subst (λ (d : Corners). IsInside d p) (sym e) is in
    member-left (between c.lo c.hi) (points_in bs) p (inside-between c.lo c.hi p even.0 here.0 here.1)
inside-point (c ∷ bs) p b even (inr m) is = member-right (between c.lo c.hi) (points_in bs) p (inside-point bs p b even.1 m is)

once-points : (bs : List Corners) → AreEven bs → ArePart bs → Once (points_in bs)
unfolding points_in
once-points [] even apart = tt
once-points (b ∷ bs) even apart =
    once-append (between b.lo b.hi) (points_in bs) (once-between b.lo b.hi) (once-points bs even.1 apart.1)
    (λ p m n.
    let (c, there, is) = point-inside bs p even.1 n in
    apart.0 c there p (between-inside b.lo b.hi p even.0 m) is)

part-from : (bs : List Corners) → AllPairs AreApart bs → ArePart bs
part-from [] h = tt
part-from (b ∷ bs) h = (
  (λ c m.
      let (k, lt, is) = member-contained bs c m in
      subst (λ (d : Corners). AreApart b d) is (h 0 (suc k) c (omega arith) (omega arith))),
  part-from bs (λ i j d lt within. h (suc i) (suc j) d (omega arith) (omega arith)),
)

even-from : (bs : List Corners) → ((b : Corners) → Member bs b → length b.lo ≡ length b.hi) → AreEven bs
even-from [] h = tt
even-from (b ∷ bs) h = (h b (inl refl), even-from bs (λ c m. h c (inr m)))

counted : (bs : List Corners) (points : List (List ℕ)) → AreEven bs → AllPairs AreApart bs → AllPairs (λ p q. p ≢ q) points
    → ((p : List ℕ) → Contains points p ↔ IsInSome bs p) → length points ≡ total bs
counted bs points even apart differ are =
    let few = no-longer points (points_in bs) (once-from points differ)
    (λ p m. let (b, there, is) = (are p).0 (member-contained points p m) in inside-point bs p b even (contained-member bs b there) is) in
    let many = no-longer (points_in bs) points (once-points bs even (part-from bs apart))
    (λ p m.
    let (b, there, is) = point-inside bs p even m in
    contained-member points p ((are p).1 (b, member-contained bs b there, is))) in
    let all = length-points bs in
    omega arith

-- ---- the boxes of a condition

-- a box with so many coordinates
abbrev pub IsLong : ℕ → Corners → Type 0
IsLong n b = (length b.lo ≡ n) × (length b.hi ≡ n)

from-part : (g : Interval → List Corners) (side : List Interval) (b : Corners) → Member (flat_map (λ i. map (beside i) (g i)) side) b
    → (i : Interval) × (c : Corners) × Member (g i) c × (beside i c ≡ b)
from-part g [] b m = absurd m
from-part g (i ∷ side) b m = elim (member-either (map (beside i) (g i)) (flat_map (λ i. map (beside i) (g i)) side) b m) [
  | inl k ↦ let (c, there, is) = member-beside i (g i) b k in (i, c, there, is)
  | inr k ↦ from-part g side b k
]

on-long : (test : List ℕ → Bool) (sides : List (List Interval)) (b : Corners) → Member (boxes_on test sides) b → IsLong (length sides) b
on-long test [] b m = absurd m
on-long test (side ∷ []) b m =
    let (run, here, is) = member-lines (runs (λ low. test (low ∷ [])) side) b m in
    subst (λ (c : Corners). IsLong 1 c) is (refl, refl)
on-long test (side ∷ next ∷ sides) b m =
    let (i, c, there, is) = from-part (λ i. boxes_on (λ point. test (i.low ∷ point)) (next ∷ sides)) side b m in
    let long = on-long (λ point. test (i.low ∷ point)) (next ∷ sides) c there in
    subst (λ (d : Corners). IsLong (length (side ∷ next ∷ sides)) d) is (ap suc long.0, ap suc long.1)

-- each box of a condition has a coordinate for each dimension
pub boxes-long : (schema : Schema) (filter : Option Shape) (b : Corners) → Member (boxes_of schema filter) b → IsLong schema.dims b
boxes-long schema filter b m = elim (cases_Bool (is_wide schema filter)) [
  | inl t ↦
      let one : Member (space schema.dims ∷ []) b = rw t at m in
      elim one [
        | inl is ↦ subst (λ (c : Corners). IsLong schema.dims c) is (length-replicate schema.dims 0, length-replicate schema.dims greatest)
        | inr none ↦ absurd none
      ]
  | inr f ↦
      let some : Member (boxes_on (covers schema filter) (grid schema filter)) b = rw f at m in
      subst (λ (n : ℕ). IsLong n b) (length-sides schema filter schema.dims) (on-long (covers schema filter) (grid schema filter) b some)
]

pub points_counted : (schema : Schema) (filter : Option Shape) (points : List (List ℕ)) → AllPairs AreApart (boxes_of schema filter)
    → AllPairs (λ p q. p ≢ q) points → ((p : List ℕ) → Contains points p ↔ IsInSome (boxes_of schema filter) p)
    → length points ≡ total (boxes_of schema filter)
points_counted schema filter points apart differ are =
    counted (boxes_of schema filter) points
    (even-from (boxes_of schema filter) (λ b m. let long = boxes-long schema filter b m in long.0 ∙ sym long.1)) apart differ are
