-- The order in which a sweep comes to stretches: of two that are awaited, which is first.
use Rattle.std.proofs.Common.{◌≡◌, ◌⊎◌, ◌∙◌, ℕ, Bool, true, false, List, inl, inr, sym, subst, arith}
use Rattle.std.proofs.lemmas.Bool.{cases_lt}
use Rattle.ub_bigmin.specs.Box.{Corners, IsValueInSpan}
use Rattle.ub_planning.specs.Visits.{IsAlong}
use Rattle.ub_region.proofs.Laws.{before_or_same}
use Rattle.ub_table.proofs.Laws.{before_trans, not_before_self}
use Rattle.ub_table.specs.Keys.{IsBefore}
use Rattle.ub_table.specs.declared.row.Key.{Key}
use Rattle.ub_tetris.proofs.AlongFacts.{IsUpTo, along_never, along_up_to}
use Rattle.ub_tetris.specs.Awaited.{AwaitedStretch, IsAwaitedBefore, IsFirstValue}
use Rattle.ub_tree.specs.Laws.{LiesIn}
use Rattle.ub_tree.specs.Spans.{Region}

-- ---- coordinates

-- not past another one, a coordinate is before it along the sweep, or is that one
pub up_to_cases : (down : Bool) (a b : ℕ) → IsUpTo down a b → IsAlong down a b ⊎ (a ≡ b)
up_to_cases false a b up = elim (cases_lt a b) [
  | inl lt ↦ inl lt
  | inr ge ↦ elim (cases_lt b a) [
    | inl gt ↦ absurd (up gt)
    | inr le ↦ inr (omega (arith, ge, le))
  ]
]
up_to_cases true a b up = elim (cases_lt b a) [
  | inl lt ↦ inl lt
  | inr ge ↦ elim (cases_lt a b) [
    | inl gt ↦ absurd (up gt)
    | inr le ↦ inr (omega (arith, ge, le))
  ]
]

-- ---- stretches

pub never_before : (down : Bool) (a : AwaitedStretch) → ¬ (IsAwaitedBefore down a a)
never_before down a (inl along) = along_never down a.value along
never_before down a (inr same) = not_before_self a.stretch.span.first same.1

-- one that isn't after another has no later event value
pub first_up_to : (down : Bool) (a b : AwaitedStretch) → ¬ (IsAwaitedBefore down b a) → IsUpTo down a.value b.value
first_up_to down a b none along = none (inl along)

before_first : (a b c : Key) → IsBefore a c → ¬ (IsBefore b c) → IsBefore a b
before_first a b c before none = elim (before_or_same c b none) [
  | inl after ↦ before_trans a c b before after
  | inr same ↦ subst (λ (k : Key). IsBefore a k) same before
]

same_value_first : (a b c : AwaitedStretch) (down : Bool) → a.value ≡ c.value → c.value ≡ b.value → IsBefore a.stretch.span.first c.stretch.span.first → ¬ (IsAwaitedBefore down b c)
    → IsAwaitedBefore down a b
same_value_first a b c down left right before none =
    inr (left ∙ right, before_first a.stretch.span.first b.stretch.span.first c.stretch.span.first before (λ (later : IsBefore b.stretch.span.first c.stretch.span.first). none (inr (sym right, later))))

-- what is before one is before all that aren't before that one
pub before_then : (down : Bool) (a b c : AwaitedStretch) → IsAwaitedBefore down a c → ¬ (IsAwaitedBefore down b c) → IsAwaitedBefore down a b
before_then down a b c (inl along) none = inl (along_up_to down a.value c.value b.value along (first_up_to down c b none))
before_then down a b c (inr (same, before)) none = elim (up_to_cases down c.value b.value (first_up_to down c b none)) [
  | inl along ↦ inl (subst (λ (v : ℕ). IsAlong down v b.value) (sym same) along)
  | inr right ↦ same_value_first a b c down same right before none
]

pub not_before_then : (down : Bool) (a b c : AwaitedStretch) → ¬ (IsAwaitedBefore down a b) → ¬ (IsAwaitedBefore down b c) → ¬ (IsAwaitedBefore down a c)
not_before_then down a b c first second before = first (before_then down a b c before second)

-- two of which neither is before the other have one event value
pub one_value : (down : Bool) (a b : AwaitedStretch) → ¬ (IsAwaitedBefore down a b) → ¬ (IsAwaitedBefore down b a) → a.value ≡ b.value
one_value down a b first second = elim (up_to_cases down a.value b.value (first_up_to down a b second)) [
  | inl along ↦ absurd (first (inl along))
  | inr same ↦ same
]

-- ---- event values of spans

pub value_inside : (boxes : List Corners) (inner outer : Region) (dim v : ℕ) → ((z : ℕ) → LiesIn inner z → LiesIn outer z) → IsValueInSpan boxes inner.from inner.to dim v
    → IsValueInSpan boxes outer.from outer.to dim v
value_inside boxes inner outer dim v inside (b, p, there, held, from, to, at) = let (low, high) = inside _ (from, to) in (b, p, there, held, low, high, at)

-- none in a span is before the first
pub first_of_all : (boxes : List Corners) (dim : ℕ) (down : Bool) (outer : Region) (v w : ℕ) → IsFirstValue boxes dim down outer v → IsValueInSpan boxes outer.from outer.to dim w → IsUpTo down v w
first_of_all boxes dim false outer v w first is along = let least = first.1 w is in omega (arith, least, along)
first_of_all boxes dim true outer v w first is along = let most = first.1 w is in omega (arith, most, along)

pub value_there : (boxes : List Corners) (dim : ℕ) (down : Bool) (region : Region) (v : ℕ) → IsFirstValue boxes dim down region v → IsValueInSpan boxes region.from region.to dim v
value_there boxes dim false region v first = first.0
value_there boxes dim true region v first = first.0

-- so that of a span within another one is no earlier
pub value_within : (boxes : List Corners) (dim : ℕ) (down : Bool) (inner outer : Region) (v w : ℕ) → IsFirstValue boxes dim down outer v → IsFirstValue boxes dim down inner w
    → ((z : ℕ) → LiesIn inner z → LiesIn outer z) → IsUpTo down v w
value_within boxes dim down inner outer v w first second inside =
    first_of_all boxes dim down outer v w first (value_inside boxes inner outer dim w inside (value_there boxes dim down inner w second))
