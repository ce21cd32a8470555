-- The stretches that a sweep awaits as a heap stores them, and the order of the sweep as a comparison.
use Rattle.std.specs.Prelude.{◌≡◌, ◌++◌, [], ◌∷◌, ℕ, ℤ, pos, Bool, List, Option, Some, None, map, Contains}
use Rattle.ub_tetris.specs.Common.{AllByRecursion, Awaited, back_total, Corners, int_cmp, int_cmp_total, IsPermutation, IsTotalOrder, IsValueInSpan}
use Rattle.ub_tetris.specs.Common.{nat_cmp, nat_cmp_total, on_total, Ordering, ordering_then, PlanView, Stretch, Sweep, then_total}
use Rattle.std.specs.BinaryHeap.{IsHeap}
use Rattle.ub_tetris.specs.Awaited.{AreValued, AwaitedStretch, HaveDimension, IsAwaitedBefore, IsFirstOn, awaited_at, stretches_of}
use Rattle.ub_tetris.specs.Held.{turned}
use Rattle.ub_tetris.specs.declared.course.Course.{Course}

-- what contracts see of those awaited
abbrev pub seen : Awaited → AwaitedStretch
seen a = record { value = a.value; stretch = a.stretch }

abbrev pub awaited_of : List Awaited → List AwaitedStretch
awaited_of items = map seen items

-- an event value by which lesser ones come first
abbrev pub rank_of : Awaited → ℤ
rank_of a = turned a.is_descending (pos a.value)

-- by event value along the sweep, and where these are equal, by first key
abbrev pub event_cmp : Awaited → Awaited → Ordering
event_cmp a b =
    ordering_then
    (ordering_then (int_cmp (rank_of a) (rank_of b)) (nat_cmp a.stretch.span.first.z b.stretch.span.first.z))
    (nat_cmp a.stretch.span.first.number b.stretch.span.first.number)

-- the greatest is the first
abbrev pub awaited_cmp : Awaited → Awaited → Ordering
awaited_cmp a b = event_cmp b a

pub awaited_total : IsTotalOrder awaited_cmp
awaited_total =
    back_total
    (then_total (then_total (on_total rank_of int_cmp_total) (on_total (λ (a : Awaited). a.stretch.span.first.z) nat_cmp_total))
    (on_total (λ (a : Awaited). a.stretch.span.first.number) nat_cmp_total))

-- a sweep's dimension and direction, and what it awaits
pub record Ahead : Type 0 where
  pub dim : ℕ
  pub is_descending : Bool
  pub stretches : List AwaitedStretch

abbrev pub ahead_on : Course → List AwaitedStretch → Ahead
ahead_on course stretches = record { dim = course.dim; is_descending = course.is_descending; stretches = stretches }

-- the plan is a sweep on this course, in a dimension that its boxes have
abbrev pub IsCourseOf : PlanView → Course → Type 0
IsCourseOf plan course = (plan.kind ≡ Sweep course.dim course.is_descending) × HaveDimension course.dim plan.covering.boxes

-- they are a heap, and all go in one direction
pub record AreHeaped (course : Course) (items : List Awaited) : Type 0 where
  pub heap : IsHeap awaited_cmp items
  pub along : AllByRecursion (λ a. a.is_descending ≡ course.is_descending) items

-- none of these is come to before this one
abbrev pub IsFirstAwaited : Bool → AwaitedStretch → List AwaitedStretch → Type 0
IsFirstAwaited is_descending first awaited = AllByRecursion (λ other. ¬ (IsAwaitedBefore is_descending other first)) awaited

-- the event value of the first of those awaited; none is where none are awaited
abbrev pub IsValueOfFirst : Ahead → Option ℕ → Type 0
IsValueOfFirst ahead None = ahead.stretches ≡ []
IsValueOfFirst ahead (Some value) =
    (first : AwaitedStretch) × Contains ahead.stretches first × (first.value ≡ value) × IsFirstAwaited ahead.is_descending first ahead.stretches

-- the first was taken out of those awaited; none was where none are awaited
abbrev pub TakesNext : Ahead → Ahead → Option Awaited → Type 0
TakesNext old new None = (old.stretches ≡ []) × (new ≡ old)
TakesNext old new (Some next) =
    (new ≡ record old { stretches = new.stretches }) × IsPermutation old.stretches (seen next ∷ new.stretches)
    × IsFirstAwaited old.is_descending (seen next) new.stretches

-- these stretches were put in with their event values, along a course in a dimension that the boxes have
pub record HasQueued (boxes : List Corners) (start : Ahead) (taken : List Stretch) (now : Ahead) : Type 0 where
  pub course : (now.dim ≡ start.dim) × (now.is_descending ≡ start.is_descending)
  pub within : HaveDimension now.dim boxes
  pub queued : List AwaitedStretch
  pub are : stretches_of queued ≡ taken
  pub valued : AreValued boxes now.dim now.is_descending queued
  pub now_are : IsPermutation (start.stretches ++ queued) now.stretches

-- the whole of a tree is awaited with its event value, or nothing where it has none
pub record AwaitsWhole (boxes : List Corners) (course : Course) (whole : Stretch) (ahead : Ahead) : Type 0 where
  pub value : Option ℕ
  pub first : IsFirstOn course.is_descending (IsValueInSpan boxes whole.span.from whole.span.to course.dim) value
  pub is : ahead ≡ ahead_on course (awaited_at whole value)
