-- The stretches that a sweep awaits, over any tree, also over one that isn't sound: in which order it comes to them, and what comes in their place.
use Rattle.std.specs.Prelude.{◌≡◌, ◌≤◌, ◌<◌, ◌^◌, ◌++◌, ◌⊎◌, if◌then◌else◌, ℕ, Bool, true, false, All, List, [], ◌∷◌, Option, Some, None, Contains, length, map}
use Rattle.ub_tetris.specs.Common.{AllByRecursion, ArePartsOf, Corners, holds_key, HoldsAny, IsAlong, IsBefore, IsStretchOf, IsValueInSpan, Key}
use Rattle.ub_tetris.specs.Common.{Region, Stretch, sum_by, TreeView, whole_of}
use Rattle.ub_bigmin.specs.Extremes.{Least, Greatest}

-- a stretch that a sweep is to come to, and its event value
pub record AwaitedStretch : Type 0 where
  pub value : ℕ
  pub stretch : Stretch

-- a region to which a sweep comes, and its event value
pub record AwaitedRegion : Type 0 where
  pub value : ℕ
  pub region : Region

-- the first along the sweep of a set of coordinates, if there is one
abbrev pub IsFirstOn : Bool → (ℕ → Type 0) → Option ℕ → Type 0
IsFirstOn false P found = Least P found
IsFirstOn true P found = Greatest P found

-- the first coordinate along the sweep among the points of the boxes in the region's span
abbrev pub IsFirstValue : List Corners → ℕ → Bool → Region → ℕ → Type 0
IsFirstValue boxes dim is_descending region v = IsFirstOn is_descending (IsValueInSpan boxes region.from region.to dim) (Some v)

-- by event value along the sweep, and where these are equal, by first key
abbrev pub IsAwaitedBefore : Bool → AwaitedStretch → AwaitedStretch → Type 0
IsAwaitedBefore is_descending a b = IsAlong is_descending a.value b.value ⊎ ((a.value ≡ b.value) × IsBefore a.stretch.span.first b.stretch.span.first)

abbrev pub stretches_of : List AwaitedStretch → List Stretch
stretches_of awaited = map (λ a. a.stretch) awaited

-- a region is a stretch of the lowest level
abbrev pub as_lowest : AwaitedRegion → AwaitedStretch
as_lowest a = record { value = a.value; stretch = record { span = a.region; level = 0 } }

abbrev pub lowest : List AwaitedRegion → List AwaitedStretch
lowest come = map as_lowest come

-- how many of some stretches hold a key
abbrev pub times_held : Key → List AwaitedStretch → ℕ
times_held key awaited = sum_by (λ a. if holds_key a.stretch key then 1 else 0) awaited

-- no fewer than the regions that some stretches can have: one of level 0 is a region, and each other one has at most 170 parts of the level below
abbrev pub most_regions : List AwaitedStretch → ℕ
most_regions awaited = sum_by (λ a. 171 ^ a.stretch.level) awaited

-- the tree tells of each of them
abbrev pub AreStretchesOf : TreeView → List AwaitedStretch → Type 0
AreStretchesOf t awaited = AllByRecursion (λ a. IsStretchOf t a.stretch) awaited

-- each has its event value
abbrev pub AreValued : List Corners → ℕ → Bool → List AwaitedStretch → Type 0
AreValued boxes dim is_descending awaited = AllByRecursion (λ a. IsFirstValue boxes dim is_descending a.stretch.span a.value) awaited

-- the boxes are of a space that has this dimension, as those of the plan by which a sweep was begun are
abbrev pub HaveDimension : ℕ → List Corners → Type 0
HaveDimension dim boxes = All (λ b. dim < length b.lo) boxes

-- ---- what comes in the place of stretches that are opened

-- from a stretch one comes to another by parts of parts, each of which was told where the one before it was opened
abbrev pub ComesDown : TreeView → List Corners → Stretch → List Stretch → Stretch → Type 0
ComesDown t boxes stretch [] below = below ≡ stretch
ComesDown t boxes stretch (part ∷ way) below =
    (parts : List Stretch) × ArePartsOf t boxes stretch parts × Contains parts part × ComesDown t boxes part way below

-- a stretch is one of those awaited, or a part of one, or a part of such a part, and so on
abbrev pub IsBelow : TreeView → List Corners → List AwaitedStretch → Stretch → Type 0
IsBelow t boxes awaited below = (a : AwaitedStretch) × Contains awaited a × (way : List Stretch) × ComesDown t boxes a.stretch way below

-- stretches came in the place of others: each is one of those, or a part, and so on. Where the tree tells of those, no key is held more often than
-- before, and each one of the space in the boxes as often; and to none is come earlier than to all of those
pub record AreInPlaceOf (t : TreeView) (boxes : List Corners) (dim : ℕ) (is_descending : Bool) (before after : List AwaitedStretch) : Type 0 where
  pub below : (a : AwaitedStretch) → Contains after a → IsBelow t boxes before a.stretch
  pub fewer : AreStretchesOf t before → (key : Key) → times_held key after ≤ times_held key before
  pub all : AreStretchesOf t before → HaveDimension dim boxes → (key : Key) → HoldsAny boxes key.z → key.z ≤ (whole_of t).span.to
      → times_held key before ≤ times_held key after
  pub valued : AreValued boxes dim is_descending before → AreValued boxes dim is_descending after
  pub later : AreStretchesOf t before → AreValued boxes dim is_descending before → (a : AwaitedStretch) → Contains after a
      → (b : AwaitedStretch) × Contains before b × ¬ (IsAwaitedBefore is_descending a b)

-- these regions were come to in the order of a sweep, before all that is awaited still
abbrev pub AreInOrder : Bool → List AwaitedRegion → List AwaitedStretch → Type 0
AreInOrder is_descending [] left = Unit {0}
AreInOrder is_descending (a ∷ come) left =
    AllByRecursion (λ b. ¬ (IsAwaitedBefore is_descending b (as_lowest a))) (lowest come ++ left) × AreInOrder is_descending come left

-- ---- what a sweep awaits where it is begun

-- a stretch with its event value, where it has one
abbrev pub awaited_at : Stretch → Option ℕ → List AwaitedStretch
awaited_at stretch None = []
awaited_at stretch (Some value) = record { value = value; stretch = stretch } ∷ []

-- the whole tree with its event value; or nothing, where no address of the space lies in a box
pub record IsWholeAwaited (boxes : List Corners) (dim : ℕ) (is_descending : Bool) (t : TreeView) (awaited : List AwaitedStretch) : Type 0 where
  pub value : Option ℕ
  pub first : IsFirstOn is_descending (IsValueInSpan boxes (whole_of t).span.from (whole_of t).span.to dim) value
  pub is : awaited ≡ awaited_at (whole_of t) value
