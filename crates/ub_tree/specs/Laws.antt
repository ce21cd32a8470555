-- The laws of a tree: each is what the function of its name in `law` ensures. That changes keep what regions are is a law of `ub_region`.
use Rattle.std.specs.Prelude.{◌≡◌, ◌+◌, ◌≤◌, ◌<◌, ◌↔◌, ◌∷◌, [], ℕ, List, Option, Some, None, Contains, flat_map, length, slice_get}
use Rattle.ub_tree.specs.Common.{AllByRecursion, AreSoundPages, AreThose, Corners, First, HoldsAny, HoldsKey, IsBefore, IsHonest, IsLater}
use Rattle.ub_tree.specs.Common.{IsOnlyGrown, IsSound, Key, key_of, last_address, level_count, Meets, Region, RegionRows, Row, spans_of, StoreFacts}
use Rattle.ub_tree.specs.Common.{TreeFault, TreeView}
use Rattle.ub_page.specs.declared.entries.TheConstants.{MAX_ENTRIES}
use Rattle.ub_tree.specs.Calls.{StandsAt}
use Rattle.ub_tree.specs.Checking.{IsFirstFault, IsWell}
use Rattle.ub_tree.specs.Effects.{IsIndexFull}
use Rattle.ub_tree.specs.Opened.{IsOpened}
use Rattle.ub_tree.specs.Stretches.{ArePartsOf, IsStretchOf, MeetsAny, Stretch, whole_of, within}
use Rattle.ub_tree.specs.Told.{AreAnswers, GivesNext, IsRegionOf}

-- of two regions the later one begins with the later key
abbrev pub SpansAscend : Type 0
SpansAscend = (t : TreeView) (i j : ℕ) (a b : Region) → IsSound t → i < j
    → slice_get (spans_of t) i ≡ Some a → slice_get (spans_of t) j ≡ Some b → IsBefore a.first b.first

-- no two regions stand on one page
abbrev pub PagesDiffer : Type 0
PagesDiffer = (t : TreeView) (i j : ℕ) (a b : Region) → IsSound t
    → slice_get (spans_of t) i ≡ Some a → slice_get (spans_of t) j ≡ Some b → a.page ≡ b.page → i ≡ j

-- an address lies in a span
abbrev pub LiesIn : Region → ℕ → Type 0
LiesIn span z = (span.from ≤ z) × (z ≤ span.to)

-- each address of the space lies in the span of some region
abbrev pub SpansCoverTheSpace : Type 0
SpansCoverTheSpace = (t : TreeView) (z : ℕ) → IsSound t → z ≤ last_address t.schema.dims
    → (span : Region) × Contains (spans_of t) span × LiesIn span z

-- each row's address lies in the span of the row's region
abbrev pub RowsLieInSpans : Type 0
RowsLieInSpans = (t : TreeView) (span : Region) (region : RegionRows) (row : Row) → IsSound t → Contains (spans_of t) span
    → StandsAt t.placed span.page region → Contains region.rows row → LiesIn span (key_of t.schema.dims row).z

-- a sound tree tells of its regions, each with its span, and of no others
abbrev pub RegionsAreTold : Type 0
RegionsAreTold = (t : TreeView) (span : Region) → IsSound t → IsRegionOf t span ↔ Contains (spans_of t) span

-- of a sound tree `next_meeting` gives the first of its regions, later than the one given, that meets the boxes, or none
abbrev pub NextIsTheFirst : Type 0
NextIsTheFirst = (t : TreeView) (boxes : List Corners) (after found : Option Region) → IsSound t
    → GivesNext boxes t after found → First (λ r. IsLater after r × Meets boxes r) (spans_of t) found

-- what it gives of any tree is a region that the tree tells of; it begins later than the one given, and meets the boxes
abbrev pub NextIsLater : Type 0
NextIsLater = (t : TreeView) (boxes : List Corners) (after : Option Region) (span : Region)
    → GivesNext boxes t after (Some span) → IsRegionOf t span × IsLater after span × Meets boxes span

-- so `next_meeting` of a sound tree, from the beginning on, answers the regions that meet the boxes, each once and in order, and no others
abbrev pub AnswersAreThoseThatMeet : Type 0
AnswersAreThoseThatMeet = (t : TreeView) (boxes : List Corners) (answers : List Region) → IsSound t
    → AreAnswers boxes t None answers → AreThose (Meets boxes) (spans_of t) answers

-- over any tree it answers, from the beginning on, regions that the tree tells of and that meet the boxes
abbrev pub AnswersAreRegionsThatMeet : Type 0
AnswersAreRegionsThatMeet = (t : TreeView) (boxes : List Corners) (answers : List Region) → AreAnswers boxes t None answers
    → AllByRecursion (λ r. IsRegionOf t r × Meets boxes r) answers

-- over any tree, of two answers of `next_meeting`, from the beginning on, the later one begins with the later key, so that none comes twice
abbrev pub AnswersAscend : Type 0
AnswersAscend = (t : TreeView) (boxes : List Corners) (answers : List Region) (i j : ℕ) (a b : Region)
    → AreAnswers boxes t None answers → i < j
    → slice_get answers i ≡ Some a → slice_get answers j ≡ Some b → IsBefore a.first b.first

-- over an honest store, each key of the space with its address in the boxes is held by one of all answers, so that no refused page is passed over
abbrev pub AnswersCover : Type 0
AnswersCover = (t : TreeView) (boxes : List Corners) (answers : List Region) (key : Key) → IsHonest t.store
    → AreAnswers boxes t None answers → HoldsAny boxes key.z → key.z ≤ t.inner.index.last
    → (span : Region) × Contains answers span × HoldsKey key span.first span.next

-- the index of a sound tree into which rows were only put isn't full: there would be more regions than can be counted
abbrev pub GrownIsNotFull : Type 0
GrownIsNotFull = (t : TreeView) → IsSound t → IsOnlyGrown t → ¬ (IsIndexFull t)

-- a tree that was opened, and whose pages are well, is sound, and its pages are those of a closed table
abbrev pub WellPagesAreSound : Type 0
WellPagesAreSound = (store : StoreFacts) (t : TreeView) → IsHonest store → IsOpened store t → IsWell t
    → AreSoundPages store.pages t.schema t.placed t.next × IsSound t

-- the pages of a sound tree are well
abbrev pub SoundTreesAreWell : Type 0
SoundTreesAreWell = (t : TreeView) → IsSound t → IsWell t

-- the check of a tree stops at one fault alone, where the tree's index is one of its schema's space, as each tree's is
abbrev pub FirstFaultIsOne : Type 0
FirstFaultIsOne = (t : TreeView) (one other : TreeFault) → t.inner.index.last ≡ last_address t.schema.dims
    → IsFirstFault t one → IsFirstFault t other → one ≡ other

-- the whole of any tree is a stretch that it tells of
abbrev pub WholeIsTold : Type 0
WholeIsTold = (t : TreeView) → IsStretchOf t (whole_of t)

-- a stretch that any tree tells of holds its first key, begins with that one's address, and is of no higher level than the whole
abbrev pub StretchesBegin : Type 0
StretchesBegin = (t : TreeView) (stretch : Stretch) → IsStretchOf t stretch
    → HoldsKey stretch.span.first stretch.span.first stretch.span.next × (stretch.span.from ≡ stretch.span.first.z) × (stretch.level ≤ level_count t)

-- over any tree, a stretch of level 0 that it tells of is a region that it tells of
abbrev pub LowestAreRegions : Type 0
LowestAreRegions = (t : TreeView) (stretch : Stretch) → IsStretchOf t stretch → stretch.level ≡ 0 → IsRegionOf t stretch.span

-- over any tree, parts of a stretch that it tells of are such too, of the level below, meet the boxes, and are at most as many as entries on a page
abbrev pub PartsAreTold : Type 0
PartsAreTold = (t : TreeView) (boxes : List Corners) (stretch : Stretch) (parts : List Stretch) → IsStretchOf t stretch
    → ArePartsOf t boxes stretch parts
    → AllByRecursion (λ part. IsStretchOf t part × (stretch.level ≡ part.level + 1) × MeetsAny boxes part) parts × (length parts ≤ MAX_ENTRIES)

-- over any tree, and of any stretch, they are of the level below, and at most as many as entries on a page
abbrev pub PartsAreBelow : Type 0
PartsAreBelow = (t : TreeView) (boxes : List Corners) (stretch : Stretch) (parts : List Stretch) → 1 ≤ stretch.level → ArePartsOf t boxes stretch parts
    → AllByRecursion (λ part. stretch.level ≡ part.level + 1) parts × (length parts ≤ MAX_ENTRIES)

-- over any tree, of two parts each key of the later one comes after each key of the earlier one: so they ascend, and share no key
abbrev pub PartsAscend : Type 0
PartsAscend = (t : TreeView) (boxes : List Corners) (stretch : Stretch) (parts : List Stretch) (i j : ℕ) (a b : Stretch)
    → ArePartsOf t boxes stretch parts → i < j → slice_get parts i ≡ Some a → slice_get parts j ≡ Some b
    → (one other : Key) → HoldsKey one a.span.first a.span.next → HoldsKey other b.span.first b.span.next → IsBefore one other

-- over any tree, each key of a part is one of the stretch
abbrev pub PartsLieWithin : Type 0
PartsLieWithin = (t : TreeView) (boxes : List Corners) (stretch : Stretch) (parts : List Stretch) → ArePartsOf t boxes stretch parts
    → AllByRecursion (λ part. (key : Key) → HoldsKey key part.span.first part.span.next → HoldsKey key stretch.span.first stretch.span.next) parts

-- over any tree, each address of a part is one of the stretch
abbrev pub PartsLieIn : Type 0
PartsLieIn = (t : TreeView) (boxes : List Corners) (stretch : Stretch) (parts : List Stretch) → IsStretchOf t stretch → ArePartsOf t boxes stretch parts
    → AllByRecursion (λ part. (z : ℕ) → LiesIn part.span z → LiesIn stretch.span z) parts

-- over any tree, each key of the space that the stretch holds, with its address in the boxes, is held by one of the parts: none is passed over
abbrev pub PartsHold : Type 0
PartsHold = (t : TreeView) (boxes : List Corners) (stretch : Stretch) (parts : List Stretch) (key : Key) → IsStretchOf t stretch
    → ArePartsOf t boxes stretch parts → HoldsAny boxes key.z → key.z ≤ (whole_of t).span.to → HoldsKey key stretch.span.first stretch.span.next
    → (part : Stretch) × Contains parts part × HoldsKey key part.span.first part.span.next

-- each region of a sound tree is within the whole
abbrev pub AllAreWithin : Type 0
AllAreWithin = (t : TreeView) → IsSound t → within (whole_of t) (spans_of t) ≡ spans_of t

-- within a stretch of level 0 of a sound tree is one region: itself
abbrev pub LowestHoldOne : Type 0
LowestHoldOne = (t : TreeView) (stretch : Stretch) → IsSound t → IsStretchOf t stretch → stretch.level ≡ 0
    → within stretch (spans_of t) ≡ stretch.span ∷ []

-- of a sound tree the regions within a stretch that meet the boxes are those that do within its parts, one part after the other
abbrev pub PartsCover : Type 0
PartsCover = (t : TreeView) (boxes : List Corners) (stretch : Stretch) (parts : List Stretch) (met : List Region) → IsSound t → IsStretchOf t stretch
    → ArePartsOf t boxes stretch parts
    → AreThose (Meets boxes) (within stretch (spans_of t)) met ↔ AreThose (Meets boxes) (flat_map (λ part. within part (spans_of t)) parts) met

-- of a sound tree an address lies in a stretch just where it lies in some region within it
abbrev pub StretchIsItsRegions : Type 0
StretchIsItsRegions = (t : TreeView) (stretch : Stretch) (z : ℕ) → IsSound t → IsStretchOf t stretch
    → LiesIn stretch.span z ↔ ((region : Region) × Contains (within stretch (spans_of t)) region × LiesIn region z)

-- so some region meets the boxes within a stretch that does
abbrev pub SomeRegionMeets : Type 0
SomeRegionMeets = (t : TreeView) (boxes : List Corners) (stretch : Stretch) → IsSound t → IsStretchOf t stretch → MeetsAny boxes stretch
    → (region : Region) × Contains (within stretch (spans_of t)) region × Meets boxes region
