-- Stretches of a tree: the laws, from those of its index; what is kept over calls that read; and why opening one is refused.
use Rattle.std.specs.Prelude.{Contains}
use Rattle.std.proofs.Common.{rules, ◌≡◌, ◌≤◌, ◌<◌, ◌+◌, ◌^◌, ◌↔◌, inl, ℕ, Bool, List, [], ◌∷◌, Some, None, Result, Ok, Err, IsTrue, flat_map, sym, ap, subst, ◌∙◌}
use Rattle.ub_tree.proofs.Common.{all_more, AllAreWithin, AreThose, comes_leads, comes_stops, Corners, entry_at, fault_of_tree, index_fault, IndexFault}
use Rattle.ub_tree.proofs.Common.{IndexView, IsErrAnd, IsIndexRefused, IsReadFault, IsStepFault, IsStopped, IsStretchOn, LiesIn, LowestAreRegions}
use Rattle.ub_tree.proofs.Common.{LowestHoldOne, Meets, MeetsAny, page_count, PageFault, PagerView, parts_inside, parts_told, parts_up, PartsAreTold}
use Rattle.ub_tree.proofs.Common.{PartsAscend, PartsCover, PartsLieWithin, ReadFault, Region, Schema, SomeRegionMeets, Stops, store_after, StoreFacts, Stretch}
use Rattle.ub_tree.proofs.Common.{StretchesBegin, StretchIsItsRegions, top, tree_view, TreeView, whole_told, WholeIsTold, within}
use Rattle.ub_tree.proofs.IndexedFacts.{sound_index, spans_told}
use Rattle.ub_tree.proofs.ReadFacts.{IsTraced, given_of}
use Rattle.ub_tree.proofs.SearchFacts.{index_not_refused, no_stop}
use Rattle.ub_tree.specs.Reading.{read_store}
use Rattle.ub_tree.specs.Stretches.{ArePartsOf, IsOpeningFault, IsStretchOf, OpensStretch, whole_of}
use Rattle.ub_index.proofs.StretchCover as cover
use Rattle.ub_index.specs.Stretches as index
use Rattle.ub_index.specs.declared.fault.IndexFault.TheVariants as fault
use Rattle.ub_store.specs.declared.fault.StoreFault.TheVariants as store
pub use Rattle.ub_index.proofs.StretchCover.{held_key, key_held}

-- ---- over any tree

pub whole_is_told : WholeIsTold
whole_is_told t = record { is = whole_told t.inner.index t.store }

pub stretches_begin : StretchesBegin
stretches_begin t s told = (told.is.holds, told.is.from, told.is.low)

pub lowest_are_regions : LowestAreRegions
lowest_are_regions t s told low = record {
  key = s.span.first;
  falls = record {
    holds = told.is.holds;
    from = told.is.from;
    to = told.is.to;
    way = λ honest.
        comes_leads t.inner.index.last t.store.pages t.inner.index.levels (top t.inner.index.root) None s s.span.first (told.is.way honest) low told.is.holds;
  };
}

pub parts_are_told : PartsAreTold
parts_are_told t boxes s parts told are =
    let both = parts_told t.inner.index t.store boxes s parts are.are told.is in (
      all_more (λ part. IsStretchOn t.inner.index t.store part × (s.level ≡ part.level + 1) × MeetsAny boxes part)
          (λ part. IsStretchOf t part × (s.level ≡ part.level + 1) × MeetsAny boxes part) (λ part h. (record { is = h.0 }, h.1, h.2)) parts both.0,
      both.1,
    )

pub parts_ascend : PartsAscend
parts_ascend t boxes s parts i j a b are lt at_i at_j = parts_up t.inner.index t.store boxes s parts are.are i j a b lt at_i at_j

pub parts_lie_within : PartsLieWithin
parts_lie_within t boxes s parts are = parts_inside t.inner.index t.store boxes s parts are.are

-- ---- over a sound tree

pub all_are_within : AllAreWithin
all_are_within t sound =
    subst (λ (rs : List Region). within (whole_of t) rs ≡ rs) (spans_told t sound) (cover.whole_within t.inner.index t.store (sound_index t sound))

pub lowest_hold_one : LowestHoldOne
lowest_hold_one t s sound told low =
    subst (λ (rs : List Region). within s rs ≡ s.span ∷ []) (spans_told t sound) (cover.lowest_one t.inner.index t.store (sound_index t sound) s told.is low)

pub parts_cover : PartsCover
parts_cover t boxes s parts met sound told are =
    subst (λ (rs : List Region). AreThose (Meets boxes) (within s rs) met ↔ AreThose (Meets boxes) (flat_map (λ part. within part rs) parts) met) (spans_told t sound)
    (cover.parts_cover t.inner.index t.store (sound_index t sound) boxes s parts told.is are.are met)

pub stretch_is_its_regions : StretchIsItsRegions
stretch_is_its_regions t s z sound told =
    subst (λ (rs : List Region). LiesIn s.span z ↔ ((r : Region) × Contains (within s rs) r × LiesIn r z)) (spans_told t sound)
    (cover.stretch_covered t.inner.index t.store (sound_index t sound) s told.is z)

pub some_region_meets : SomeRegionMeets
some_region_meets t boxes s sound told meets =
    subst (λ (rs : List Region). (r : Region) × Contains (within s rs) r × Meets boxes r) (spans_told t sound)
    (cover.some_meets t.inner.index t.store (sound_index t sound) s told.is boxes meets)

-- ---- what is kept

-- a tree that has the same pages and the same index tells of the same stretches
pub stretch_kept : (old new : TreeView) → new.store.honest ≡ old.store.honest → new.store.pages ≡ old.store.pages → new.inner ≡ old.inner
    → (s : Stretch) → IsStretchOf old s → IsStretchOf new s
stretch_kept old new h k j s l = search rules

-- so does one of which only the trace has changed, and of each the same parts
pub traced_stretch : (old new : TreeView) → IsTraced old new → (s : Stretch) → IsStretchOf new s → IsStretchOf old s
traced_stretch old new same s h = let there : IsStretchOf (record old { trace = new.trace }) s = subst (λ (t : TreeView). IsStretchOf t s) same h in record { is = there.is }

pub stretch_traced : (old new : TreeView) → IsTraced old new → (s : Stretch) → IsStretchOf old s → IsStretchOf new s
stretch_traced old new same s h = let here : IsStretchOf (record old { trace = new.trace }) s = record { is = h.is } in subst (λ (t : TreeView). IsStretchOf t s) (sym same) here

pub traced_parts : (old new : TreeView) → IsTraced old new → (boxes : List Corners) (s : Stretch) (parts : List Stretch) → ArePartsOf new boxes s parts → ArePartsOf old boxes s parts
traced_parts old new same boxes s parts h =
    let there : ArePartsOf (record old { trace = new.trace }) boxes s parts = subst (λ (t : TreeView). ArePartsOf t boxes s parts) same h in record { are = there.are }

-- ---- why a stretch isn't opened

opening_fault : (t : TreeView) (s : Stretch) (e : IndexFault) → IsStepFault t.inner.index.last t.store s.level (entry_at s.span) s.span.next e
    → IsOpeningFault s t (fault_of_tree (index_fault e))
opening_fault t s (fault.Page n why) h = h
opening_fault t s (fault.Store store.Memory) h = tt
opening_fault t s (fault.Store store.Device) h = h
opening_fault t s (fault.Store store.NoPage) h = h
opening_fault t s e h = absurd h

-- one that the tree tells of
module _ (t : TreeView) (s : Stretch) (small : t.inner.index.last < 2 ^ 128) (some : 1 ≤ s.level) (told : IsStretchOf t s) where
  stops : (n : ℕ) (why : PageFault) → (n ≡ s.span.page) → IsStepFault t.inner.index.last t.store s.level (entry_at s.span) s.span.next (fault.Page n why) → IsIndexRefused t n why
  stops n why same h = λ honest. (
    s.span.first,
    subst (λ (m : ℕ). Stops t.inner.index t.store s.span.first m (Some why)) (sym same)
        (comes_stops t.inner.index.last t.store.pages t.inner.index.levels (top t.inner.index.root) None s s.span.first (Some why) (told.is.way honest) some (h.1 honest) told.is.holds),
  )

  missing : page_count t.store ≤ s.span.page → IsStopped t
  missing far = (
    s.span.page,
    far,
    λ honest. (
      s.span.first,
      comes_stops t.inner.index.last t.store.pages t.inner.index.levels (top t.inner.index.root) None s s.span.first None (told.is.way honest) some far told.is.holds,
    ),
  )

  read_fault : (e : IndexFault) → IsStepFault t.inner.index.last t.store s.level (entry_at s.span) s.span.next e → IsReadFault t (index_fault e)
  read_fault (fault.Page n why) h = (λ sound. index_not_refused t n why small sound (stops n why h.0 h), inl (stops n why h.0 h))
  read_fault (fault.Store store.Memory) h = tt
  read_fault (fault.Store store.Device) h = h
  read_fault (fault.Store store.NoPage) h =
      (λ sound. let way = (missing h).2 sound.honest in no_stop t way.0 (missing h).0 None small sound way.1, inl (missing h))
  read_fault e h = absurd h

pub stores_alike : (T U : Type 0) (e : IndexFault) (s : StoreFacts) → store_after {A = U} (Err e) s ≡ read_store {A = T} (Err (fault_of_tree (index_fault e))) s
stores_alike T U e s = search rules

-- the call of the index as one of the tree
module _ {S : Type 0} (Takes : S → List Stretch → S → Type 0) (schema : Schema) (i : IndexView) (count next rows : ℕ) (changed failed : Bool) (old new : PagerView)
    (boxes : List Corners) (s : Stretch) (sink_old sink_new : S) (working : ¬ (IsTrue failed)) where
  abbrev before : TreeView
  before = tree_view schema i count next rows changed failed old

  abbrev after : TreeView
  after = tree_view schema i count next rows changed failed new

  pub opens_refused : {T : Type 0} (U : Type 0) (r : Result T ReadFault) (e : IndexFault) → i.last < 2 ^ 128 → 1 ≤ s.level → IsErrAnd r (λ x. x ≡ fault_of_tree (index_fault e))
      → index.OpensStretch {A = U} Takes i boxes s sink_old sink_new old new (Err e) → OpensStretch Takes boxes s before after sink_old sink_new r
  opens_refused U (Ok x) e small some is h = absurd is
  opens_refused {T} U (Err f) e small some is h = rw is (record {
    parts = tt;
    failed = λ f. absurd (working f);
    same = ap (λ (p : PagerView). tree_view schema i count next rows changed failed p) h.steps.same
        ∙ ap (λ (s : StoreFacts). record before { store = s }) (stores_alike T U e old.store);
    faults = λ told. given_of before (index_fault e) (read_fault before s small some told e h.steps.faults);
    refused = opening_fault before s e h.steps.faults;
  })
