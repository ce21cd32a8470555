-- What a call that reads a region answers, and why it is refused.
use Rattle.std.proofs.Common.{rules, ◌⊎◌, inl, inr, ◌≡◌, ℕ, suc, Bool, List, Option, Some, IfSome, Result, Ok, Err, ap, sym, subst, refl, slice_get, map, ◌≤◌, ◌<◌, ◌∙◌, arith}
use Rattle.ub_tree.proofs.Common.{AllByRecursion, each_get, entry_of, Failed, first_keys, firsts_of, index_fault, index_holding, IndexFault, IndexView}
use Rattle.ub_tree.proofs.Common.{IsBefore, IsErrAnd, IsErrOf, IsFull, IsHonest, IsPassing, IsReadFault, IsRegion, IsRegionIn, IsRegionOf, IsSound, IsSpanFault}
use Rattle.ub_tree.proofs.Common.{IsTakenIn, Key, keys_of, Memory, Notes, PagerView, read_store, Region, region_page, RegionRows, regions, SameTrace, Schema}
use Rattle.ub_tree.proofs.Common.{store_after, StoreFacts, StoreFault, tree_view, TreeFault, TreeView}
use Rattle.ub_tree.proofs.IndexedFacts.{at_of_key}
use Rattle.ub_tree.proofs.SearchFacts.{stores_alike}
use Rattle.ub_tree.proofs.TreeFacts.{all_get, apart_next, firsts_placed, region_get, placed_there}
use Rattle.ub_check.specs.Standing as check
use Rattle.ub_index.specs.Opening as passing
use Rattle.ub_index.specs.declared.fault.IndexFault.TheVariants as index
use Rattle.ub_store.specs.declared.fault.StoreFault.TheVariants as store

-- on a sound tree a region stands on the page of each span
pub sound_on : (t : TreeView) (i : ℕ) (span : Region) → IsSound t → IsRegionIn t i span → (r : RegionRows) × IsTakenIn t span r
sound_on t i span sound at =
    let (p, there, page, first) = placed_there t.placed i span at in
    let region = region_get t.placed i p there in
    let each = each_get (IsRegion t.schema) (regions t) i p.region sound.regions_are.each region in
    let apart = apart_next t.schema.dims (regions t) i p.region sound.regions_are.apart region in
    let spelled = all_get (λ q. slice_get t.store.pages q.page ≡ Some (region_page t.schema q.region)) t.placed i p sound.placed_are.spelled there in
    let next : span.next ≡ slice_get (firsts_of (regions t)) (suc i) = at.next ∙ ap (λ (ks : List Key). slice_get ks (suc i)) (firsts_placed t.placed) in (
      p.region,
      (
        each,
        (first, subst (λ (o : Option Key). IfSome o (λ end. AllByRecursion (λ key. IsBefore key end) (keys_of t.schema.dims p.region.rows))) (sym next) apart),
        λ honest. ap (slice_get t.store.pages) (sym page) ∙ spelled,
      ),
    )

-- and so one that the tree tells of
pub sound_span : (t : TreeView) (span : Region) → IsSound t → IsRegionOf t span → (r : RegionRows) × IsTakenIn t span r
sound_span t span sound told = sound_on t (index_holding told.key (first_keys (map entry_of t.placed))) span sound (at_of_key t sound told.key span told.falls)

-- why a region isn't read, as the tree tells it: also where it isn't the tree's
pub span_fault : (t : TreeView) (span : Region) (e : IndexFault) → check.IsSpanFault t.schema t.store span e → IsSpanFault span t (index_fault e)
span_fault t span (index.Store store.Memory) h = tt
span_fault t span (index.Store store.BadSize) h = absurd h
span_fault t span index.Full h = absurd h
span_fault t span e h = h

-- and where it is the tree's: what stands there is taken in, of a sound tree
pub region_fault : (t : TreeView) (span : Region) (e : IndexFault) → IsRegionOf t span → ((r : RegionRows) → IsHonest t.store → IsTakenIn t span r → passing.IsPassing e)
    → check.IsSpanFault t.schema t.store span e → IsReadFault t (index_fault e)
region_fault t span (index.Page n fault) told exact (at, page, is, refused) =
    ((λ sound. let on = sound_span t span sound told in exact on.0 sound.honest on.1), inr (span, told, sym at, page, is, refused))
region_fault t span (index.Store store.Memory) told exact h = tt
region_fault t span (index.Store store.Device) told exact h = h
region_fault t span (index.Store store.NoPage) told exact h = ((λ sound. let on = sound_span t span sound told in exact on.0 sound.honest on.1), inr (span, told, h))
region_fault t span e told exact h = absurd h

pub passing_there : (e : IndexFault) → passing.IsPassing e → IsPassing (index_fault e)
passing_there (index.Store store.Memory) h = inl refl
passing_there (index.Store store.Device) h = inr refl
passing_there e h = absurd h

-- no fault of the index says that the tree has failed
index_failed : (e : IndexFault) → index_fault e ≡ Failed → ⊥
index_failed e h = search rules

pub never_failed : {T : Type 0} (r : Result T TreeFault) (e : IndexFault) (old new : TreeView) → IsErrAnd r (λ x. x ≡ index_fault e) → r ≡ Err Failed → new ≡ old
never_failed (Ok x) e old new is failed = absurd is
never_failed (Err f) e old new is failed = let same : f ≡ Failed = cc in absurd (index_failed e (sym is ∙ same))

-- the note, where the region isn't read
pub noted_by : {T U : Type 0} (r : Result T TreeFault) (q : Result U IndexFault) (e : IndexFault) (n : ℕ) (old new : PagerView) → q ≡ Err e → IsErrAnd r (λ x. x ≡ index_fault e)
    → ((q ≡ Err (index.Store store.Memory)) × (new ≡ old) × IsFull old.trace) ⊎ Notes n old.trace new.trace
    → ((new.trace ≡ old.trace) × ((r ≡ Err Failed) ⊎ ((r ≡ Err Memory) × IsFull old.trace))) ⊎ Notes n old.trace new.trace
noted_by (Ok x) q e n old new q_is is noted = absurd is
noted_by (Err f) q e n old new q_is is (inl (memory, same, full)) =
    let one : e ≡ index.Store store.Memory = cc in
    inl (ap (λ (p : PagerView). p.trace) same, inr (ap (λ (x : TreeFault). Err x) (is ∙ ap (λ (x : IndexFault). index_fault x) one), full))
noted_by (Err f) q e n old new q_is is (inr noted) = inr noted

-- a store that was read, by the fault of the index and by that of the tree
pub read_by : {T : Type 0} (U : Type 0) (r : Result T TreeFault) (e : IndexFault) (old new : StoreFacts) → IsErrAnd r (λ x. x ≡ index_fault e) → new ≡ store_after {A = U} (Err e) old → new ≡ read_store r old
read_by U (Ok x) e old new is same = absurd is
read_by {T = T} U (Err f) e old new is same = rw is (same ∙ stores_alike T U e old)

-- a tree whose store was read alone
pub read_tree : {T : Type 0} (r : Result T TreeFault) (schema : Schema) (index : IndexView) (count next rows : ℕ) (changed failed : Bool) (old new : PagerView) → new.store ≡ read_store r old.store
    → tree_view schema index count next rows changed failed new
    ≡ record (tree_view schema index count next rows changed failed old) { store = read_store r old.store; trace = new.trace }
read_tree r schema index count next rows changed failed old new same = rw same refl

pub searched_tree : {T : Type 0} (r : Result T TreeFault) (schema : Schema) (index : IndexView) (count next rows : ℕ) (changed failed : Bool) (old new : PagerView) → new.store ≡ read_store r old.store
    → SameTrace old new
    → tree_view schema index count next rows changed failed new ≡ record (tree_view schema index count next rows changed failed old) { store = read_store r old.store }
searched_tree r schema index count next rows changed failed old new same trace = rw (same, trace) refl

-- a write whose page is there is refused where its store fails, and never else
pub only_device : {U : Type 0} (fault : StoreFault) → (fault ≡ store.Device) ⊎ (fault ≡ store.NoPage) → (IsErrOf {T = U} (Err fault) store.NoPage → ⊥) → fault ≡ store.Device
only_device fault (inl e) missing = e
only_device fault (inr e) missing = absurd (missing (rw e refl))

-- a write finds no page only where none is
pub past_page : (count page : ℕ) → page < count → (count ≡ 0) ⊎ (count ≤ page) → ⊥
past_page count page there (inl none) = omega arith
past_page count page there (inr past) = omega arith

pub past_pages : (count number page : ℕ) → number < count → page < count → (count ≡ 0) ⊎ (count ≤ number) ⊎ (count ≤ page) → ⊥
past_pages count number page h k j = search rules
