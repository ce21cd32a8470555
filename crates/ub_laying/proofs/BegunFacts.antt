-- A table that is begun, and laid: what its header tells, what its pager holds, and why it is refused.
use Rattle.std.proofs.Common.{◌≡◌, ◌≤◌, ◌<◌, ◌+◌, ◌^◌, ◌∙◌, ℕ, zero, suc, true, List, [], ◌∷◌, Option, Some, None, Ok, Err, ap, arith, length, map, refl, slice_get, subst, sym, take}
use Rattle.std.proofs.lemmas.List.{length-append}
use Rattle.ub_index.specs.Standing.{IsGrowFault}
use Rattle.ub_index.specs.View.{index_view}
use Rattle.ub_laying.proofs.LayFacts.{some_regions}
use Rattle.ub_laying.specs.Begun.{CanLay, IsFresh, IsLaidFor, LaysBegun, begun_view}
use Rattle.ub_laying.specs.Effects.{Counts, HasNotFailed, written}
use Rattle.ub_laying.specs.Laying.{CanBeLaid, LaysRegions, most_laid}
use Rattle.ub_laying.specs.declared.levels.Root.{Root}
use Rattle.ub_region.specs.Regions.{rows_of}
use Rattle.ub_store.specs.Cache.{Renews, page_at}
use Rattle.ub_store.specs.Facts.{StoreFacts, page_count}
use Rattle.ub_store.specs.View.{PagerView}
use Rattle.ub_store.specs.declared.fault.Rejected.{Rejected}
use Rattle.ub_store.specs.declared.fault.StoreFault.{StoreFault}
use Rattle.ub_store.specs.declared.fault.StoreFault.TheVariants as store
use Rattle.ub_table.specs.Region.{RegionRows}
use Rattle.ub_table.specs.declared.row.Row.{Row}
use Rattle.ub_table.specs.declared.schema.Schema.{Schema}
use Rattle.ub_writing.proofs.MarkFacts.{mark_kept}
use Rattle.ub_writing.specs.Creation.{IsLayoutFault}
use Rattle.ub_writing.specs.Marks.{HasMark}
use Rattle.ub_zaddr.specs.Address.{last_address}

-- ---- regions that can be laid

pub can_be_laid : (schema : Schema) (next : ℕ) (grown : List RegionRows) → CanLay schema next grown → CanBeLaid schema grown
can_be_laid schema next grown can = record { begins = can.regions_are.begins; ascending = can.regions_are.ascending; each = can.regions_are.each }

-- they take few pages
pub few_pages : (schema : Schema) (next : ℕ) (grown : List RegionRows) → CanLay schema next grown → (1 ≤ length grown) × (length grown < 2 ^ 25)
few_pages schema next grown can =
    let few = can.few in
    let last = can.last_next in
    (some_regions schema grown (can_be_laid schema next grown can), omega arith)

-- ---- a pager that holds nothing

pub none_held : (P : List ℕ → Type 0) (old new : List (ℕ × List ℕ)) → ((n : ℕ) → page_at old n ≡ None) → Renews P old new → (n : ℕ) → page_at new n ≡ None
none_held P old new none renews n = by_page (page_at new n) refl
  where
    by_page : (o : Option (List ℕ)) → page_at new n ≡ o → page_at new n ≡ None
    by_page None is = is
    by_page (Some page) is = let (was, at, cases) = renews n page is in let nothing = none n in absurd (let no_way : None ≡ Some was = sym nothing ∙ at in cc)

-- ---- what is answered

-- a store in which no call failed
same_store : (old new : StoreFacts) → new ≡ written old new → HasNotFailed old new → new ≡ record old { pages = new.pages; synced = new.synced }
same_store old new is counts = is ∙ rw (counts.0, counts.1) refl

-- what stands where regions were laid, with this header
pub laid_for : (schema : Schema) (next : ℕ) (grown : List RegionRows) (old new : PagerView) (root : Root) → CanLay schema next grown → IsFresh schema old → LaysRegions schema grown old new (Ok root)
    → IsLaidFor (begun_view schema old.store) next grown
    (record { schema = schema; next = next; rows = length (rows_of grown); regions = length grown; root = root.page; levels = root.level; unclean = true })
    (index_view root.page root.level (last_address schema.dims)) new
laid_for schema next grown old new root can fresh lays =
    let adds = lays.effect.adds in
    let count = lays.count in
    let one = fresh.count in
    record {
      schema_is = refl;
      next_is = refl;
      rows_are = refl;
      regions_are = refl;
      unclean = refl;
      index_is = refl;
      root = lays.root;
      one = one;
      count = omega arith;
      laid = lays.laid;
      marked = λ honest. mark_kept schema old.store.pages new.store.pages (adds.grows.kept honest 0 (omega arith)) (fresh.marked honest);
      store_is = same_store old.store new.store (ap (λ (p : PagerView). p.store) adds.same) lays.effect.counts;
      held = λ n. adds.held n (fresh.held n);
      trace_is = ap (λ (p : PagerView). p.trace) adds.same ∙ fresh.trace;
    }

-- why they aren't laid: where there is room, for want of memory, or as the store failed
lay_fault : (by : ℕ) (old : StoreFacts) (fault : StoreFault) → page_count old + by ≤ 4294967295 → IsGrowFault by old fault → IsLayoutFault old fault
lay_fault by old store.Memory room h = tt
lay_fault by old store.Device room h = h
lay_fault by old store.BadSize room h = absurd (omega arith)
lay_fault by old store.NoPage room h = absurd h

pub laid_not : {S : Type 0} (facts : S → StoreFacts) (schema : Schema) (next : ℕ) (grown : List RegionRows) (old new : PagerView) (refused : Rejected S StoreFault)
    → CanLay schema next grown → IsFresh schema old → LaysRegions schema grown old new (Err refused.fault) → facts refused.store ≡ new.store
    → LaysBegun facts (begun_view schema old.store) next grown (Err refused)
laid_not facts schema next grown old new refused can fresh lays store_is =
    let adds = lays.effect.adds in
    let one = fresh.count in
    let few = few_pages schema next grown can in
    let less = few.1 in
    let stores : new.store ≡ written old.store new.store = ap (λ (p : PagerView). p.store) adds.same in
    record {
      laid = tt;
      unopened = λ honest.
          subst (λ (s : StoreFacts). HasMark schema s.pages) (sym store_is) (mark_kept schema old.store.pages new.store.pages (adds.grows.kept honest 0 (omega arith)) (fresh.marked honest));
      refused = lay_fault (most_laid (length grown)) old.store refused.fault (omega arith) lays.effect.refused;
      same = subst (λ (s : StoreFacts). s ≡ written old.store s) (sym store_is) stores;
      counts = subst (λ (s : StoreFacts). Counts {A = Root} (Err refused.fault) old.store s) (sym store_is) lays.effect.counts;
    }

-- ---- how many rows there are

pub rows_next : (regions : List RegionRows) (i : ℕ) (rows : List Row) → slice_get (map (λ (region : RegionRows). region.rows) regions) i ≡ Some rows
    → length (rows_of (take (i + 1) regions)) ≡ length (rows_of (take i regions)) + length rows
rows_next [] i rows at = cc
rows_next (r ∷ regions) zero rows at =
    let same : r.rows ≡ rows = cc in
    let long = length-append r.rows [] in
    let count = ap (λ (rs : List Row). length rs) same in
    long ∙ (omega arith)
rows_next (r ∷ regions) (suc i) rows at =
    let next : suc i + 1 ≡ suc (i + 1) = omega arith in
    let more = rows_next regions i rows at in
    let a = length-append r.rows (rows_of (take (i + 1) regions)) in
    let b = length-append r.rows (rows_of (take i regions)) in
    ap (λ (k : ℕ). length (rows_of (take k (r ∷ regions)))) next ∙ a ∙ (omega arith)

pub rows_within : (regions : List RegionRows) (i : ℕ) (rows : List Row) → slice_get (map (λ (region : RegionRows). region.rows) regions) i ≡ Some rows
    → length (rows_of (take i regions)) + length rows ≤ length (rows_of regions)
rows_within [] i rows at = cc
rows_within (r ∷ regions) zero rows at =
    let same : r.rows ≡ rows = cc in
    let long = length-append r.rows (rows_of regions) in
    let count = ap (λ (rs : List Row). length rs) same in
    omega arith
rows_within (r ∷ regions) (suc i) rows at =
    let less = rows_within regions i rows at in
    let a = length-append r.rows (rows_of regions) in
    let b = length-append r.rows (rows_of (take i regions)) in
    omega arith
