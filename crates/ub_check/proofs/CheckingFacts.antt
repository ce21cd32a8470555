-- The steps of a check: numbers that are put into a set, and entries of a page that are walked through.
use Rattle.std.proofs.Common.{rules, ◌≡◌, ◌≤◌, ◌<◌, ◌+◌, ◌-◌, ◌++◌, inl, inr, ℕ, suc, IsTrue, List, [], ◌∷◌, Option, Some, None, Result, Ok, Err, OnOk, length, take, drop, map, min, slice_get, slice_index_or, ◌^◌, ap, refl, sym, ◌∙◌, arith, subst}
use Rattle.ub_check.proofs.Common.{append-nil, append_assoc, AreNew, Asked, asked_by, drop_all, entries_of, Entry, first_or, Full, get_or_from_slice_get}
use Rattle.ub_check.proofs.Common.{HasJust, HasTaken, IndexFault, IsErrAnd, IsHonest, IsNone, IsPutTo, IsSpanFault, IsStepFault, IsWalkedTo, IsWalkFault}
use Rattle.ub_check.proofs.Common.{keeps_on, KeepsChecked, Key, length-append, map-append, NamesFitting, numbers_in, numbers_of, NumbersView, Page, PageFault}
use Rattle.ub_check.proofs.Common.{PagerView, Placed, ReadsAt, region_of, RegionRows, regions_in, RegionView, Row, same_store as same_read, SameTrace, Schema}
use Rattle.ub_check.proofs.Common.{slice_get-get_or, slice_get_within, StandsHere, Steps, StopsEach, StopsIn, Store, store_after, StoreFacts, take_all}
use Rattle.ub_check.proofs.Common.{TakesAll, TakesEach, TakesOn, Walk, Walks}
use Rattle.std.proofs.lemmas.Grind.{common_steps}
use Rattle.std.proofs.Math.Seq.{drop-cons, take-suc}
use Rattle.ub_region.specs.Regions.{rows_of}
use Rattle.ub_table.specs.declared.fault.PageFault.TheVariants.{BadRow}
use Rattle.ub_store.specs.declared.fault.StoreFault.TheVariants as store

module _ {X : Type 0} where
  pub drop_at : (xs : List X) (i : ℕ) (x : X) → slice_get xs i ≡ Some x → drop i xs ≡ x ∷ drop (suc i) xs
  drop_at xs i x at = drop-cons xs i x (slice_get_within xs i x at) ∙ ap (λ (z : X). z ∷ drop (suc i) xs) (get_or_from_slice_get xs i x x at)

  pub take_at : (xs : List X) (i : ℕ) (x : X) → slice_get xs i ≡ Some x → take (suc i) xs ≡ take i xs ++ x ∷ []
  take_at xs i x at = take-suc xs i x (slice_get_within xs i x at) ∙ ap (λ (z : X). take i xs ++ z ∷ []) (get_or_from_slice_get xs i x x at)

-- an entry that is read at its index, with where the next one begins
pub entry_there : (entries slice : List Entry) (i : ℕ) (e : Entry) (end next : Option Key) → i < length entries → e ≡ slice_index_or entries i e → slice ≡ entries
    → next ≡ first_or (drop (i + 1) slice) end → (slice_get entries i ≡ Some e) × (next ≡ first_or (drop (suc i) entries) end)
entry_there entries slice i e end next within read same is =
    let one : i + 1 ≡ suc i = omega arith in (
      slice_get-get_or entries i e within ∙ ap (λ (x : Entry). Some x) (sym read),
      is ∙ ap (λ (es : List Entry). first_or (drop (i + 1) es) end) same ∙ ap (λ (j : ℕ). first_or (drop j entries) end) one,
    )

module _ (ns : List ℕ) (from now : NumbersView) (i n : ℕ) (h : IsPutTo ns from now i) (at : slice_get ns i ≡ Some n) where
  -- one more was put
  pub put_more : (to : NumbersView) → to.bound ≡ now.bound
      → ((met : List ℕ) → HasJust now met → (n < now.bound) × IsNone n met × HasJust to (met ++ n ∷ [])) → IsPutTo ns from to (suc i)
  put_more to same put = record {
    bound = same ∙ h.bound;
    goes = λ met has.
        let so_far = h.goes met has in
        let new = put (met ++ take i ns) so_far.0 in
        let more : (met ++ take i ns) ++ n ∷ [] ≡ met ++ take (suc i) ns = append_assoc met (take i ns) (n ∷ []) ∙ ap (λ (zs : List ℕ). met ++ zs) (sym (take_at ns i n at)) in (
          subst (λ (zs : List ℕ). HasJust to zs) more new.2,
          (
            (λ all.
                let rest = subst (λ (zs : List ℕ). AreNew from.bound (met ++ take i ns) zs) (drop_at ns i n at) (so_far.1.0 all) in
                subst (λ (zs : List ℕ). AreNew from.bound zs (drop (suc i) ns)) more rest.2),
            λ rest.
                so_far.1.1 (subst (λ (zs : List ℕ). AreNew from.bound (met ++ take i ns) zs) (sym (drop_at ns i n at))
                (subst (λ (b : ℕ). n < b) h.bound new.0, new.1, subst (λ (zs : List ℕ). AreNew from.bound zs (drop (suc i) ns)) (sym more) rest)),
          ),
        );
  }

  -- one wasn't new
  pub put_not : ((met : List ℕ) → HasJust now met → n < now.bound → ¬ (IsNone n met)) → (met : List ℕ) → HasJust from met → ¬ (AreNew from.bound met ns)
  put_not j met k = search (rules, drop_at)

-- all were put
pub put_all : (ns : List ℕ) (from to : NumbersView) (i : ℕ) → length ns ≤ i → IsPutTo ns from to i → (met : List ℕ) → HasJust from met → AreNew from.bound met ns × HasJust to (met ++ ns)
put_all ns from to i h k met j = grind (arith, drop_all, take_all)

module _ (schema : Schema) (last level : ℕ) (entries : List Entry) (end : Option Key) (old now : PagerView) (from to : Walk) (i : ℕ) (e : Entry) (next : Option Key)
    (h : IsWalkedTo schema last level entries end old now from to i) (at : slice_get entries i ≡ Some e) (next_is : next ≡ first_or (drop (suc i) entries) end) where
  still_honest : IsHonest old.store → IsHonest now.store
  still_honest honest = subst (λ (p : PagerView). IsHonest p.store) (sym h.same) honest

  same_asked : (count : ℕ) → asked_by schema last count to now.store ≡ asked_by schema last count from old.store
  same_asked count = search rules

  -- one more is taken
  pub walked_more : (later : PagerView) (more : Walk) → later ≡ record now { cached = later.cached } → KeepsChecked last now later → more.numbers.bound ≡ to.numbers.bound
      → TakesOn schema last level e next now.store to more → IsWalkedTo schema last level entries end old later from more (suc i)
  walked_more later more same checked bound takes = record {
    same = same ∙ ap (λ (p : PagerView). record p { cached = later.cached }) h.same;
    checked = keeps_on last old now later h.checked checked;
    bound = bound ∙ h.bound;
    goes = λ count before honest has.
        let so_far = h.goes count before honest has in
        let asked = asked_by schema last count from old.store in
        let one = takes count so_far.0 (still_honest honest) so_far.1 in
        let taken : TakesAll asked level e (first_or (drop (suc i) entries) end) so_far.0 one.0 =
        subst (λ (o : Option Key). TakesAll asked level e o so_far.0 one.0) next_is (subst (λ (a : Asked). TakesAll a level e next so_far.0 one.0) (same_asked count) one.1) in (
          one.0,
          one.2,
          (λ after rest.
              so_far.2 after (subst (λ (es : List Entry). TakesEach (TakesAll asked level) es end so_far.0 after) (sym (drop_at entries i e at)) (one.0, taken, rest))),
          λ n fault rest.
              so_far.3 n fault (subst (λ (es : List Entry). StopsEach (TakesAll asked level) (StopsIn asked level) es end so_far.0 n fault) (sym (drop_at entries i e at)) (inr (one.0, taken, rest))),
        );
  }

  -- one isn't taken
  pub stops_here : (count : ℕ) (before : List Placed) (honest : IsHonest old.store) (has : HasTaken count from before) (n : ℕ) (fault : Option PageFault)
      → StopsIn (asked_by schema last count to now.store) level e next (h.goes count before honest has).0 n fault
      → StopsEach (TakesAll (asked_by schema last count from old.store) level) (StopsIn (asked_by schema last count from old.store) level) entries end before n fault
  stops_here count before honest has n fault stops =
      let so_far = h.goes count before honest has in
      let asked = asked_by schema last count from old.store in
      let here : StopsIn asked level e (first_or (drop (suc i) entries) end) so_far.0 n fault =
      subst (λ (o : Option Key). StopsIn asked level e o so_far.0 n fault) next_is (subst (λ (a : Asked). StopsIn a level e next so_far.0 n fault) (same_asked count) stops) in
      so_far.3 n fault (subst (λ (es : List Entry). StopsEach (TakesAll asked level) (StopsIn asked level) es end so_far.0 n fault) (sym (drop_at entries i e at)) (inl here))

-- a pager whose store was read
pub pager_read : (old new : PagerView) (s : StoreFacts) → new.store ≡ s → SameTrace old new → new ≡ record old { store = s; cached = new.cached }
pager_read old new s h k = search rules

pub numbers_append : (before : List Placed) (p : Placed) → numbers_in (before ++ p ∷ []) ≡ numbers_in before ++ numbers_of p.region.rows
numbers_append before p = grind (arith, common_steps, append-nil, append_assoc, map-append)

count_append : (before : List Placed) (p : Placed) → length (rows_of (regions_in (before ++ p ∷ []))) ≡ length (rows_of (regions_in before)) + length p.region.rows
count_append before p = grind (arith, common_steps, append-nil, length-append)

saturated : (a b c d : ℕ) → c ≡ min a 18446744073709551615 → d ≡ min (c + b) (2 ^ 64 - 1) → d ≡ min (a + b) 18446744073709551615
saturated a b c d first second = omega arith

not_zero : (n : ℕ) → (n ≡ 0 → ⊥) → 1 ≤ n
not_zero n h = search rules

-- the region of an entry
module _ (schema : Schema) (last : ℕ) (entry : Entry) (end : Option Key) (from : Walk) (old : PagerView) (some : from.left ≡ 0 → ⊥) where
  few : (count : ℕ) (before : List Placed) → HasTaken count from before → length before < count
  few count before has = let left = has.left in let one = not_zero from.left some in omega arith

  span_fault : (e : IndexFault) → IsSpanFault schema old.store (region_of last entry end) e → IsWalkFault schema last 0 entry end old.store from e
  span_fault (Page n fault) (at, page, is, refused) = λ count before honest has.
      inr (few count before has, at, inr (inl (page, subst (λ (m : ℕ). slice_get old.store.pages m ≡ Some page) at (is honest), fault, refl, refused)))
  span_fault (Store store.NoPage) h = λ count before honest has. (entry.page, inr (few count before has, refl, inl (refl, h)))
  span_fault fault h = h

  -- it isn't read
  pub region_refused : {T : Type 0} (U : Type 0) (r : Result T IndexFault) (e : IndexFault) (new : PagerView) (page : RegionView) → IsErrAnd r (λ x. x ≡ e) → SameTrace old new
      → ReadsAt {A = U} schema (region_of last entry end) old new page (Err e) → Walks schema last 0 entry end from old new r
  region_refused U (Ok x) e new page is trace h = absurd is
  region_refused {T = T} U (Err f) e new page is trace h = subst (λ (x : IndexFault). Walks {A = T} schema last 0 entry end from old new (Err x)) (sym is) (record {
    same = pager_read old new (store_after {A = T} (Err e) old.store) (ap (λ (p : PagerView). p.store) h.same ∙ same_read T U e old.store) trace;
    checked = h.checked last;
    faults = span_fault e h.faults;
  })

  -- it stands where it is due
  pub region_stands : (new : PagerView) (page : RegionView) → ReadsAt {A = Unit {0}} schema (region_of last entry end) old new page (Ok tt)
      → (count : ℕ) → IsHonest old.store → StandsHere (asked_by schema last count from old.store) entry end page.region
  region_stands new page h count honest = record { is = h.taken.0; spelled = h.taken.2 honest; held = h.taken.1 }

  module _ (region : RegionRows) (stands : (count : ℕ) → IsHonest old.store → StandsHere (asked_by schema last count from old.store) entry end region) where
    -- one of its rows has a number that isn't new
    pub region_not_new : ((met : List ℕ) → HasJust from.numbers met → ¬ (AreNew from.numbers.bound met (numbers_of region.rows)))
        → IsWalkFault schema last 0 entry end old.store from (Page entry.page BadRow)
    region_not_new not = λ count before honest has.
        inr (few count before has, refl, inr (inr (refl, region, stands count honest, not (numbers_in before) has.numbers)))

    -- it is taken
    pub region_taken : (to : Walk) → to.left ≡ from.left - 1 → to.rows ≡ min (from.rows + length region.rows) (2 ^ 64 - 1)
        → ((met : List ℕ) → HasJust from.numbers met → AreNew from.numbers.bound met (numbers_of region.rows) × HasJust to.numbers (met ++ numbers_of region.rows))
        → TakesOn schema last 0 entry end old.store from to
    region_taken to left rows put count before honest has =
        let p : Placed = record { page = entry.page; region = region } in
        let new = put (numbers_in before) has.numbers in
        let one = not_zero from.left some in
        let was = has.left in
        let long = length-append before (record { page = entry.page; region = region } ∷ []) in (
          before ++ record { page = entry.page; region = region } ∷ [],
          record { counted = few count before has; region = region; stands = stands count honest; new = new.0; after_is = refl },
          record {
            left = omega arith;
            rows = saturated (length (rows_of (regions_in before))) (length region.rows) from.rows to.rows has.rows rows
                ∙ ap (λ (n : ℕ). min n 18446744073709551615) (sym (count_append before (record { page = entry.page; region = region })));
            numbers = subst (λ (ns : List ℕ). HasJust to.numbers ns) (sym (numbers_append before (record { page = entry.page; region = region }))) new.1;
          },
        )

-- a page of the index, with the regions that it leads to
module _ (schema : Schema) (last level : ℕ) (entry : Entry) (end : Option Key) (from : Walk) (old : PagerView) where
  step_fault : (e : IndexFault) → IsStepFault last old.store (suc level) entry end e → IsWalkFault schema last (suc level) entry end old.store from e
  step_fault (Page n fault) h = λ count before honest has. inl (h.0, h.1 honest)
  step_fault (Store store.NoPage) h = λ count before honest has. (entry.page, inl (refl, h))
  step_fault fault h = h

  -- it is refused
  pub page_stops : {T : Type 0} (U : Type 0) (r : Result T IndexFault) (e : IndexFault) (new : PagerView) → IsErrAnd r (λ x. x ≡ e)
      → Steps {A = U} last (suc level) entry end old new (Err e) → Walks schema last (suc level) entry end from old new r
  page_stops U r e new h k = search (rules, same_read, step_fault)

  module _ (entries : List Entry) (mid : PagerView) (read : mid ≡ record old { cached = mid.cached }) (checked : KeepsChecked last old mid) (named : IsHonest old.store → NamesFitting last old.store.pages (suc level) entry end)
      (entries_are : IsHonest old.store → entries ≡ entries_of old.store.pages entry.page) where
    still : IsHonest old.store → IsHonest mid.store
    still honest = subst (λ (p : PagerView). IsHonest p.store) (sym read) honest

    same_store : mid.store ≡ old.store
    same_store = ap (λ (p : PagerView). p.store) read

    -- all regions that it leads to were taken
    pub page_taken : (now : PagerView) (to : Walk) (i : ℕ) → length entries ≤ i → IsWalkedTo schema last level entries end mid now from to i → TakesOn schema last (suc level) entry end old.store from to
    page_taken now to i le h count before honest has =
        let so_far = h.goes count before (still honest) has in
        let asked = asked_by schema last count from mid.store in
        let all : TakesEach (TakesAll asked level) entries end before so_far.0 =
        so_far.2 so_far.0 (subst (λ (es : List Entry). TakesEach (TakesAll asked level) es end so_far.0 so_far.0) (sym (drop_all i entries le)) refl) in
        let here = subst (λ (s : StoreFacts). TakesEach (TakesAll (asked_by schema last count from s) level) entries end before so_far.0) same_store all in (
          so_far.0,
          (named honest, subst (λ (es : List Entry). TakesEach (TakesAll (asked_by schema last count from old.store) level) es end before so_far.0) (entries_are honest) here),
          so_far.1,
        )

    -- one of them isn't
    module _ (now : PagerView) (to : Walk) (i : ℕ) (e : Entry) (next : Option Key) (h : IsWalkedTo schema last level entries end mid now from to i)
        (at : slice_get entries i ≡ Some e) (next_is : next ≡ first_or (drop (suc i) entries) end) where
      now_honest : IsHonest old.store → IsHonest now.store
      now_honest honest = subst (λ (p : PagerView). IsHonest p.store) (sym h.same) (still honest)

      now_store : now.store ≡ old.store
      now_store = ap (λ (p : PagerView). p.store) h.same ∙ same_store

      stops_in : (count : ℕ) (before : List Placed) (honest : IsHonest old.store) (has : HasTaken count from before) (n : ℕ) (fault : Option PageFault)
          → StopsIn (asked_by schema last count to now.store) level e next (h.goes count before (still honest) has).0 n fault
          → StopsIn (asked_by schema last count from old.store) (suc level) entry end before n fault
      stops_in count before honest has n fault stops =
          let each = stops_here schema last level entries end mid now from to i e next h at next_is count before (still honest) has n fault stops in
          let here = subst (λ (s : StoreFacts). StopsEach (TakesAll (asked_by schema last count from s) level) (StopsIn (asked_by schema last count from s) level) entries end before n fault) same_store each in
          inr (
            named honest,
            subst (λ (es : List Entry). StopsEach (TakesAll (asked_by schema last count from old.store) level) (StopsIn (asked_by schema last count from old.store) level) es end before n fault) (entries_are honest) here,
          )

      below_fault : (f : IndexFault) → IsWalkFault schema last level e next now.store to f → IsWalkFault schema last (suc level) entry end old.store from f
      below_fault (Page n fault) k = λ count before honest has.
          let so_far = h.goes count before (still honest) has in
          stops_in count before honest has n (Some fault) (k count so_far.0 (now_honest honest) so_far.1)
      below_fault (Store store.Device) k = subst (λ (s : StoreFacts). IsTrue s.can_fail) now_store k
      below_fault (Store store.NoPage) k = λ count before honest has.
          let so_far = h.goes count before (still honest) has in
          let stops = k count so_far.0 (now_honest honest) so_far.1 in
          (stops.0, stops_in count before honest has stops.0 None stops.1)
      below_fault fault k = k

      pub below_stops : {T U : Type 0} (r : Result T IndexFault) (f : IndexFault) (new : PagerView) → IsErrAnd r (λ x. x ≡ f)
          → Walks {A = U} schema last level e next to now new (Err f) → Walks schema last (suc level) entry end from old new r
      below_stops (Ok x) f new is k = absurd is
      below_stops {T = T} {U = U} (Err g) f new is k = record {
        same = k.same ∙ (ap (λ (p : PagerView). record p { store = store_after {A = U} (Err f) p.store; cached = new.cached }) h.same
            ∙ (ap (λ (p : PagerView). record p { store = store_after {A = U} (Err f) p.store; cached = new.cached }) read
            ∙ ap (λ (s : StoreFacts). record old { store = s; cached = new.cached })
            (same_read T U f old.store ∙ ap (λ (x : IndexFault). store_after {A = T} (Err x) old.store) (sym is))));
        checked = keeps_on last old mid new checked (keeps_on last mid now new h.checked k.checked);
        faults = subst (λ (x : IndexFault). IsWalkFault schema last (suc level) entry end old.store from x) (sym is) (below_fault f k.faults);
      }
