-- What a check takes is what stands under an entry: an index, and on its regions' pages the regions, with new numbers. And where
-- that stands a check stops nowhere.
use Rattle.std.proofs.Common.{rules, ◌≡◌, ◌≢◌, ◌≤◌, ◌<◌, ◌+◌, ◌^◌, ◌++◌, inl, inr, ℕ, zero, suc, List, [], ◌∷◌, Option, Some, nat_eq, false, length, slice_get, slice_index_or, ap, refl, sym, ◌∙◌, arith, subst}
use Rattle.ub_check.proofs.Common.{all_append, all_left, all_more, all_right, AllByRecursion, append-nil, append_assoc, AreNew, Asked, each_right, EachTo}
use Rattle.ub_check.proofs.Common.{entries_of, Entry, first_or, flat_map, flat_map-append, get_or_from_slice_get, IsDistinct, IsNone, IsRegionRefused, IsUnder}
use Rattle.ub_check.proofs.Common.{Key, length-append, map-append, named_not_refused, not_refused, numbers_in, origin, PageFault, Placed, placed_of, region_on}
use Rattle.ub_check.proofs.Common.{region_page, region_parts, RegionRows, regions_in, slice_get_within, StandsHere, StopsAtRegion, StopsEach, StopsIn, TakesAll}
use Rattle.ub_check.proofs.Common.{TakesEach, TakesRegion, under}
use Rattle.ub_index.proofs.Lists.{each_join, each_left}
use Rattle.ub_index.proofs.Numbers.{differs, distinct_cons}
use Rattle.ub_index.proofs.OrderFacts.{first_more, under_first}
use Rattle.ub_region.proofs.Laws.{all_both}
use Rattle.ub_check.proofs.PlacedFacts.{one_region, placed_append, placed_at}

-- numbers that are new, in two parts
pub new_join : (bound : ℕ) (met xs ys : List ℕ) → AreNew bound met xs → AreNew bound (met ++ xs) ys → AreNew bound met (xs ++ ys)
new_join bound met [] ys h k = subst (λ (zs : List ℕ). AreNew bound zs ys) (append-nil met) k
new_join bound met (x ∷ xs) ys h k = (h.0, h.1, new_join bound (met ++ x ∷ []) xs ys h.2 (subst (λ (zs : List ℕ). AreNew bound zs ys) (sym (append_assoc met (x ∷ []) xs)) k))

pub new_left : (bound : ℕ) (met xs ys : List ℕ) → AreNew bound met (xs ++ ys) → AreNew bound met xs
new_left bound met [] ys h = tt
new_left bound met (x ∷ xs) ys h = (h.0, h.1, new_left bound (met ++ x ∷ []) xs ys h.2)

pub new_right : (bound : ℕ) (met xs ys : List ℕ) → AreNew bound met (xs ++ ys) → AreNew bound (met ++ xs) ys
new_right bound met [] ys h = subst (λ (zs : List ℕ). AreNew bound zs ys) (sym (append-nil met)) h
new_right bound met (x ∷ xs) ys h = subst (λ (zs : List ℕ). AreNew bound zs ys) (append_assoc met (x ∷ []) xs) (new_right bound (met ++ x ∷ []) xs ys h.2)

-- they are below the bound, and differ, and none was met
pub new_below : (bound : ℕ) (met ns : List ℕ) → AreNew bound met ns → AllByRecursion (λ n. n < bound) ns
new_below bound met [] h = tt
new_below bound met (n ∷ ns) h = (h.0, new_below bound (met ++ n ∷ []) ns h.2)

pub new_none : (bound : ℕ) (met ns : List ℕ) → AreNew bound met ns → AllByRecursion (λ n. IsNone n met) ns
new_none bound met [] h = tt
new_none bound met (n ∷ ns) h = search (rules, (new_none bound (met ++ n ∷ []) ns h.2), all_left, all_more)

pub new_differ : (bound : ℕ) (met ns : List ℕ) → AreNew bound met ns → IsDistinct nat_eq ns
unfolding IsDistinct
new_differ bound met [] h = tt
new_differ bound met (n ∷ ns) h =
    distinct_cons n ns
    (all_more (λ m. IsNone m (met ++ n ∷ [])) (λ m. n ≢ m) (λ m k same. (all_right (λ o. m ≢ o) met (n ∷ []) k).0 (sym same)) ns (new_none bound (met ++ n ∷ []) ns h.2))
    (new_differ bound (met ++ n ∷ []) ns h.2)

pub new_of : (bound : ℕ) (met ns : List ℕ) → AllByRecursion (λ n. n < bound) ns → AllByRecursion (λ n. IsNone n met) ns → IsDistinct nat_eq ns → AreNew bound met ns
unfolding IsDistinct
new_of bound met [] below none differ = tt
new_of bound met (n ∷ ns) below none differ = search (rules, (new_of bound (met ++ n ∷ []) ns below.1 (all_both (λ m. IsNone m met) (λ m. nat_eq n m ≡ false) (λ m. IsNone m (met ++ n ∷ [])) (λ m k other. all_append (λ o. m ≢ o) met (n ∷ []) k ((λ same. differs n m other (sym same)), tt)) ns none.1 differ.0) differ.1))

regions_join : (ps qs : List Placed) → regions_in (ps ++ qs) ≡ regions_in ps ++ regions_in qs
regions_join ps qs = map-append (λ p. p.region) ps qs

pub numbers_join : (ps qs : List Placed) → numbers_in (ps ++ qs) ≡ numbers_in ps ++ numbers_in qs
numbers_join ps qs = search (rules, flat_map-append, map-append, regions_join)

-- these regions' entries, up to an end, are taken after others: each region stands where its entry tells, and its rows have new numbers
pub record IsTaken (asked : Asked) (entries : List Entry) (end : Option Key) (before after : List Placed) : Type 0 where
  pub stands : EachTo (λ e o. StandsHere asked e o (placed_at asked.schema asked.pages e).region) entries end
  pub new : AreNew asked.next (numbers_in before) (numbers_in (placed_of asked.schema asked.pages entries))
  pub after_is : after ≡ before ++ placed_of asked.schema asked.pages entries

module _ (asked : Asked) where
  -- the region that stands where an entry tells is the one that its page tells of
  pub told_is : (e : Entry) (end : Option Key) (region : RegionRows) → StandsHere asked e end region → (placed_at asked.schema asked.pages e).region ≡ region
  told_is e end region h =
      let page : slice_index_or asked.pages e.page [] ≡ region_page asked.schema region = get_or_from_slice_get asked.pages e.page (region_page asked.schema region) [] h.spelled in
      let on : region_on asked.schema (slice_index_or asked.pages e.page []) ≡ region =
      ap (λ (p : List ℕ). region_on asked.schema p) page ∙ (region_parts asked.schema region (region_page asked.schema region) h.is refl).on in
      ap (λ (r : RegionRows). record { first = e.first; rows = r.rows }) on ∙ ap (λ (k : Key). record { first = k; rows = region.rows }) (sym h.held.0)

  pub taken_none : (end : Option Key) (before : List Placed) → IsTaken asked [] end before before
  taken_none end before = record { stands = tt; new = tt; after_is = sym (append-nil before) }

  pub taken_one : (e : Entry) (end : Option Key) (before after : List Placed) → TakesRegion asked e end before after → IsTaken asked (e ∷ []) end before after
  taken_one e end before after h = search (rules, append-nil, told_is)

  pub taken_join : (xs ys : List Entry) (end : Option Key) (before between after : List Placed) → IsTaken asked xs (first_or ys end) before between → IsTaken asked ys end between after
      → IsTaken asked (xs ++ ys) end before after
  taken_join xs ys end before between after h k = search (rules, append_assoc, each_join, new_join, numbers_join, placed_append, placed_at)

  -- and cut
  pub taken_left : (xs ys : List Entry) (end : Option Key) (before after : List Placed) → IsTaken asked (xs ++ ys) end before after
      → IsTaken asked xs (first_or ys end) before (before ++ placed_of asked.schema asked.pages xs)
  taken_left xs ys end before after h = search (rules, each_left, new_left, numbers_join, placed_append, placed_at)

  pub taken_right : (xs ys : List Entry) (end : Option Key) (before after : List Placed) → IsTaken asked (xs ++ ys) end before after
      → IsTaken asked ys end (before ++ placed_of asked.schema asked.pages xs) after
  taken_right xs ys end before after h = search (rules, append_assoc, each_right, new_right, numbers_join, placed_append, placed_at)

  -- what entries lead to begins where they begin
  pub first_under : (level : ℕ) (xs : List Entry) (end : Option Key) → EachTo (IsUnder asked.last asked.pages level) xs end
      → first_or (flat_map (under asked.pages level) xs) end ≡ first_or xs end
  first_under level xs end h = search (rules, first_more, under_first)

  each_taken : (level : ℕ) → ((e : Entry) (end : Option Key) (before after : List Placed) → TakesAll asked level e end before after
      → IsUnder asked.last asked.pages level e end × IsTaken asked (under asked.pages level e) end before after)
      → (xs : List Entry) (end : Option Key) (before after : List Placed) → TakesEach (TakesAll asked level) xs end before after
      → EachTo (IsUnder asked.last asked.pages level) xs end × IsTaken asked (flat_map (under asked.pages level) xs) end before after
  each_taken level one [] end before after h = (tt, subst (λ (ps : List Placed). IsTaken asked [] end before ps) (sym h) (taken_none end before))
  each_taken level one (x ∷ xs) end before after h =
      let first = one x (first_or xs end) before h.0 h.1 in
      let rest = each_taken level one xs end h.0 after h.2 in (
        (first.0, rest.0),
        taken_join (under asked.pages level x) (flat_map (under asked.pages level) xs) end before h.0 after
            (subst (λ (o : Option Key). IsTaken asked (under asked.pages level x) o before h.0) (sym (first_under level xs end rest.0)) first.1) rest.1,
      )

  -- what is taken stands under the entry
  pub walk_taken : (level : ℕ) (e : Entry) (end : Option Key) (before after : List Placed) → TakesAll asked level e end before after
      → IsUnder asked.last asked.pages level e end × IsTaken asked (under asked.pages level e) end before after
  walk_taken zero e end before after h = (tt, taken_one e end before after h)
  walk_taken (suc level) e end before after h =
      let each = each_taken level (walk_taken level) (entries_of asked.pages e.page) end before after h.1 in
      ((h.0, each.0), each.1)

  -- and where that stands a check doesn't stop
  pub region_good : (e : Entry) (end : Option Key) (region : RegionRows) (page : List ℕ) (fault : PageFault) → StandsHere asked e end region
      → slice_get asked.pages e.page ≡ Some page → ¬ (IsRegionRefused asked.schema e.first end page fault)
  region_good e end region page fault h k = search (rules, not_refused, one_region)

  one_more : (before : List Placed) (p : Placed) → length (before ++ p ∷ []) ≡ length before + 1
  one_more before p = length-append before (p ∷ [])

  never_at : (e : Entry) (end : Option Key) (before after : List Placed) (n : ℕ) (fault : Option PageFault) → IsTaken asked (e ∷ []) end before after
      → length after ≤ asked.count → ¬ (StopsAtRegion asked e end before n fault)
  never_at e end before after n fault h few (inl full) = search (rules, append-nil, one_more, placed_at, region_good, slice_get_within, told_is)
  never_at e end before after n fault h few (inr (less, is, inl (none, past))) = search (rules, append-nil, one_more, placed_at, region_good, slice_get_within, told_is)
  never_at e end before after n fault h few (inr (less, is, inr (inl (page, at, of_page, fault_is, refused)))) = search (rules, append-nil, region_good)
  never_at e end before after n fault h few (inr (less, is, inr (inr (fault_is, region, stands, old)))) = search (rules, append-nil, one_more, placed_at, region_good, slice_get_within, told_is)

  module _ (small : asked.last < 2 ^ 128) where
    each_never : (level : ℕ) → ((e : Entry) (end : Option Key) (before after : List Placed) (n : ℕ) (fault : Option PageFault) → IsUnder asked.last asked.pages level e end
        → IsTaken asked (under asked.pages level e) end before after → length after ≤ asked.count → ¬ (StopsIn asked level e end before n fault))
        → (xs : List Entry) (end : Option Key) (before after : List Placed) (n : ℕ) (fault : Option PageFault) → EachTo (IsUnder asked.last asked.pages level) xs end
        → IsTaken asked (flat_map (under asked.pages level) xs) end before after → length after ≤ asked.count
        → ¬ (StopsEach (TakesAll asked level) (StopsIn asked level) xs end before n fault)
    each_never level one [] end before after n fault each h few stops = stops
    each_never level one (x ∷ xs) end before after n fault each h few (inl stops) =
        let first = taken_left (under asked.pages level x) (flat_map (under asked.pages level) xs) end before after h in
        let rest = taken_right (under asked.pages level x) (flat_map (under asked.pages level) xs) end before after h in
        let long = ap (λ (ps : List Placed). length ps) rest.after_is
        ∙ length-append (before ++ placed_of asked.schema asked.pages (under asked.pages level x)) (placed_of asked.schema asked.pages (flat_map (under asked.pages level) xs)) in
        one x (first_or xs end) before (before ++ placed_of asked.schema asked.pages (under asked.pages level x)) n fault each.0
        (subst (λ (o : Option Key). IsTaken asked (under asked.pages level x) o before (before ++ placed_of asked.schema asked.pages (under asked.pages level x))) (first_under level xs end each.1) first)
        (omega arith) stops
    each_never level one (x ∷ xs) end before after n fault each h few (inr (between, takes, stops)) =
        let rest = taken_right (under asked.pages level x) (flat_map (under asked.pages level) xs) end before after h in
        let is = (walk_taken level x (first_or xs end) before between takes).1.after_is in
        each_never level one xs end between after n fault each.1
        (subst (λ (ps : List Placed). IsTaken asked (flat_map (under asked.pages level) xs) end ps after) (sym is) rest) few stops

    pub walk_never : (level : ℕ) (e : Entry) (end : Option Key) (before after : List Placed) (n : ℕ) (fault : Option PageFault) → IsUnder asked.last asked.pages level e end
        → IsTaken asked (under asked.pages level e) end before after → length after ≤ asked.count → ¬ (StopsIn asked level e end before n fault)
    walk_never zero e end before after n fault is h few stops = never_at e end before after n fault h few stops
    walk_never (suc level) e end before after n fault is h few (inl refused) =
        named_not_refused asked.last small asked.pages origin (suc level) e end fault is.0 refused.1
    walk_never (suc level) e end before after n fault is h few (inr stops) =
        each_never level (walk_never level) (entries_of asked.pages e.page) end before after n fault is.1 h few stops.1

  -- and takes all
  take_one : (e : Entry) (end : Option Key) (before after : List Placed) → IsTaken asked (e ∷ []) end before after → length after ≤ asked.count → TakesRegion asked e end before after
  take_one e end before after h k = search (rules, append-nil, one_more, placed_at)

  take_each : (level : ℕ) → ((e : Entry) (end : Option Key) (before after : List Placed) → IsUnder asked.last asked.pages level e end
      → IsTaken asked (under asked.pages level e) end before after → length after ≤ asked.count → TakesAll asked level e end before after)
      → (xs : List Entry) (end : Option Key) (before after : List Placed) → EachTo (IsUnder asked.last asked.pages level) xs end
      → IsTaken asked (flat_map (under asked.pages level) xs) end before after → length after ≤ asked.count → TakesEach (TakesAll asked level) xs end before after
  take_each level one [] end before after each h few = h.after_is ∙ append-nil before
  take_each level one (x ∷ xs) end before after each h few =
      let first = taken_left (under asked.pages level x) (flat_map (under asked.pages level) xs) end before after h in
      let rest = taken_right (under asked.pages level x) (flat_map (under asked.pages level) xs) end before after h in
      let long = ap (λ (ps : List Placed). length ps) rest.after_is
      ∙ length-append (before ++ placed_of asked.schema asked.pages (under asked.pages level x)) (placed_of asked.schema asked.pages (flat_map (under asked.pages level) xs)) in (
        before ++ placed_of asked.schema asked.pages (under asked.pages level x),
        one x (first_or xs end) before (before ++ placed_of asked.schema asked.pages (under asked.pages level x)) each.0
            (subst (λ (o : Option Key). IsTaken asked (under asked.pages level x) o before (before ++ placed_of asked.schema asked.pages (under asked.pages level x))) (first_under level xs end each.1) first)
            (omega arith),
        take_each level one xs end (before ++ placed_of asked.schema asked.pages (under asked.pages level x)) after each.1 rest few,
      )

  pub taken_walk : (level : ℕ) (e : Entry) (end : Option Key) (before after : List Placed) → IsUnder asked.last asked.pages level e end
      → IsTaken asked (under asked.pages level e) end before after → length after ≤ asked.count → TakesAll asked level e end before after
  taken_walk zero e end before after is h few = take_one e end before after h few
  taken_walk (suc level) e end before after is h few = (is.0, take_each level (taken_walk level) (entries_of asked.pages e.page) end before after is.1 h few)
